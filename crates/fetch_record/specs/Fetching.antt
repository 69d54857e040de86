-- What record and text settle: refusal 4; then hop by hop 5 before 6; fetch, where the record has no answer (document 01).
use Rattle.std.specs.Prelude.{Option, None, Some, Result, Ok, Err}
use Rattle.ascii.specs.Ascii.{Bytes}
use Rattle.refusals.specs.declared.Refusal.{Refusal}
use Rattle.refusals.specs.declared.Refusal.TheVariants.{BadRecord}
use Rattle.fetch_record.specs.Record.{Fetched, read_record, hop_refusal}
use Rattle.fetch_record.specs.declared.item.Answer.{Answer}

-- a refusal; or fetch, which is no answer; or the answer
abbrev pub Fetching : Type 0
Fetching = Result (Option Answer) Refusal

unfoldable pub after_hops : Option Refusal → Option Answer → Fetching
after_hops (Some r) a = Err r
after_hops None a = Ok a

unfoldable pub by_record : Bytes → Option Fetched → Fetching
by_record lent None = Err BadRecord
by_record lent (Some f) = after_hops (hop_refusal lent f.redirects) f.answer

unfoldable pub fetching : Bytes → Bytes → Fetching
fetching items lent = by_record lent (read_record items lent)
