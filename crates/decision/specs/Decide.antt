-- The decision, in document 01's order ("Fetch record and decision").
use Rattle.std.specs.Prelude.{List, [], ◌∷◌, ◌&&◌, not, ℕ, suc, eqb, if◌then◌else◌, Option, None, Some, Ok, Err}
use Rattle.ascii.specs.Ascii.{Bytes, ◌>>=◌, ◌when◌, ◌or_else◌, is_none, is_empty, same}
use Rattle.suffix.specs.Suffix.{read_table}
use Rattle.origin.specs.Origin.{begins_https, https_url, web_origin, is_facet}
use Rattle.matching.specs.Matching.{same_host, facet_matches}
use Rattle.refusals.specs.declared.Refusal.{Refusal}
use Rattle.refusals.specs.declared.Refusal.TheVariants.{Stranger, BadAppId, ForeignAppId, NotFetched, WrongType, BadTable, NotListed}
use Rattle.trusted_list.specs.TrustedList.{list_refusal, entries}
use Rattle.fetch_record.specs.declared.item.Answer.{Answer as Response}
use Rattle.fetch_record.specs.Fetching.{Fetching, fetching}
use Rattle.entries.specs.AppId.{is_bad_app_id}
use Rattle.entries.specs.Causes.{kept}
use Rattle.decision.specs.Answer.{Answer, rule1, rule2, rule3, rule4, fetch, refused}

-- ---- what caller, AppID, record and text settle

-- the answer; or a response came, and the list is due
pub data Stage : Type 0 where
  settled : Answer → Stage
  list_due : Response → Stage

-- refusal 4; then hop by hop 5 before 6; fetch, where the record has no answer
unfoldable pub by_fetch : Fetching → Stage
by_fetch (Err r) = settled (refused r)
by_fetch (Ok None) = settled fetch
by_fetch (Ok (Some a)) = list_due a

unfoldable pub before_list : Bytes → Bytes → Bytes → Bytes → Stage
before_list caller appid items lent =
    if not (is_facet caller) then settled (refused Stranger) else
    if is_bad_app_id appid then settled (refused BadAppId) else
    if is_empty appid then settled rule2 else
    if not (begins_https appid) && same appid caller then settled rule1 else
    if not (begins_https appid) then settled (refused ForeignAppId) else
    if same_host (web_origin caller) (https_url appid) then settled rule3 else
    by_fetch (fetching items lent)

-- ---- what the list settles

-- the place of the first entry that matches the caller, counted from 0
unfoldable pub first_match : Bytes → List Bytes → Option ℕ
first_match caller [] = None
first_match caller (e ∷ es) = if facet_matches caller e then Some 0 else (first_match caller es >>= λ n. Some (suc n))

-- refusals 7 to 13
unfoldable pub late_refusal : Response → ℕ → ℕ → Bytes → Bytes → Option Refusal
late_refusal response major minor body table =
    (NotFetched when not (eqb response.status 200))
    or_else (WrongType when not response.type_seen)
    or_else list_refusal major minor body
    or_else (BadTable when is_none (read_table table))

-- allowed by rule 4, with the place of the first kept entry matching the caller; else refusal 14
abbrev pub by_place : Option ℕ → Answer
by_place None = refused NotListed
by_place (Some n) = rule4 n

abbrev pub unless : Option Refusal → Answer → Answer
unless None a = a
unless (Some r) a = refused r

unfoldable pub by_list : Bytes → Bytes → ℕ → ℕ → Bytes → Bytes → Stage → Answer
by_list caller appid major minor body table (settled a) = a
by_list caller appid major minor body table (list_due response) =
    unless (late_refusal response major minor body table)
    (by_place (first_match caller (kept appid table (entries major minor body))))

-- ---- the decision

-- caller, AppID, major, minor, record, text, body and table
unfoldable pub decide : Bytes → Bytes → ℕ → ℕ → Bytes → Bytes → Bytes → Bytes → Answer
decide caller appid major minor items lent body table =
    by_list caller appid major minor body table (before_list caller appid items lent)
