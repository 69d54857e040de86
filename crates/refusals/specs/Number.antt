-- The number of each refusal (document 01, the table of refusals).
use Rattle.std.specs.Prelude.{ℕ}
use Rattle.refusals.specs.declared.Refusal.{Refusal}
use Rattle.refusals.specs.declared.Refusal.TheVariants.{Stranger, BadAppId, ForeignAppId, BadRecord, OpenRedirect, BadLocation, NotFetched, WrongType, LongList, Unreadable, Misshapen, NoVersion, BadTable, NotListed, Full, BadHead}

abbrev pub refusal_number : Refusal → ℕ
refusal_number Stranger = 1
refusal_number BadAppId = 2
refusal_number ForeignAppId = 3
refusal_number BadRecord = 4
refusal_number OpenRedirect = 5
refusal_number BadLocation = 6
refusal_number NotFetched = 7
refusal_number WrongType = 8
refusal_number LongList = 9
refusal_number Unreadable = 10
refusal_number Misshapen = 11
refusal_number NoVersion = 12
refusal_number BadTable = 13
refusal_number NotListed = 14
refusal_number Full = 15
refusal_number BadHead = 16
