-- Demands 2 and 3, and what the requests of document 02 ask to be shown, as claims about the definitions (document 01 as the requests so far change it), each said
-- once. A reviewer can open this file first; proofs/Demands.antt proves every claim. The exports (src/lib.rt) promise that they answer as these definitions.
use Rattle.std.specs.Prelude.{◌≡◌, List, [], ◌∷◌, ◌++◌, ℕ, ◌≤◌, length, Some}
use Rattle.ascii.specs.Ascii.{Bytes}
use Rattle.origin.specs.Origin.{Authority, web_origin}
use Rattle.response_head.specs.ResponseHead.{Head}
use Rattle.head_items.specs.ReadBack.{HoldsLocation, Item, starts_of, RedirectItems, AnswerItem, ReadsBack}
use Rattle.trusted_list.specs.TrustedList.{entries, Accepted}
use Rattle.entries.specs.Causes.{cause}
use Rattle.entries.specs.SameKept.{SameKept}
use Rattle.entries.specs.declared.Cause.{Cause}
use Rattle.decision.specs.Answer.{rule4, fetch}
use Rattle.decision.specs.Decide.{decide}
use Rattle.decision.specs.Location.{fetch_from, fetch_location}
use Rattle.decision.specs.SameLabel.{SameLabel}
use Rattle.cleaning.specs.Clean.{cleaned, clean, cleaned_length, output_after}
use Rattle.tally.specs.Tally.{Counts, total, tallied, tally}
use Rattle.facets.specs.Cleanings.{clean_number}

-- ---- demand 3: two whole bodies

-- all other inputs equal, two bodies are answered alike
pub record SameAnswers (appid table : Bytes) (major minor : ℕ) (body₁ body₂ : Bytes) : Type 0 where
  -- the whole answer for every caller, whatever the record and the text: rule and place, fetch, or refusal
  pub answer : (caller items lent : Bytes) → decide caller appid major minor items lent body₁ table ≡ decide caller appid major minor items lent body₂ table
  -- of cleaning, whatever the output's length and bytes before the call: the refusal,
  pub refusal : (before : Bytes) → clean_number (clean appid major minor body₁ table before) ≡ clean_number (clean appid major minor body₂ table before)
  -- the length,
  pub len : (before : Bytes) → cleaned_length (clean appid major minor body₁ table before) ≡ cleaned_length (clean appid major minor body₂ table before)
  -- and every byte of the output afterwards
  pub output : (before : Bytes) → output_after before (clean appid major minor body₁ table before) ≡ output_after before (clean appid major minor body₂ table before)

-- both bodies are accepted and have the same kept entries; their discarded entries, and whatever else they hold, may be any
abbrev pub Padding : Type 0
Padding = (appid table : Bytes) (major minor : ℕ) (body₁ body₂ : Bytes) → SameKept appid table major minor body₁ body₂ → SameAnswers appid table major minor body₁ body₂

-- fs is es with discarded entries, those with a cause, inserted anywhere and in any number
pub data Inserted (appid table : Bytes) : List Bytes → List Bytes → Type 0 where
  neither : Inserted appid table [] []
  both : {e : Bytes} {es fs : List Bytes} → Inserted appid table es fs → Inserted appid table (e ∷ es) (e ∷ fs)
  inserted : {c : Cause} {e : Bytes} {es fs : List Bytes} → cause appid table e ≡ Some c → Inserted appid table es fs → Inserted appid table es (e ∷ fs)

-- bodies that differ meet that premise: two accepted bodies, where the second selects the first's entries with discarded ones inserted
abbrev pub Insertions : Type 0
Insertions =
    (appid table : Bytes) (major minor : ℕ) (body₁ body₂ : Bytes) → Accepted major minor body₁ → Accepted major minor body₂
    → Inserted appid table (entries major minor body₁) (entries major minor body₂) → SameKept appid table major minor body₁ body₂

-- whatever the inputs: no web caller is allowed by rule 4 unless its host's private label exists and is the AppID's
abbrev pub Owners : Type 0
Owners =
    (caller appid : Bytes) (major minor : ℕ) (items lent body table : Bytes) (origin : Authority) (place : ℕ)
    → web_origin caller ≡ Some origin → decide caller appid major minor items lent body table ≡ rule4 place → SameLabel table appid origin.host

-- ---- demand 2: the fetch location

-- beside the decision with the same caller, AppID, record and text
pub record LocatedBy (caller appid : Bytes) (major minor : ℕ) (items lent body table : Bytes) : Type 0 where
  -- where it is fetch: the last redirect's part of the text, or the AppID where there is none
  pub on_fetch : decide caller appid major minor items lent body table ≡ fetch → fetch_location caller appid items lent ≡ fetch_from appid items lent
  -- where it is not: an empty part
  pub by_other : (decide caller appid major minor items lent body table ≡ fetch → ⊥) → fetch_location caller appid items lent ≡ []

-- whatever the version, the body and the table
abbrev pub Locating : Type 0
Locating = (caller appid : Bytes) (major minor : ℕ) (items lent body table : Bytes) → LocatedBy caller appid major minor items lent body table

-- ---- demand 2: the cleaned list

-- read again with all other inputs equal, it gives every caller the same decision, whatever the record and the text
abbrev pub Rereading : Type 0
Rereading =
    (appid : Bytes) (major minor : ℕ) (body table before list : Bytes) → clean appid major minor body table before ≡ cleaned list
    → (caller items lent : Bytes) → decide caller appid major minor items lent list table ≡ decide caller appid major minor items lent body table

-- cleaned again into an output of any bytes, it gives what the body gives: the same list, or refusal 15
abbrev pub Recleaning : Type 0
Recleaning =
    (appid : Bytes) (major minor : ℕ) (body table before list : Bytes) → clean appid major minor body table before ≡ cleaned list
    → (other : Bytes) → clean appid major minor list table other ≡ clean appid major minor body table other

-- ---- demand 2: the tally

-- the counts add up to the number of selected entries
abbrev pub Totals : Type 0
Totals = (appid : Bytes) (major minor : ℕ) (body table : Bytes) (c : Counts) → tally appid major minor body table ≡ tallied c → total c ≡ length (entries major minor body)

-- ---- document 02, S-2: response heads and the record reader

-- one head, not refused: where the lent text holds its Location at that start, the record reader reads back just what the head says
abbrev pub ReadingBack : Type 0
ReadingBack = (start : ℕ) (h : Head) (item lent : Bytes) → Item start h item → HoldsLocation lent start h → ReadsBack item lent (starts_of start h) (h ∷ [])

-- a record put together from up to 8 redirect heads and at most one answer head, none refused, over one text that holds every Location at its item's start,
-- is read as these heads in order
abbrev pub RecordOfHeads : Type 0
RecordOfHeads =
    (lent : Bytes) (starts : List ℕ) (redirects answers : List Head) (items end : Bytes) → RedirectItems lent starts redirects items → AnswerItem answers end
    → length redirects ≤ 8 → ReadsBack (items ++ end) lent starts (redirects ++ answers)
