-- The item and the Location text, written. Assumes nothing.
use mathlib.Core.Path.{◌≡◌, refl, sym, ◌∙◌}
use mathlib.Core.Bool.{Bool, true, false, ◌&&◌, and-false, and-eq-true_iff}
use mathlib.Core.List.{[], ◌∷◌}
use Rattle.std.specs.Prelude.{Option, None, Some, Result, Ok, Err}
use Rattle.std.specs.Int.{w16, to_be_bytes, from_bool}
use Prim.Native.Nat.{ℕ, ◌+◌, ◌-◌, ◌/◌, ◌%◌, ◌≤◌, ◌<◌}
use native.Mathlib.Omega.{arith}
use lib.ListN.{length, get_or, take, drop}
use lib.Dec.{leb}
use borrow.Author.Rules.{rules}
use borrow.Author.Tests.{le-leb, lt-leb, leb-true}
use Rattle.ascii.specs.declared.Span.{Span}
use Rattle.ascii.specs.Ascii.{Bytes, written_over}
use Rattle.normal_forms.specs.code.Writing.{Wrote}
use Rattle.normal_forms.proofs.Writings.{wrote_is}
use Rattle.refusals.specs.declared.Refusal.{Refusal}
use Rattle.refusals.specs.declared.Refusal.TheVariants.{Full, BadHead}
use Rattle.head_items.specs.HeadItem.{two_bytes, seen, item_of, location_text, start_fits, refused, written, fitting, item_for}
use Rattle.response_head.specs.ResponseHead.{Head, redirect, answer, read_head}
use Rattle.response_head.specs.code.Meaning.{head_in, ReadsHead}
use Rattle.head_items.specs.code.Meaning.{has_room, redirect_item, lengths_of, Answers, WritesAnswer}
use Rattle.response_head.specs.declared.Head.{Head as Said}
use Rattle.response_head.specs.declared.Head.TheVariants.{Redirect, Answer}
use Rattle.response_head.proofs.HeadBounds.{redirect_bounds}
use Rattle.head_items.specs.declared.Lengths.{Lengths}

two_told : (n : ℕ) → to_be_bytes w16 n ≡ two_bytes n
unfolding two_bytes
two_told n = refl

seen_told : (b : Bool) → from_bool b ≡ seen b
unfolding seen
seen_told true = refl
seen_told false = refl

-- ---- by the outcome

module _ (start : ℕ) (o : Option Head) (item lent : Bytes) where
  answers_refused : {x : _} → item_for start item lent o ≡ refused x → Answers start o item item lent lent (Err x)
  unfolding lengths_of
  answers_refused e = record { is = rw e; item_is = rw e; text_is = rw e }

  answers_written : {x y : Bytes} → item_for start item lent o ≡ written x y → Answers start o item (written_over x item) lent (written_over y lent) (Ok (record { item = length x; text = length y }))
  unfolding lengths_of
  answers_written e = record { is = rw e; item_is = rw e; text_is = rw e }

-- x from byte 0 on
pub over_is : {x o o₁ : Bytes} {a : ℕ} → Wrote x 0 o o₁ a → length x ≤ length o → o₁ ≡ written_over x o
over_is {x} {o} {o₁} W h = let z : 0 + length x ≡ length x = omega arith in wrote_is W (omega arith) ∙ rw z

nothing_over : (o : Bytes) → written_over [] o ≡ o
nothing_over o = refl

-- ---- an answer

module _ (status : ℕ) (typed : Bool) (item : Bytes) where
  pub answer_short : {n : ℕ} → length item < n → n ≤ 4 → WritesAnswer status typed item item (Err Full)
  unfolding item_for fitting item_of two_bytes
  answer_short h k = record { is = λ start lent. answers_refused start (Some (answer status typed)) item lent (rw (lt-leb 4 (length item) (omega arith))) }

  pub answer_written : {item₁ bytes : Bytes} {c r n m : ℕ} → bytes ≡ to_be_bytes w16 status → c ≡ from_bool typed → Wrote (2 ∷ get_or bytes 0 0 ∷ get_or bytes 1 0 ∷ c ∷ []) 0 item item₁ r → 4 ≤ length item
      → n ≡ 4 → m ≡ 0 → WritesAnswer status typed item item₁ (Ok (record { item = n; text = m }))
  unfolding item_for fitting item_of two_bytes location_text start_fits
  answer_written e g W h i j = record {
    is = λ start lent.
        let x : Bytes = 2 ∷ status / 256 % 256 ∷ status % 256 ∷ seen typed ∷ [] in
        let X : Wrote x 0 item _ _ = rw (e, g, seen_told) at W in
        let A = answers_written start (Some (answer status typed)) item lent {x = x} {y = []} (rw (le-leb 4 (length item) h, le-leb 0 (length lent) (omega arith))) in
        rw (over_is X h, i, j) (rw (nothing_over lent) at A);
  }

-- ---- a redirect

module _ (start size item_room text_room : ℕ) where
  pub room_item : {n : ℕ} → item_room < n → n ≤ 8 → false ≡ has_room start size item_room text_room
  unfolding has_room
  room_item h k = rw (lt-leb 8 item_room (omega arith))

  pub room_text : text_room < size → false ≡ has_room start size item_room text_room
  unfolding has_room
  room_text h = rw (lt-leb size text_room h, and-false (leb 8 item_room))

  pub room_start : 8 ≤ item_room → size ≤ text_room → leb start 65535 ≡ has_room start size item_room text_room
  unfolding has_room
  room_start h k = rw (le-leb 8 item_room h, le-leb size text_room k)

-- what it says where it holds
record Room (start size item_room text_room : ℕ) : Type 0 where
  for_item : 8 ≤ item_room
  for_text : size ≤ text_room
  for_start : start ≤ 65535

room_told : (start size item_room text_room : ℕ) → has_room start size item_room text_room ≡ true → Room start size item_room text_room
unfolding has_room
room_told start size i t e =
    let p = (and-eq-true_iff (leb 8 i && leb size t) (leb start 65535)).0 e in
    let q = (and-eq-true_iff (leb 8 i) (leb size t)).0 p.0 in
    record { for_item = leb-true 8 i q.0; for_text = leb-true size t q.1; for_start = leb-true start 65535 p.1 }

pub item_is : (status start size : ℕ) (authorized : Bool) {x y z : Bytes} {c : ℕ} → x ≡ to_be_bytes w16 status → c ≡ from_bool authorized → y ≡ to_be_bytes w16 start → z ≡ to_be_bytes w16 size
    → 1 ∷ get_or x 0 0 ∷ get_or x 1 0 ∷ c ∷ get_or y 0 0 ∷ get_or y 1 0 ∷ get_or z 0 0 ∷ get_or z 1 0 ∷ [] ≡ redirect_item status authorized start size
unfolding redirect_item two_bytes
item_is status start size authorized e f g h = rw (e, f, g, h, two_told, two_told, two_told, seen_told)

module _ (start status : ℕ) (authorized : Bool) (loc item lent : Bytes) where
  -- what is put where there is room
  pub redirect_put : {bytes item₁ lent₁ : Bytes} {p q n : ℕ} → has_room start (length loc) (length item) (length lent) ≡ true
      → bytes ≡ redirect_item status authorized start (length loc) → Wrote bytes 0 item item₁ p → Wrote loc 0 lent lent₁ q → n ≡ 8
      → Answers start (Some (redirect status authorized loc)) item item₁ lent lent₁ (Ok (record { item = n; text = length loc }))
  unfolding item_for fitting item_of redirect_item two_bytes location_text start_fits
  redirect_put h e W U i =
      let R = room_told start (length loc) (length item) (length lent) h in
      let x : Bytes = 1 ∷ status / 256 % 256 ∷ status % 256 ∷ seen authorized ∷ start / 256 % 256 ∷ start % 256 ∷ length loc / 256 % 256 ∷ length loc % 256 ∷ [] in
      let X : Wrote x 0 item _ _ = rw e at W in
      rw (over_is X R.for_item, over_is U R.for_text, i)
      (answers_written start (Some (redirect status authorized loc)) item lent {x = x} {y = loc} (rw (le-leb 8 (length item) R.for_item, le-leb (length loc) (length lent) R.for_text, le-leb start 65535 R.for_start)))

  -- its start is small
  pub put_start : has_room start (length loc) (length item) (length lent) ≡ true → start ≤ 65535
  put_start h = (room_told start (length loc) (length item) (length lent) h).for_start

  module _ {r : Bool} (t : r ≡ has_room start (length loc) (length item) (length lent)) where
    pub redirect_room : r ≡ true → has_room start (length loc) (length item) (length lent) ≡ true
    redirect_room f = sym t ∙ f

    pub redirect_full : r ≡ false → Answers start (Some (redirect status authorized loc)) item item lent lent (Err Full)
    unfolding item_for fitting item_of two_bytes location_text start_fits has_room
    redirect_full f = answers_refused start (Some (redirect status authorized loc)) item lent (rw (sym t ∙ f))

-- ---- a head

module _ (s : Bytes) (o : Option Head) {q : Option Said} (R : ReadsHead s o q) where
  pub head_refused : (start : ℕ) (item lent : Bytes) → q ≡ None → Answers start o item item lent lent (Err BadHead)
  unfolding head_in item_for
  head_refused start item lent k = let z : o ≡ None = sym R.is ∙ rw k in answers_refused start o item lent (rw z)

  pub head_answer : {h : Said} {start n : ℕ} {w : Bool} {item item₁ lent : Bytes} {r : Result Lengths Refusal} → q ≡ Some h → h ≡ Answer n w → WritesAnswer n w item item₁ r → Answers start o item item₁ lent lent r
  unfolding head_in
  head_answer {h} {start} {n} {w} {item} {item₁} {lent} f k W = let z : o ≡ Some (answer n w) = sym R.is ∙ rw (f, k) in rw z (W.is start lent)

  module _ {h : Said} {n : ℕ} {w : Bool} {p : Span} (f : q ≡ Some h) (k : h ≡ Redirect n w p) {v : Bytes} (e : v ≡ take (p.to - p.from) (drop p.from s)) where
    redirect_said : o ≡ Some (redirect n w v)
    unfolding head_in
    redirect_said = sym R.is ∙ rw (f, k, e)

    pub head_redirect : {start : ℕ} {item item₁ lent lent₁ : Bytes} {r : Result Lengths Refusal} → Answers start (Some (redirect n w v)) item item₁ lent lent₁ r → Answers start o item item₁ lent lent₁ r
    head_redirect A = rw redirect_said A

    -- a Location is no longer than a head
    pub head_small : o ≡ read_head s → length v ≤ 65535
    head_small g = omega (arith, (redirect_bounds s n w v (sym g ∙ redirect_said)).size)

pub ruleset byte_laws = (room_item, room_text, room_start, item_is, rules)

pub ruleset answer_laws = (answer_short, answer_written, rules)

pub ruleset put_laws = (redirect_put, put_start, rules)

pub ruleset redirect_laws = (redirect_room, redirect_full, rules)

pub ruleset head_laws = (head_refused, head_answer, head_redirect, head_small, rules)

-- for a return: its law alone, so that a search that finds nothing ends
pub ruleset item_laws = (item_is)
