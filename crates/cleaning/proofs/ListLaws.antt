-- The list around the ids: its length, its bytes, the whole call.
use Rattle.std.specs.Prelude.{if◌then◌else◌, Option, None, Some, Result, Ok, Err}
use mathlib.Core.Path.{◌≡◌, refl, sym, ap, ◌∙◌}
use mathlib.Core.Bool.{Bool, true, false}
use mathlib.Core.List.{◌++◌}
use Prim.Native.Nat.{ℕ, ◌+◌, ◌-◌, ◌≤◌, ◌<◌}
use native.Mathlib.Omega.{arith}
use mir.Syntax.{w64}
use mir.Val.{Fits}
use lib.Dec.{leb, ltb}
use lib.ListN.{length, take, drop, length-append}
use lib.Seq.{length-take-le}
use borrow.Author.Tests.{le-leb, leb-true, leb-false, lt-ltb, le-ltb}
use Rattle.ascii.specs.Ascii.{Bytes, text, decimal}
use Rattle.ascii.specs.code.Numbers.{Writes}
use Rattle.ascii.specs.declared.decimals.Decimal.{Decimal}
use Rattle.normal_forms.specs.code.Writing.{Wrote, Puts}
use Rattle.normal_forms.specs.declared.writer.Writer.{Writer}
use Rattle.normal_forms.proofs.Writings.{wrote_is, wrote_place, wrote_length, wrote_then}
use Rattle.refusals.specs.declared.Refusal.{Refusal}
use Rattle.refusals.specs.declared.Refusal.TheVariants.{Full}
use Rattle.trusted_list.specs.TrustedList.{Accepted}
use Rattle.trusted_list.proofs.Acceptance.{Selects, accepted_selects}
use Rattle.entries.specs.declared.selected.Selected.{Selected}
use Rattle.cleaning.specs.Clean.{render, cleaned_list, clean_refusal, not_cleaned, cleaned, fitting, or_clean, clean}
use Rattle.cleaning.specs.code.Meaning.{ListedAs, Prepares, names, names_of, list_of, ids_text, list_head, Cleans, refuses, writes}
use Rattle.cleaning.proofs.CleanLength.{clean_length}
use Rattle.cleaning.proofs.PrepareLaws.{refusal_accepts, prepared_refusal, Ready, prepared_list}

-- ---- numbers

module _ (n : ℕ) {d : Decimal} (W : Writes n d) (w : length d.digits ≡ 5) where
  pub digits_inside : d.len ≤ length d.digits
  digits_inside = omega (arith, W.room)

  pub digits_length : d.len ≡ length (decimal n)
  digits_length = sym (length-take-le d.len d.digits digits_inside) ∙ ap length W.is

  pub digits_few : d.len ≤ 5
  digits_few = W.room

  pub digits_wrote : {at r : ℕ} {o o₁ : Bytes} → Wrote (take (d.len - 0) (drop 0 d.digits)) at o o₁ r → Wrote (decimal n) at o o₁ r
  digits_wrote U = let z : d.len - 0 ≡ d.len = omega arith in rw (← W.is) (rw z at U)

-- ---- the list in three parts

list_parts : (major minor : ℕ) (l : Selected) → list_of major minor l ≡ (list_head major minor ++ ids_text true (names_of l)) ++ text "]}]}"
unfolding render list_head ids_text
list_parts major minor l = refl

list_is : (major minor : ℕ) (l : Selected) → ListedAs major minor l → cleaned_list l.appid.now major minor l.body.now l.table.now ≡ list_of major minor l
unfolding cleaned_list names
list_is major minor l L = rw L.is

head_length : (major minor : ℕ) → length (list_head major minor) ≡ 56 + length (decimal major) + length (decimal minor)
unfolding list_head
head_length major minor = simp length-append (omega arith)

pub head_wrote : (major minor : ℕ) {at : ℕ} {o o₁ o₂ o₃ o₄ o₅ : Bytes} {a b c d e : ℕ} → at + length (list_head major minor) ≤ length o
    → Wrote (text "{\"trustedFacets\":[{\"version\":{\"major\":") at o o₁ a → Wrote (decimal major) a o₁ o₂ b → Wrote (text ",\"minor\":") b o₂ o₃ c
    → Wrote (decimal minor) c o₃ o₄ d → Wrote (text "},\"ids\":[") d o₄ o₅ e → Wrote (list_head major minor) at o o₅ e
unfolding list_head
head_wrote major minor {at} {o} h A B C D E =
    let x = decimal major in
    let y = decimal minor in
    let p = text "{\"trustedFacets\":[{\"version\":{\"major\":" in
    let q = text ",\"minor\":" in
    let l : at + 56 + length x + length y ≤ length o = omega (arith, head_length major minor) in
    let i : length (p ++ x) ≡ 38 + length x = length-append p x in
    let j : length (p ++ x ++ q) ≡ 47 + length x = omega (arith, length-append (p ++ x) q) in
    let k : length (p ++ x ++ q ++ y) ≡ 47 + length x + length y = omega (arith, length-append (p ++ x ++ q) y) in
    wrote_then (wrote_then (wrote_then (wrote_then A B (omega arith)) C (omega arith)) D (omega arith)) E (omega arith)

module _ {major minor : ℕ} {l : Selected} (L : ListedAs major minor l) where
  parts : list_of major minor l ≡ (list_head major minor ++ ids_text true (names_of l)) ++ text "]}]}"
  parts = list_parts major minor l

  list_length : length (list_of major minor l) ≡ length (list_head major minor) + length (ids_text true (names_of l)) + 4
  list_length =
      omega (
        arith,
        ap length parts,
        length-append (list_head major minor ++ ids_text true (names_of l)) (text "]}]}"),
        length-append (list_head major minor) (ids_text true (names_of l)),
      )

  selects : Selects major minor l.body.now
  selects = accepted_selects major minor l.body.now L.accepted

  -- the list is never longer than the body
  no_longer : length (list_of major minor l) ≤ length l.body.now
  no_longer = omega (arith, ap length (list_is major minor l L), clean_length l.appid.now l.table.now major minor l.body.now selects.ids selects.is)

  -- ---- room

  pub room_body : {n : ℕ} (room : ℕ) → n ≡ length l.body.now → n ≤ room → true ≡ leb (length (list_of major minor l)) room
  room_body room e h = sym (le-leb (length (list_of major minor l)) room (omega (arith, no_longer)))

  module _ {n a b : ℕ} (e : n ≡ length (ids_text true (names_of l))) (f : a ≡ length (decimal major)) (g : b ≡ length (decimal minor)) where
    pub room_told : (room : ℕ) → leb (n + a + b + 60) room ≡ leb (length (list_of major minor l)) room
    room_told room = ap (λ (k : ℕ). leb k room) (omega (arith, list_length, head_length major minor))

  module _ {n a : ℕ} (e : n ≡ length (ids_text true (names_of l))) (f : a ≤ 5) where
    ids_small : n ≤ 65536
    ids_small = omega (arith, list_length, no_longer, selects.short)

    pub sum_first : Fits w64 (n + a)
    sum_first = record { fits = omega (arith, ids_small) }

    module _ {b : ℕ} (g : b ≤ 5) where
      pub sum_second : Fits w64 (n + a + b)
      sum_second = record { fits = omega (arith, ids_small) }

      pub sum_third : Fits w64 (n + a + b + 60)
      sum_third = record { fits = omega (arith, ids_small) }

  -- ---- the bytes

  module _ {t : Bool} (before : Bytes) (e : t ≡ leb (length (list_of major minor l)) (length before)) where
    pub list_full : t ≡ false → Cleans before before (fitting (length before) (list_of major minor l)) (Err Full)
    list_full h = rw (go (leb-false (length (list_of major minor l)) (length before) (sym e ∙ h))) (refuses refl)
      where
        go : length before < length (list_of major minor l) → fitting (length before) (list_of major minor l) ≡ not_cleaned Full
        go k = unfold fitting in (rw (lt-ltb (length before) (length (list_of major minor l)) k))

    module _ (h : t ≡ true) where
      fits : length (list_of major minor l) ≤ length before
      fits = leb-true (length (list_of major minor l)) (length before) (sym e ∙ h)

      pub head_room : 0 + length (list_head major minor) ≤ length before
      head_room = omega (arith, fits, list_length)

      module _ {w x : Writer} (W : Puts (list_head major minor) w x) (f : w.at ≡ 0) (g : w.out.now ≡ before) where
        head : Wrote (list_head major minor) 0 before x.out.now x.at
        head = rw (f, g) at W.wrote

        pub ids_room : x.at + length (ids_text true (names_of l)) ≤ length x.out.now
        ids_room = omega (arith, fits, list_length, wrote_place head (omega (arith, head_room)), wrote_length head (omega (arith, head_room)))

        -- the output is p where it is the one that was lent
        pub list_done : {y z : Writer} → Puts (ids_text true (names_of l)) x y → Puts (text "]}]}") y z → {p : Bytes} → (w.out.ghost_name ≡ z.out.ghost_name → p ≡ z.out.now)
            → Cleans before p (fitting (length before) (list_of major minor l)) (Ok z.at)
        list_done {y} {z} U X o = rw (go fits) (writes place (o (sym (X.same ∙ U.same ∙ W.same)) ∙ is))
          where
            go : length (list_of major minor l) ≤ length before → fitting (length before) (list_of major minor l) ≡ cleaned (list_of major minor l)
            go k = unfold fitting in (rw (le-ltb (length before) (length (list_of major minor l)) k))

            whole : Wrote (list_of major minor l) 0 before z.out.now z.at
            whole = rw parts (wrote_then (wrote_then head U.wrote (omega (arith, fits, list_length))) X.wrote (omega (arith, fits, list_length, length-append (list_head major minor) (ids_text true (names_of l)))))

            place : z.at ≡ length (list_of major minor l)
            place = omega (arith, wrote_place whole (omega (arith, fits)))

            is : z.out.now ≡ list_of major minor l ++ drop (length (list_of major minor l)) before
            is =
                let j : 0 + length (list_of major minor l) ≡ length (list_of major minor l) = omega arith in
                wrote_is whole (omega (arith, fits)) ∙ ap (λ (k : ℕ). list_of major minor l ++ drop k before) j

-- ---- the whole call

module _ (appid : Bytes) (major minor : ℕ) (body table before : Bytes) {w : Result Selected Refusal} (P : Prepares appid major minor body table w) where
  pub clean_refused : {x : Refusal} → w ≡ Err x → Cleans before before (clean appid major minor body table before) (Err x)
  clean_refused {x} h = rw (go (prepared_refusal P h)) (refuses refl)
    where
      go : clean_refusal appid major minor body table ≡ Some x → clean appid major minor body table before ≡ not_cleaned x
      go e = unfold clean or_clean in (rw e)

  pub clean_listed : {l : Selected} {after : Bytes} {r : Result ℕ Refusal} → w ≡ Ok l
      → Cleans before after (fitting (length before) (list_of major minor l)) r → Cleans before after (clean appid major minor body table before) r
  clean_listed {l} {r} h C = rw (go (prepared_list P h)) C
    where
      go : Ready appid major minor body table l → clean appid major minor body table before ≡ fitting (length before) (list_of major minor l)
      go R = unfold clean or_clean in (rw (R.none_fits, ← list_is major minor l R.listed_as, R.appid_is, R.body_is, R.table_is))

-- ---- a list that was written

pub record Taken (appid : Bytes) (major minor : ℕ) (body table list : Bytes) : Type 0 where
  pub none_fits : clean_refusal appid major minor body table ≡ None
  pub accepted : Accepted major minor body
  pub is : cleaned_list appid major minor body table ≡ list

pub taken : (appid : Bytes) (major minor : ℕ) (body table before list : Bytes) → clean appid major minor body table before ≡ cleaned list → Taken appid major minor body table list
unfolding clean
taken appid major minor body table before list e = go (clean_refusal appid major minor body table) refl e
  where
    fitted : (t : Bool) (l : Bytes) → (if t then not_cleaned Full else cleaned l) ≡ cleaned list → l ≡ list
    fitted true l e = let z : ◌≡◌ {A = ℕ} 0 1 = cc in absurd (omega arith)
    fitted false l e = cc

    is_list : fitting (length before) (cleaned_list appid major minor body table) ≡ cleaned list → cleaned_list appid major minor body table ≡ list
    is_list e = fitted (ltb (length before) (length (cleaned_list appid major minor body table))) (cleaned_list appid major minor body table) (unfold fitting in e)

    go : (o : Option Refusal) → clean_refusal appid major minor body table ≡ o → or_clean o (fitting (length before) (cleaned_list appid major minor body table)) ≡ cleaned list → Taken appid major minor body table list
    go (Some x) f e = let y : not_cleaned x ≡ cleaned list = unfold or_clean in e in let z : ◌≡◌ {A = ℕ} 0 1 = cc in absurd (omega arith)
    go None f e = record { none_fits = f; accepted = refusal_accepts appid major minor body table f; is = is_list (unfold or_clean in e) }

-- it has at most 65,536 bytes, as the body has
pub cleaned_small : (appid : Bytes) (major minor : ℕ) (body table before list : Bytes) → clean appid major minor body table before ≡ cleaned list → length list ≤ 65536
cleaned_small appid major minor body table before list e =
    let T = taken appid major minor body table before list e in
    let S = accepted_selects major minor body T.accepted in
    omega (arith, ap length T.is, clean_length appid table major minor body S.ids S.is, S.short)
