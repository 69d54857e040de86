-- The length of the ids as they are written, entry after entry.
use Rattle.std.specs.Prelude.{if◌then◌else◌, None, Some, unwrap_or}
use mathlib.Core.Path.{◌≡◌, refl, sym, ap, ◌∙◌}
use mathlib.Core.Bool.{Bool, true, false}
use mathlib.Core.List.{List, [], ◌∷◌, ◌++◌, map}
use Prim.Native.Nat.{ℕ, ◌+◌, ◌*◌, ◌≤◌}
use native.Mathlib.Omega.{arith}
use mir.Syntax.{w64}
use mir.Val.{Fits}
use lib.Dec.{eqb}
use lib.ListN.{length, length-append}
use borrow.Author.Tests.{ne_eqb}
use Rattle.ascii.specs.Ascii.{Bytes, text, prefixed, join_with}
use Rattle.origin.specs.Origin.{normal_form}
use Rattle.normal_forms.proofs.NormalForms.{normal_short}
use Rattle.entries.specs.code.Selecting.{listed}
use Rattle.entries.specs.declared.Cause.{Cause}
use Rattle.entries.specs.declared.selected.Selected.{Selected}
use Rattle.json_text.specs.code.Places.{fit}
use Rattle.entries.specs.Causes.{cause}
use Rattle.entries.proofs.FoldLaws.{by_cause}
use Rattle.entries.proofs.Walks.{kept_none, kept_more, kept_less, list_short, held_kept, fit_short}
use Rattle.cleaning.specs.Clean.{quoted}
use Rattle.cleaning.specs.code.Meaning.{names, names_of, opening, id_text, ids_text}

-- ---- what is written, id by id

pub ids_more : (first : Bool) (x : Bytes) (xs : List Bytes) → ids_text first (x ∷ xs) ≡ id_text first x ++ ids_text false xs
unfolding ids_text id_text opening join_with prefixed quoted
ids_more true x xs = sym (append_three (text "\"") x (text "\"") (prefixed 44 (map quoted xs)))
  where
    append_three : (a b c d : Bytes) → (a ++ b ++ c) ++ d ≡ (a ++ b ++ c) ++ d
    append_three a b c d = refl
ids_more false x xs = refl

pub ids_none : (first : Bool) → ids_text first [] ≡ []
unfolding ids_text join_with prefixed
ids_none true = refl
ids_none false = refl

pub id_length : (first : Bool) (x : Bytes) → length (id_text first x) ≡ (if first then length x + 2 else length x + 3)
unfolding id_text opening
id_length true x = omega (arith, length-append x (text "\""))
id_length false x = omega (arith, length-append x (text "\""))

-- the normal forms, over one entry
module _ (appid table e : Bytes) (es : List Bytes) where
  pub names_more : cause appid table e ≡ None → names appid table (e ∷ es) ≡ normal_form e ∷ names appid table es
  unfolding names
  names_more g = ap (map normal_form) (kept_more appid table e es g)

  pub names_less : {x : Cause} → cause appid table e ≡ Some x → names appid table (e ∷ es) ≡ names appid table es
  unfolding names
  names_less g = ap (map normal_form) (kept_less appid table e es g)

pub names_none : (appid table : Bytes) → names appid table [] ≡ []
unfolding names
names_none appid table = ap (map normal_form) (kept_none appid table)

pub id_some : (first : Bool) (x : Bytes) → 1 ≤ length (id_text first x)
id_some true x = omega (arith, id_length true x)
id_some false x = omega (arith, id_length false x)

id_short : (first : Bool) (e : Bytes) → length e ≤ 512 → length (id_text first (normal_form e)) ≤ 515
id_short true e h = omega (arith, id_length true (normal_form e), normal_short e)
id_short false e h = omega (arith, id_length false (normal_form e), normal_short e)

-- ---- one id

module _ (first : Bool) (e : Bytes) (h : length e ≤ 512) {n : ℕ} (l : n ≡ length (normal_form e)) where
  pub fits_first : Fits w64 (n + 2)
  fits_first = record { fits = omega (arith, normal_short e) }

  pub fits_later : Fits w64 (n + 3)
  fits_later = record { fits = omega (arith, normal_short e) }

  pub id_first : first ≡ true → n + 2 ≡ length (id_text first (normal_form e))
  id_first t = rw (id_length first (normal_form e), t) (omega arith)

  pub id_later : first ≡ false → n + 3 ≡ length (id_text first (normal_form e))
  id_later t = rw (id_length first (normal_form e), t) (omega arith)

-- ---- entry after entry

-- ids of n bytes stand before these entries
pub record Sizes (l : Selected) (es : List Bytes) (n : ℕ) : Type 0 where
  pub small : n + 515 * length es ≤ 515 * 65536
  pub is : n + length (ids_text (eqb n 0) (names l.appid.now l.table.now es)) ≡ length (ids_text true (names_of l))

pub size_starts : (l : Selected) → Sizes l (listed l) 0
size_starts l = record { small = omega (arith, list_short l); is = omega arith }

pub size_over : {l : Selected} {n : ℕ} → Sizes l [] n → n ≡ length (ids_text true (names_of l))
size_over {l} {n} S =
    let x = rw (names_none l.appid.now l.table.now, ids_none (eqb n 0)) at S.is in
    omega arith

module _ {l : Selected} {e : Bytes} {es : List Bytes} {n : ℕ} (S : Sizes l (e ∷ es) n) where
  skip : {x : Cause} → cause l.appid.now l.table.now e ≡ Some x → Sizes l es n
  skip g = record {
    small = omega (arith, S.small);
    is = ap (λ (es : List Bytes). n + length (ids_text (eqb n 0) es)) (sym (names_less l.appid.now l.table.now e es g)) ∙ S.is;
  }

  pub size_held : {p : Bytes} → p ≡ unwrap_or (fit e) [] → length p ≤ 512
  size_held E = fit_short l.appid.now l.table.now e E

  module _ {m : ℕ} {p : Bytes} (M : m ≡ length (id_text (eqb n 0) (normal_form p))) (E : p ≡ unwrap_or (fit e) []) where
    few : m ≤ 515
    few = omega (arith, id_short (eqb n 0) p (size_held E))

    pub size_fits : Fits w64 (n + m)
    size_fits = record { fits = omega (arith, S.small, few) }

    keep : cause l.appid.now l.table.now e ≡ None → Sizes l es (n + m)
    keep g = record { small = omega (arith, S.small, few); is = is }
      where
        t : Bytes
        t = id_text (eqb n 0) (normal_form e)

        from_here : n + length (t ++ ids_text false (names l.appid.now l.table.now es)) ≡ length (ids_text true (names_of l))
        from_here = ap (λ (x : Bytes). n + length x) (sym (ids_more (eqb n 0) (normal_form e) (names l.appid.now l.table.now es)) ∙ ap (ids_text (eqb n 0)) (sym (names_more l.appid.now l.table.now e es g))) ∙ S.is

        is_long : m ≡ length t
        is_long = M ∙ ap (λ (x : Bytes). length (id_text (eqb n 0) (normal_form x))) (held_kept l.appid.now l.table.now e E g)

        is : n + m + length (ids_text (eqb (n + m) 0) (names l.appid.now l.table.now es)) ≡ length (ids_text true (names_of l))
        is =
            let z : eqb (n + m) 0 ≡ false = ne_eqb (n + m) 0 (λ w. omega (arith, is_long, id_some (eqb n 0) (normal_form e))) in
            rw z (omega (arith, from_here, is_long, length-append t (ids_text false (names l.appid.now l.table.now es))))

  -- r is the length with this entry
  pub size_turn : {r : ℕ} {p : Bytes} → p ≡ unwrap_or (fit e) []
      → (cause l.appid.now l.table.now e ≡ None → (m : ℕ) × (m ≡ length (id_text (eqb n 0) (normal_form p))) × (r ≡ n + m)) → ((x : Cause) → cause l.appid.now l.table.now e ≡ Some x → r ≡ n) → Sizes l es r
  size_turn E k d = by_cause (cause l.appid.now l.table.now e) (λ h. rw (k h).2 (keep (k h).1 E h)) (λ x h. rw (d x h) (skip h))
