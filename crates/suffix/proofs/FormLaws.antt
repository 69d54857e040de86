-- The form of what is read of a line, and the rules that a line of a form reads. Assumes nothing.
use Rattle.std.specs.Prelude.{if◌then◌else◌, None, Some}
use mathlib.Core.Path.{◌≡◌, refl, sym, ap, ◌∙◌}
use mathlib.Core.Bool.{Bool, true, false}
use mathlib.Core.List.{[], ◌∷◌}
use Prim.Native.Nat.{ℕ, ◌≤◌, ◌<◌}
use native.Mathlib.Omega.{arith}
use lib.ListN.{length, get_or, drop}
use borrow.Author.Rules.{rules}
use borrow.Author.Tests.{ne_eqb}
use Rattle.ascii.specs.Ascii.{Bytes, same, begins_with}
use Rattle.ascii.proofs.Compare.{same_eq}
use Rattle.hosts.specs.Host.{labels, is_host}
use Rattle.suffix.specs.Suffix.{normal, is_skipped, read_rule}
use Rattle.suffix.specs.code.Pass.{one_rule, read_line}
use Rattle.suffix.specs.code.Form.{form_of}
use Rattle.suffix.specs.declared.Form.{Form}
use Rattle.suffix.specs.declared.Form.TheVariants.{Nothing, Star, Wild, Exception, Name}
use Rattle.suffix.proofs.Lines.{rule_star, begins_is, begins_length, empty_skipped, comment_skipped, other_read}

-- ---- the ways out of the code

module _ (w : Bytes) where
  pub form_empty : length w ≡ 0 → Nothing ≡ form_of w
  unfolding form_of
  form_empty e = rw (empty_skipped w e)

  module _ {c : Bool} (e : c ≡ begins_with (47 ∷ 47 ∷ []) w) where
    pub form_comment : c ≡ true → Nothing ≡ form_of w
    unfolding form_of
    form_comment f = rw (comment_skipped w (sym e ∙ f))

    module _ (n : length w ≡ 0 → ⊥) (f : c ≡ false) {x : Bool} (a : x ≡ same w (42 ∷ [])) where
      pub form_star : x ≡ true → Star ≡ form_of w
      unfolding form_of
      form_star a' = rw (other_read w n (sym e ∙ f), ← a, a')

      module _ (a' : x ≡ false) {y : Bool} (b : y ≡ begins_with (42 ∷ 46 ∷ []) w) where
        pub form_wild : y ≡ true → Wild ≡ form_of w
        unfolding form_of
        form_wild b' = rw (other_read w n (sym e ∙ f), ← a, a', ← b, b')

        module _ (b' : y ≡ false) {z : Bool} (d : z ≡ begins_with (33 ∷ []) w) where
          pub form_exception : z ≡ true → Exception ≡ form_of w
          unfolding form_of
          form_exception d' = rw (other_read w n (sym e ∙ f), ← a, a', ← b, b', ← d, d')

          pub form_name : z ≡ false → Name ≡ form_of w
          unfolding form_of
          form_name d' = rw (other_read w n (sym e ∙ f), ← a, a', ← b, b', ← d, d')

-- no mark begins a line whose first byte comes behind them
pub form_unmarked : (w : Bytes) {n : ℕ} → (length w ≡ 0 → ⊥) → n < get_or w 0 0 → 47 ≤ n → Name ≡ form_of w
form_unmarked [] l m k = absurd (l refl)
form_unmarked (b ∷ w) l m k = form_name (b ∷ w) (sym slash) l refl (sym star) refl (sym wild) refl (sym mark) refl
  where
    slash : begins_with (47 ∷ 47 ∷ []) (b ∷ w) ≡ false
    slash = unfold begins_with in (rw (ne_eqb 47 b (λ z. omega arith)))

    star : same (b ∷ w) (42 ∷ []) ≡ false
    star = unfold same in (rw (ne_eqb b 42 (λ z. omega arith)))

    wild : begins_with (42 ∷ 46 ∷ []) (b ∷ w) ≡ false
    wild = unfold begins_with in (rw (ne_eqb 42 b (λ z. omega arith)))

    mark : begins_with (33 ∷ []) (b ∷ w) ≡ false
    mark = unfold begins_with in (rw (ne_eqb 33 b (λ z. omega arith)))

pub ruleset form_laws = (form_empty, form_comment, form_star, form_wild, form_exception, form_name, form_unmarked, rules)

-- ---- what a line of a form reads

abbrev pub Reading : Bytes → Form → Type 0
Reading w Nothing = read_line w ≡ Some []
Reading w Star = read_line w ≡ Some (normal ((42 ∷ []) ∷ []) ∷ [])
Reading w Wild = (2 ≤ length w) × (read_line w ≡ one_rule (read_rule (42 ∷ 46 ∷ drop 2 w)))
Reading w Exception = (1 ≤ length w) × (read_line w ≡ one_rule (read_rule (33 ∷ drop 1 w)))
Reading w Name = read_line w ≡ one_rule (if is_host w then Some (normal (labels w)) else None)

reading : (w : Bytes) → Reading w (form_of w)
unfolding form_of
reading w = go (is_skipped w) (same w (42 ∷ [])) (begins_with (42 ∷ 46 ∷ []) w) (begins_with (33 ∷ []) w) refl refl refl refl
  where
    rule : is_skipped w ≡ false → read_line w ≡ one_rule (read_rule w)
    rule e = unfold read_line in (rw e)

    go : (s x y z : Bool) → is_skipped w ≡ s → same w (42 ∷ []) ≡ x → begins_with (42 ∷ 46 ∷ []) w ≡ y → begins_with (33 ∷ []) w ≡ z
        → Reading w (if s then Nothing else if x then Star else if y then Wild else if z then Exception else Name)
    go true x y z e a b d = unfold read_line in (rw e)
    go false true y z e a b d = rule e ∙ rw (same_eq w (42 ∷ []) a) (ap one_rule rule_star ∙ (unfold one_rule in refl))
    go false false true z e a b d = (begins_length (42 ∷ 46 ∷ []) w b, rule e ∙ ap (λ (x : Bytes). one_rule (read_rule x)) (begins_is (42 ∷ 46 ∷ []) w b))
    go false false false true e a b d = (begins_length (33 ∷ []) w d, rule e ∙ ap (λ (x : Bytes). one_rule (read_rule x)) (begins_is (33 ∷ []) w d))
    go false false false false e a b d = rule e ∙ ap one_rule (unfold read_rule in (rw (a, b, d)))

pub told : (w : Bytes) (f : Form) {q : Form} → q ≡ form_of w → q ≡ f → Reading w f
told w f e g = rw (← g, e) (reading w)

pub wild_in : (w : Bytes) {q : Form} → q ≡ form_of w → q ≡ Wild → 2 ≤ length w
wild_in w e g = (told w Wild e g).0

pub exception_in : (w : Bytes) {q : Form} → q ≡ form_of w → q ≡ Exception → 1 ≤ length w
exception_in w e g = (told w Exception e g).0
