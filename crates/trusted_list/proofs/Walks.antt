-- The elements of a level, with what is held of those read so far.
use Rattle.std.specs.Prelude.{Option, Some}
use Rattle.std.specs.Option.{option_eq}
use mathlib.Core.Path.{◌≡◌, refl, sym, ◌∙◌}
use mathlib.Core.Bool.{Bool, true, false}
use mathlib.Core.List.{List, [], ◌∷◌}
use Prim.Native.Nat.{ℕ, ◌<◌}
use lib.Dec.{eqb}
use Rattle.ascii.specs.Ascii.{Bytes, among}
use Rattle.json_text.specs.Reader.{Read, got, Reader}
use Rattle.json_text.specs.code.Places.{read_at, place_of}
use Rattle.json_text.proofs.Steps.{wide, wide_is, not_this}
use Rattle.json_values.specs.Json.{listed, read_member, read_value}
use Rattle.json_values.specs.code.Folds.{reading, Relates, unread, related, GoesOn, Ends, Folded, before_all, one_behind, FoldsListed}
use Rattle.json_values.proofs.Readings.{was_read}
use Rattle.json_values.proofs.Folding.{goes_on}
use Rattle.trusted_list.specs.code.Slots.{Extends}
use Rattle.trusted_list.specs.code.Levels.{start, read_item}
use Rattle.json_values.specs.code.Kinds.{Item, opening, closing}
use Rattle.json_values.specs.declared.Kind.{Kind}
use Rattle.json_values.specs.declared.Kind.TheVariants.{Array, Object}
use Rattle.trusted_list.specs.declared.Two.{Two}

-- ---- the byte at a place, compared with the opening bracket

module _ {w : Bool} (q : Option ℕ) {n m : ℕ} (e : w ≡ option_eq eqb q (Some n)) where
  pub opens : w ≡ true → n ≡ m → wide q ≡ m
  opens h c = wide_is q n e h ∙ c

  pub not_opened : w ≡ false → n ≡ m → n < 256 → among (m ∷ []) (wide q) ≡ false
  not_opened h c l = rw (← c) (not_this q n l e h)

-- what a level says of its kind, told of the code's kind
pub opened : {j k : Kind} {n : ℕ} → n ≡ opening j → j ≡ k → n ≡ opening k
opened e f = rw (e, f)

-- ---- by what is held of one element more, what is held of all

same_place : {A B : Type 0} {R : A → B → Type 0} {r : Read A} {t : Read B} → Relates R r t → place_of t ≡ place_of r
unfolding place_of
same_place unread = refl
same_place (related h) = refl

relates_by : {A B : Type 0} {P Q : A → B → Type 0} {r : Read A} {t : Read B} → ((a : A) (b : B) → P a b → Q a b) → Relates P r t → Relates Q r t
relates_by f unread = unread
relates_by f (related h) = related (f _ _ h)

-- each answer of the closure stands for one element more, which p reads
pub record Extending {A : Type 0} (R : List A → Two → Type 0) (post : ℕ → Two → Option (ℕ × Two) → Type 0) (p : Reader A) (s : Bytes) : Type 0 where
  pub is : (i : ℕ) (x : Two) (q : Option (ℕ × Two)) → post i x q → Relates (Extends R x) (read_at p s i) (reading q)

module _ {A : Type 0} {R : List A → Two → Type 0} {post : ℕ → Two → Option (ℕ × Two) → Type 0} {p : Reader A} {s : Bytes} (S : Extending R post p s) where
  extending_ends : Ends post p s
  extending_ends = record { is = λ i x q e. same_place (S.is i x q e) }

  pub extending_goes_on : GoesOn post
  extending_goes_on = goes_on p s extending_ends

  held_of : {x y : Two} {vs : List A} → R [] x → Folded post p s x vs y → R vs y
  held_of r before_all = r
  held_of r (one_behind {done} {a} {i} {j} {y} {z} F e h) =
      let H = was_read (S.is i y (Some (j, z)) h) refl in
      let v : got H.value j ≡ got a j = sym H.read ∙ e in
      let w : H.value ≡ a = cc in
      rw (← w) (H.is.is done (held_of r F))

-- what is held before the first element, and the closing bracket, told of the code's kind
module _ {j k : Kind} where
  pub started : {A : Type 0} (R : List A → Two → Type 0) {x : Two} → R [] (start k) → x ≡ start j → j ≡ k → R [] x
  started R r e f = rw (e, f) r

  pub closed : {n : ℕ} → n ≡ closing j → j ≡ k → n ≡ closing k
  closed e f = rw (e, f)

pub walked : (k : Kind) (n : ℕ) {close from : ℕ} {R : List (Item k) → Two → Type 0} {post : ℕ → Two → Option (ℕ × Two) → Type 0} {s : Bytes} {x : Two} {r : Option (ℕ × Two)}
    → FoldsListed post s from close x r → Extending R post (read_item k n) s → R [] x → close ≡ closing k → Relates R (read_at (listed (read_item k n) (closing k ∷ [])) s from) (reading r)
walked Array n F S b c = rw (← c) (relates_by (λ vs y f. held_of S b f) (F.is Array (read_value n) (extending_ends S)))
walked Object n F S b c = rw (← c) (relates_by (λ vs y f. held_of S b f) (F.is Object (read_member (read_value n)) (extending_ends S)))
