-- The loop over the items of an array or an object, with what is held of those read so far.
use Rattle.std.specs.Prelude.{Option, Some, None}
use Rattle.std.specs.Option.{option_eq}
use mathlib.Core.Path.{◌≡◌, refl, sym, ap, ◌∙◌}
use mathlib.Core.Bool.{Bool, true, false, not}
use mathlib.Core.List.{List, [], ◌∷◌, ◌++◌, append-nil}
use Prim.Native.Nat.{ℕ, suc, ◌+◌, ◌-◌, ◌≤◌, ◌<◌}
use native.Mathlib.Omega.{arith}
use lib.Dec.{eqb}
use lib.ListN.{length, drop, length-drop}
use lib.Seq.{append_snoc}
use Rattle.ascii.specs.Ascii.{Bytes}
use Rattle.json_text.specs.Reader.{Read, got, bad, Reader, give, one_of, ◌>>◌, if_next◌then◌else◌, mapped}
use Rattle.json_text.specs.Lexical.{ws}
use Rattle.json_text.specs.code.Places.{Peeked, read_at, place_of}
use Rattle.json_text.proofs.Steps.{here, in_text, is_this, not_this, isnt_this, isnt_not, told_not, on, then_bad, one_yes, one_no, next_yes, next_no, give_at, counted_at, map_give, no_fall, found, missed}
use Rattle.json_values.specs.Json.{items, listed}
use Rattle.json_values.specs.code.Kinds.{Item}
use Rattle.json_values.specs.declared.Kind.{Kind}
use Rattle.json_values.specs.code.Folds.{reading, Relates, GoesOn, Ends, Folded, before_all, one_behind, FoldsListed, Unheld, SkipsListed}
use Rattle.json_values.proofs.Readings.{is_read, no_read, was_read, not_read}

-- Before the place `at` stand the items `done`, of which x is held; the whole is what the list reads to. `fuel` bounds the items to come.
pub record Loop {A B : Type 0} (post : ℕ → B → Option (ℕ × B) → Type 0) (p : Reader A) (close : ℕ) (s : Bytes) (whole : Read (List A)) (start x : B) (at : ℕ) : Type 0 where
  pub fuel : ℕ
  pub enough : length s - at ≤ fuel
  pub done : List A
  pub held : Folded post p s start done x
  pub is : mapped (λ rest. done ++ rest) (read_at (items p (close ∷ []) (suc fuel)) s at) ≡ whole

mapped_nil : {A : Type 0} (r : Read (List A)) → mapped (λ rest. [] ++ rest) r ≡ r
unfolding mapped
mapped_nil (got a n) = refl
mapped_nil bad = refl

mapped_cons : {A : Type 0} (done : List A) (a : A) (r : Read (List A)) → mapped (λ rest. done ++ rest) (mapped (λ rest. a ∷ rest) r) ≡ mapped (λ rest. (done ++ a ∷ []) ++ rest) r
unfolding mapped
mapped_cons done a (got l n) = ap (λ (l : List _). got l n) (sym (append_snoc done a l))
mapped_cons done a bad = refl

mapped_bad : {A B : Type 0} (f : A → B) → mapped f bad ≡ bad
unfolding mapped
mapped_bad f = refl

mapped_got : {A B : Type 0} (f : A → B) (a : A) (j : ℕ) → mapped f (got a j) ≡ got (f a) j
unfolding mapped
mapped_got f a j = refl

module _ {A B : Type 0} (post : ℕ → B → Option (ℕ × B) → Type 0) (p : Reader A) (close : ℕ) (s : Bytes) (from : ℕ) (x : B) {i : ℕ} {b : Option ℕ} {w : Bool}
    (e : read_at ws s from ≡ got tt i) (g : Peeked s i b) (t : w ≡ option_eq eqb b (Some close)) where
  -- the list is empty
  pub loop_empty : w ≡ true → Relates (Folded post p s x) (read_at (listed p (close ∷ [])) s from) (reading (Some (i + 1, x)))
  unfolding listed
  loop_empty h = is_read (record { value = []; read = rw (on _ _ _ _ e, next_yes g _ _ _ (is_this b close t h), on _ _ _ _ (one_yes g _ (is_this b close t h)), give_at); is = before_all })

  pub loop_starts : close < 256 → w ≡ false → Loop post p close s (read_at (listed p (close ∷ [])) s from) x x i
  unfolding listed
  loop_starts c h = record {
    fuel = length (drop i s);
    enough = simp length-drop (omega arith);
    done = [];
    held = before_all;
    is = rw (mapped_nil, on _ _ _ _ e, next_no g _ _ _ (not_this b close c t h), counted_at);
  }

module _ {A B : Type 0} {post : ℕ → B → Option (ℕ × B) → Type 0} {p : Reader A} {close : ℕ} {s : Bytes} {whole : Read (List A)} {start x : B} {at : ℕ}
    (L : Loop post p close s whole start x at) (S : Ends post p s) {q : Option (ℕ × B)} (e : post at x q) where
  -- the item is wrong
  pub turn_bad : q ≡ None → Relates (Folded post p s start) whole (reading None)
  unfolding items reading place_of
  turn_bad h =
      let m : read_at p s at ≡ bad = missed _ (S.is at x q e) (rw h) in
      let z : mapped (λ rest. L.done ++ rest) (read_at (items p (close ∷ []) (suc L.fuel)) s at) ≡ bad =
      rw (then_bad _ _ _ _ m) (mapped_bad (λ rest. L.done ++ rest)) in
      no_read (sym L.is ∙ z)

  -- the item ends at j, where y is held; the blanks behind it end at k, and b stands there
  module _ {j k : ℕ} {y : B} {b : Option ℕ} {w : Bool} (h : q ≡ Some (j, y)) (f : read_at ws s j ≡ got tt k) (g : Peeked s k b) (t : w ≡ option_eq eqb b (Some close)) where
    item_ends : place_of (reading q) ≡ Some j
    unfolding reading place_of
    item_ends = rw h

    item : (a : A) × read_at p s at ≡ got a j
    item = found (read_at p s at) (S.is at x q e) item_ends

    abbrev Behind : Reader (List A)
    Behind = if_next (close ∷ []) then one_of (close ∷ []) >> give [] else one_of (44 ∷ []) >> ws >> items p (close ∷ []) L.fuel

    abbrev now : List A
    now = L.done ++ item.0 ∷ []

    held_now : Folded post p s start now y
    held_now = one_behind L.held item.1 (rw (← h) e)

    to_tail : mapped (λ rest. now ++ rest) (read_at Behind s k) ≡ whole
    unfolding items
    to_tail =
        let z : read_at (items p (close ∷ []) (suc L.fuel)) s at ≡ mapped (λ others. item.0 ∷ others) (read_at Behind s k) =
        rw (on _ _ _ _ item.1, on _ _ _ _ f, map_give Behind (λ others. item.0 ∷ others) s k) in
        sym (mapped_cons L.done item.0 (read_at Behind s k)) ∙ ap (mapped (λ rest. L.done ++ rest)) (sym z) ∙ L.is

    pub turn_end : w ≡ true → Relates (Folded post p s start) whole (reading (Some (k + 1, y)))
    turn_end c =
        let z : read_at Behind s k ≡ got [] (k + 1) = rw (next_yes g _ _ _ (is_this b close t c), on _ _ _ _ (one_yes g _ (is_this b close t c)), give_at) in
        let v : whole ≡ got (now ++ []) (k + 1) = sym to_tail ∙ rw z (mapped_got (λ rest. now ++ rest) [] (k + 1)) in
        is_read (record { value = now; read = v ∙ ap (λ (l : List A). got l (k + 1)) (append-nil now); is = held_now })

    module _ {v : Bool} (u : v ≡ not (option_eq eqb b (Some 44))) where
      pub turn_other : close < 256 → w ≡ false → v ≡ true → Relates (Folded post p s start) whole (reading None)
      turn_other l c d =
          let z : read_at Behind s k ≡ bad = rw (next_no g _ _ _ (not_this b close l t c), then_bad _ _ _ _ (one_no g _ (isnt_this b 44 (omega arith) u d))) in
          no_read (sym to_tail ∙ rw z (mapped_bad (λ rest. now ++ rest)))

      -- a comma, and the blanks behind it end at i
      module _ {i : ℕ} (d : v ≡ false) (n : read_at ws s (k + 1) ≡ got tt i) where
        pub turn_less : length s - i < length s - at
        turn_less =
            let x : at ≤ j = no_fall p s at item.1 in
            let y : j ≤ k = no_fall ws s j f in
            let z : k + 1 ≤ i = no_fall ws s (k + 1) n in
            omega (arith, in_text s k (here g (told_not b 44 u d)))

        pub turn_more : close < 256 → w ≡ false → Loop post p close s whole start y i
        turn_more l c =
            let m : L.fuel ≡ suc (L.fuel - 1) = omega (arith, turn_less, L.enough) in
            let z : read_at Behind s k ≡ read_at (items p (close ∷ []) L.fuel) s i =
            rw (next_no g _ _ _ (not_this b close l t c), on _ _ _ _ (one_yes g _ (isnt_not b 44 u d)), on _ _ _ _ n) in
            record {
              fuel = L.fuel - 1;
              enough = omega (arith, turn_less, L.enough);
              done = now;
              held = held_now;
              is = rw (← m) (ap (mapped (λ rest. now ++ rest)) (sym z) ∙ to_tail);
            }

-- ---- whatever reads the items

pub goes_on : {A B : Type 0} (p : Reader A) (s : Bytes) {post : ℕ → B → Option (ℕ × B) → Type 0} → Ends post p s → GoesOn post
unfolding reading place_of
goes_on p s S = record { is = λ i j x y e. let z : Some j ≡ place_of (read_at p s i) = S.is i x (Some (j, y)) e in no_fall p s i (found (read_at p s i) z refl).1 }

-- what is left from the place `at` on decides
pub record Folding {B : Type 0} (post : ℕ → B → Option (ℕ × B) → Type 0) (s : Bytes) (from close : ℕ) (start x : B) (at : ℕ) : Type 0 where
  pub is : (k : Kind) (p : Reader (Item k)) → Ends post p s → Loop post p close s (read_at (listed p (close ∷ [])) s from) start x at

module _ {B : Type 0} (post : ℕ → B → Option (ℕ × B) → Type 0) {s : Bytes} {from close : ℕ} (x : B) {i : ℕ} {b : Option ℕ} {w : Bool}
    (e : read_at ws s from ≡ got tt i) (g : Peeked s i b) (t : w ≡ option_eq eqb b (Some close)) where
  pub fold_empty : w ≡ true → FoldsListed post s from close x (Some (i + 1, x))
  fold_empty h = record { is = λ k p S. loop_empty post p close s from x e g t h }

  pub fold_starts : close < 256 → w ≡ false → Folding post s from close x x i
  fold_starts c h = record { is = λ k p S. loop_starts post p close s from x e g t c h }

module _ {B : Type 0} {post : ℕ → B → Option (ℕ × B) → Type 0} {s : Bytes} {from close : ℕ} {start x : B} {at : ℕ} {q : Option (ℕ × B)}
    (L : Folding post s from close start x at) (e : post at x q) where
  pub fold_bad : q ≡ None → FoldsListed post s from close start None
  fold_bad h = record { is = λ k p S. turn_bad (L.is k p S) S e h }

  module _ {j k : ℕ} {y : B} {b : Option ℕ} {w : Bool} (h : q ≡ Some (j, y)) (f : read_at ws s j ≡ got tt k) (g : Peeked s k b) (t : w ≡ option_eq eqb b (Some close)) where
    pub fold_end : w ≡ true → FoldsListed post s from close start (Some (k + 1, y))
    fold_end c = record { is = λ k p S. turn_end (L.is k p S) S e h f g t c }

    module _ {v : Bool} (u : v ≡ not (option_eq eqb b (Some 44))) where
      pub fold_other : close < 256 → w ≡ false → v ≡ true → FoldsListed post s from close start None
      fold_other l c d = record { is = λ k p S. turn_other (L.is k p S) S e h f g t u l c d }

      module _ {i : ℕ} (d : v ≡ false) (n : read_at ws s (k + 1) ≡ got tt i) where
        pub fold_less : GoesOn post → length s - i < length s - at
        fold_less G =
            let a : at ≤ j = G.is at j x y (rw (← h) e) in
            let l : j ≤ k = no_fall ws s j f in
            let z : k + 1 ≤ i = no_fall ws s (k + 1) n in
            omega (arith, in_text s k (here g (told_not b 44 u d)))

        pub fold_more : close < 256 → w ≡ false → Folding post s from close start y i
        fold_more l c = record { is = λ k p S. turn_more (L.is k p S) S e h f g t u d n l c }

-- ---- a list of which nothing is held

module _ {post : ℕ → Option ℕ → Type 0} {s : Bytes} {from close : ℕ} {x : Unit {0}} {r : Option (ℕ × Unit {0})} (L : FoldsListed (Unheld post) s from close x r) where
  pub skips_none : r ≡ None → SkipsListed post s from close None
  unfolding place_of
  skips_none h = record { is = λ k p S. rw (not_read (L.is k p S) h) refl }

  pub skips_to : {j : ℕ} {y : Unit {0}} → r ≡ Some (j, y) → SkipsListed post s from close (Some j)
  unfolding place_of
  skips_to h = record { is = λ k p S. rw ((was_read (L.is k p S) h).read) refl }

-- an answer that holds nothing tells the place alone
module _ {q : Option ℕ} where
  pub told_none : q ≡ None → place_of (reading {A = Unit {0}} None) ≡ q
  unfolding place_of reading
  told_none h = sym h

  pub told_place : {j : ℕ} → q ≡ Some j → place_of (reading (Some (j, tt {0}))) ≡ q
  unfolding place_of reading
  told_place h = sym h
