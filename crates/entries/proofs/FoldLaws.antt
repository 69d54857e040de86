-- A closure called at entry after entry.
use mathlib.Core.Path.{◌≡◌, refl, sym, ap, subst, ◌∙◌}
use mathlib.Core.List.{List, [], ◌∷◌}
use Rattle.std.specs.Prelude.{Option, None, Some, unwrap_or}
use Prim.Native.Nat.{◌<◌}
use lib.ListN.{length}
use denote.Ref.{Bor}
use denote.Param.Members.{Mut, Called}
use Rattle.ascii.specs.Ascii.{Bytes}
use Rattle.json_text.specs.code.Places.{fit}
use Rattle.entries.specs.code.Selecting.{listed}
use Rattle.entries.specs.code.Walking.{to_come, held_of, Walk, Advances}
use Rattle.entries.specs.code.Folding.{MayTurn, Turns, MayFold, at_last, at_each, Folds, no_more, one_more}
use Rattle.entries.specs.declared.Cause.{Cause}
use Rattle.entries.specs.declared.selected.Selected.{Selected}
use Rattle.entries.specs.declared.walk.Entries.{Entries}
use Rattle.entries.proofs.Walks.{all_gone, Turn, turn, turn_less}

-- the walk goes on: f may be called at what is to come, and what that makes is what the whole list makes
pub record Folding {F A : Type 0} (g : Mut F (A × (Option Cause × (Bor Bytes × Unit {0}))) A) (l : Selected) (f₀ : F) (a₀ : A) (w : Entries) (f : F) (a : A) : Type 0 where
  pub list_is : w.list.now ≡ l
  pub may : MayFold g l f a (to_come w)
  pub whole : {f' : F} {b : A} → Folds g l f a (to_come w) f' b → Folds g l f₀ a₀ (listed l) f' b

module _ {F A : Type 0} {g : Mut F (A × (Option Cause × (Bor Bytes × Unit {0}))) A} {l : Selected} where
  pub folding_starts : {f : F} {a : A} {w : Entries} → Walk l (listed l) w → MayFold g l f a (listed l) → Folding g l f a w f a
  folding_starts {f} {a} W m = record {
    list_is = W.list_is;
    may = subst (MayFold g l f a) (sym W.coming_is) m;
    whole = λ {f'} {b} d. subst (λ (es : List Bytes). Folds g l f a es f' b) W.coming_is d;
  }

  first_may : {f : F} {a : A} {e : Bytes} {es : List Bytes} → MayFold g l f a (e ∷ es) → MayTurn g l f a e
  first_may (at_each m k) = m

  later_may : {f f' : F} {a b : A} {e : Bytes} {es : List Bytes} → MayFold g l f a (e ∷ es) → Turns g l f a e f' b → MayFold g l f' b es
  later_may {f'} {b} (at_each m k) t = k f' b t

  module _ {f₀ f : F} {a₀ a : A} {w : Entries} (S : Folding g l f₀ a₀ w f a) {v : Entries} {r : Option (Option Cause)} (D : Advances w v r) where
    pub folding_over : r ≡ None → Folds g l f₀ a₀ (listed l) f a
    folding_over h = S.whole (subst (λ (es : List Bytes). Folds g l f a es f a) (sym (all_gone D h)) no_more)

    module _ {c : Option Cause} (h : r ≡ Some c) where
      T : Turn l w v c
      T = turn D S.list_is h

      pub folding_less : length (to_come v) < length (to_come w)
      folding_less = turn_less T

      may_now : MayFold g l f a (T.entry ∷ to_come v)
      may_now = subst (MayFold g l f a) T.whole S.may

      module _ (held : Bor Bytes) (E : held.now ≡ unwrap_or (held_of v) []) where
        held_is : held.now ≡ unwrap_or (fit T.entry) []
        held_is = E ∙ ap (λ (x : Option Bytes). unwrap_or x []) T.content_is

        pub folding_may : g.pre f (a, (c, (held, tt)))
        folding_may = subst (λ (x : Option Cause). g.pre f (a, (x, (held, tt)))) (sym T.cause_is) ((first_may may_now).is held held_is)

        pub folding_more : {f' : F} {b : A} → Called g f (a, (c, (held, tt))) b f' → Folding g l f₀ a₀ v f' b
        folding_more {f'} {b} k = record { list_is = T.list_is; may = later_may may_now now; whole = whole }
          where
            now : Turns g l f a T.entry f' b
            now = record { held = held; held_is = held_is; called = subst (λ (x : Option Cause). Called g f (a, (x, (held, tt))) b f') T.cause_is k }

            whole : {f'' : F} {d : A} → Folds g l f' b (to_come v) f'' d → Folds g l f₀ a₀ (listed l) f'' d
            whole {f''} {d} k = S.whole (subst (λ (es : List Bytes). Folds g l f a es f'' d) (sym T.whole) (one_more now k))

-- ---- what a consumer takes from it

-- a closure that asks for nothing
pub may_always : {F A : Type 0} {g : Mut F (A × (Option Cause × (Bor Bytes × Unit {0}))) A} {l : Selected} → ((f : F) (x : A × (Option Cause × (Bor Bytes × Unit {0}))) → g.pre f x)
    → (f : F) (a : A) (es : List Bytes) → MayFold g l f a es
may_always h f a [] = at_last
may_always h f a (e ∷ es) = at_each (record { is = λ p k. h f _ }) (λ f' b t. may_always h f' b es)

-- what each call keeps, from the first entry to the last; f₀ is the closure before the first
module _ {F A : Type 0} {g : Mut F (A × (Option Cause × (Bor Bytes × Unit {0}))) A} {l : Selected} (J : F → F → A → List Bytes → Type 0)
    (keeps : (f₀ f : F) (a : A) (e : Bytes) (es : List Bytes) (f' : F) (b : A) → J f₀ f a (e ∷ es) → Turns g l f a e f' b → J f₀ f' b es) where
  folds_on : {f₀ f f' : F} {a b : A} {es : List Bytes} → J f₀ f a es → Folds g l f a es f' b → J f₀ f' b []
  folds_on j no_more = j
  folds_on {f₀} j (one_more {e} {es} {f} {f'} {a} {b} t k) = folds_on (keeps f₀ f a e es f' b j t) k

  pub folds_keep : {f f' : F} {a b : A} {es : List Bytes} → J f f a es → Folds g l f a es f' b → J f f' b []
  folds_keep j k = folds_on j k

  pub may_fold : ((f₀ f : F) (a : A) (e : Bytes) (es : List Bytes) → J f₀ f a (e ∷ es) → MayTurn g l f a e) → (f : F) (a : A) (es : List Bytes) → J f f a es → MayFold g l f a es
  may_fold asks f a es j = on f f a es j
    where
      on : (f₀ f : F) (a : A) (es : List Bytes) → J f₀ f a es → MayFold g l f a es
      on f₀ f a [] j = at_last
      on f₀ f a (e ∷ es) j = at_each (asks f₀ f a e es j) (λ f' b t. on f₀ f' b es (keeps f₀ f a e es f' b j t))

-- kept or discarded
pub by_cause : {P : Type 0} (c : Option Cause) → (c ≡ None → P) → ((x : Cause) → c ≡ Some x → P) → P
by_cause None k d = k refl
by_cause (Some x) k d = d x refl
