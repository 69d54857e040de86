-- What a closure makes of the entries of a list, one after another.
use Rattle.std.specs.Prelude.{◌≡◌, List, [], ◌∷◌, Option, unwrap_or}
use Rattle.std.specs.Borrow.{Bor}
use Rattle.std.specs.Fn.{Mut, Called}
use Rattle.ascii.specs.Ascii.{Bytes}
use Rattle.json_text.specs.code.Places.{fit}
use Rattle.entries.specs.Causes.{cause}
use Rattle.entries.specs.declared.Cause.{Cause}
use Rattle.entries.specs.declared.selected.Selected.{Selected}

module _ {F A : Type 0} (g : Mut F (A × (Option Cause × (Bor Bytes × Unit {0}))) A) (l : Selected) where
  -- f may be called at an entry, with what is made of those before it
  pub record MayTurn (f : F) (a : A) (e : Bytes) : Type 0 where
    pub is : (held : Bor Bytes) → held.now ≡ unwrap_or (fit e) [] → g.pre f (a, (cause l.appid.now l.table.now e, (held, tt)))

  -- such a call may give b, and leave f'
  pub record Turns (f : F) (a : A) (e : Bytes) (f' : F) (b : A) : Type 0 where
    pub held : Bor Bytes
    pub held_is : held.now ≡ unwrap_or (fit e) []
    pub called : Called g f (a, (cause l.appid.now l.table.now e, (held, tt))) b f'

  -- it may be called at each of them in turn
  pub data MayFold : F → A → List Bytes → Type 0 where
    at_last : {f : F} {a : A} → MayFold f a []
    at_each : {f : F} {a : A} {e : Bytes} {es : List Bytes} → MayTurn f a e → ((f' : F) (b : A) → Turns f a e f' b → MayFold f' b es) → MayFold f a (e ∷ es)

  -- this is what the calls make of them, and leave
  pub data Folds : F → A → List Bytes → F → A → Type 0 where
    no_more : {f : F} {a : A} → Folds f a [] f a
    one_more : {e : Bytes} {es : List Bytes} {f f' f'' : F} {a b c : A} → Turns f a e f' b → Folds f' b es f'' c → Folds f a (e ∷ es) f'' c
