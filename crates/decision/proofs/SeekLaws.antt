-- The first kept entry that matches, entry after entry.
use mathlib.Core.Path.{◌≡◌, refl, sym, ap, ◌∙◌}
use mathlib.Core.Bool.{Bool, true, false}
use mathlib.Core.List.{List, [], ◌∷◌}
use Rattle.std.specs.Prelude.{Option, None, Some, unwrap_or}
use Prim.Native.Nat.{ℕ, suc, ◌+◌, ◌≤◌, ◌<◌}
use native.Mathlib.Omega.{arith}
use lib.ListN.{length}
use Rattle.ascii.specs.Ascii.{Bytes, ◌>>=◌}
use Rattle.matching.specs.Matching.{facet_matches}
use Rattle.entries.specs.Causes.{kept}
use Rattle.entries.specs.code.Selecting.{listed, kept_of}
use Rattle.entries.specs.code.Walking.{to_come, held_of, Walk, Advances}
use Rattle.entries.specs.declared.Cause.{Cause}
use Rattle.entries.specs.declared.selected.Selected.{Selected}
use Rattle.entries.specs.declared.walk.Entries.{Entries}
use Rattle.entries.proofs.Walks.{kept_none, list_short, all_gone, Turn, turn, turn_less, kept_held, kept_first, dropped_first}
use Rattle.decision.specs.Decide.{first_match}

unfoldable pub plus : ℕ → Option ℕ → Option ℕ
plus n None = None
plus n (Some m) = Some (n + m)

plus_zero : (o : Option ℕ) → plus 0 o ≡ o
unfolding plus
plus_zero None = refl
plus_zero (Some m) = ap Some (omega arith)

plus_next : (n : ℕ) (o : Option ℕ) → plus n (o >>= λ m. Some (suc m)) ≡ plus (n + 1) o
unfolding plus
plus_next n None = refl
plus_next n (Some m) = ap Some (omega arith)

first_here : (caller e : Bytes) (es : List Bytes) → facet_matches caller e ≡ true → first_match caller (e ∷ es) ≡ Some 0
unfolding first_match
first_here caller e es h = rw h

first_later : (caller e : Bytes) (es : List Bytes) → facet_matches caller e ≡ false → first_match caller (e ∷ es) ≡ (first_match caller es >>= λ m. Some (suc m))
unfolding first_match
first_later caller e es h = rw h

no_match : (caller appid table : Bytes) → first_match caller (kept appid table []) ≡ None
unfolding first_match
no_match caller appid table = rw (kept_none appid table)

-- the walk goes on, after n kept entries
pub record Seeks (caller : Bytes) (l : Selected) (goal : Option ℕ) (w : Entries) (n : ℕ) : Type 0 where
  pub list_is : w.list.now ≡ l
  pub few : n + length (to_come w) ≤ 65536
  pub is : plus n (first_match caller (kept l.appid.now l.table.now (to_come w))) ≡ goal

pub seek_starts : (caller : Bytes) {l : Selected} {w : Entries} → Walk l (listed l) w → Seeks caller l (first_match caller (kept_of l)) w 0
seek_starts caller {l} {w} W = record {
  list_is = W.list_is;
  few = omega (arith, ap length W.coming_is, list_short l);
  is = plus_zero (first_match caller (kept l.appid.now l.table.now (to_come w))) ∙ ap (λ (es : List Bytes). first_match caller (kept l.appid.now l.table.now es)) W.coming_is;
}

module _ {caller : Bytes} {l : Selected} {goal : Option ℕ} {w : Entries} {n : ℕ} (S : Seeks caller l goal w n) {v : Entries} {r : Option (Option Cause)} (A : Advances w v r) where
  pub seek_over : r ≡ None → None ≡ goal
  unfolding plus
  seek_over h = rw (all_gone A h, no_match caller l.appid.now l.table.now) at S.is

  module _ {c : Option Cause} (h : r ≡ Some c) where
    T : Turn l w v c
    T = turn A S.list_is h

    pub seek_less : length (to_come v) < length (to_come w)
    seek_less = turn_less T

    pub seek_skip : {x : Cause} → c ≡ Some x → Seeks caller l goal v n
    seek_skip g = record {
      list_is = T.list_is;
      few = omega (arith, S.few, seek_less);
      is = ap (λ (es : List Bytes). plus n (first_match caller es)) (sym (dropped_first T g)) ∙ S.is;
    }

    module _ (g : c ≡ None) {p : Bytes} (E : p ≡ unwrap_or (held_of v) []) {m : Bool} (M : m ≡ facet_matches caller p) where
      told : facet_matches caller T.entry ≡ m
      told = sym (M ∙ ap (facet_matches caller) (kept_held T g E))

      from_here : plus n (first_match caller (T.entry ∷ kept l.appid.now l.table.now (to_come v))) ≡ goal
      from_here = ap (λ (es : List Bytes). plus n (first_match caller es)) (sym (kept_first T g)) ∙ S.is

      pub seek_found : m ≡ true → Some n ≡ goal
      unfolding plus
      seek_found t =
          let x : n + 0 ≡ n = omega arith in
          ap Some (sym x) ∙ (rw (first_here caller T.entry (kept l.appid.now l.table.now (to_come v)) (told ∙ t)) at from_here)

      pub seek_keep : m ≡ false → Seeks caller l goal v (n + 1)
      seek_keep t = record {
        list_is = T.list_is;
        few = omega (arith, S.few, seek_less);
        is = sym (plus_next n (first_match caller (kept l.appid.now l.table.now (to_come v)))) ∙ ap (plus n) (sym (first_later caller T.entry (kept l.appid.now l.table.now (to_come v)) (told ∙ t))) ∙ from_here;
      }
