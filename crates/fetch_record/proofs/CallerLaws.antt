-- What a caller of `last_location` knows, by cases. Assumes nothing.
use mathlib.Core.Path.{◌≡◌, sym, ◌∙◌}
use Rattle.std.specs.Prelude.{Option, None, Some}
use Prim.Native.Nat.{◌-◌, ◌≤◌}
use lib.ListN.{length, take, drop}
use Rattle.ascii.specs.Ascii.{Bytes}
use Rattle.fetch_record.specs.code.Meaning.{part_in, TargetPlaced, target_in, Targets}
use Rattle.fetch_record.specs.declared.item.Redirect.{Redirect}
use Rattle.ascii.specs.declared.Span.{Span}

record Inside (lent : Bytes) (t : Span) : Type 0 where
  low : t.from ≤ t.to
  high : t.to ≤ length lent

inside : {lent : Bytes} {t : Span} → TargetPlaced lent (Some t) → Inside lent t
inside (target_in l h) = record { low = l; high = h }

module _ {lent : Bytes} {o : Option Bytes} {l : Option Redirect} {q : Option Span} (T : Targets lent o l q) where
  pub target_none : q ≡ None → o ≡ None
  unfolding part_in
  target_none h = sym T.is ∙ rw h

  module _ {t : Span} (h : q ≡ Some t) where
    I : Inside lent t
    I = let U : Targets lent o l (Some t) = rw h at T in inside U.places

    pub target_some : o ≡ Some (take (t.to - t.from) (drop t.from lent))
    unfolding part_in
    target_some = sym T.is ∙ rw h

    pub target_start : t.from ≤ t.to
    target_start = I.low

    pub target_end : t.to ≤ length lent
    target_end = I.high
