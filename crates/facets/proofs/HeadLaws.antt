-- The exported reading of a response head: its refusal, its lengths, every byte of both outputs. Assumes nothing.
use Rattle.std.specs.Prelude.{Result, Ok, Err}
use mathlib.Core.Path.{◌≡◌, refl, sym, ap, ◌∙◌}
use Prim.Native.Nat.{ℕ}
use native.Mathlib.Omega.{arith}
use mir.Syntax.{w32}
use mir.Val.{Fits}
use lib.ListN.{length}
use Rattle.ascii.specs.Ascii.{Bytes}
use Rattle.refusals.specs.declared.Refusal.{Refusal}
use Rattle.refusals.specs.Number.{refusal_number}
use Rattle.response_head.specs.ResponseHead.{read_head}
use Rattle.head_items.specs.HeadItem.{HeadItem, refused, written, item_for, head_item, item_after, text_after}
use Rattle.head_items.specs.code.Meaning.{lengths_of, Answers}
use Rattle.head_items.specs.declared.Lengths.{Lengths}
use Rattle.head_items.proofs.Written.{Small, written_small}
use Rattle.facets.specs.HeadFields.{head_refusal, item_length, text_length}

refused_is : (w : HeadItem) (x : Refusal) → Err x ≡ lengths_of w → w ≡ refused x
unfolding lengths_of
refused_is (refused y) x e = ap refused cc
refused_is (written i t) x e = let z : ◌≡◌ {A = ℕ} 0 1 = cc in absurd (omega arith)

record WritesOut (w : HeadItem) (l : Lengths) : Type 0 where
  item : Bytes
  location : Bytes
  is : w ≡ written item location
  item_long : l.item ≡ length item
  text_long : l.text ≡ length location

written_is : (w : HeadItem) (l : Lengths) → Ok l ≡ lengths_of w → WritesOut w l
unfolding lengths_of
written_is (refused y) l e = let z : ◌≡◌ {A = ℕ} 0 1 = cc in absurd (omega arith)
written_is (written i t) l e =
    let z : l ≡ record { item = length i; text = length t } = cc in
    record { item = i; location = t; is = refl; item_long = ap (λ (k : Lengths). k.item) z; text_long = ap (λ (k : Lengths). k.text) z }

module _ (head : Bytes) (start : ℕ) (item lent : Bytes) {item₁ lent₁ : Bytes} {r : Result Lengths Refusal} (A : Answers start (read_head head) item item₁ lent lent₁ r) where
  pub head_item_lem : item₁ ≡ item_after item (head_item head start item lent)
  unfolding head_item
  head_item_lem = A.item_is

  pub head_text : lent₁ ≡ text_after lent (head_item head start item lent)
  unfolding head_item
  head_text = A.text_is

  module _ {x : Refusal} (h : r ≡ Err x) where
    R : head_item head start item lent ≡ refused x
    unfolding head_item
    R = refused_is (item_for start item lent (read_head head)) x (sym h ∙ A.is)

    pub no_head_number : {n : ℕ} → n ≡ refusal_number x → n ≡ head_refusal (head_item head start item lent)
    no_head_number e = rw R e

    pub no_item_length : 0 ≡ item_length (head_item head start item lent)
    no_item_length = rw R

    pub no_text_length : 0 ≡ text_length (head_item head start item lent)
    no_text_length = rw R

  module _ {l : Lengths} (h : r ≡ Ok l) where
    W : WritesOut (head_item head start item lent) l
    unfolding head_item
    W = written_is (item_for start item lent (read_head head)) l (sym h ∙ A.is)

    S : Small W.item W.location
    S = written_small head start item lent W.item W.location W.is

    pub item_fits : Fits w32 l.item
    item_fits = record { fits = omega (arith, W.item_long, S.item_small) }

    pub text_fits : Fits w32 l.text
    text_fits = record { fits = omega (arith, W.text_long, S.text_small) }

    pub head_number : 0 ≡ head_refusal (head_item head start item lent)
    head_number = rw W.is

    pub written_item_length : l.item ≡ item_length (head_item head start item lent)
    written_item_length = rw W.is W.item_long

    pub written_text_length : l.text ≡ text_length (head_item head start item lent)
    written_text_length = rw W.is W.text_long
