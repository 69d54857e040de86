-- What is written of a head. Assumes nothing.
use Rattle.std.specs.Prelude.{if◌then◌else◌, Option, None, Some}
use mathlib.Core.Path.{◌≡◌, refl}
use mathlib.Core.Bool.{Bool, true, false, ◌&&◌}
use Prim.Native.Nat.{ℕ, ◌≤◌}
use native.Mathlib.Omega.{arith}
use lib.ListN.{length}
use lib.Dec.{leb}
use Rattle.ascii.specs.Ascii.{Bytes}
use Rattle.refusals.specs.declared.Refusal.TheVariants.{Full}
use Rattle.response_head.specs.ResponseHead.{Head, redirect, answer, read_head}
use Rattle.response_head.proofs.HeadBounds.{redirect_bounds}
use Rattle.head_items.specs.HeadItem.{two_bytes, item_of, location_text, start_fits, refused, written, fitting, item_for, head_item}

-- what is written is the head's item and its Location, and a redirect's start fits
pub record WrittenOf (start : ℕ) (h : Head) (item x : Bytes) : Type 0 where
  pub item_is : item ≡ item_of start h
  pub text_is : x ≡ location_text h
  pub fits : start_fits start h ≡ true

pub written_told : (start : ℕ) (before lent : Bytes) (h : Head) (item x : Bytes) → item_for start before lent (Some h) ≡ written item x → WrittenOf start h item x
unfolding item_for fitting
written_told start before lent h item x = go (leb (length (item_of start h)) (length before) && leb (length (location_text h)) (length lent)) (start_fits start h) refl
  where
    go : (u v : Bool) → start_fits start h ≡ v → (if u && v then written (item_of start h) (location_text h) else refused Full) ≡ written item x → WrittenOf start h item x
    go true true f e = record { item_is = cc; text_is = cc; fits = f }
    go true false f e = let z : ◌≡◌ {A = ℕ} 0 1 = cc in absurd (omega arith)
    go false v f e = let z : ◌≡◌ {A = ℕ} 0 1 = cc in absurd (omega arith)

-- an item has at most 8 bytes, and a Location is no longer than a head
pub record Small (item x : Bytes) : Type 0 where
  pub item_small : length item ≤ 8
  pub text_small : length x ≤ 8192

item_small : (start : ℕ) (h : Head) → length (item_of start h) ≤ 8
unfolding item_of two_bytes
item_small start (redirect status a x) = omega arith
item_small start (answer status t) = omega arith

text_small : (head : Bytes) (h : Head) → read_head head ≡ Some h → length (location_text h) ≤ 8192
unfolding location_text
text_small head (redirect status a x) e = (redirect_bounds head status a x e).size
text_small head (answer status t) e = omega arith

pub written_small : (head : Bytes) (start : ℕ) (before lent item x : Bytes) → head_item head start before lent ≡ written item x → Small item x
unfolding head_item item_for
written_small head start before lent item x = go (read_head head) refl
  where
    go : (o : Option Head) → read_head head ≡ o → item_for start before lent o ≡ written item x → Small item x
    go None f e = let z : ◌≡◌ {A = ℕ} 0 1 = cc in absurd (omega arith)
    go (Some h) f e =
        let W = written_told start before lent h item x e in
        record { item_small = rw W.item_is (item_small start h); text_small = rw W.text_is (text_small head h f) }
