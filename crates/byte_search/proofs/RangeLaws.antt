-- The first byte of a range, by blocks of 64. Assumes nothing.
use Rattle.std.specs.Prelude.{if◌then◌else◌, Option, None, Some}
use mathlib.Core.Path.{◌≡◌, refl, sym, ap, ◌∙◌}
use mathlib.Core.Bool.{Bool, true, false}
use mathlib.Core.List.{[], ◌∷◌, ◌++◌}
use Prim.Native.Nat.{ℕ, zero, suc, ◌+◌, ◌-◌, ◌*◌, ◌^◌, ◌≤◌, ◌<◌, min}
use native.Mathlib.Omega.{arith}
use mir.Val.{Fits}
use mir.Syntax.{w64}
use lib.ListN.{length, get_or, take, drop, length-drop, length-append}
use Rattle.std.proofs.lemmas.List.{get_or-take, length-take}
use lib.Seq.{drop-cons, drop-drop, get_or-drop, take_all, take-append_seam, drop-append_seam}
use lib.Dec.{ltb}
use borrow.Author.Rules.{rules}
use borrow.Author.Tests.{lt-ltb, le-ltb, ltb-true, ltb-false}
use Rattle.ascii.specs.Ascii.{Bytes, ◌when◌, take_while}
use Rattle.ascii.proofs.RunLaws.{run_past}
use Rattle.ascii.proofs.Scan.{scan_end, scan_stop, scan_more}
use Rattle.byte_search.specs.code.Ranges.{outside, block_end, block_first, place_in}

module _ (lo hi b : ℕ) where
  pub outside_below : b < lo → ltb b lo ≡ outside lo hi b
  unfolding outside
  outside_below h = rw (lt-ltb b lo h)

  pub outside_above : lo ≤ b → ltb hi b ≡ outside lo hi b
  unfolding outside
  outside_above h = rw (le-ltb b lo h)

  pub place_none : (k : ℕ) {r : Bool} → r ≡ outside lo hi b → r ≡ true → 64 ≡ place_in lo hi k b
  unfolding place_in
  place_none k e f = rw (← e, f)

  pub place_here : (k : ℕ) {r : Bool} → r ≡ outside lo hi b → r ≡ false → k ≡ place_in lo hi k b
  unfolding place_in
  place_here k e f = rw (← e, f)

-- what ends a scan by f is found before k, or the bytes before k go on
pub data Seen (f : ℕ → Bool) (w : ℕ) (l : Bytes) (k : ℕ) : ℕ → Type 0 where
  seen : {r : ℕ} → r < k → r ≡ w → Seen f w l k r
  unseen : k + length (take_while f (take (64 - k) l)) ≡ w → Seen f w l k 64

pub record Block (lo hi : ℕ) (s : Bytes) (from r k : ℕ) : Type 0 where
  pub most : k ≤ 64
  pub is : Seen (outside lo hi) (block_end lo hi s from) (drop (from + k) s) k r

pub block_starts : (lo hi : ℕ) (s : Bytes) (from : ℕ) → Block lo hi s from 64 0
unfolding block_end
block_starts lo hi s from = record { most = omega arith; is = unseen (let z : from + 0 ≡ from = omega arith in rw z (omega arith)) }

seen_ends : {f : ℕ → Bool} {w k r : ℕ} {l : Bytes} → Seen f w l k r → k ≡ 64 → r ≡ w
unfolding take_while
seen_ends (seen h e) g = e
seen_ends {k = k} (unseen e) g = let z : 64 - k ≡ 0 = omega arith in omega (arith, g, rw z at e)

seen_more : (lo hi : ℕ) {w k r v x : ℕ} (b : ℕ) (l m : Bytes) → Seen (outside lo hi) w l k r → k < 64 → l ≡ b ∷ m → v ≡ place_in lo hi k b → x ≡ min v r → Seen (outside lo hi) w m (k + 1) x
unfolding place_in
seen_more lo hi {w} {k} {r} {v} {x} b l m (seen h e) g f i j = rw kept (seen {r = r} (omega arith) e)
  where
    above : k ≤ v
    above = rw i (go (outside lo hi b))
      where
        go : (u : Bool) → k ≤ (if u then 64 else k)
        go true = omega arith
        go false = omega arith

    kept : x ≡ r
    kept = omega (arith, above, j)
seen_more lo hi {w} {k} {r} {v} {x} b l m (unseen e) g f i j = go (outside lo hi b) refl
  where
    n : 64 - k ≡ suc (64 - (k + 1))
    n = omega arith

    go : (u : Bool) → outside lo hi b ≡ u → Seen (outside lo hi) w m (k + 1) x
    go false u =
        let y : v ≡ k = i ∙ rw u in
        let z : x ≡ k = omega (arith, y, j) in
        rw z (seen {r = k} (omega arith) stops)
      where
        stops : k ≡ w
        stops = unfold take_while in (omega (arith, rw (f, n, u) at e))
    go true u =
        let y : v ≡ 64 = i ∙ rw u in
        let z : x ≡ 64 = omega (arith, y, j) in
        rw z (unseen goes)
      where
        goes : k + 1 + length (take_while (outside lo hi) (take (64 - (k + 1)) m)) ≡ w
        goes = unfold take_while in (omega (arith, rw (f, n, u) at e))

module _ {lo hi : ℕ} {s : Bytes} {from r k : ℕ} (B : Block lo hi s from r k) where
  block_ends : 64 ≤ k → r ≡ block_end lo hi s from
  block_ends h = seen_ends B.is (omega (arith, B.most))

  pub block_some : 64 ≤ k → r < 64 → Some r ≡ block_first lo hi s from
  unfolding block_first
  block_some h l = rw (← block_ends h, lt-ltb r 64 l)

  pub block_none : 64 ≤ k → 64 ≤ r → None ≡ block_first lo hi s from
  unfolding block_first
  block_none h l = rw (← block_ends h, le-ltb r 64 l)

  pub block_more : {x v : ℕ} → x ≡ min v r → v ≡ place_in lo hi k (get_or s (from + k) 0) → k < 64 → from + 64 ≤ length s → Block lo hi s from x (k + 1)
  block_more e f h l =
      let o : from + (k + 1) ≡ suc (from + k) = omega arith in
      record { most = omega arith; is = rw o (seen_more lo hi (get_or s (from + k) 0) (drop (from + k) s) (drop (suc (from + k)) s) B.is h (drop-cons s (from + k) 0 (omega arith)) f e) }

-- a scan of the first n bytes, and of all
module _ (f : ℕ → Bool) where
  while_short : (n : ℕ) (l : Bytes) → length (take_while f (take n l)) < n → n ≤ length l → length (take_while f l) ≡ length (take_while f (take n l))
  unfolding take_while
  while_short zero l h k = absurd (omega arith)
  while_short (suc n) [] h k = absurd (omega arith)
  while_short (suc n) (b ∷ l) h k = go (f b) h (while_short n l)
    where
      go : (u : Bool) → length (if u then b ∷ take_while f (take n l) else []) < suc n → (length (take_while f (take n l)) < n → n ≤ length l → length (take_while f l) ≡ length (take_while f (take n l)))
          → length (if u then b ∷ take_while f l else []) ≡ length (if u then b ∷ take_while f (take n l) else [])
      go true h ih = let i = ih (omega arith) (omega arith) in omega (arith, i)
      go false h ih = refl

  while_long : (n : ℕ) (l : Bytes) → n ≤ length (take_while f (take n l)) → n ≤ length l → length (take_while f l) ≡ n + length (take_while f (drop n l))
  unfolding take_while
  while_long zero l h k = omega arith
  while_long (suc n) [] h k = absurd (omega arith)
  while_long (suc n) (b ∷ l) h k = go (f b) h (while_long n l)
    where
      go : (u : Bool) → suc n ≤ length (if u then b ∷ take_while f (take n l) else []) → (n ≤ length (take_while f (take n l)) → n ≤ length l → length (take_while f l) ≡ n + length (take_while f (drop n l)))
          → length (if u then b ∷ take_while f l else []) ≡ suc n + length (take_while f (drop n l))
      go true h ih = let i = ih (omega arith) (omega arith) in omega (arith, i)
      go false h ih = absurd (omega arith)

-- the scan at from ends where the scan at i ends
pub record SameEnd (f : ℕ → Bool) (s : Bytes) (from i : ℕ) : Type 0 where
  pub is : i + length (take_while f (drop i s)) ≡ from + length (take_while f (drop from s))

pub end_starts : (f : ℕ → Bool) (s : Bytes) (from : ℕ) → SameEnd f s from from
end_starts f s from = record { is = refl }

module _ {f : ℕ → Bool} {s : Bytes} {from i : ℕ} (E : SameEnd f s from i) where
  pub end_out : length s ≤ i → i ≡ from + length (take_while f (drop from s))
  end_out h = scan_end f s i h E.is

  module _ {r : Bool} (h : i < length s) (t : r ≡ f (get_or s i 0)) where
    pub end_found : r ≡ false → i ≡ from + length (take_while f (drop from s))
    end_found w = scan_stop f s i h t w E.is

    pub end_next : r ≡ true → SameEnd f s from (i + 1)
    end_next w = record { is = scan_more f s i h t w E.is }

-- ---- block after block

-- the blocks from i on are those that are left, and the scan at from ends where the one at i ends
pub record Blocks (f : ℕ → Bool) (s : Bytes) (from i size : ℕ) (rest : Bytes) : Type 0 where
  pub even : size ≡ 64
  pub inside : i ≤ length s
  pub left : rest ≡ drop i s
  pub same : SameEnd f s from i

-- a block stands at i, and the blocks behind it
pub record Stands (s : Bytes) (i size : ℕ) (block rest : Bytes) : Type 0 where
  pub even : size ≡ 64
  pub room : i + 64 ≤ length s
  pub is : take 64 (drop i s) ≡ block
  pub next : rest ≡ drop (i + 64) s

module _ {f : ℕ → Bool} {s : Bytes} {from i n : ℕ} {l : Bytes} (B : Blocks f s from i n l) where
  -- by a step of the library's iterator
  pub block_at : {R : Type 0} {z : ℕ} {block rest : Bytes} → (z ≡ n) × ((l ≡ block ++ rest) × (length block ≡ n)) × R → Stands s i z block rest
  block_at {block = block} {rest = rest} (y, (e, g), q) =
      let a : drop i s ≡ block ++ rest = sym B.left ∙ e in
      let b : length block ≡ 64 = g ∙ B.even in
      record {
        even = y ∙ B.even;
        room = omega (arith, b, ap length a, length-append block rest, length-drop i s);
        is = rw (a, ← b) (take-append_seam block rest);
        next = sym (sym (drop-drop 64 i s) ∙ rw (a, ← b) (drop-append_seam block rest));
      }

  module _ {z : ℕ} {block rest : Bytes} (T : Stands s i z block rest) where
    first_byte : get_or block 0 0 ≡ get_or s i 0
    first_byte =
        let z : i + 0 ≡ i = omega arith in
        ap (λ (x : Bytes). get_or x 0 0) (sym T.is) ∙ get_or-take 64 (drop i s) 0 0 (omega arith) ∙ get_or-drop i s 0 0 ∙ rw z

    pub blocks_first : {r : Bool} → r ≡ f (get_or block 0 0) → r ≡ false → i ≡ from + length (take_while f (drop from s))
    blocks_first t w = end_found B.same (omega (arith, T.room)) (t ∙ ap f first_byte) w

-- a place in a block, or none
found : (r : ℕ) {m : ℕ} → r when ltb r 64 ≡ Some m → (m ≡ r) × (r < 64)
found r {m} e = go (ltb r 64) refl e
  where
    go : (u : Bool) → ltb r 64 ≡ u → r when u ≡ Some m → (m ≡ r) × (r < 64)
    go true u e = (cc, ltb-true r 64 u)
    go false u e = let z : ◌≡◌ {A = ℕ} 0 1 = cc in absurd (omega arith)

unfound : (r : ℕ) → ((m : ℕ) → r when ltb r 64 ≡ Some m → ⊥) → 64 ≤ r
unfound r n = go (ltb r 64) refl n
  where
    go : (u : Bool) → ltb r 64 ≡ u → ((m : ℕ) → r when u ≡ Some m → ⊥) → 64 ≤ r
    go true u n = absurd (n r refl)
    go false u n = ltb-false r 64 u

module _ (lo hi : ℕ) {s : Bytes} {from i n z : ℕ} {l block rest : Bytes} (B : Blocks (outside lo hi) s from i n l) (T : Stands s i z block rest) {o : Option ℕ} (t : o ≡ block_first lo hi block 0) where
  room : 64 ≤ length (drop i s)
  room = omega (arith, T.room, length-drop i s)

  ends_here : block_end lo hi block 0 ≡ length (take_while (outside lo hi) (take 64 (drop i s)))
  unfolding block_end
  ends_here = ap (λ (x : Bytes). length (take_while (outside lo hi) (take 64 x))) (sym T.is) ∙ rw (take_all 64 (take 64 (drop i s)) (omega (arith, length-take 64 (drop i s))))

  pub blocks_here : {m : ℕ} → o ≡ Some m → i + m ≡ from + length (take_while (outside lo hi) (drop from s))
  unfolding block_first
  blocks_here k =
      let p = found (block_end lo hi block 0) (sym t ∙ k) in
      omega (arith, p.0, ends_here, B.same.is, while_short (outside lo hi) 64 (drop i s) (omega (arith, p.1, ends_here)) room)

  pub blocks_fit : {m : ℕ} → o ≡ Some m → length s * 1 < 2 ^ 63 → Fits w64 (i + m)
  unfolding block_first
  blocks_fit k h = let p = found (block_end lo hi block 0) (sym t ∙ k) in record { fits = omega (arith, p.0, p.1, T.room) }

  pub blocks_more : ((m : ℕ) → o ≡ Some m → ⊥) → Blocks (outside lo hi) s from (i + 64) z rest
  unfolding block_first
  blocks_more k =
      let p = unfound (block_end lo hi block 0) (λ m x. k m (t ∙ x)) in
      let q = while_long (outside lo hi) 64 (drop i s) (omega (arith, p, ends_here)) room in
      record { even = T.even; inside = T.room; left = T.next; same = record { is = omega (arith, B.same.is, rw (drop-drop 64 i s) at q) } }

pub ruleset block_laws = (block_starts, block_some, block_none, block_more, rules)

pub ruleset range_laws = (outside_below, outside_above, place_none, place_here, rules)

pub ruleset blocks_laws = (run_past, blocks_first, blocks_here, blocks_fit, blocks_more, rules)
