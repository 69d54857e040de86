-- A read into the rest of a buffer: what stands first in it grows by what was read.
use Rattle.std.proofs.Common.{◌≡◌, ℕ, ◌+◌, ◌-◌, ◌≤◌, Option, List, ◌++◌, length, take, drop, arith, sym, ap, ◌∙◌, subst, le_refl, drop_at, length-take-le, length-append}
use Rattle.std.proofs.lemmas.Slice.{take-put_mid_below}
use Rattle.std.specs.Io.KnownBytes.{Consumes}
use Rattle.std.proofs.KnownBytes.{Consumes-trans}
use borrow.Rule.Slice.PartMut.{put_mid, post_of}
use lib.Seq.{take-add, take-append-le}
use Rattle.full_reads.specs.FullRead.{TakesFirst}

-- the first a bytes, and the first n of those put behind them
take_put : (a k n : ℕ) (xs ys : List ℕ) → a ≤ length xs → n ≤ length ys → take (a + n) (put_mid a k xs ys) ≡ take a xs ++ take n ys
take_put a k n xs ys within fits =
    let after = post_of a k xs in
    let part : take n (drop a (put_mid a k xs ys)) ≡ take n ys = ap (take n) (drop_at (take a xs) (ys ++ after) a (length-take-le a xs within)) ∙ take-append-le n ys after fits in
    take-add a n (put_mid a k xs ys) ∙ ap (λ l. l ++ take n (drop a (put_mid a k xs ys))) (take-put_mid_below a k xs ys a (le_refl a) within) ∙ ap (λ l. take a xs ++ l) part

-- what is put behind the first a bytes stands inside
put_inside : (a k : ℕ) (xs ys : List ℕ) → a ≤ length xs → a + length ys ≤ length (put_mid a k xs ys)
put_inside a k xs ys within =
    let after = post_of a k xs in
    let first : length (take a xs) ≡ a = length-take-le a xs within in
    let rest : length (ys ++ after) ≡ length ys + length after = length-append ys after in
    let all : length (put_mid a k xs ys) ≡ length (take a xs) + length (ys ++ after) = length-append (take a xs) (ys ++ after) in
    omega (arith, first, rest, all)

-- n bytes more
pub takes_more : (o p q : Option (List ℕ)) (a n : ℕ) (xs ys : List ℕ) → n ≤ length ys → TakesFirst o p xs a → Consumes p q (take n ys)
    → TakesFirst o q (put_mid a (length xs - a) xs ys) (a + n)
takes_more o p q a n xs ys fits before read =
    (omega (arith, fits, put_inside a (length xs - a) xs ys before.0), subst (Consumes o q) (sym (take_put a (length xs - a) n xs ys before.0 fits)) (Consumes-trans o p q _ _ before.1 read))
