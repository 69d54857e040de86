-- The place that rule 4 gives is below 65,536: the body is not over 65,536 bytes, and every entry takes some of them. Assumes nothing.
use Rattle.std.specs.Prelude.{if◌then◌else◌, Option, None, Some, unwrap_or}
use mathlib.Core.Path.{◌≡◌, refl}
use mathlib.Core.List.{List, [], ◌∷◌}
use mathlib.Core.Bool.{Bool, true, false, not}
use Prim.Native.Nat.{ℕ, suc, ◌≤◌, ◌<◌}
use native.Mathlib.Omega.{arith}
use lib.ListN.{length}
use lib.Dec.{eqb, ltb}
use borrow.Author.Tests.{ltb-false}
use Rattle.ascii.specs.Ascii.{Bytes, ◌>>=◌, ◌when◌, ◌or_else◌, is_none, filter_by}
use Rattle.suffix.specs.Suffix.{read_table}
use Rattle.matching.specs.Matching.{facet_matches}
use Rattle.refusals.specs.declared.Refusal.{Refusal}
use Rattle.refusals.specs.declared.Refusal.TheVariants.{NotFetched, WrongType, LongList, BadTable}
use Rattle.trusted_list.specs.TrustedList.{selected, list_refusal, entries}
use Rattle.trusted_list.proofs.Bound.{strings_size, ids_size, listing_size, list_size, selected_fits}
use Rattle.entries.specs.Causes.{cause, kept}
use Rattle.decision.specs.Answer.{rule4}
use Rattle.decision.specs.Decide.{Stage, settled, list_due, before_list, first_match, late_refusal, by_place, unless, by_list, decide}
use Rattle.decision.proofs.Rule4.{NoRule4, before_list_lem}

-- ---- the place is below the number of kept entries

first_below : (caller : Bytes) (l : List Bytes) (n : ℕ) → first_match caller l ≡ Some n → n < length l
unfolding first_match
first_below caller [] n q = let z : ◌≡◌ {A = ℕ} 0 1 = cc in absurd (omega arith)
first_below caller (e ∷ l) n q = go (facet_matches caller e) (first_match caller l) q (first_below caller l)
  where
    go : (u : Bool) (o : Option ℕ) → (if u then Some 0 else (o >>= λ m. Some (suc m))) ≡ Some n → ((m : ℕ) → o ≡ Some m → m < length l) → n < suc (length l)
    go true o w ih = let z : 0 ≡ n = cc in omega arith
    go false None w ih = let z : ◌≡◌ {A = ℕ} 0 1 = cc in absurd (omega arith)
    go false (Some j) w ih = let z : suc j ≡ n = cc in let y = ih j refl in omega arith

-- ---- these are no more than the entries

filter_short : (p : Bytes → Bool) (l : List Bytes) → length (filter_by p l) ≤ length l
unfolding filter_by
filter_short p [] = omega arith
filter_short p (x ∷ l) = go (p x) (filter_short p l)
  where
    go : (u : Bool) → length (filter_by p l) ≤ length l → length (if u then x ∷ filter_by p l else filter_by p l) ≤ suc (length l)
    go true h = omega arith
    go false h = omega arith

kept_short : (appid table : Bytes) (l : List Bytes) → length (kept appid table l) ≤ length l
unfolding kept
kept_short appid table l = filter_short (λ e. is_none (cause appid table e)) l

-- ---- these are fewer than the body's bytes

strings_many : (l : List Bytes) → length l ≤ strings_size l
unfolding strings_size
strings_many [] = omega arith
strings_many (x ∷ l) = let h = strings_many l in omega arith

list_many : (major minor : ℕ) (l : List Bytes) → length l < list_size major minor l
unfolding list_size listing_size ids_size
list_many major minor l = omega (arith, strings_many l)

entries_few : (major minor : ℕ) (body : Bytes) → length (entries major minor body) ≤ length body
unfolding entries
entries_few major minor body = go (selected major minor body) refl
  where
    go : (o : Option (List Bytes)) → selected major minor body ≡ o → length (unwrap_or o []) ≤ length body
    go None e = omega arith
    go (Some ids) e = omega (arith, list_many major minor ids, selected_fits major minor body ids e)

-- ---- these are at most 65,536

long_refused : (major minor : ℕ) (body : Bytes) → ltb 65536 (length body) ≡ true → list_refusal major minor body ≡ Some LongList
unfolding list_refusal
long_refused major minor body e = rw e

accepted_short : (major minor : ℕ) (body : Bytes) → list_refusal major minor body ≡ None → length body ≤ 65536
accepted_short major minor body h = go (ltb 65536 (length body)) refl
  where
    go : (t : Bool) → ltb 65536 (length body) ≡ t → length body ≤ 65536
    go true e = let l = long_refused major minor body e in let z : ◌≡◌ {A = ℕ} 0 1 = cc in absurd (omega arith)
    go false e = ltb-false 65536 (length body) e

-- ---- the theorem

by_list_small : (caller appid : Bytes) (major minor : ℕ) (body table : Bytes) (stage : Stage) (n : ℕ) → NoRule4 stage → by_list caller appid major minor body table stage ≡ rule4 n → n < 65536
unfolding by_list late_refusal
by_list_small caller appid major minor body table (settled a) n s e = absurd (rw e at s)
by_list_small caller appid major minor body table (list_due r) n s e =
    go (not (eqb r.status 200)) (not r.type_seen) (list_refusal major minor body) refl (is_none (read_table table)) (first_match caller (kept appid table (entries major minor body))) refl e
  where
    go : (a b : Bool) (x : Option Refusal) → list_refusal major minor body ≡ x → (c : Bool) (o : Option ℕ) → first_match caller (kept appid table (entries major minor body)) ≡ o
        → unless ((NotFetched when a) or_else (WrongType when b) or_else x or_else (BadTable when c)) (by_place o) ≡ rule4 n → n < 65536
    go true b x l c o f p = let z : ◌≡◌ {A = ℕ} 0 1 = cc in absurd (omega arith)
    go false true x l c o f p = let z : ◌≡◌ {A = ℕ} 0 1 = cc in absurd (omega arith)
    go false false (Some x) l c o f p = let z : ◌≡◌ {A = ℕ} 0 1 = cc in absurd (omega arith)
    go false false None l true o f p = let z : ◌≡◌ {A = ℕ} 0 1 = cc in absurd (omega arith)
    go false false None l false None f p = let z : ◌≡◌ {A = ℕ} 0 1 = cc in absurd (omega arith)
    go false false None l false (Some k) f p =
        let z : k ≡ n = cc in
        omega (
          arith,
          first_below caller (kept appid table (entries major minor body)) k f,
          kept_short appid table (entries major minor body),
          entries_few major minor body,
          accepted_short major minor body l,
        )

pub place_small : (caller appid : Bytes) (major minor : ℕ) (items lent body table : Bytes) (n : ℕ) → decide caller appid major minor items lent body table ≡ rule4 n → n < 65536
unfolding decide
place_small caller appid major minor items lent body table n e = by_list_small caller appid major minor body table (before_list caller appid items lent) n (before_list_lem caller appid items lent) e
