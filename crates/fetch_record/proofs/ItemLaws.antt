-- The bodies of items. Assumes nothing.
use Rattle.std.specs.Prelude.{if◌then◌else◌, None, Some}
use Rattle.std.specs.Int.{w16, from_be_bytes}
use mathlib.Core.Path.{◌≡◌}
use mathlib.Core.List.{[], ◌∷◌}
use mathlib.Core.Bool.{Bool, true, false, ◌&&◌, and-false}
use Prim.Native.Nat.{ℕ, ◌+◌, ◌*◌, ◌≤◌, ◌<◌}
use native.Mathlib.Omega.{arith}
use lib.ListN.{length, get_or, take}
use lib.Seq.{get_or-take, length-take-le}
use lib.Dec.{eqb, leb}
use borrow.Author.Tests.{lt-leb, le-leb}
use Rattle.ascii.specs.Ascii.{Bytes, between}
use Rattle.fetch_record.specs.Record.{number, read_redirect, read_answer}
use Rattle.fetch_record.specs.code.Meaning.{redirect_in}
use Rattle.fetch_record.specs.declared.item.Redirect.{Redirect}

-- ---- kind 1

be : (a b : ℕ) → from_be_bytes w16 (a ∷ b ∷ []) ≡ a * 256 + b
be a b = omega arith

pub fields_are : (s : Bytes) {q a b : ℕ} → q ≡ from_be_bytes w16 (get_or s 0 0 ∷ get_or s 1 0 ∷ []) → a ≡ from_be_bytes w16 (get_or s 3 0 ∷ get_or s 4 0 ∷ [])
    → b ≡ from_be_bytes w16 (get_or s 5 0 ∷ get_or s 6 0 ∷ []) → record { status = q; authorized = eqb (get_or s 2 0) 1; start = a; size = b } ≡ redirect_in s
unfolding redirect_in number
fields_are s g e f = rw (g, e, f, be, be, be)

pub redirect_short : (s : Bytes) → length s < 7 → None ≡ read_redirect s
unfolding read_redirect
redirect_short s h = rw (lt-leb 7 (length s) h)

module _ (s : Bytes) (h : 7 ≤ length s) {r : Redirect} (e : r ≡ redirect_in s) where
  redirect_is : read_redirect s ≡ (if between 300 399 r.status && leb (get_or s 2 0) 1 then Some r else None)
  unfolding read_redirect redirect_in
  redirect_is = rw (le-leb 7 (length s) h, e)

  pub redirect_low : {n : ℕ} → r.status < n → n ≤ 300 → None ≡ read_redirect s
  redirect_low k l = rw (redirect_is, lt-leb 300 r.status (omega arith))

  pub redirect_high : {n : ℕ} → n < r.status → 399 ≤ n → None ≡ read_redirect s
  redirect_high k l = rw (redirect_is, lt-leb r.status 399 (omega arith), and-false)

  pub redirect_flag : {n : ℕ} → n < get_or s 2 0 → 1 ≤ n → None ≡ read_redirect s
  redirect_flag k l = rw (redirect_is, lt-leb (get_or s 2 0) 1 (omega arith), and-false)

  pub redirect_read : 300 ≤ r.status → r.status ≤ 399 → get_or s 2 0 ≤ 1 → Some r ≡ read_redirect s
  redirect_read k l m = rw (redirect_is, le-leb 300 r.status k, le-leb r.status 399 l, le-leb (get_or s 2 0) 1 m)

-- a body that is read has these fields
pub read_fields_lem : (s : Bytes) (r : Redirect) → read_redirect s ≡ Some r → r ≡ redirect_in s
unfolding read_redirect redirect_in
read_fields_lem s r = go (leb 7 (length s) && between 300 399 (number s 0) && leb (get_or s 2 0) 1)
  where
    go : (u : Bool) → (if u then Some (redirect_in s) else None) ≡ Some r → r ≡ redirect_in s
    go true e = cc
    go false e = let z : ◌≡◌ {A = ℕ} 0 1 = cc in absurd (omega arith)

-- the body is the first 7 bytes, whatever stands behind
number_take : (s : Bytes) (n k : ℕ) → k + 1 < n → number (take n s) k ≡ number s k
unfolding number
number_take s n k h = rw (get_or-take n s k 0 (omega arith), get_or-take n s (k + 1) 0 h)

pub body_fields : (s : Bytes) → redirect_in (take 7 s) ≡ redirect_in s
unfolding redirect_in
body_fields s = rw (number_take s 7 0 (omega arith), number_take s 7 3 (omega arith), number_take s 7 5 (omega arith), get_or-take 7 s 2 0 (omega arith))

pub body_read : (s : Bytes) → 7 ≤ length s → read_redirect (take 7 s) ≡ read_redirect s
unfolding read_redirect
body_read s h =
    rw (
      number_take s 7 0 (omega arith),
      number_take s 7 3 (omega arith),
      number_take s 7 5 (omega arith),
      get_or-take 7 s 2 0 (omega arith),
      length-take-le 7 s h,
      le-leb 7 (length s) h,
    )

-- ---- kind 2

pub answer_short : (s : Bytes) → length s < 3 → None ≡ read_answer s
unfolding read_answer
answer_short s h = rw (lt-leb 3 (length s) h)

module _ (s : Bytes) (h : 3 ≤ length s) where
  pub answer_flag : {n : ℕ} → n < get_or s 2 0 → 1 ≤ n → None ≡ read_answer s
  unfolding read_answer
  answer_flag k l = rw (le-leb 3 (length s) h, lt-leb (get_or s 2 0) 1 (omega arith))

  pub answer_read_lem : {q : ℕ} → q ≡ from_be_bytes w16 (get_or s 0 0 ∷ get_or s 1 0 ∷ []) → get_or s 2 0 ≤ 1
      → Some (record { status = q; type_seen = eqb (get_or s 2 0) 1 }) ≡ read_answer s
  unfolding read_answer number
  answer_read_lem e m = rw (le-leb 3 (length s) h, le-leb (get_or s 2 0) 1 m, e, be)
