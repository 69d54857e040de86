-- What holds of every head that is read: its status and its Location have bounds. Assumes nothing.
use Rattle.std.specs.Prelude.{if◌then◌else◌, Option, None, Some}
use mathlib.Core.Path.{◌≡◌, refl, ap}
use mathlib.Core.Bool.{Bool, true, false, ◌&&◌, not}
use mathlib.Core.List.{List, [], ◌∷◌}
use Prim.Native.Nat.{ℕ, suc, ◌+◌, ◌≤◌}
use native.Mathlib.Omega.{arith}
use lib.ListN.{length, take, drop, length-drop}
use lib.Dec.{eqb, leb}
use borrow.Author.Tests.{leb-true}
use Rattle.ascii.specs.Ascii.{Bytes, ◌>>=◌, ◌when◌, all, is_empty, take_while, drop_while, join_head, between, is_digit, same_no_case, begins_with, text, value, number16}
use Rattle.ascii.proofs.OptionLaws.{chained}
use Rattle.ascii.proofs.Split.{Parts}
use Rattle.ascii.proofs.Scan.{while_rest}
use Rattle.response_head.specs.ResponseHead.{is_text_byte, is_tchar, is_blank, lines_of, fits_form, status_form, read_status, trim_end, trim, Field, field_of, read_field, is_end, read_fields, values_of, location_name, only, authorized_name, type_name, first_passes, is_true, is_list_type, Head, redirect, answer, head_of, read_lines, read_head}
use Rattle.response_head.proofs.LineLaws.{lines_parts}

-- ---- a status

number_small : (s : Bytes) (n : ℕ) → number16 s ≡ Some n → n ≤ 65535
unfolding number16
number_small s n = go (not (is_empty s) && all is_digit s) (leb (value s) 65535) refl
  where
    go : (u v : Bool) → leb (value s) 65535 ≡ v → (value s when (u && v)) ≡ Some n → n ≤ 65535
    go false v f e = let z : ◌≡◌ {A = ℕ} 0 1 = cc in absurd (omega arith)
    go true false f e = let z : ◌≡◌ {A = ℕ} 0 1 = cc in absurd (omega arith)
    go true true f e = let z : value s ≡ n = cc in rw (← z) (leb-true (value s) 65535 f)

status_small : (l : Bytes) (n : ℕ) → read_status l ≡ Some n → n ≤ 65535
unfolding read_status
status_small l n = go (fits_form status_form l && all is_text_byte (drop 13 l))
  where
    go : (u : Bool) → (if u then number16 (take 3 (drop 9 l)) else None) ≡ Some n → n ≤ 65535
    go false e = let z : ◌≡◌ {A = ℕ} 0 1 = cc in absurd (omega arith)
    go true e = number_small (take 3 (drop 9 l)) n e

-- ---- a Location is no longer than its head

unfoldable total : List Bytes → ℕ
total [] = 0
total (l ∷ ls) = length l + total ls

unfoldable field_total : List Field → ℕ
field_total [] = 0
field_total (f ∷ fs) = length f.value + field_total fs

join_total : (b : ℕ) (ls : List Bytes) → Parts ls → total (join_head b ls) ≡ suc (total ls)
unfolding join_head total
join_total b ls P = rw P.is (omega arith)

lines_total : (s : Bytes) → total (lines_of s) ≤ length s
unfolding lines_of total
lines_total [] = omega arith
lines_total (b ∷ []) = omega arith
lines_total (b ∷ c ∷ s) = go (eqb 13 b && eqb 10 c) (lines_total s) (lines_total (c ∷ s))
  where
    go : (u : Bool) → total (lines_of s) ≤ length s → total (lines_of (c ∷ s)) ≤ length (c ∷ s) → total (if u then [] ∷ lines_of s else join_head b (lines_of (c ∷ s))) ≤ length (b ∷ c ∷ s)
    go true h k = omega (arith, h)
    go false h k = rw (join_total b (lines_of (c ∷ s)) (lines_parts (c ∷ s))) (omega (arith, k))

trim_length : (s : Bytes) → length (trim_end s) ≤ length s
unfolding trim_end
trim_length [] = omega arith
trim_length (b ∷ s) = go (all is_blank (b ∷ s)) (trim_length s)
  where
    go : (u : Bool) → length (trim_end s) ≤ length s → length (if u then [] else b ∷ trim_end s) ≤ length (b ∷ s)
    go true h = omega arith
    go false h = omega (arith, h)

rest_length : (f : ℕ → Bool) (l : Bytes) → length (drop_while f l) ≤ length l
rest_length f l = rw (← while_rest f l, length-drop) (omega arith)

value_length : (l : Bytes) (f : Field) → read_field l ≡ Some f → length f.value ≤ length l
unfolding read_field field_of trim
value_length l f = go (record { name = take_while is_tchar l; value = trim d }) refl (not (is_empty (take_while is_tchar l)) && begins_with (text ":") (drop_while is_tchar l) && all is_text_byte d)
  where
    d : Bytes
    d = drop 1 (drop_while is_tchar l)

    go : (x : Field) → x.value ≡ trim d → (u : Bool) → (x when u) ≡ Some f → length f.value ≤ length l
    go x v false e = let z : ◌≡◌ {A = ℕ} 0 1 = cc in absurd (omega arith)
    go x v true e =
        let z : x ≡ f = cc in
        rw (← z, v) (unfold trim in (omega (arith, trim_length (drop_while is_blank d), rest_length is_blank d, length-drop 1 (drop_while is_tchar l), rest_length is_tchar l)))

fields_total : (ls : List Bytes) (fs : List Field) → read_fields ls ≡ Some fs → field_total fs ≤ total ls
unfolding read_fields total field_total
fields_total [] fs e = let z : ◌≡◌ {A = ℕ} 0 1 = cc in absurd (omega arith)
fields_total (l ∷ ls) fs e = go (is_empty l) (is_end ls) e (fields_total ls)
  where
    go : (u v : Bool) → (if u then ([] when v) else (read_field l >>= λ f. read_fields ls >>= λ gs. Some (f ∷ gs))) ≡ Some fs
        → ((gs : List Field) → read_fields ls ≡ Some gs → field_total gs ≤ total ls) → field_total fs ≤ length l + total ls
    go true true e ih = let z : [] ≡ fs = cc in rw (← z) (omega arith)
    go true false e ih = let z : ◌≡◌ {A = ℕ} 0 1 = cc in absurd (omega arith)
    go false v e ih =
        let C = chained (read_field l) (λ f. read_fields ls >>= λ gs. Some (f ∷ gs)) fs e in
        let D = chained (read_fields ls) (λ gs. Some (C.between ∷ gs)) fs C.after in
        let z : C.between ∷ D.between ≡ fs = cc D.after in
        rw (← z) (omega (arith, value_length l C.between C.before, ih D.between D.before))

values_total : (n : Bytes) (fs : List Field) → total (values_of n fs) ≤ field_total fs
unfolding values_of total field_total
values_total n [] = omega arith
values_total n (f ∷ fs) = go (same_no_case f.name n) (values_total n fs)
  where
    go : (u : Bool) → total (values_of n fs) ≤ field_total fs → total (if u then f.value ∷ values_of n fs else values_of n fs) ≤ length f.value + field_total fs
    go true h = omega (arith, h)
    go false h = omega (arith, h)

only_total : (vs : List Bytes) (v : Bytes) → only vs ≡ Some v → length v ≤ total vs
unfolding only total
only_total [] v e = let z : ◌≡◌ {A = ℕ} 0 1 = cc in absurd (omega arith)
only_total (w ∷ []) v e = let z : w ≡ v = cc in rw (← z) (omega arith)
only_total (w ∷ x ∷ vs) v e = let z : ◌≡◌ {A = ℕ} 0 1 = cc in absurd (omega arith)

-- the parts of a head that is read
record Read (head : Bytes) (h : Head) : Type 0 where
  short : length head ≤ 8192
  status : ℕ
  small : status ≤ 65535
  fs : List Field
  within : field_total fs ≤ length head
  is : head_of status fs ≡ Some h

read_parts : (head : Bytes) (h : Head) → read_head head ≡ Some h → Read head h
unfolding read_head read_lines total
read_parts head h = go (leb (length head) 8192) refl
  where
    by_lines : (ls : List Bytes) → total ls ≤ length head → length head ≤ 8192 → read_lines ls ≡ Some h → Read head h
    by_lines [] t k e = let z : ◌≡◌ {A = ℕ} 0 1 = cc in absurd (omega arith)
    by_lines (l ∷ ls) t k e =
        let C = chained (read_status l) (λ status. read_fields ls >>= λ fs. head_of status fs) h e in
        let D = chained (read_fields ls) (λ fs. head_of C.between fs) h C.after in
        record {
          short = k;
          status = C.between;
          small = status_small l C.between C.before;
          fs = D.between;
          within = omega (arith, fields_total ls D.between D.before, t);
          is = D.after;
        }

    go : (u : Bool) → leb (length head) 8192 ≡ u → (if u then read_lines (lines_of head) else None) ≡ Some h → Read head h
    go true f e = by_lines (lines_of head) (lines_total head) (leb-true (length head) 8192 f) e
    go false f e = let z : ◌≡◌ {A = ℕ} 0 1 = cc in absurd (omega arith)

-- of a redirect's head: its status, and its Location, which is no longer than the head
pub record RedirectRead (status : ℕ) (loc : Bytes) : Type 0 where
  pub low : 300 ≤ status
  pub high : status ≤ 399
  pub size : length loc ≤ 8192

by_parts : (head : Bytes) (status : ℕ) (a : Bool) (loc : Bytes) → Read head (redirect status a loc) → RedirectRead status loc
unfolding head_of
by_parts head status a loc R = go (leb 300 R.status) (leb R.status 399) refl refl R.is
  where
    go : (u v : Bool) → leb 300 R.status ≡ u → leb R.status 399 ≡ v
        → (if u && v
        then (only (values_of location_name R.fs) >>= λ x. Some (redirect R.status (first_passes is_true (values_of authorized_name R.fs)) x))
        else Some (answer R.status (first_passes is_list_type (values_of type_name R.fs)))) ≡ Some (redirect status a loc)
        → RedirectRead status loc
    go false v f g e = let z : ◌≡◌ {A = ℕ} 0 1 = cc in absurd (omega arith)
    go true false f g e = let z : ◌≡◌ {A = ℕ} 0 1 = cc in absurd (omega arith)
    go true true f g e =
        let C = chained (only (values_of location_name R.fs)) (λ x. Some (redirect R.status (first_passes is_true (values_of authorized_name R.fs)) x)) (redirect status a loc) e in
        let y : R.status ≡ status = cc C.after in
        let z : C.between ≡ loc = cc C.after in
        let t : length C.between ≤ total (values_of location_name R.fs) = only_total (values_of location_name R.fs) C.between C.before in
        record {
          low = omega (arith, leb-true 300 R.status f, y);
          high = omega (arith, leb-true R.status 399 g, y);
          size = omega (arith, ap length z, t, values_total location_name R.fs, R.within, R.short);
        }

answer_parts : (head : Bytes) (status : ℕ) (t : Bool) → Read head (answer status t) → status ≤ 65535
unfolding head_of
answer_parts head status t R = go (between 300 399 R.status) (only (values_of location_name R.fs)) R.is
  where
    go : (u : Bool) (o : Option Bytes)
        → (if u
        then (o >>= λ x. Some (redirect R.status (first_passes is_true (values_of authorized_name R.fs)) x))
        else Some (answer R.status (first_passes is_list_type (values_of type_name R.fs)))) ≡ Some (answer status t)
        → status ≤ 65535
    go false o e = let y : R.status ≡ status = cc in omega (arith, R.small, y)
    go true None e = let z : ◌≡◌ {A = ℕ} 0 1 = cc in absurd (omega arith)
    go true (Some v) e = let z : ◌≡◌ {A = ℕ} 0 1 = cc in absurd (omega arith)

-- ---- both

pub redirect_bounds : (head : Bytes) (status : ℕ) (a : Bool) (loc : Bytes) → read_head head ≡ Some (redirect status a loc) → RedirectRead status loc
redirect_bounds head status a loc e = by_parts head status a loc (read_parts head (redirect status a loc) e)

pub answer_bound : (head : Bytes) (status : ℕ) (t : Bool) → read_head head ≡ Some (answer status t) → status ≤ 65535
answer_bound head status t e = answer_parts head status t (read_parts head (answer status t) e)
