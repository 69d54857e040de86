-- The record reader reads written items back as just what the heads say. Assumes nothing.
use mathlib.Core.Path.{◌≡◌, refl, sym, ◌∙◌}
use mathlib.Core.Bool.{Bool, true, false}
use mathlib.Core.List.{List, [], ◌∷◌, ◌++◌, map, append-nil, append_assoc}
use Rattle.std.specs.Prelude.{Option, None, Some}
use Prim.Native.Nat.{ℕ, zero, suc, ◌+◌, ◌-◌, ◌*◌, ◌/◌, ◌%◌, ◌≤◌}
use native.Mathlib.Omega.{arith}
use lib.ListN.{length}
use lib.Dec.{leb}
use borrow.Author.Tests.{le-leb, leb-true}
use Rattle.ascii.specs.Ascii.{Bytes, ◌>>=◌, all, begins_with}
use Rattle.fetch_record.specs.declared.item.Redirect.{Redirect}
use Rattle.fetch_record.specs.declared.item.Answer.{Answer}
use Rattle.fetch_record.specs.Record.{Fetched, number, read_redirect, read_answer, read_end, in_front, read_items, in_text, location, read_record}
use Rattle.fetch_record.specs.code.Meaning.{behind}
use Rattle.fetch_record.proofs.RecordLaws.{behind_nil}
use Rattle.response_head.specs.ResponseHead.{Head, redirect, answer}
use Rattle.response_head.proofs.HeadBounds.{RedirectRead, redirect_bounds, answer_bound}
use Rattle.head_items.specs.HeadItem.{two_bytes, seen, item_of, start_fits, written, item_for, head_item}
use Rattle.head_items.specs.ReadBack.{HoldsLocation, starts_of, Item, redirect_said, answer_said, RedirectItems, no_redirect, next_redirect, AnswerItem, no_answer, one_answer, ReadsBack}
use Rattle.head_items.proofs.Written.{WrittenOf, written_told}

-- ---- one item

-- two bytes, big-endian, give the number again
two_read_lem : (n : ℕ) → n ≤ 65535 → n / 256 % 256 * 256 + n % 256 ≡ n
two_read_lem n h = omega arith

module _ (status start size : ℕ) (rest : Bytes) (h : 300 ≤ status) (k : status ≤ 399) (m : start ≤ 65535) (n : size ≤ 65535) where
  body_long : (a : Bool) → leb 7 (length (two_bytes status ++ seen a ∷ two_bytes start ++ two_bytes size ++ rest)) ≡ true
  unfolding two_bytes
  body_long a = le-leb 7 (length (two_bytes status ++ seen a ∷ two_bytes start ++ two_bytes size ++ rest)) (omega arith)

  body_read : (a : Bool) → read_redirect (two_bytes status ++ seen a ∷ two_bytes start ++ two_bytes size ++ rest) ≡ Some (record { status = status; authorized = a; start = start; size = size })
  unfolding read_redirect number two_bytes seen
  body_read true = rw (body_long true, two_read_lem status (omega arith), two_read_lem start m, two_read_lem size n, le-leb 300 status h, le-leb status 399 k)
  body_read false = rw (body_long false, two_read_lem status (omega arith), two_read_lem start m, two_read_lem size n, le-leb 300 status h, le-leb status 399 k)

answer_read_lem : (status : ℕ) → status ≤ 65535 → (t : Bool) → read_answer (two_bytes status ++ seen t ∷ []) ≡ Some (record { status = status; type_seen = t })
unfolding read_answer number two_bytes seen
answer_read_lem status h true = rw (two_read_lem status h)
answer_read_lem status h false = rw (two_read_lem status h)

-- a redirect's item at the front of a record: that redirect, then the rest
redirect_items : (start status : ℕ) (a : Bool) (x rest : Bytes) (n : ℕ) → RedirectRead status x → start ≤ 65535
    → read_items (suc n) (item_of start (redirect status a x) ++ rest) ≡ (read_items n rest >>= λ f. Some (in_front (record { status = status; authorized = a; start = start; size = length x }) f))
redirect_items start status a x rest n R m = go (body_read status start (length x) rest R.low R.high m (omega (arith, R.size)) a)
  where
    go : read_redirect (two_bytes status ++ seen a ∷ two_bytes start ++ two_bytes (length x) ++ rest) ≡ Some (record { status = status; authorized = a; start = start; size = length x })
        → read_items (suc n) (item_of start (redirect status a x) ++ rest) ≡ (read_items n rest >>= λ f. Some (in_front (record { status = status; authorized = a; start = start; size = length x }) f))
    go e = unfold read_items item_of two_bytes begins_with in rw e

-- an answer's item at the end of a record
answer_items : (start status : ℕ) (t : Bool) (n : ℕ) → status ≤ 65535
    → read_items n (item_of start (answer status t)) ≡ Some (record { redirects = []; answer = Some (record { status = status; type_seen = t }) })
unfolding read_items read_end item_of two_bytes begins_with
answer_items start status t zero h = rw (answer_read_lem status h t)
answer_items start status t (suc n) h = rw (answer_read_lem status h t)

item_told : {start : ℕ} {h : Head} {item : Bytes} → (I : Item start h item) → WrittenOf start h item I.location
item_told {start} {h} {item} I = written_told start I.item_before I.text_before h item I.location go
  where
    go : item_for start I.item_before I.text_before (Some h) ≡ written item I.location
    go = unfold head_item in (rw I.reads at I.writes)

start_small : (start status : ℕ) (a : Bool) (x : Bytes) → start_fits start (redirect status a x) ≡ true → start ≤ 65535
unfolding start_fits
start_small start status a x e = leb-true start 65535 e

-- ---- redirects one behind the other

before_one : (r : Redirect) (rs : List Redirect) (o : Option Fetched) → (behind rs o >>= λ f. Some (in_front r f)) ≡ behind (r ∷ rs) o
unfolding behind
before_one r rs None = refl
before_one r rs (Some f) = refl

-- the redirects that are read of these items
record Built (lent : Bytes) (starts : List ℕ) (hs : List Head) (items : Bytes) : Type 0 where
  rs : List Redirect
  reads : (rest : Bytes) (n m : ℕ) → n ≡ length hs + m → read_items n (items ++ rest) ≡ behind rs (read_items m rest)
  inside : all (in_text lent) rs ≡ true
  says : map (redirect_said lent) rs ≡ hs
  starts_are : map (λ (r : Redirect). r.start) rs ≡ starts

built : {lent : Bytes} {starts : List ℕ} {hs : List Head} {items : Bytes} → RedirectItems lent starts hs items → Built lent starts hs items
unfolding all in_text location
built no_redirect = record {
  rs = [];
  reads = λ rest n m e. let z : n ≡ m = omega arith in rw z (sym (behind_nil (read_items m rest)));
  inside = refl;
  says = refl;
  starts_are = refl;
}
built {lent} (next_redirect {start} {status} {authorized} {x} {item} {items} {starts} {hs} I H R) =
    let B = built R in
    let W = item_told I in
    let S = redirect_bounds I.head status authorized x I.reads in
    let r : Redirect = record { status = status; authorized = authorized; start = start; size = length x } in
    record {
      rs = r ∷ B.rs;
      reads = λ rest n m e.
          let z : n ≡ suc (length hs + m) = omega arith in
          rw (z, append_assoc, W.item_is, redirect_items start status authorized x (items ++ rest) (length hs + m) S (start_small start status authorized x W.fits), B.reads rest (length hs + m) m refl)
          (before_one r B.rs (read_items m rest));
      inside = rw (le-leb (start + length x) (length lent) H.inside, B.inside);
      says = rw (H.is, B.says);
      starts_are = rw B.starts_are;
    }

-- ---- the record

record_is : (items lent : Bytes) (f : Fetched) → read_items 8 items ≡ Some f → all (in_text lent) f.redirects ≡ true → read_record items lent ≡ Some f
unfolding read_record
record_is items lent f e i = rw (e, i)

items_none : (n : ℕ) → read_items n [] ≡ Some (record { redirects = []; answer = None })
unfolding read_items read_end begins_with
items_none zero = refl
items_none (suc n) = refl

-- what is read behind the redirects
record Ended (hs : List Head) (end : Bytes) : Type 0 where
  answer_is : Option Answer
  reads : (n : ℕ) → read_items n end ≡ Some (record { redirects = []; answer = answer_is })
  says : answer_said answer_is ≡ hs

ended : {hs : List Head} {end : Bytes} → AnswerItem hs end → Ended hs end
ended no_answer = record { answer_is = None; reads = items_none; says = refl }
ended (one_answer {start} {status} {type_seen} {item} I) =
    record {
      answer_is = Some (record { status = status; type_seen = type_seen });
      reads = λ n. rw (item_told I).item_is (answer_items start status type_seen n (answer_bound I.head status type_seen I.reads));
      says = refl;
    }

-- up to 8 redirect heads and at most one answer head
pub read_back_all : {lent : Bytes} {starts : List ℕ} {hs gs : List Head} {items end : Bytes} → RedirectItems lent starts hs items → AnswerItem gs end → length hs ≤ 8
    → ReadsBack (items ++ end) lent starts (hs ++ gs)
unfolding behind
read_back_all {lent} {starts} {hs} {gs} {items} {end} R A h =
    let B = built R in
    let E = ended A in
    let f : Fetched = record { redirects = B.rs; answer = E.answer_is } in
    let e : read_items 8 (items ++ end) ≡ Some f = B.reads end 8 (8 - length hs) (omega arith) ∙ rw (E.reads (8 - length hs), append-nil) in
    record {
      fetched = f;
      is = record_is (items ++ end) lent f e B.inside;
      says = rw (B.says, E.says);
      starts_are = B.starts_are;
    }

-- one head
pub read_back : (start : ℕ) (h : Head) (item lent : Bytes) → Item start h item → HoldsLocation lent start h → ReadsBack item lent (starts_of start h) (h ∷ [])
unfolding HoldsLocation
read_back start (redirect status a x) item lent I H = rw (append-nil, append-nil) at (read_back_all (next_redirect I H no_redirect) no_answer (omega arith))
read_back start (answer status t) item lent I H = let R : RedirectItems lent [] [] [] = no_redirect in read_back_all R (one_answer I) (omega arith)
