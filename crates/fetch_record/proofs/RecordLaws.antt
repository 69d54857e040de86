-- The redirects at the front of a record, and what stands behind them. Assumes nothing.
use Rattle.std.specs.Prelude.{if◌then◌else◌, Option, None, Some}
use mathlib.Core.Path.{◌≡◌, refl, sym, ap, ◌∙◌}
use mathlib.Core.Bool.{Bool, true, false, ◌&&◌, and-false, and-true}
use mathlib.Core.List.{List, [], ◌∷◌, ◌++◌, append-nil, append_assoc}
use Prim.Native.Nat.{ℕ, zero, suc, ◌+◌, ◌-◌, ◌*◌, ◌≤◌, ◌<◌}
use native.Mathlib.Numerals.{add-one}
use native.Mathlib.Omega.{arith}
use lib.ListN.{length, get_or, take, drop, length-drop, drop_of_length-le}
use lib.Seq.{drop-cons, drop-drop, take_all}
use lib.Dec.{eqb}
use mir.Syntax.{w64}
use mir.Val.{Fits}
use borrow.Author.Tests.{eq-eqb, ne_eqb, eqb-true, lt-leb, le-leb}
use Rattle.ascii.specs.Ascii.{Bytes, ◌>>=◌, all, is_empty, begins_with}
use Rattle.ascii.proofs.ListLaws.{all_append}
use Rattle.fetch_record.specs.Record.{Fetched, read_redirect, read_answer, read_end, in_front, read_items, in_text, read_record}
use Rattle.fetch_record.specs.code.Meaning.{redirect_in, redirect_at, redirects_in, Placed, end_read, behind, front_read, FrontPlaced, no_front, front, Counts, layout_read, no_layout, layout, Lays}
use Rattle.fetch_record.specs.declared.item.Redirect.{Redirect}
use Rattle.fetch_record.specs.declared.item.Answer.{Answer}
use Rattle.fetch_record.proofs.ItemLaws.{read_fields_lem, body_read, redirect_short}

-- ---- at most one answer, then the end

pub end_none : (s : Bytes) → length s ≡ 0 → end_read (Some None) ≡ read_end s
unfolding end_read read_end
end_none [] h = refl
end_none (b ∷ s) h = absurd (omega arith)

pub end_long : (s : Bytes) → (length s ≡ 0 → ⊥) → (length s ≡ 4 → ⊥) → end_read None ≡ read_end s
unfolding end_read read_end
end_long [] n m = absurd (n refl)
end_long (b ∷ s) n m = rw (ne_eqb (length (b ∷ s)) 4 m, and-false)

end_is : (s : Bytes) → length s ≡ 4
    → read_end s ≡ (if eqb 2 (get_or s 0 0) then (read_answer (drop 1 s) >>= λ a. Some (record { redirects = []; answer = Some a })) else None)
unfolding read_end begins_with
end_is [] l = absurd (omega arith)
end_is (b ∷ s) l = rw (eq-eqb (length (b ∷ s)) 4 l, and-true, and-true)

module _ (s : Bytes) (l : length s ≡ 4) where
  pub end_kind : (get_or s 0 0 ≡ 2 → ⊥) → end_read None ≡ read_end s
  unfolding end_read
  end_kind n = rw (end_is s l, ne_eqb 2 (get_or s 0 0) (λ e. n (sym e)))

  module _ {q : Option Answer} (k : get_or s 0 0 ≡ 2) (e : q ≡ read_answer (take 3 (drop 1 s))) where
    answer_is : read_end s ≡ (q >>= λ a. Some (record { redirects = []; answer = Some a }))
    answer_is = rw (end_is s l, eq-eqb 2 (get_or s 0 0) (sym k), e, take_all 3 (drop 1 s) (omega (arith, length-drop 1 s)))

    pub end_answer : {a : Answer} → q ≡ Some a → end_read (Some (Some a)) ≡ read_end s
    unfolding end_read
    end_answer h = sym (rw (answer_is, h))

    pub end_bad : q ≡ None → end_read None ≡ read_end s
    unfolding end_read
    end_bad h = sym (rw (answer_is, h))

-- ---- redirects put before what else was read

pub behind_nil : (o : Option Fetched) → behind [] o ≡ o
unfolding behind
behind_nil None = refl
behind_nil (Some f) = refl

behind_none : (hs : List Redirect) → behind hs None ≡ None
unfolding behind
behind_none hs = refl

behind_more : (hs : List Redirect) (h : Redirect) (o : Option Fetched) → behind hs (behind (h ∷ []) o) ≡ behind (hs ++ (h ∷ [])) o
unfolding behind
behind_more hs h None = refl
behind_more hs h (Some f) = rw append_assoc

-- ---- items whose Locations are in the text

unfoldable pub checked : Bytes → Option Fetched → Option Fetched
checked lent o = o >>= λ f. if all (in_text lent) f.redirects then Some f else None

checked_record : (items lent : Bytes) → checked lent (read_items 8 items) ≡ read_record items lent
unfolding checked read_record
checked_record items lent = refl

checked_if : (lent : Bytes) (u v : Bool) (o : Option Answer)
    → let r : Option Fetched = if u then Some (record { redirects = []; answer = None }) else if v then (o >>= λ a. Some (record { redirects = []; answer = Some a })) else None
    in checked lent r ≡ r
unfolding checked all
checked_if lent true v o = refl
checked_if lent false true (Some a) = refl
checked_if lent false true None = refl
checked_if lent false false o = refl

checked_end : (lent s : Bytes) → checked lent (read_end s) ≡ read_end s
unfolding read_end
checked_end lent s = checked_if lent (is_empty s) (begins_with (2 ∷ []) s && eqb (length s) 4) (read_answer (drop 1 s))

checked_out : (lent : Bytes) (h : Redirect) → in_text lent h ≡ false → (o : Option Fetched) → checked lent (o >>= λ f. Some (in_front h f)) ≡ None
unfolding checked all
checked_out lent h i None = refl
checked_out lent h i (Some f) = rw i

behind_if : (h : Redirect) (f : Fetched) (u : Bool) → (if u then Some (in_front h f) else None) ≡ behind (h ∷ []) (if u then Some f else None)
unfolding behind
behind_if h f true = refl
behind_if h f false = refl

checked_in : (lent : Bytes) (h : Redirect) → in_text lent h ≡ true → (o : Option Fetched) → checked lent (o >>= λ f. Some (in_front h f)) ≡ behind (h ∷ []) (checked lent o)
unfolding checked all
checked_in lent h i None = sym (behind_none (h ∷ []))
checked_in lent h i (Some f) = (rw i) ∙ behind_if h f (all (in_text lent) f.redirects)

items_other : (n : ℕ) (s : Bytes) → begins_with (1 ∷ []) s ≡ false → read_items n s ≡ read_end s
unfolding read_items
items_other zero s e = refl
items_other (suc n) s e = rw e

-- what stands behind the redirects does not begin with the kind 1
end_one : (s : Bytes) → begins_with (1 ∷ []) s ≡ true → read_end s ≡ None
unfolding read_end begins_with
end_one [] b = let z : ◌≡◌ {A = ℕ} 0 1 = cc in absurd (omega arith)
end_one (c ∷ s) b = let e : 1 ≡ c = eqb-true 1 c (sym (and-true (eqb 1 c)) ∙ b) in rw (← e)

-- no more redirects may come: none, as read_end has it
module _ (lent s : Bytes) (b : begins_with (1 ∷ []) s ≡ true) where
  no_more : checked lent (read_items zero s) ≡ None
  unfolding read_items
  no_more = checked_end lent s ∙ end_one s b

module _ (lent : Bytes) (n : ℕ) (s : Bytes) (b : begins_with (1 ∷ []) s ≡ true) where
  items_is : (h : Redirect) → read_redirect (drop 1 s) ≡ Some h → checked lent (read_items (suc n) s) ≡ checked lent (read_items n (drop 8 s) >>= λ f. Some (in_front h f))
  unfolding read_items
  items_is h e = rw (b, e)

  bad_next : read_redirect (drop 1 s) ≡ None → checked lent (read_items (suc n) s) ≡ None
  unfolding read_items checked
  bad_next e = rw (b, e)

  out_next : (h : Redirect) → read_redirect (drop 1 s) ≡ Some h → in_text lent h ≡ false → checked lent (read_items (suc n) s) ≡ None
  out_next h e i = items_is h e ∙ checked_out lent h i (read_items n (drop 8 s))

  items_more : (h : Redirect) → read_redirect (drop 1 s) ≡ Some h → in_text lent h ≡ true → checked lent (read_items (suc n) s) ≡ behind (h ∷ []) (checked lent (read_items n (drop 8 s)))
  items_more h e i = items_is h e ∙ checked_in lent h i (read_items n (drop 8 s))

items_bad : (lent : Bytes) (n : ℕ) (s : Bytes) → begins_with (1 ∷ []) s ≡ true → read_redirect (drop 1 s) ≡ None → checked lent (read_items n s) ≡ None
items_bad lent zero s b e = no_more lent s b
items_bad lent (suc n) s b e = bad_next lent n s b e

items_out : (lent : Bytes) (n : ℕ) (s : Bytes) → begins_with (1 ∷ []) s ≡ true → (h : Redirect) → read_redirect (drop 1 s) ≡ Some h → in_text lent h ≡ false → checked lent (read_items n s) ≡ None
items_out lent zero s b h e i = no_more lent s b
items_out lent (suc n) s b h e i = out_next lent n s b h e i

-- ---- the count of redirects

one_in : (lent : Bytes) (h : Redirect) → in_text lent h ≡ true → all (in_text lent) (h ∷ []) ≡ true
unfolding all
one_in lent h i = rw i

pub redirects_more : (n : ℕ) (items : Bytes) → redirects_in (n + 1) items ≡ redirects_in n items ++ (redirect_at n items ∷ [])
unfolding redirects_in
redirects_more n items = rw add-one

-- n redirects are read; what is left decides
pub record Counting (items lent : Bytes) (n : ℕ) : Type 0 where
  pub placed : Placed items lent n
  pub is : behind (redirects_in n items) (checked lent (read_items (8 - n) (drop (8 * n) items))) ≡ read_record items lent

pub count_starts : (items lent : Bytes) → Counting items lent 0
unfolding redirects_in all
count_starts items lent = record {
  placed = record { few = omega arith; long = omega arith; inside = refl };
  is = behind_nil (checked lent (read_items 8 items)) ∙ checked_record items lent;
}

module _ {items lent : Bytes} {n : ℕ} (C : Counting items lent n) where
  stops : read_items (8 - n) (drop (8 * n) items) ≡ read_end (drop (8 * n) items) → Counts items lent (Some n)
  unfolding front_read
  stops e = record {
    is = sym (rw (e, checked_end)) ∙ C.is;
    places = front C.placed;
  }

  pub count_full : {m : ℕ} → 8 ≤ n → n ≤ 8 → m ≡ 8 → Counts items lent (Some m)
  unfolding read_items
  count_full {m = m} h l e = let w : n ≡ m = omega arith in rw w at (stops (let z : 8 - n ≡ 0 = omega arith in rw z))

  pub count_end : length items ≤ 8 * n → Counts items lent (Some n)
  unfolding begins_with
  count_end h = stops (items_other (8 - n) (drop (8 * n) items) (rw (drop_of_length-le items h)))

  module _ (h : 8 * n < length items) where
    pub count_other : (get_or items (8 * n) 0 ≡ 1 → ⊥) → Counts items lent (Some n)
    unfolding begins_with
    count_other k = stops (items_other (8 - n) (drop (8 * n) items) (rw (drop-cons items (8 * n) 0 h, ne_eqb 1 (get_or items (8 * n) 0) (λ e. k (sym e)))))

    module _ (k : get_or items (8 * n) 0 ≡ 1) where
      begins : begins_with (1 ∷ []) (drop (8 * n) items) ≡ true
      unfolding begins_with
      begins = rw (drop-cons items (8 * n) 0 h, eq-eqb 1 (get_or items (8 * n) 0) (sym k))

      fails : checked lent (read_items (8 - n) (drop (8 * n) items)) ≡ None → Counts items lent None
      unfolding front_read
      fails e = record { is = sym (rw (e, behind_none)) ∙ C.is; places = no_front }

      body : drop 1 (drop (8 * n) items) ≡ drop (8 * n + 1) items
      body = drop-drop 1 (8 * n) items

      pub count_short : length items - 8 * n < 8 → Counts items lent None
      count_short m = fails (items_bad lent (8 - n) (drop (8 * n) items) begins (rw body (sym (redirect_short (drop (8 * n + 1) items) (omega (arith, length-drop (8 * n + 1) items))))))

      module _ {q : Option Redirect} (m : 8 ≤ length items - 8 * n) (e : q ≡ read_redirect (take (8 * n + 8 - (8 * n + 1)) (drop (8 * n + 1) items))) where
        told : read_redirect (drop 1 (drop (8 * n) items)) ≡ q
        told =
            let z : 8 * n + 8 - (8 * n + 1) ≡ 7 = omega arith in
            let i : 7 ≤ length (drop (8 * n + 1) items) = omega (arith, length-drop (8 * n + 1) items) in
            rw (body, ← body_read (drop (8 * n + 1) items) i, e, z)

        pub count_bad : q ≡ None → Counts items lent None
        count_bad f = fails (items_bad lent (8 - n) (drop (8 * n) items) begins (told ∙ f))

        module _ {r : Redirect} {end : ℕ} (f : q ≡ Some r) (g : end ≡ r.start + r.size) where
          pub count_out : length lent < end → Counts items lent None
          unfolding in_text
          count_out o = fails (items_out lent (8 - n) (drop (8 * n) items) begins r (told ∙ f) (lt-leb (r.start + r.size) (length lent) (omega arith)))

          pub count_more : n < 8 → end ≤ length lent → Counting items lent (n + 1)
          unfolding in_text redirect_at
          count_more l o =
              let i : in_text lent r ≡ true = le-leb (r.start + r.size) (length lent) (omega arith) in
              let a : r ≡ redirect_at n items = read_fields_lem (drop 1 (drop (8 * n) items)) r (told ∙ f) ∙ ap redirect_in body in
              let y : 8 - n ≡ suc (7 - n) = omega arith in
              let x : 8 - (n + 1) ≡ 7 - n = omega arith in
              let w : 8 * (n + 1) ≡ 8 * n + 8 = omega arith in
              record {
                placed = record {
                  few = omega arith;
                  long = omega arith;
                  inside = rw (redirects_more n items, ← a) (all_append (in_text lent) (redirects_in n items) (r ∷ []) C.placed.inside (one_in lent r i));
                };
                is =
                    (rw (redirects_more n items, ← a, x, w, ← drop-drop, ← behind_more, ← items_more lent (7 - n) (drop (8 * n) items) begins r (told ∙ f) i, ← y))
                    ∙ C.is;
              }

-- ---- the whole record

placed_front : {items lent : Bytes} {n : ℕ} → FrontPlaced items lent (Some n) → Placed items lent n
placed_front (front P) = P

module _ {items lent : Bytes} {q : Option ℕ} (F : Counts items lent q) where
  pub lay_front : q ≡ None → Lays items lent None
  unfolding front_read layout_read
  lay_front h = let G : Counts items lent None = rw h at F in record { is = G.is; places = no_layout }

  module _ {n : ℕ} (h : q ≡ Some n) where
    G : Counts items lent (Some n)
    G = rw h at F

    P : Placed items lent n
    P = placed_front G.places

    pub front_fits : Fits w64 (8 * n)
    front_fits = record { fits = omega (arith, P.few) }

    pub front_long : 8 * n ≤ length items
    front_long = P.long

    module _ (e : Option (Option Answer)) (f : end_read e ≡ read_end (take (length items - 8 * n) (drop (8 * n) items))) where
      whole : behind (redirects_in n items) (end_read e) ≡ read_record items lent
      unfolding front_read
      whole = (rw (f, take_all (length items - 8 * n) (drop (8 * n) items) (omega (arith, length-drop (8 * n) items)))) ∙ G.is

      pub lay_end : {a : Option Answer} → e ≡ Some a → Lays items lent (Some (record { count = n; answer = a }))
      unfolding end_read behind layout_read
      lay_end k = record { is = sym (rw (k, append-nil)) ∙ whole; places = layout P }

      pub lay_bad : e ≡ None → Lays items lent None
      unfolding end_read behind layout_read
      lay_bad k = record { is = sym (rw k) ∙ whole; places = no_layout }
