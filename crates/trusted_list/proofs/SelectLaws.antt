-- The whole body: its refusal, or the place of the selected ids.
use Rattle.std.specs.Prelude.{if◌then◌else◌, Option, None, Some, unwrap_or, Ok, Err}
use mathlib.Core.Path.{◌≡◌, refl, sym, ap, ◌∙◌}
use mathlib.Core.List.{List, []}
use Prim.Native.Nat.{ℕ, ◌≤◌, ◌<◌}
use native.Mathlib.Nat.{add-zero}
use native.Mathlib.Omega.{arith}
use lib.ListN.{length, drop_of_length-le}
use lib.Seq.{drop-cons}
use borrow.Author.Tests.{lt-ltb, le-ltb}
use Rattle.ascii.specs.Ascii.{Bytes, ◌>>=◌, is_none}
use Rattle.json_text.specs.Reader.{Read, got, bad, more, end_of_text}
use Rattle.json_text.specs.Lexical.{ws}
use Rattle.json_text.specs.code.Places.{read_at}
use Rattle.json_text.proofs.Steps.{on, then_bad, give_at}
use Rattle.json_values.specs.Json.{Json, read_value, read_text, value_read, read_json}
use Rattle.json_values.specs.code.Folds.{reading, Relates}
use Rattle.json_values.proofs.Readings.{Has, was_read, not_read}
use Rattle.refusals.specs.declared.Refusal.TheVariants.{LongList, Unreadable, Misshapen, NoVersion}
use Rattle.trusted_list.specs.TrustedList.{Listing, read_list, select, read_body, selected, list_refusal, entries}
use Rattle.trusted_list.specs.code.Slots.{ids_at, Selects, misshapen, nothing, selects, BodyIs, no_list, list_is, Answers, is_refused, is_selected}
use Rattle.trusted_list.specs.declared.Slot.{Slot}
use Rattle.trusted_list.specs.declared.Slot.TheVariants.{Absent, Held, Other, Spoiled}

-- ---- the text

end_yes : (s : Bytes) (k : ℕ) → length s ≤ k → read_at end_of_text s k ≡ got tt k
unfolding read_at end_of_text more
end_yes s k h = rw (drop_of_length-le s h, add-zero)

end_no : (s : Bytes) (k : ℕ) → k < length s → read_at end_of_text s k ≡ bad
unfolding read_at end_of_text more
end_no s k h = rw (drop-cons s k 0 h)

json_read : (s : Bytes) {v : Json} {m : ℕ} → read_at read_text s 0 ≡ got v m → read_json s ≡ Some v
unfolding read_at read_json
json_read s {v} {m} e = go (read_text s) e
  where
    go : (r : Read Json) → more 0 r ≡ got v m → value_read r ≡ Some v
    go (got a n) e = unfold more value_read in (let z : a ≡ v = cc in ap Some z)
    go bad e = unfold more in (let z : ◌≡◌ {A = ℕ} 0 1 = cc in absurd (omega arith))

json_not : (s : Bytes) → read_at read_text s 0 ≡ bad → read_json s ≡ None
unfolding read_at read_json
json_not s e = go (read_text s) e
  where
    go : (r : Read Json) → more 0 r ≡ bad → value_read r ≡ None
    go (got a n) e = unfold more in (let z : ◌≡◌ {A = ℕ} 0 1 = cc in absurd (omega arith))
    go bad e = unfold value_read in refl

module _ (s : Bytes) {i : ℕ} (e : read_at ws s 0 ≡ got tt i) where
  no_value : read_at (read_value 16) s i ≡ bad → read_json s ≡ None
  no_value f = json_not s (go f)
    where
      go : read_at (read_value 16) s i ≡ bad → read_at read_text s 0 ≡ bad
      go f = unfold read_text in (on _ _ _ _ e ∙ then_bad _ _ _ _ f)

  module _ {v : Json} {j k : ℕ} (f : read_at (read_value 16) s i ≡ got v j) (g : read_at ws s j ≡ got tt k) where
    bytes_left : k < length s → read_json s ≡ None
    bytes_left l = json_not s (go f g)
      where
        go : read_at (read_value 16) s i ≡ got v j → read_at ws s j ≡ got tt k → read_at read_text s 0 ≡ bad
        go f g = unfold read_text in (on _ _ _ _ e ∙ on _ _ _ _ f ∙ on _ _ _ _ g ∙ then_bad _ _ _ _ (end_no s k l))

    whole_text : length s ≤ k → read_json s ≡ Some v
    whole_text l = json_read s (go f g)
      where
        go : read_at (read_value 16) s i ≡ got v j → read_at ws s j ≡ got tt k → read_at read_text s 0 ≡ got v k
        go f g = unfold read_text in (on _ _ _ _ e ∙ on _ _ _ _ f ∙ on _ _ _ _ g ∙ on _ _ _ _ (end_yes s k l) ∙ give_at v s k)

-- ---- the answer

module _ (s : Bytes) (major minor : ℕ) where
  pub select_long : 65536 < length s → Answers major minor s (Err LongList)
  select_long h = is_refused (go h)
    where
      go : 65536 < length s → list_refusal major minor s ≡ Some LongList
      go h = unfold list_refusal in (rw (lt-ltb 65536 (length s) h))

  unread : length s ≤ 65536 → read_json s ≡ None → Answers major minor s (Err Unreadable)
  unread h e = is_refused (go h e)
    where
      go : length s ≤ 65536 → read_json s ≡ None → list_refusal major minor s ≡ Some Unreadable
      go h e = unfold list_refusal in (rw (le-ltb 65536 (length s) h, e))

  -- readable: its value decides
  by_value : {v : Json} → length s ≤ 65536 → read_json s ≡ Some v → (o : Option (List Listing)) → read_list v ≡ o → (p : Option (List Bytes)) → (o >>= select major minor) ≡ p
      → (list_refusal major minor s ≡ (if is_none o then Some Misshapen else if is_none p then Some NoVersion else None)) × (entries major minor s ≡ unwrap_or p [])
  unfolding list_refusal read_body selected entries
  by_value h e o f p g = (rw (le-ltb 65536 (length s) h, e, f, g), rw (e, f, g))

  module _ {i : ℕ} (h : length s ≤ 65536) (e : read_at ws s 0 ≡ got tt i) {q : Option (ℕ × Slot)} (E : Relates (BodyIs s major minor) (read_at (read_value 16) s i) (reading q)) where
    pub select_bad : q ≡ None → Answers major minor s (Err Unreadable)
    select_bad n = unread h (no_value s e (not_read E n))

    module _ {j k : ℕ} {x : Slot} (n : q ≡ Some (j, x)) (g : read_at ws s j ≡ got tt k) where
      pub select_more : k < length s → Answers major minor s (Err Unreadable)
      select_more l = unread h (bytes_left s e (was_read E n).read g l)

      module _ (l : length s ≤ k) where
        H : Has (BodyIs s major minor) (read_at (read_value 16) s i) x j
        H = was_read E n

        whole : read_json s ≡ Some H.value
        whole = whole_text s e H.read g l

        bad_shape : read_list H.value ≡ None → Answers major minor s (Err Misshapen)
        bad_shape z = is_refused (by_value h whole None z None refl).0

        pub select_absent : x ≡ Absent → Answers major minor s (Err Misshapen)
        select_absent w = go H.is w
          where
            under : {o : Option (List Listing)} {y : Slot} → Selects s major minor o y → y ≡ Absent → ⊥
            under misshapen z = let w : ◌≡◌ {A = ℕ} 0 1 = cc in omega arith
            under (nothing e) z = let w : ◌≡◌ {A = ℕ} 0 1 = cc in omega arith
            under (selects e f) z = let w : ◌≡◌ {A = ℕ} 0 1 = cc in omega arith

            go : {y : Slot} → BodyIs s major minor H.value y → y ≡ Absent → Answers major minor s (Err Misshapen)
            go (no_list z) w = bad_shape z
            go (list_is S) w = absurd (under S w)

        pub select_spoiled : x ≡ Spoiled → Answers major minor s (Err Misshapen)
        select_spoiled w = go H.is w
          where
            under : (o : Option (List Listing)) {y : Slot} → read_list H.value ≡ o → Selects s major minor o y → y ≡ Spoiled → Answers major minor s (Err Misshapen)
            under None z misshapen w = bad_shape z
            under (Some ls) z (nothing e) w = let v : ◌≡◌ {A = ℕ} 0 1 = cc in absurd (omega arith)
            under (Some ls) z (selects e f) w = let v : ◌≡◌ {A = ℕ} 0 1 = cc in absurd (omega arith)

            go : {y : Slot} → BodyIs s major minor H.value y → y ≡ Spoiled → Answers major minor s (Err Misshapen)
            go (no_list z) w = bad_shape z
            go (list_is S) w = under (read_list H.value) refl S w

        pub select_none : x ≡ Other → Answers major minor s (Err NoVersion)
        select_none w = go H.is w
          where
            under : (o : Option (List Listing)) {y : Slot} → read_list H.value ≡ o → Selects s major minor o y → y ≡ Other → Answers major minor s (Err NoVersion)
            under None z misshapen w = let v : ◌≡◌ {A = ℕ} 0 1 = cc in absurd (omega arith)
            under (Some ls) z (nothing e) w = is_refused (by_value h whole (Some ls) z None e).0
            under (Some ls) z (selects e f) w = let v : ◌≡◌ {A = ℕ} 0 1 = cc in absurd (omega arith)

            go : {y : Slot} → BodyIs s major minor H.value y → y ≡ Other → Answers major minor s (Err NoVersion)
            go (no_list z) w = let v : ◌≡◌ {A = ℕ} 0 1 = cc in absurd (omega arith)
            go (list_is S) w = under (read_list H.value) refl S w

        pub select_ids : {p : ℕ} → x ≡ Held p → Answers major minor s (Ok p)
        select_ids {p} w = go H.is w
          where
            under : (o : Option (List Listing)) {y : Slot} → read_list H.value ≡ o → Selects s major minor o y → y ≡ Held p → Answers major minor s (Ok p)
            under None z misshapen w = let v : ◌≡◌ {A = ℕ} 0 1 = cc in absurd (omega arith)
            under (Some ls) z (nothing e) w = let v : ◌≡◌ {A = ℕ} 0 1 = cc in absurd (omega arith)
            under (Some ls) z (selects {xs} {p = r} e f) w =
                let u : r ≡ p = cc in
                let B = by_value h whole (Some ls) z (Some xs) e in
                is_selected B.0 (ap (ids_at s) (sym u) ∙ f ∙ ap Some (sym B.1))

            go : {y : Slot} → BodyIs s major minor H.value y → y ≡ Held p → Answers major minor s (Ok p)
            go (no_list z) w = let v : ◌≡◌ {A = ℕ} 0 1 = cc in absurd (omega arith)
            go (list_is S) w = under (read_list H.value) refl S w
