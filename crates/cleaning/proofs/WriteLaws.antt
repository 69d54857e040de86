-- The ids written one behind the other.
use Rattle.std.specs.Prelude.{None, Some, unwrap_or}
use mathlib.Core.Path.{◌≡◌, refl, sym, ap, ◌∙◌}
use mathlib.Core.Bool.{Bool, true, false}
use mathlib.Core.List.{List, [], ◌∷◌, ◌++◌, append_assoc, append-nil}
use Prim.Native.Nat.{ℕ, ◌+◌, ◌≤◌}
use native.Mathlib.Omega.{arith}
use lib.ListN.{length, length-append}
use denote.Ref.{MutBor}
use Rattle.ascii.specs.Ascii.{Bytes}
use Rattle.origin.specs.Origin.{normal_form}
use Rattle.normal_forms.specs.code.Writing.{Wrote, Puts}
use Rattle.normal_forms.specs.declared.writer.Writer.{Writer}
use Rattle.normal_forms.proofs.Writings.{nothing_wrote, wrote_place, wrote_length, wrote_then}
use Rattle.entries.specs.code.Selecting.{listed}
use Rattle.json_text.specs.code.Places.{fit}
use Rattle.entries.specs.Causes.{cause}
use Rattle.entries.specs.declared.Cause.{Cause}
use Rattle.entries.specs.declared.selected.Selected.{Selected}
use Rattle.entries.proofs.Walks.{held_kept}
use Rattle.cleaning.specs.code.Meaning.{names, names_of, opening, id_text, ids_text, IdPuts}
use Rattle.cleaning.proofs.SizeLaws.{ids_more, ids_none, names_none, names_more, names_less}

-- ---- one id

module _ (first : Bool) {at r : ℕ} {o o₁ : Bytes} where
  pub opening_first : first ≡ true → Wrote (34 ∷ []) at o o₁ r → Wrote (opening first) at o o₁ r
  unfolding opening
  opening_first h W = rw h W

  pub opening_later : first ≡ false → Wrote (44 ∷ 34 ∷ []) at o o₁ r → Wrote (opening first) at o o₁ r
  unfolding opening
  opening_later h W = rw h W

pub id_wrote : (first : Bool) (e : Bytes) {w x y z : Writer} → Puts (opening first) w x → Puts (normal_form e) x y → Puts (34 ∷ []) y z → IdPuts first e w z
id_wrote first e {w} {x} {y} {z} A B C = record { is = λ m. record { wrote = go m; same = C.same ∙ B.same ∙ A.same } }
  where
    in_order : (opening first ++ normal_form e) ++ 34 ∷ [] ≡ id_text first (normal_form e)
    in_order = unfold id_text in refl

    go : w.at + length (id_text first (normal_form e)) ≤ length w.out.now → Wrote (id_text first (normal_form e)) w.at w.out.now z.out.now z.at
    go m =
        let n : length (id_text first (normal_form e)) ≡ length (opening first) + length (normal_form e) + 1 =
        omega (arith, ap length in_order, length-append (opening first ++ normal_form e) (34 ∷ []), length-append (opening first) (normal_form e)) in
        rw (← in_order) (wrote_then (wrote_then A.wrote B.wrote (omega arith)) C.wrote (omega (arith, length-append (opening first) (normal_form e))))

-- ---- entry after entry

-- the ids before these entries are written behind x, up to y; `first`: no id is among them
pub record Written (l : Selected) (x y : Writer) (es : List Bytes) (first : Bool) : Type 0 where
  pub kept : length y.out.now ≡ length x.out.now
  pub room : x.at + length (ids_text true (names_of l)) ≤ length x.out.now
  pub done : Bytes
  pub wrote : Puts done x y
  pub is : done ++ ids_text first (names l.appid.now l.table.now es) ≡ ids_text true (names_of l)

pub write_starts : (l : Selected) (x : Writer) → x.at + length (ids_text true (names_of l)) ≤ length x.out.now → Written l x x (listed l) true
write_starts l x h = record {
  kept = refl;
  room = h;
  done = [];
  wrote = record { wrote = nothing_wrote x.at x.out.now; same = refl };
  is = refl;
}

write_over : {l : Selected} {x y : Writer} {first : Bool} → Written l x y [] first → Puts (ids_text true (names_of l)) x y
write_over {l} {first = first} S =
    let z : S.done ≡ ids_text true (names_of l) = sym (append-nil S.done) ∙ ap (λ (z : Bytes). S.done ++ z) (sym (ids_none first))
    ∙ ap (λ (es : List Bytes). S.done ++ ids_text first es) (sym (names_none l.appid.now l.table.now)) ∙ S.is in
    rw (← z) S.wrote

-- and the lent writer is what the closure leaves of it
pub write_last : {l : Selected} {x z : Writer} (y : MutBor Writer) {first : Bool} {n : ℕ} → Written l x y.now [] first → y.ghost_name ≡ n → (n ≡ y.ghost_name → z ≡ y.now) → Puts (ids_text true (names_of l)) x z
write_last y S g h = rw (h (sym g)) (write_over S)

module _ {l : Selected} {x y : Writer} {e : Bytes} {es : List Bytes} {first : Bool} (S : Written l x y (e ∷ es) first) where
  pub write_pass : {d : Cause} → cause l.appid.now l.table.now e ≡ Some d → Written l x y es first
  write_pass g = record {
    kept = S.kept;
    room = S.room;
    done = S.done;
    wrote = S.wrote;
    is = ap (λ (es : List Bytes). S.done ++ ids_text first es) (sym (names_less l.appid.now l.table.now e es g)) ∙ S.is;
  }

  module _ (g : cause l.appid.now l.table.now e ≡ None) {p : Bytes} (E : p ≡ unwrap_or (fit e) []) {z : Writer} (W : IdPuts first p y z) where
    abbrev t : Bytes
    t = id_text first (normal_form e)

    whole : (S.done ++ t) ++ ids_text false (names l.appid.now l.table.now es) ≡ ids_text true (names_of l)
    whole =
        append_assoc S.done t (ids_text false (names l.appid.now l.table.now es))
        ∙ ap (λ (z : Bytes). S.done ++ z) (sym (ids_more first (normal_form e) (names l.appid.now l.table.now es)) ∙ ap (ids_text first) (sym (names_more l.appid.now l.table.now e es g)))
        ∙ S.is

    room : x.at + length S.done + length t ≤ length x.out.now
    room = omega (arith, S.room, ap length whole, length-append (S.done ++ t) (ids_text false (names l.appid.now l.table.now es)), length-append S.done t)

    place : y.at ≡ x.at + length S.done
    place = wrote_place S.wrote.wrote (omega (arith, room))

    it : Puts t y z
    it =
        let q : p ≡ e = held_kept l.appid.now l.table.now e E g in
        rw q at (W.is (rw q (omega (arith, room, place, S.kept))))

    more : Wrote (S.done ++ t) x.at x.out.now z.out.now z.at
    more = wrote_then S.wrote.wrote it.wrote room

    pub write_add : Written l x z es false
    write_add =
        record {
          kept = wrote_length more (omega (arith, room, length-append S.done t));
          room = S.room;
          done = S.done ++ t;
          wrote = record { wrote = more; same = it.same ∙ S.wrote.same };
          is = whole;
        }
