-- How deep rules go along a host. Assumes nothing.
use Rattle.std.specs.Prelude.{if◌then◌else◌, Option, None, Some}
use mathlib.Core.Path.{◌≡◌, refl, sym, ap, ◌∙◌}
use mathlib.Core.Bool.{Bool, true, false, ◌&&◌, ◌||◌, and-eq-true_iff}
use mathlib.Core.List.{List, [], ◌∷◌}
use Prim.Native.Nat.{ℕ, suc, ◌-◌, ◌≤◌, max}
use native.Mathlib.Omega.{arith}
use lib.ListN.{length, take, drop}
use lib.Dec.{leb, ltb}
use borrow.Author.Tests.{lt-leb, le-leb, lt-ltb, ltb-true, ltb-false, leb-true, leb-false}
use Rattle.ascii.specs.Ascii.{Bytes, ◌>>=◌, is_none, any, take_while, last_of, split_at, begins_with}
use Rattle.hosts.specs.Host.{labels}
use Rattle.hosts.specs.code.Place.{Stands}
use Rattle.suffix.specs.Suffix.{Rule, content, is_skipped, read_rule, read_lines, read_table, all_match}
use Rattle.suffix.specs.code.Pass.{best_of, one_rule, read_line}
use Rattle.suffix.specs.code.Deeper.{goes_deeper}
use Rattle.suffix.specs.code.Depth.{depth_of, deepest, line_depth, lines_depth, Good, Past}
use Rattle.suffix.specs.declared.Sizes.{Sizes}
use Rattle.hosts.proofs.Ends.{true_false}
use Rattle.suffix.proofs.Speed.{length_last, last_last, deep_match, last_names}
use Rattle.hosts.proofs.Places.{rest_whole}
use Rattle.suffix.proofs.Lines.{empty_skipped, comment_skipped}

-- ---- deeper than k labels is deeper than fewer

goes_at : (k : ℕ) (hl : List Bytes) (r : Rule) → k ≤ length hl → goes_deeper (last_of k hl) r ≡ (ltb k (length r.names) && all_match (last_of k r.names) (last_of k hl))
unfolding goes_deeper
goes_at k hl r h = rw (length_last k hl h)

pub down : (j k : ℕ) (hl : List Bytes) (r : Rule) → j ≤ k → k ≤ length hl → goes_deeper (last_of k hl) r ≡ true → goes_deeper (last_of j hl) r ≡ true
down j k hl r h l e =
    let p = (and-eq-true_iff (ltb k (length r.names)) (all_match (last_of k r.names) (last_of k hl))).0 (sym (goes_at k hl r l) ∙ e) in
    let a = ltb-true k (length r.names) p.0 in
    let f : length (last_of k r.names) ≡ k = length_last k r.names (omega arith) in
    let m = deep_match j (last_of k r.names) hl (omega arith) (omega arith) (rw f p.1) in
    goes_at j hl r (omega arith) ∙ (and-eq-true_iff (ltb j (length r.names)) (all_match (last_of j r.names) (last_of j hl))).1
    (lt-ltb j (length r.names) (omega arith), rw (last_last j k r.names h (omega arith)) at m)

last_cons : (j : ℕ) (l : Bytes) (ls : List Bytes) → j ≤ length ls → last_of j (l ∷ ls) ≡ last_of j ls
unfolding last_of
last_cons j l ls h = let e : suc (length ls) - j ≡ suc (length ls - j) = omega arith in rw e

pub last_whole : (ls : List Bytes) → last_of (length ls) ls ≡ ls
unfolding last_of
last_whole ls = let e : length ls - length ls ≡ 0 = omega arith in rw e

pub depth_le : (hl : List Bytes) (r : Rule) → depth_of hl r ≤ length hl
unfolding depth_of
depth_le [] r = omega arith
depth_le (l ∷ ls) r = go (goes_deeper (l ∷ ls) r) (depth_le ls r)
  where
    go : (u : Bool) → depth_of ls r ≤ length ls → (if u then suc (length ls) else depth_of ls r) ≤ suc (length ls)
    go true h = omega arith
    go false h = omega arith

pub leb_depth : (k : ℕ) (hl : List Bytes) (r : Rule) → 1 ≤ k → k ≤ length hl → goes_deeper (last_of k hl) r ≡ leb k (depth_of hl r)
unfolding depth_of
leb_depth k [] r h l = absurd (omega arith)
leb_depth k (x ∷ ls) r h l = go (goes_deeper (x ∷ ls) r) refl (leb k (length ls)) refl (leb_depth k ls r h)
  where
    go : (u : Bool) → goes_deeper (x ∷ ls) r ≡ u → (v : Bool) → leb k (length ls) ≡ v → (k ≤ length ls → goes_deeper (last_of k ls) r ≡ leb k (depth_of ls r))
        → goes_deeper (last_of k (x ∷ ls)) r ≡ leb k (if u then suc (length ls) else depth_of ls r)
    go true e v f ih = down k (suc (length ls)) (x ∷ ls) r l (omega arith) (ap (λ (m : List Bytes). goes_deeper m r) (last_whole (x ∷ ls)) ∙ e) ∙ sym (le-leb k (suc (length ls)) l)
    go false e true f ih = let g = leb-true k (length ls) f in ap (λ (m : List Bytes). goes_deeper m r) (last_cons k x ls g) ∙ ih g
    go false e false f ih =
        let g = leb-false k (length ls) f in
        let z : k ≡ suc (length ls) = omega arith in
        ap (λ (n : ℕ). goes_deeper (last_of n (x ∷ ls)) r) z ∙ ap (λ (m : List Bytes). goes_deeper m r) (last_whole (x ∷ ls)) ∙ e ∙ sym (lt-leb k (depth_of ls r) (omega (arith, depth_le ls r)))

leb_max : (k a b : ℕ) → (leb k a || leb k b) ≡ leb k (max a b)
leb_max k a b = go (leb k a) (leb k b) refl refl
  where
    go : (u v : Bool) → leb k a ≡ u → leb k b ≡ v → (u || v) ≡ leb k (max a b)
    go true v e f = let g = leb-true k a e in sym (le-leb k (max a b) (omega arith))
    go false true e f = let g = leb-true k b f in sym (le-leb k (max a b) (omega arith))
    go false false e f = let g = leb-false k a e in let h = leb-false k b f in sym (lt-leb k (max a b) (omega arith))

pub any_depth : (k : ℕ) (hl : List Bytes) (rules : List Rule) → 1 ≤ k → k ≤ length hl → any (goes_deeper (last_of k hl)) rules ≡ leb k (deepest hl rules)
unfolding any deepest
any_depth k hl [] h l = sym (lt-leb k 0 h)
any_depth k hl (r ∷ rules) h l = rw (leb_depth k hl r h l, any_depth k hl rules h l) (leb_max k (depth_of hl r) (deepest hl rules))

-- a rule that does not go deeper than one label more than d
pub shallow : (host tail : Bytes) (r : Rule) (d : ℕ) {b : Bool} → Past host tail d → b ≡ goes_deeper (labels tail) r → b ≡ false → d ≡ max d (depth_of (labels host) r)
shallow host tail r d T t w = go (ltb d (length (labels host))) refl
  where
    go : (u : Bool) → ltb d (length (labels host)) ≡ u → d ≡ max d (depth_of (labels host) r)
    go true l =
        let m = leb_depth (suc d) (labels host) r (omega arith) (ltb-true d (length (labels host)) l) in
        let f : leb (suc d) (depth_of (labels host) r) ≡ false = sym m ∙ ap (λ (ls : List Bytes). goes_deeper ls r) (sym T.is) ∙ sym t ∙ w in
        omega (arith, leb-false (suc d) (depth_of (labels host) r) f)
    go false l = omega (arith, ltb-false d (length (labels host)) l, depth_le (labels host) r)

pub past_is : (host : Bytes) (d : ℕ) {at : ℕ} → Stands (last_of (suc d) (labels host)) host at → Past host (take (length host - at) (drop at host)) d
past_is host d {at} S = record { is = ap labels (rest_whole host at ∙ S.is) ∙ last_names host (suc d) (omega arith) }

-- ---- one line

pub depth_one : (hl : List Bytes) (r : Rule) → depth_of hl r ≡ line_depth hl (one_rule (Some r))
unfolding line_depth one_rule deepest
depth_one hl r = omega arith

line_skip : (hl : List Bytes) (w : Bytes) → is_skipped w ≡ true → 0 ≡ line_depth hl (read_line w)
unfolding read_line line_depth deepest
line_skip hl w e = rw e

module _ (h w : Bytes) where
  pub depth_empty : length w ≡ 0 → 0 ≡ line_depth (labels h) (read_line w)
  depth_empty e = line_skip (labels h) w (empty_skipped w e)

  pub depth_comment : {c : Bool} → c ≡ begins_with (47 ∷ 47 ∷ []) w → c ≡ true → 0 ≡ line_depth (labels h) (read_line w)
  depth_comment e f = line_skip (labels h) w (comment_skipped w (sym e ∙ f))

-- ---- the pass

pub lines_rules : (hl ls : List Bytes) (rules : List Rule) → read_lines ls ≡ Some rules → lines_depth hl ls ≡ deepest hl rules
unfolding read_lines lines_depth deepest
lines_rules hl [] rules e = let z : rules ≡ [] = cc in rw z
lines_rules hl (l ∷ ls) rules e = go (is_skipped (content l)) (read_rule (content l)) (read_lines ls) refl refl (lines_rules hl ls) e
  where
    line_of : (u : Bool) (o : Option Rule) → is_skipped (content l) ≡ u → read_rule (content l) ≡ o → read_line (content l) ≡ (if u then Some [] else one_rule o)
    line_of u o e f = unfold read_line in (rw (e, f))

    go : (u : Bool) (o : Option Rule) (os : Option (List Rule)) → is_skipped (content l) ≡ u → read_rule (content l) ≡ o
        → ((rs : List Rule) → os ≡ Some rs → lines_depth hl ls ≡ deepest hl rs)
        → (if u then os else (o >>= λ r. os >>= λ rs. Some (r ∷ rs))) ≡ Some rules → max (line_depth hl (read_line (content l))) (lines_depth hl ls) ≡ deepest hl rules
    go true o os e f ih p =
        let d : line_depth hl (read_line (content l)) ≡ 0 = ap (line_depth hl) (line_of true o e f) ∙ (unfold line_depth deepest in refl) in
        rw (d, ih rules p) (omega arith)
    go false None os e f ih p = let z : ◌≡◌ {A = ℕ} 0 1 = cc in absurd (omega arith)
    go false (Some r) None e f ih p = let z : ◌≡◌ {A = ℕ} 0 1 = cc in absurd (omega arith)
    go false (Some r) (Some rs) e f ih p =
        let d : line_depth hl (read_line (content l)) ≡ depth_of hl r = ap (line_depth hl) (line_of false (Some r) e f) ∙ sym (depth_one hl r) in
        let z : rules ≡ r ∷ rs = cc in
        rw (d, ih rs refl, z)

pub lines_more : (hl : List Bytes) (l : Bytes) (ls : List Bytes) → lines_depth hl (l ∷ ls) ≡ max (line_depth hl (read_line (content l))) (lines_depth hl ls)
unfolding lines_depth
lines_more hl l ls = refl

pub lines_done : (hl : List Bytes) → lines_depth hl (split_at 10 []) ≡ lines_depth hl []
unfolding lines_depth split_at read_line content take_while is_skipped line_depth deepest
lines_done hl = refl

-- lines that find something are good
pub found_good : (hl : List Bytes) (o : Option (List Rule)) {s : Sizes} → Some s ≡ best_of hl o → is_none o ≡ false
unfolding best_of
found_good hl None z = let w : ◌≡◌ {A = ℕ} 0 1 = cc in absurd (omega arith)
found_good hl (Some rs) z = refl

pub line_good : (hl : List Bytes) (x : Bytes) {q : Option Sizes} {s : Sizes} → q ≡ best_of hl (read_line x) → q ≡ Some s → Good x
line_good hl x p t = record { is = found_good hl (read_line x) (sym t ∙ p) }

-- a good table is not too long
pub table_short : (table : Bytes) → is_none (read_table table) ≡ false → length table ≤ 1048576
unfolding read_table
table_short table g = go (leb (length table) 1048576) refl g
  where
    go : (u : Bool) → leb (length table) 1048576 ≡ u → is_none (if u then read_lines (split_at 10 table) else None) ≡ false → length table ≤ 1048576
    go true e g = leb-true (length table) 1048576 e
    go false e g = true_false g

pub table_read : (table : Bytes) → length table ≤ 1048576 → read_lines (split_at 10 table) ≡ read_table table
unfolding read_table
table_read table l = rw (le-leb (length table) 1048576 l)
