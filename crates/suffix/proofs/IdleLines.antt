-- Lines that find nothing for a host. Assumes nothing.
use Rattle.std.specs.Prelude.{if◌then◌else◌, Option, Some, slice_get}
use mathlib.Core.Path.{◌≡◌, refl, sym, ap, ◌∙◌}
use mathlib.Core.Bool.{Bool, true, false, ◌&&◌, ◌||◌, and-eq-true_iff}
use mathlib.Core.List.{List, [], ◌∷◌, map}
use Prim.Native.Nat.{ℕ, zero, suc, ◌+◌, ◌-◌, ◌≤◌, ◌<◌, max}
use native.Mathlib.Omega.{arith}
use lib.ListN.{length, get_or, drop, length-drop, get_or-map}
use lib.Seq.{drop-cons, get_or-drop}
use lib.Dec.{eqb, leb, ltb}
use borrow.Author.Tests.{ne_eqb, eqb-true, eqb-false, leb-true, le-ltb, ltb-false}
use Rattle.ascii.specs.Ascii.{Bytes, take_while, last_of, is_upper, lower_byte, lower, same, same_no_case, split_at, is_digit, is_letter, begins_with}
use Rattle.ascii.proofs.Scan.{scan_to}
use Rattle.ascii.proofs.Split.{join_split}
use Rattle.hosts.specs.Host.{labels, is_label_byte, is_host}
use Rattle.hosts.specs.code.Place.{Stands, is_boundary, ends_at_label}
use Rattle.suffix.specs.Suffix.{normal, is_blank, read_rule, read_lines}
use Rattle.suffix.specs.code.Pass.{sizes_of, sized, best_of, join_best, one_rule, read_line, in_line, in_content}
use Rattle.suffix.specs.code.Depth.{line_depth, lines_depth, Past}
use Rattle.suffix.specs.code.Deeper.{goes_deeper}
use Rattle.suffix.specs.declared.Sizes.{Sizes}
use Rattle.suffix.specs.code.Passed.{lines_from}
use Rattle.suffix.specs.code.Idle.{Idle, Shallow, last_byte, is_alphanumeric, is_like}
use Rattle.ascii.proofs.Compare.{same_eq}
use Rattle.hosts.proofs.Ends.{true_false, labels_some, begin_labels, begin_is, ends_whole}
use Rattle.hosts.proofs.Shapes.{host_empty}
use Rattle.suffix.proofs.Lines.{no_host, rule_host, host_yes, host_no, begins_is, other_read, line_empty, line_comment}
use Rattle.suffix.proofs.Passes.{lines_of, join_zero, join_join, lines_at}
use Rattle.suffix.proofs.Deepens.{name_not, name_ends}
use Rattle.suffix.proofs.Cuts.{depth_both}
use Rattle.suffix.proofs.PassedLines.{passed_none, passed_on, passed_more, passed_line}
use Rattle.suffix.proofs.Climbs.{lines_rules, shallow, depth_one, lines_done, line_good, depth_empty, depth_comment}
use Rattle.suffix.proofs.PlainHosts.{no_plain, dot_plain}

-- ---- places

pub idle_none : (host table : Bytes) (at : ℕ) → at ≤ length table + 1 → Idle host table at at
idle_none host table at h = record { onward = omega arith; inside = h; best = refl; passed = passed_none host table at }

pub idle_on : (host table : Bytes) {from at to : ℕ} → Idle host table from at → Idle host table at to → Idle host table from to
idle_on host table I J = record {
  onward = omega (arith, I.onward, J.onward);
  inside = J.inside;
  best = I.best ∙ J.best;
  passed = passed_on I.passed J.passed;
}

-- one line that finds nothing
pub idle_line : (host table : Bytes) (at to : ℕ) → at ≤ length table → to ≡ at + length (take_while in_line (drop at table))
    → sized 0 0 ≡ best_of (labels host) (read_line (take_while in_content (drop at table))) → 0 ≡ line_depth (labels host) (read_line (take_while in_content (drop at table))) → Idle host table at (to + 1)
idle_line host table at to h g b d =
    record {
      onward = omega (arith, g);
      inside = omega (arith, scan_to in_line table at to g h);
      best = lines_at (labels host) table at to g ∙ rw (← b) (join_zero (best_of (labels host) (read_lines (split_at 10 (drop (to + 1) table)))));
      passed = passed_line host table 0 at to h g (line_good (labels host) (take_while in_content (drop at table)) b refl) (omega (arith, d));
    }

-- ---- comments and empty lines

module _ (host table : Bytes) (at : ℕ) (h : at < length table) where
  pub idle_empty : get_or table at 0 ≡ 10 → Idle host table at (at + 1)
  unfolding take_while in_content in_line
  idle_empty e =
      let l : drop at table ≡ 10 ∷ drop (suc at) table = drop-cons table at 0 h ∙ rw e in
      let n : length (take_while in_content (drop at table)) ≡ 0 = rw l in
      let g : at ≡ at + length (take_while in_line (drop at table)) = rw l (omega arith) in
      idle_line host table at at (omega arith) g (line_empty host (take_while in_content (drop at table)) n) (depth_empty host (take_while in_content (drop at table)) n)

  module _ (k : at + 1 < length table) (e : get_or table at 0 ≡ 47) (f : get_or table (at + 1) 0 ≡ 47) where
    two : drop at table ≡ 47 ∷ 47 ∷ drop (at + 2) table
    two =
        let m : suc at < length table = omega arith in
        let p : at + 1 ≡ suc at = omega arith in
        let q : at + 2 ≡ suc (suc at) = omega arith in
        drop-cons table at 0 h ∙ rw (e, q, drop-cons table (suc at) 0 m, ← p, f)

    pub idle_comment : {to : ℕ} → to ≡ at + 2 + length (take_while in_line (drop (at + 2) table)) → Idle host table at (to + 1)
    unfolding take_while in_content in_line is_blank begins_with
    idle_comment {to} g =
        let i : to ≡ at + length (take_while in_line (drop at table)) = rw two (omega (arith, g)) in
        let c : true ≡ begins_with (47 ∷ 47 ∷ []) (take_while in_content (drop at table)) = rw two in
        idle_line host table at to (omega arith) i (line_comment host (take_while in_content (drop at table)) c refl) (depth_comment host (take_while in_content (drop at table)) c refl)

-- ---- hosts

host_read : (w : Bytes) → is_host w ≡ true → read_line w ≡ one_rule (read_rule w)
unfolding read_line
host_read w h = rw (other_read w some (first (begins_with (47 ∷ 47 ∷ []) w) refl))
  where
    some : length w ≡ 0 → ⊥
    some e = true_false (sym h ∙ sym (host_empty w (omega arith)))

    slash : is_label_byte 47 ≡ false
    slash = unfold is_label_byte is_letter is_upper is_digit in refl

    first : (u : Bool) → begins_with (47 ∷ 47 ∷ []) w ≡ u → u ≡ false
    first false e = refl
    first true e = true_false (sym h ∙ ap is_host (begins_is (47 ∷ 47 ∷ []) w e) ∙ no_host 47 (47 ∷ drop 2 w) slash (λ z. omega arith))

-- a host that is no end of the other, and has not the other's last labels, one more than d, for an end
pub record FindsTo (host w : Bytes) (d : ℕ) : Type 0 where
  pub best : sized 0 0 ≡ best_of (labels host) (read_line w)
  pub depth : line_depth (labels host) (read_line w) ≤ d

pub finds_to : (host tail w : Bytes) (d : ℕ) → is_host w ≡ true → Past host tail d → ends_at_label w host ≡ false → ends_at_label tail w ≡ false → FindsTo host w d
finds_to host tail w d h T e f = record {
  best = rw (host_read w h) (host_no host w h (sym e) refl);
  depth = rw (host_read w h, rule_host w h, ← depth_one (labels host) (normal (labels w))) (omega (arith, shallow host tail (normal (labels w)) d T (name_not tail w h false (sym f) refl) refl));
}

-- a host that is no end of the other of more than m labels
pub record Brings (host w : Bytes) (m d : ℕ) : Type 0 where
  pub size : ℕ
  pub small : size ≤ m
  pub best : sized 0 size ≡ best_of (labels host) (read_line w)
  pub depth : line_depth (labels host) (read_line w) ≤ d

not_deeper : (tail w : Bytes) → is_host w ≡ true → (ltb (length tail) (length w) && ends_at_label tail w) ≡ false → false ≡ goes_deeper (labels tail) (normal (labels w))
not_deeper tail w h f = go (ends_at_label tail w) refl (ltb (length tail) (length w)) refl f
  where
    go : (u : Bool) → ends_at_label tail w ≡ u → (v : Bool) → ltb (length tail) (length w) ≡ v → (v && u) ≡ false → false ≡ goes_deeper (labels tail) (normal (labels w))
    go false e v l f = name_not tail w h false (sym e) refl
    go true e true l f = true_false f
    go true e false l f =
        let n = ends_whole tail w e (ltb-false (length tail) (length w) l) in
        sym (le-ltb (length (labels tail)) (length (labels w)) n) ∙ name_ends tail w h false (sym e) refl refl refl

pub brings_to : (host tail w : Bytes) (m d : ℕ) → is_host w ≡ true → Past host tail d → (ends_at_label w host && ltb m (length (labels w))) ≡ false
    → (ltb (length tail) (length w) && ends_at_label tail w) ≡ false → Brings host w m d
brings_to host tail w m d h T e f = go (ends_at_label w host) refl e
  where
    deep : line_depth (labels host) (read_line w) ≤ d
    deep = rw (host_read w h, rule_host w h, ← depth_one (labels host) (normal (labels w))) (omega (arith, shallow host tail (normal (labels w)) d T (not_deeper tail w h f) refl))

    go : (u : Bool) → ends_at_label w host ≡ u → (u && ltb m (length (labels w))) ≡ false → Brings host w m d
    go true k e = record { size = length (labels w); small = ltb-false m (length (labels w)) e; best = rw (host_read w h) (host_yes host w h (sym k) refl refl); depth = deep }
    go false k e = record { size = 0; small = omega arith; best = rw (host_read w h) (host_no host w h (sym k) refl); depth = deep }

-- ---- last bytes

-- the last byte, 0 where there is none
unfoldable pub end_byte : Bytes → ℕ
end_byte s = get_or s (length s - 1) 0

lower_zero : lower_byte 0 ≡ 0
unfolding lower_byte is_upper
lower_zero = refl

last_lower : (s : Bytes) (n : ℕ) → get_or (lower s) n 0 ≡ lower_byte (get_or s n 0)
unfolding lower
last_lower s n = ap (get_or (map lower_byte s) n) (sym lower_zero) ∙ get_or-map lower_byte s n 0

ends_last : (w h : Bytes) → 1 ≤ length w → ends_at_label w h ≡ true → lower_byte (end_byte w) ≡ lower_byte (end_byte h)
unfolding ends_at_label same_no_case end_byte
ends_last w h l e =
    let p = (and-eq-true_iff (leb (length w) (length h) && is_boundary (length h - length w) h) (same (lower (drop (length h - length w) h)) (lower w))).0 e in
    let q = (and-eq-true_iff (leb (length w) (length h)) (is_boundary (length h - length w) h)).0 p.0 in
    let m : length w ≤ length h = leb-true (length w) (length h) q.0 in
    let s : lower (drop (length h - length w) h) ≡ lower w = same_eq (lower (drop (length h - length w) h)) (lower w) p.1 in
    let i : length h - length w + (length w - 1) ≡ length h - 1 = omega arith in
    sym (last_lower w (length w - 1)) ∙ ap (λ (t : Bytes). get_or t (length w - 1) 0) (sym s) ∙ last_lower (drop (length h - length w) h) (length w - 1)
    ∙ ap lower_byte (get_or-drop (length h - length w) h (length w - 1) 0 ∙ ap (λ (n : ℕ). get_or h n 0) i)

ends_empty : (w : Bytes) → 1 ≤ length w → ends_at_label [] w ≡ true → end_byte w ≡ 46
unfolding ends_at_label is_boundary end_byte
ends_empty w l e =
    let z : length w - 0 ≡ length w = omega arith in
    let p = (and-eq-true_iff (leb 0 (length w) && (eqb (length w - 0) 0 || eqb (get_or w (length w - 0 - 1) 0) 46)) (same_no_case (drop (length w - 0) w) [])).0 e in
    let q = (and-eq-true_iff (leb 0 (length w)) (eqb (length w - 0) 0 || eqb (get_or w (length w - 0 - 1) 0) 46)).0 p.0 in
    let n : length w ≡ 0 → ⊥ = λ z. omega arith in
    eqb-true (get_or w (length w - 1) 0) 46 (rw (z, ne_eqb (length w) 0 n) at q.1)

-- the host's last label
record Ending (host : Bytes) : Type 0 where
  pub tail : Bytes
  pub is : Past host tail 0
  pub last : 1 ≤ length tail → end_byte tail ≡ end_byte host

last_label : (ls : List Bytes) → last_of 1 ls ≡ drop (length ls - 1) ls
unfolding last_of
last_label ls = refl

last_drop : (k : ℕ) (s : Bytes) → k ≤ length s → 1 ≤ length (drop k s) → end_byte (drop k s) ≡ end_byte s
unfolding end_byte
last_drop k s h l =
    let i : k + (length (drop k s) - 1) ≡ length s - 1 = omega (arith, length-drop k s) in
    get_or-drop k s (length (drop k s) - 1) 0 ∙ ap (λ (n : ℕ). get_or s n 0) i

ending : (host : Bytes) → Ending host
ending host =
    let s = labels_some host in
    let B = begin_labels host (length (labels host) - 1) (omega arith) in
    record {
      tail = drop B.place host;
      is = record { is = sym (begin_is host (length (labels host) - 1) B) ∙ sym (last_label (labels host)) };
      last = last_drop B.place host B.inside;
    }

none_of : (b : Bool) → (b ≡ true → ⊥) → b ≡ false
none_of true n = absurd (n refl)
none_of false n = refl

pub finds_unlike : (host w : Bytes) → is_host w ≡ true → is_alphanumeric (end_byte w) ≡ true → (lower_byte (end_byte w) ≡ lower_byte (end_byte host) → ⊥) → FindsTo host w 0
finds_unlike host w h p n =
    let E = ending host in
    finds_to host E.tail w 0 h E.is (none_of (ends_at_label w host) (λ e. n (ends_last w host some e))) (none_of (ends_at_label E.tail w) (apart E.tail E.last))
  where
    some : 1 ≤ length w
    some = go (length w) refl
      where
        go : (k : ℕ) → length w ≡ k → 1 ≤ k
        go zero e = true_false (sym h ∙ sym (host_empty w (omega arith)))
        go (suc k) e = omega arith

    apart : (t : Bytes) → (1 ≤ length t → end_byte t ≡ end_byte host) → ends_at_label t w ≡ true → ⊥
    apart [] f e = no_plain (end_byte w) 46 p (ends_empty w some e) dot_plain
    apart (b ∷ t) f e = n (sym (ends_last (b ∷ t) w (omega arith) e) ∙ ap lower_byte (f (omega arith)))

-- a letter or digit that is not like the last byte of the host, which may have none
get_last : (b : ℕ) (s : Bytes) (i : ℕ) → i ≤ length s → slice_get (b ∷ s) i ≡ Some (get_or (b ∷ s) i 0)
get_last b s zero h = refl
get_last b [] (suc i) h = absurd (omega arith)
get_last b (c ∷ s) (suc i) h = get_last c s i (omega arith)

zero_plain : is_alphanumeric 0 ≡ false
unfolding is_alphanumeric is_letter is_upper is_digit
zero_plain = refl

lower_plain : (b : ℕ) → lower_byte b ≡ 0 → b ≡ 0
unfolding lower_byte
lower_plain b e = go (is_upper b) e
  where
    go : (u : Bool) → (if u then b + 32 else b) ≡ 0 → b ≡ 0
    go true e = omega arith
    go false e = e

pub unlike : (host : Bytes) (b : ℕ) → is_alphanumeric b ≡ true → is_like (last_byte host) b ≡ false → lower_byte b ≡ lower_byte (end_byte host) → ⊥
unfolding last_byte is_like end_byte
unlike [] b p n e = no_plain b 0 p (lower_plain b (e ∙ lower_zero)) zero_plain
unlike (c ∷ s) b p n e =
    let z : suc (length s) - 1 ≡ length s = omega arith in
    eqb-false (lower_byte b) (lower_byte (get_or (c ∷ s) (length s) 0)) (rw (z, get_last c s (length s) (omega arith)) at n) (rw z at e)

-- ---- the host's last labels, one more than the depth d

pub stands_whole : (host : Bytes) (k : ℕ) → length (labels host) ≤ k → Stands (last_of k (labels host)) host 0
unfolding last_of labels
stands_whole host k h = let z : length (split_at 46 host) - k ≡ 0 = omega (arith, h) in record { inside = omega arith; is = rw z (sym (join_split 46 host)) }

pub tail_whole : (host : Bytes) (d : ℕ) {n : ℕ} → n ≤ d → n ≡ length (labels host) → Stands (last_of (suc d) (labels host)) host 0
tail_whole host d h e = stands_whole host (suc d) (omega (arith, e))

join_small : (m n : ℕ) (b : Option Sizes) → n ≤ m → join_best (sized 0 m) (join_best (sized 0 n) b) ≡ join_best (sized 0 m) b
join_small m n b h = let z : max m n ≡ m = omega arith in join_join (sizes_of 0 m) (sizes_of 0 n) b ∙ rw z

pub shallow_line : (host table : Bytes) (m d at to : ℕ) → at ≤ length table → to ≡ at + length (take_while in_line (drop at table)) → Brings host (take_while in_content (drop at table)) m d → Shallow host table m d at (to + 1)
shallow_line host table m d at to h g F =
    record {
      onward = omega (arith, g);
      inside = omega (arith, scan_to in_line table at to g h);
      best = ap (join_best (sized 0 m)) (lines_at (labels host) table at to g) ∙ rw (← F.best) (join_small m F.size (best_of (labels host) (read_lines (split_at 10 (drop (to + 1) table)))) F.small);
      passed = passed_line host table d at to h g (line_good (labels host) (take_while in_content (drop at table)) F.best refl) F.depth;
    }

-- how deep the lines go from a place, and from another behind lines that go no deeper than d
pub shallow_depth : {host table : Bytes} {m d from to : ℕ} → Shallow host table m d from to
    → max d (lines_depth (labels host) (split_at 10 (drop from table))) ≡ max d (lines_depth (labels host) (split_at 10 (drop to table)))
shallow_depth {host} {table} {d = d} {from = from} {to = to} I =
    let P = I.passed in
    let a = lines_rules (labels host) P.lines P.rules P.read in
    let e : (at : ℕ) → lines_depth (labels host) (lines_from table at) ≡ lines_depth (labels host) (split_at 10 (drop at table)) = lines_of (lines_depth (labels host)) (lines_done (labels host)) table in
    rw (← e from, ← e to, P.are, depth_both (labels host) P.lines (lines_from table to), a) (omega (arith, P.depth))

pub shallow_of : {host table : Bytes} (m d : ℕ) {from to : ℕ} → Idle host table from to → Shallow host table m d from to
shallow_of m d I = record {
  onward = I.onward;
  inside = I.inside;
  best = ap (join_best (sized 0 m)) I.best;
  passed = passed_more (omega arith) I.passed;
}

pub shallow_on : {host table : Bytes} {m d from at to : ℕ} → Shallow host table m d from at → Shallow host table m d at to → Shallow host table m d from to
shallow_on I J = record {
  onward = omega (arith, I.onward, J.onward);
  inside = J.inside;
  best = I.best ∙ J.best;
  passed = passed_on I.passed J.passed;
}
