-- A host that ends in the label of another has that label exactly where both have as long a public suffix; where no rule goes
-- deeper than the label, always. Assumes nothing.
use Rattle.std.specs.Prelude.{if◌then◌else◌, Option, None, Some}
use mathlib.Core.Path.{◌≡◌, refl, sym, ap, ◌∙◌}
use mathlib.Core.Bool.{Bool, true, false, ◌&&◌, ◌||◌, and-eq-true_iff}
use mathlib.Core.List.{List, [], ◌∷◌, map}
use Prim.Native.Nat.{ℕ, zero, suc, ◌+◌, ◌-◌, ◌≤◌, ◌<◌}
use native.Mathlib.Omega.{arith}
use lib.ListN.{length, drop, length-drop, length-map}
use lib.Seq.{drop-drop}
use lib.Dec.{eqb, leb}
use borrow.Author.Tests.{eq-eqb, eqb-true, lt-ltb, lt-leb, le-leb, leb-true, leb-false}
use Rattle.ascii.specs.Ascii.{Bytes, ◌>>=◌, between, all, any, filter_by, last_of, split_at, join_with, is_digit, lower, same_no_case}
use Rattle.ascii.proofs.Split.{join_split}
use Rattle.hosts.specs.Host.{labels, is_label, is_host, is_address}
use Rattle.hosts.specs.code.Place.{ends_at_label}
use Rattle.suffix.specs.Suffix.{Rule, normal, name_matches, all_match, matches, prevailing, suffix_size, public_suffix, private_labels, label_under, read_table, private_label}
use Rattle.suffix.specs.code.Deeper.{goes_deeper, deeper_in, is_deeper, is_the_label}
use Rattle.hosts.proofs.Case.{last_map, is_address_lem}
use Rattle.suffix.proofs.Case.{all_match_lem}
use Rattle.suffix.proofs.Answers.{Found}
use Rattle.ascii.proofs.Compare.{same_eq}
use Rattle.hosts.proofs.Ends.{Alike, both_ways, true_false, same_refl, labels_some, begin_labels, begin_is, names_lower, lower_names}
use Rattle.suffix.proofs.Ends.{all_equal, all_matching, ends_match, match_ends}

-- ---- lists of labels, without regard to case

alike_length : (ls ms : List Bytes) → Alike ls ms → length ls ≡ length ms
alike_length ls ms e = sym (length-map ls lower) ∙ ap length e ∙ length-map ms lower

alike_match : (ns ls ms : List Bytes) → Alike ls ms → all_match ns ls ≡ all_match ns ms
alike_match ns ls ms e = sym (all_match_lem ns ls) ∙ ap (all_match ns) e ∙ all_match_lem ns ms

alike_last : (n : ℕ) (ls ms : List Bytes) → Alike ls ms → Alike (last_of n ls) (last_of n ms)
alike_last n ls ms e = sym (last_map lower n ls) ∙ ap (last_of n) e ∙ last_map lower n ms

match_drop : (m : ℕ) (ns ls : List Bytes) → all_match ns ls ≡ true → all_match (drop m ns) (drop m ls) ≡ true
unfolding all_match
match_drop zero ns ls e = e
match_drop (suc m) [] [] e = refl
match_drop (suc m) [] (l ∷ ls) e = true_false (sym e)
match_drop (suc m) (n ∷ ns) [] e = true_false (sym e)
match_drop (suc m) (n ∷ ns) (l ∷ ls) e = match_drop m ns ls ((and-eq-true_iff (name_matches n l) (all_match ns ls)).0 e).1

pub length_last : (n : ℕ) (ls : List Bytes) → n ≤ length ls → length (last_of n ls) ≡ n
unfolding last_of
length_last n ls h = length-drop (length ls - n) ls ∙ omega arith

pub last_last : (j k : ℕ) (ls : List Bytes) → j ≤ k → k ≤ length ls → last_of j (last_of k ls) ≡ last_of j ls
unfolding last_of
last_last j k ls h l =
    let e : length (drop (length ls - k) ls) ≡ k = length-drop (length ls - k) ls ∙ omega arith in
    let f : length ls - k + (k - j) ≡ length ls - j = omega arith in
    rw (e, drop-drop, f)

last_drop : (j k : ℕ) (ls : List Bytes) → k ≤ j → j ≤ length ls → drop (j - k) (last_of j ls) ≡ last_of k ls
unfolding last_of
last_drop j k ls h l = let f : length ls - j + (j - k) ≡ length ls - k = omega arith in rw (drop-drop, f)

pub deep_match : (k : ℕ) (ns host : List Bytes) → k ≤ length ns → length ns ≤ length host → all_match ns (last_of (length ns) host) ≡ true → all_match (last_of k ns) (last_of k host) ≡ true
unfolding last_of
deep_match k ns host h l m = rw (← last_drop (length ns) k host h l) (match_drop (length ns - k) ns (last_of (length ns) host) m)

-- ---- the rules that match a host are those that match its label

module _ (ls host : List Bytes) (l : length ls ≤ length host) (e : Alike (last_of (length ls) host) ls) where
  pub rule_same : (r : Rule) → goes_deeper ls r ≡ false → matches host r ≡ matches ls r
  unfolding goes_deeper matches
  rule_same r d = go (leb (length r.names) (length ls)) refl
    where
      deep : length ls < length r.names → length r.names ≤ length host → all_match r.names (last_of (length r.names) host) ≡ true → ⊥
      deep a b m =
          let y = deep_match (length ls) r.names host (omega arith) b m in
          let z : (true && true) ≡ false = rw (lt-ltb (length ls) (length r.names) a, sym (alike_match (last_of (length ls) r.names) (last_of (length ls) host) ls e) ∙ y) at d in
          true_false z

      go : (u : Bool) → leb (length r.names) (length ls) ≡ u
          → (leb (length r.names) (length host) && all_match r.names (last_of (length r.names) host)) ≡ (u && all_match r.names (last_of (length r.names) ls))
      go true a =
          let b = leb-true (length r.names) (length ls) a in
          rw (le-leb (length r.names) (length host) (omega arith), ← last_last (length r.names) (length ls) host b l)
          (alike_match r.names (last_of (length r.names) (last_of (length ls) host)) (last_of (length r.names) ls) (alike_last (length r.names) (last_of (length ls) host) ls e))
      go false a = both_ways (leb (length r.names) (length host) && all_match r.names (last_of (length r.names) host)) false
          (λ t. let p = (and-eq-true_iff (leb (length r.names) (length host)) (all_match r.names (last_of (length r.names) host))).0 t in
          absurd (deep (leb-false (length r.names) (length ls) a) (leb-true (length r.names) (length host) p.0) p.1))
          (λ t. true_false (sym t))

  pub rules_same : (rules : List Rule) → any (goes_deeper ls) rules ≡ false → filter_by (matches host) rules ≡ filter_by (matches ls) rules
  unfolding any filter_by
  rules_same [] d = refl
  rules_same (r ∷ rules) d = go (goes_deeper ls r) refl d (rules_same rules)
    where
      go : (u : Bool) → goes_deeper ls r ≡ u → (u || any (goes_deeper ls) rules) ≡ false
          → (any (goes_deeper ls) rules ≡ false → filter_by (matches host) rules ≡ filter_by (matches ls) rules)
          → (if matches host r then r ∷ filter_by (matches host) rules else filter_by (matches host) rules) ≡ (if matches ls r then r ∷ filter_by (matches ls) rules else filter_by (matches ls) rules)
      go true a d ih = true_false d
      go false a d ih = rw (rule_same r a, ih d)

  pub address_same : 1 ≤ length ls → is_address host ≡ is_address ls
  address_same h = alone host ∙ ap (all (all is_digit)) (sym (last_last 1 (length ls) host h l)) ∙ sym (alone (last_of (length ls) host))
      ∙ sym (is_address_lem (last_of (length ls) host)) ∙ ap is_address e ∙ is_address_lem ls
    where
      alone : (x : List Bytes) → is_address x ≡ all (all is_digit) (last_of 1 x)
      alone x = unfold is_address in refl

-- ---- what it is to be a private label

pub record LabelIs (rules : List Rule) (host ls : List Bytes) : Type 0 where
  pub size : ℕ
  pub suffix : suffix_size (prevailing (filter_by (matches host) rules)) ≡ size
  pub below : size < length host
  pub name : is_address host ≡ false
  pub is : ls ≡ last_of (size + 1) host

pub label_is : (rules : List Rule) (host ls : List Bytes) → private_labels rules host ≡ Some ls → LabelIs rules host ls
unfolding private_labels public_suffix
label_is rules host ls p = go (is_address host) (leb (length host) (length (last_of n host))) refl refl p
  where
    n : ℕ
    n = suffix_size (prevailing (filter_by (matches host) rules))

    go : (u v : Bool) → is_address host ≡ u → leb (length host) (length (last_of n host)) ≡ v
        → (if u then None else if v then None else Some (last_of (length (last_of n host) + 1) host)) ≡ Some ls → LabelIs rules host ls
    go true v a b p = let z : ◌≡◌ {A = ℕ} 0 1 = cc in absurd (omega arith)
    go false true a b p = let z : ◌≡◌ {A = ℕ} 0 1 = cc in absurd (omega arith)
    go false false a b p =
        let x = leb-false (length host) (length (last_of n host)) b in
        let y : length (last_of n host) ≡ length host - (length host - n) = unfold last_of in (length-drop (length host - n) host) in
        let f : length (last_of n host) ≡ n = omega arith in
        let q : last_of (length (last_of n host) + 1) host ≡ ls = cc in
        record { size = n; suffix = refl; below = omega arith; name = a; is = sym q ∙ rw f }

pub is_label_lem : (rules : List Rule) (host : List Bytes) (n : ℕ) → suffix_size (prevailing (filter_by (matches host) rules)) ≡ n → n < length host → is_address host ≡ false
    → private_labels rules host ≡ Some (last_of (n + 1) host)
unfolding private_labels public_suffix
is_label_lem rules host n s b a = let f = length_last n host (omega arith) in rw (a, s, f, lt-leb (length host) n b)

-- ---- the law, on labels

module _ (rules : List Rule) (host₀ ls : List Bytes) (p : private_labels rules host₀ ≡ Some ls) where
  P : LabelIs rules host₀ ls
  P = label_is rules host₀ ls p

  size_ls : length ls ≡ P.size + 1
  size_ls = ap length P.is ∙ length_last (P.size + 1) host₀ (omega (arith, P.below))

  pub own : Alike (last_of (length ls) host₀) ls
  own = let e : last_of (length ls) host₀ ≡ ls = rw size_ls (sym P.is) in ap (map lower) e

  pub inside : length ls ≤ length host₀
  inside = omega (arith, size_ls, P.below)

  module _ (host : List Bytes) where
    -- where no rule goes deeper, the public suffix is as long as that of the first host
    same_size : any (goes_deeper ls) rules ≡ false → length ls ≤ length host → Alike (last_of (length ls) host) ls → suffix_size (prevailing (filter_by (matches host) rules)) ≡ P.size
    same_size d l e = ap (λ (ms : List Rule). suffix_size (prevailing ms)) (rules_same ls host l e rules d ∙ sym (rules_same ls host₀ inside own rules d)) ∙ P.suffix

    alike_labels : suffix_size (prevailing (filter_by (matches host) rules)) ≡ P.size → length ls ≤ length host → Alike (last_of (length ls) host) ls → private_labels rules host ≡ Some (last_of (length ls) host)
    alike_labels f l e =
        let a : is_address host ≡ false =
        address_same ls host l e (omega (arith, size_ls)) ∙ sym (address_same ls host₀ inside own (omega (arith, size_ls))) ∙ P.name in
        is_label_lem rules host P.size f (omega (arith, size_ls)) a ∙ rw size_ls

    record Ends : Type 0 where
      size : suffix_size (prevailing (filter_by (matches host) rules)) ≡ P.size
      fits : length ls ≤ length host
      alike : Alike (last_of (length ls) host) ls

    labels_alike : (ms : List Bytes) → private_labels rules host ≡ Some ms → Alike ms ls → Ends
    labels_alike ms q e =
        let Q = label_is rules host ms q in
        let n : length ms ≡ Q.size + 1 = ap length Q.is ∙ length_last (Q.size + 1) host (omega (arith, Q.below)) in
        let k : length ls ≡ Q.size + 1 = sym (alike_length ms ls e) ∙ n in
        let f : last_of (length ls) host ≡ ms = rw k (sym Q.is) in
        let z : Q.size ≡ P.size = omega (arith, k, size_ls) in
        record { size = Q.suffix ∙ z; fits = omega (arith, Q.below); alike = ap (map lower) f ∙ e }

-- ---- the law, on bytes

joined_labels : (t : Bytes) → labels (join_with 46 (labels t)) ≡ labels t
unfolding labels
joined_labels t = ap (split_at 46) (join_split 46 t)

pub last_names : (h : Bytes) (n : ℕ) → 1 ≤ n → labels (join_with 46 (last_of n (labels h))) ≡ last_of n (labels h)
unfolding last_of
last_names h n l =
    let s = labels_some h in
    let B = begin_labels h (length (labels h) - n) (omega arith) in
    rw (begin_is h (length (labels h) - n) B) (joined_labels (drop B.place h))

pub all_drop : (f : Bytes → Bool) (m : ℕ) (ls : List Bytes) → all f ls ≡ true → all f (drop m ls) ≡ true
unfolding all
all_drop f zero ls e = e
all_drop f (suc m) [] e = refl
all_drop f (suc m) (l ∷ ls) e = all_drop f m ls ((and-eq-true_iff (f l) (all f ls)).0 e).1

pub host_labels : (h : Bytes) → is_host h ≡ true → all is_label (labels h) ≡ true
unfolding is_host
host_labels h e = ((and-eq-true_iff (between 1 253 (length h)) (all is_label (labels h))).0 e).1

-- what stands behind a label that there is
pub record Opened (table host label : Bytes) : Type 0 where
  pub rules : List Rule
  pub read : read_table table ≡ Some rules
  pub good : is_host host ≡ true
  pub parts : List Bytes
  pub found : private_labels rules (labels host) ≡ Some parts
  pub is : label ≡ join_with 46 parts

pub opened : (table host label : Bytes) → private_label table host ≡ Some label → Opened table host label
unfolding private_label
opened table host label p = go (is_host host) (read_table table) refl refl p
  where
    under : (rules : List Rule) → is_host host ≡ true → read_table table ≡ Some rules → (o : Option (List Bytes)) → private_labels rules (labels host) ≡ o
        → (o >>= λ ls. Some (join_with 46 ls)) ≡ Some label → Opened table host label
    under rules a b None c p = let z : ◌≡◌ {A = ℕ} 0 1 = cc in absurd (omega arith)
    under rules a b (Some ls) c p = let e : join_with 46 ls ≡ label = cc in record { rules = rules; read = b; good = a; parts = ls; found = c; is = sym e }

    go : (u : Bool) (o : Option (List Rule)) → is_host host ≡ u → read_table table ≡ o → (if u then (o >>= λ rules. label_under rules host) else None) ≡ Some label → Opened table host label
    go false o a b p = let z : ◌≡◌ {A = ℕ} 0 1 = cc in absurd (omega arith)
    go true None a b p = let z : ◌≡◌ {A = ℕ} 0 1 = cc in absurd (omega arith)
    go true (Some rules) a b p = under rules a b (private_labels rules (labels host)) refl (unfold label_under in p)

module _ (table host₀ label : Bytes) (p : private_label table host₀ ≡ Some label) where
  O : Opened table host₀ label
  O = opened table host₀ label p

  L : LabelIs O.rules (labels host₀) O.parts
  L = label_is O.rules (labels host₀) O.parts O.found

  names : labels label ≡ O.parts
  names = ap labels (O.is ∙ ap (join_with 46) L.is) ∙ last_names host₀ (L.size + 1) (omega arith) ∙ sym L.is

  good : all is_label (labels label) ≡ true
  unfolding last_of
  good = rw (names, L.is) (all_drop is_label (length (labels host₀) - (L.size + 1)) (labels host₀) (host_labels host₀ O.good))

  -- a host that ends in the label at a dot has its labels, last
  pub record Within (h : Bytes) : Type 0 where
    pub fits : length (labels label) ≤ length (labels h)
    pub alike : Alike (last_of (length (labels label)) (labels h)) (labels label)

  pub within : (h : Bytes) → ends_at_label label h ≡ true → Within h
  unfolding matches
  within h t =
      let m = ends_match false label h t in
      let q = (and-eq-true_iff (leb (length (labels label)) (length (labels h))) (all_match (labels label) (last_of (length (labels label)) (labels h)))).0 m in
      record { fits = leb-true (length (labels label)) (length (labels h)) q.0; alike = sym (all_equal (labels label) (last_of (length (labels label)) (labels h)) good q.1) }

  -- so has the first host
  pub home : Within host₀
  home = record { fits = rw names (inside O.rules (labels host₀) O.parts O.found); alike = rw names (own O.rules (labels host₀) O.parts O.found) }

  -- how many labels the public suffix of h has
  size_in : Bytes → ℕ
  size_in h = suffix_size (prevailing (filter_by (matches (labels h)) O.rules))

  size_in_lem : (h : Bytes) {n : ℕ} → Found table h n → size_in h ≡ n
  unfolding size_in
  size_in_lem h F = let e : O.rules ≡ F.rules = go (read_table table) O.read F.read in rw e F.size
    where
      go : (o : Option (List Rule)) {rs ss : List Rule} → o ≡ Some rs → o ≡ Some ss → rs ≡ ss
      go o e f = cc

  home_size : size_in host₀ ≡ L.size
  unfolding size_in
  home_size = L.suffix

  -- the label has one label more than the public suffix
  pub label_size : {n : ℕ} → Found table host₀ n → length (labels label) ≡ n + 1
  label_size {n} F =
      let e : L.size ≡ n = sym home_size ∙ size_in_lem host₀ F in
      ap length (names ∙ L.is) ∙ length_last (L.size + 1) (labels host₀) (omega (arith, L.below)) ∙ rw e

  module _ (h : Bytes) (a : is_host h ≡ true) where
    under : private_label table h ≡ (private_labels O.rules (labels h) >>= λ ls. Some (join_with 46 ls))
    unfolding private_label label_under
    under = rw (a, O.read)

    record Has : Type 0 where
      size : size_in h ≡ L.size
      ends : ends_at_label label h ≡ true

    has : is_the_label label (private_label table h) ≡ true → Has
    unfolding is_the_label same_no_case size_in L P
    has t = go (private_labels O.rules (labels h)) refl (rw under at t)
      where
        go : (o : Option (List Bytes)) → private_labels O.rules (labels h) ≡ o → is_the_label label (o >>= λ ls. Some (join_with 46 ls)) ≡ true → Has
        go None q t = true_false (sym t)
        go (Some ms) q t =
            let Q = label_is O.rules (labels h) ms q in
            let n : labels (join_with 46 ms) ≡ ms = rw Q.is (last_names h (Q.size + 1) (omega arith)) in
            let e : Alike ms O.parts = ap (map lower) (sym n) ∙ names_lower (join_with 46 ms) label (same_eq (lower (join_with 46 ms)) (lower label) t) ∙ ap (map lower) names in
            let f = labels_alike O.rules (labels host₀) O.parts O.found (labels h) ms q e in
            record { size = f.size; ends = match_ends false label h good (matching f.fits f.alike) }
          where
            matching : length O.parts ≤ length (labels h) → Alike (last_of (length O.parts) (labels h)) O.parts → matches (labels h) (normal (labels label)) ≡ true
            matching l e = unfold matches in
                (rw (names, le-leb (length O.parts) (length (labels h)) l) (all_matching O.parts (last_of (length O.parts) (labels h)) (sym e)))

    from_ends : ends_at_label label h ≡ true → size_in h ≡ L.size → is_the_label label (private_label table h) ≡ true
    unfolding is_the_label same_no_case size_in L P
    from_ends t s =
        let E = within h t in
        let l : length O.parts ≤ length (labels h) = rw names at E.fits in
        let e : Alike (last_of (length O.parts) (labels h)) O.parts = rw names at E.alike in
        let f = alike_labels O.rules (labels host₀) O.parts O.found (labels h) s l e in
        let n : labels (join_with 46 (last_of (length O.parts) (labels h))) ≡ last_of (length O.parts) (labels h) = last_names h (length O.parts) (omega (arith, ap length names, labels_some label)) in
        rw (under, f) (same_refl (lower (join_with 46 (last_of (length O.parts) (labels h)))) (lower label)
        (lower_names (join_with 46 (last_of (length O.parts) (labels h))) label (ap (map lower) n ∙ e ∙ ap (map lower) (sym names))))

    -- a host that ends in the label has it exactly where its public suffix is as long as the first host's
    pub by_size : {n k : ℕ} → Found table h n → Found table host₀ k → ends_at_label label h ≡ true → is_the_label label (private_label table h) ≡ eqb n k
    by_size {n} {k} F G t = both_ways (is_the_label label (private_label table h)) (eqb n k) (λ u. eq-eqb n k (sym (size_in_lem h F) ∙ (has u).size ∙ here)) (λ u. from_ends t (size_in_lem h F ∙ eqb-true n k u ∙ sym here))
      where
        here : L.size ≡ k
        here = sym home_size ∙ size_in_lem host₀ G

    -- where no rule goes deeper, h has the label exactly where it ends in it
    pub one_label : is_deeper table label ≡ false → is_the_label label (private_label table h) ≡ ends_at_label label h
    one_label d = both_ways (is_the_label label (private_label table h)) (ends_at_label label h) (λ t. (has t).ends) (λ t. from_ends t (size t))
      where
        no_deeper : any (goes_deeper O.parts) O.rules ≡ false
        no_deeper = unfold is_deeper deeper_in in (rw (names, O.read) at d)

        size : ends_at_label label h ≡ true → size_in h ≡ L.size
        size t = unfold size_in L P in (let E = within h t in same_size O.rules (labels host₀) O.parts O.found (labels h) no_deeper (rw names at E.fits) (rw names at E.alike))
