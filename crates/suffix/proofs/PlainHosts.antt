-- A line is a host where each of its bytes may stand behind the byte before it. Assumes nothing.
use Rattle.std.specs.Prelude.{if◌then◌else◌}
use mathlib.Core.Path.{◌≡◌, refl, sym, ap, ◌∙◌}
use mathlib.Core.Bool.{Bool, true, false, ◌&&◌, ◌||◌, or-true, and-eq-true_iff}
use mathlib.Core.List.{[], ◌∷◌, ◌++◌}
use Prim.Native.Nat.{ℕ, suc, ◌+◌, ◌-◌, ◌≤◌, ◌<◌}
use native.Mathlib.Omega.{arith}
use lib.ListN.{length, get_or, length-append, get_or-append}
use lib.Seq.{append_snoc, get_or_at}
use lib.Dec.{eqb, ltb}
use borrow.Author.Tests.{eq-eqb, ne_eqb, eqb-true, eqb-false, lt-leb, le-leb, ltb-true, ltb-false}
use Rattle.ascii.specs.Ascii.{Bytes, all, take_while, join_head, split_at, is_digit, is_letter, is_upper}
use Rattle.ascii.proofs.Split.{split_parts, split_other, on_first, on_first_end, on_first_here}
use Rattle.hosts.specs.Host.{labels, is_label_byte, is_label, is_host}
use Rattle.suffix.specs.code.Pass.{in_line, in_content}
use Rattle.suffix.specs.code.Idle.{is_alphanumeric}
use Rattle.hosts.proofs.Ends.{true_false}
use Rattle.hosts.proofs.Shapes.{shape_only, shaped_yes}
use Rattle.suffix.proofs.Passes.{line_lf, line_other, content_lf, content_high}

-- b may stand behind a; LF is the byte before the first
unfoldable pub may_follow : ℕ → ℕ → Bool
may_follow a b = if is_alphanumeric b then true else if eqb b 45 then (is_alphanumeric a || eqb a 45) else if eqb b 46 then is_alphanumeric a else false

-- so do the bytes behind a, up to an LF, and the last of them is a letter or digit
unfoldable pub shape_from : ℕ → Bytes → Bool
shape_from a [] = is_alphanumeric a
shape_from a (b ∷ l) = if eqb b 10 then is_alphanumeric a else (may_follow a b && shape_from b l)

-- ---- bytes

plain_label : (b : ℕ) → is_alphanumeric b ≡ true → is_label_byte b ≡ true
unfolding is_alphanumeric is_label_byte
plain_label b e = rw e

pub no_plain : {A : Type 0} (b c : ℕ) → is_alphanumeric b ≡ true → b ≡ c → is_alphanumeric c ≡ false → A
no_plain b c p e n = true_false (sym p ∙ ap is_alphanumeric e ∙ n)

hyphen_plain : is_alphanumeric 45 ≡ false
unfolding is_alphanumeric is_letter is_upper is_digit
hyphen_plain = refl

pub dot_plain : is_alphanumeric 46 ≡ false
unfolding is_alphanumeric is_letter is_upper is_digit
dot_plain = refl

pub lf_plain : is_alphanumeric 10 ≡ false
unfolding is_alphanumeric is_letter is_upper is_digit
lf_plain = refl

hyphen_label : (b : ℕ) → b ≡ 45 → is_label_byte b ≡ true
unfolding is_label_byte
hyphen_label b e = rw (eq-eqb b 45 e, or-true)

low_plain : (b : ℕ) → b ≤ 32 → is_alphanumeric b ≡ false
unfolding is_alphanumeric is_letter is_upper is_digit
low_plain b h = rw (lt-leb 97 b (omega arith), lt-leb 65 b (omega arith), lt-leb 48 b (omega arith))

data Follows (a b : ℕ) : Type 0 where
  as_plain : is_alphanumeric b ≡ true → Follows a b
  as_hyphen : b ≡ 45 → (is_alphanumeric a || eqb a 45) ≡ true → Follows a b
  as_dot : b ≡ 46 → is_alphanumeric a ≡ true → Follows a b

follows : (a b : ℕ) → may_follow a b ≡ true → Follows a b
unfolding may_follow
follows a b h = go (is_alphanumeric b) (eqb b 45) (eqb b 46) refl refl refl h
  where
    go : (u v w : Bool) → is_alphanumeric b ≡ u → eqb b 45 ≡ v → eqb b 46 ≡ w → (if u then true else if v then (is_alphanumeric a || eqb a 45) else if w then is_alphanumeric a else false) ≡ true → Follows a b
    go true v w e f g h = as_plain e
    go false true w e f g h = as_hyphen (eqb-true b 45 f) h
    go false false true e f g h = as_dot (eqb-true b 46 g) h
    go false false false e f g h = true_false (sym h)

follows_high : (a b : ℕ) → Follows a b → 32 < b
follows_high a b (as_plain p) = go (ltb 32 b) refl
  where
    go : (u : Bool) → ltb 32 b ≡ u → 32 < b
    go true e = ltb-true 32 b e
    go false e = true_false (sym p ∙ low_plain b (ltb-false 32 b e))
follows_high a b (as_hyphen e f) = omega arith
follows_high a b (as_dot e f) = omega arith

dot_behind : (a b : ℕ) → Follows a b → b ≡ 46 → is_alphanumeric a ≡ true
dot_behind a b (as_plain p) e = no_plain b 46 p e dot_plain
dot_behind a b (as_hyphen f g) e = absurd (omega arith)
dot_behind a b (as_dot f g) e = g

-- ---- the label that a place stands in: q of its bytes are read, the last of them is a

data Begun : Bytes → ℕ → Type 0 where
  fresh : {a : ℕ} → is_alphanumeric a ≡ false → (a ≡ 45 → ⊥) → Begun [] a
  begun : {q : Bytes} {a : ℕ} → all is_label_byte q ≡ true → 1 ≤ length q → (get_or q 0 0 ≡ 45 → ⊥) → get_or q (length q - 1) 0 ≡ a → Begun q a

label_done : (q : Bytes) (a : ℕ) → Begun q a → is_alphanumeric a ≡ true → length q ≤ 63 → is_label q ≡ true
label_done q a (fresh e n) p l = true_false (sym p ∙ e)
label_done q a (begun y o f z) p l = shape_only q y ∙ sym (shaped_yes q o l f (λ e. no_plain a 45 p (sym z ∙ e) hyphen_plain))

all_snoc : (q : Bytes) (b : ℕ) → all is_label_byte q ≡ true → is_label_byte b ≡ true → all is_label_byte (q ++ b ∷ []) ≡ true
unfolding all
all_snoc [] b h k = rw k
all_snoc (x ∷ q) b h k = let p = (and-eq-true_iff (is_label_byte x) (all is_label_byte q)).0 h in rw (p.0, all_snoc q b p.1 k)

label_more : (q : Bytes) (a b : ℕ) → Begun q a → is_label_byte b ≡ true → (length q ≡ 0 → b ≡ 45 → ⊥) → Begun (q ++ b ∷ []) b
label_more q a b (fresh e n) k f = begun (all_snoc [] b (unfold all in refl) k) (omega arith) (f refl) refl
label_more q a b (begun y o g z) k f =
    let n : length (q ++ b ∷ []) ≡ length q + 1 = length-append q (b ∷ []) in
    begun (all_snoc q b y k) (omega arith) (λ e. g (sym (get_or-append q (b ∷ []) 0 0 (omega arith)) ∙ e)) (get_or_at q b [] 0 (length (q ++ b ∷ []) - 1) (omega arith))

label_on : (q : Bytes) (a b : ℕ) → Begun q a → Follows a b → (b ≡ 46 → ⊥) → Begun (q ++ b ∷ []) b
label_on q a b B (as_plain p) n = label_more q a b B (plain_label b p) (λ z e. no_plain b 45 p e hyphen_plain)
label_on q a b (fresh e m) (as_hyphen f g) n = true_false (sym g ∙ rw (e, ne_eqb a 45 m))
label_on q a b (begun y o h z) (as_hyphen f g) n = label_more q a b (begun y o h z) (hyphen_label b f) (λ z e. omega arith)
label_on q a b B (as_dot f g) n = absurd (n f)

-- ---- all labels of a line

on_first_none : (d : ℕ) (t : Bytes) → on_first [] (split_at d t) ≡ split_at d t
unfolding on_first
on_first_none d t = rw (split_parts d t).is

on_first_snoc : (d b : ℕ) (q t : Bytes) → (b ≡ d → ⊥) → on_first q (split_at d (b ∷ t)) ≡ on_first (q ++ b ∷ []) (split_at d t)
unfolding on_first join_head
on_first_snoc d b q t n = let P = split_parts d t in rw (split_other d b t n, P.is, append_snoc q b P.first)

abbrev Labels : Bytes → Bytes → Type 0
Labels q l = all is_label (on_first q (split_at 46 (take_while in_line l))) ≡ true

all_one : (q : Bytes) → is_label q ≡ true → all is_label (on_first q (split_at 46 [])) ≡ true
unfolding all
all_one q e = rw (on_first_end 46 q, e)

all_more : (q t : Bytes) → is_label q ≡ true → all is_label (on_first [] (split_at 46 t)) ≡ true → all is_label (on_first q (split_at 46 (46 ∷ t))) ≡ true
unfolding all
all_more q t e h = rw (on_first_here 46 q t, e, ← on_first_none 46 t, h)

shape_labels : (l q : Bytes) (a : ℕ) → Begun q a → length q + length (take_while in_line l) ≤ 63 → shape_from a l ≡ true → Labels q l
unfolding take_while shape_from
shape_labels [] q a B m h = all_one q (label_done q a B h (omega arith))
shape_labels (b ∷ l) q a B m h = go (eqb b 10) refl m h (shape_labels l)
  where
    on : (t : Bytes) → length q + suc (length t) ≤ 63 → Follows a b → ((q : Bytes) → Begun q b → length q + length t ≤ 63 → all is_label (on_first q (split_at 46 t)) ≡ true)
        → (u : Bool) → eqb b 46 ≡ u → all is_label (on_first q (split_at 46 (b ∷ t))) ≡ true
    on t m F ih true e =
        let z : b ≡ 46 = eqb-true b 46 e in
        rw z (all_more q t (label_done q a B (dot_behind a b F z) (omega arith)) (ih [] (fresh (ap is_alphanumeric z ∙ dot_plain) (λ y. omega arith)) (omega arith)))
    on t m F ih false e =
        let n : b ≡ 46 → ⊥ = eqb-false b 46 e in
        rw (on_first_snoc 46 b q t n) (ih (q ++ b ∷ []) (label_on q a b B F n) (omega (arith, length-append q (b ∷ []))))

    go : (u : Bool) → eqb b 10 ≡ u → length q + length (if in_line b then b ∷ take_while in_line l else []) ≤ 63 → (if u then is_alphanumeric a else (may_follow a b && shape_from b l)) ≡ true
        → ((q : Bytes) (a : ℕ) → Begun q a → length q + length (take_while in_line l) ≤ 63 → shape_from a l ≡ true → Labels q l)
        → all is_label (on_first q (split_at 46 (if in_line b then b ∷ take_while in_line l else []))) ≡ true
    go true e m h ih = rw (← line_lf b (eqb-true b 10 e)) (all_one q (label_done q a B h (omega arith)))
    go false e m h ih =
        let n : b ≡ 10 → ⊥ = eqb-false b 10 e in
        let p = (and-eq-true_iff (may_follow a b) (shape_from b l)).0 h in
        let i : true ≡ in_line b = line_other b n in
        rw (← i) (on (take_while in_line l) (rw (← i) at m) (follows a b p.0) (λ q C k. ih q b C k p.1) (eqb b 46) refl)

pub shape_content : (l : Bytes) (a : ℕ) → shape_from a l ≡ true → take_while in_content l ≡ take_while in_line l
unfolding take_while shape_from
shape_content [] a h = refl
shape_content (b ∷ l) a h = go (eqb b 10) refl h (shape_content l b)
  where
    go : (u : Bool) → eqb b 10 ≡ u → (if u then is_alphanumeric a else (may_follow a b && shape_from b l)) ≡ true → (shape_from b l ≡ true → take_while in_content l ≡ take_while in_line l)
        → (if in_content b then b ∷ take_while in_content l else []) ≡ (if in_line b then b ∷ take_while in_line l else [])
    go true e h ih = rw (← line_lf b (eqb-true b 10 e), ← content_lf b (eqb-true b 10 e))
    go false e h ih =
        let p = (and-eq-true_iff (may_follow a b) (shape_from b l)).0 h in
        rw (← line_other b (eqb-false b 10 e), ← content_high b (follows_high a b (follows a b p.0)), ih p.1)

shape_some : (l : Bytes) → shape_from 10 l ≡ true → 1 ≤ length (take_while in_line l)
unfolding take_while shape_from
shape_some [] h = true_false (sym h ∙ lf_plain)
shape_some (b ∷ l) h = go (eqb b 10) refl h
  where
    go : (u : Bool) → eqb b 10 ≡ u → (if u then is_alphanumeric 10 else (may_follow 10 b && shape_from b l)) ≡ true → 1 ≤ length (if in_line b then b ∷ take_while in_line l else [])
    go true e h = true_false (sym h ∙ lf_plain)
    go false e h = rw (← line_other b (eqb-false b 10 e)) (omega arith)

pub shape_host : (l : Bytes) → shape_from 10 l ≡ true → length (take_while in_line l) ≤ 63 → is_host (take_while in_line l) ≡ true
unfolding is_host labels
shape_host l h m =
    let s = shape_labels l [] 10 (fresh lf_plain (λ z. omega arith)) (omega arith) h in
    rw (
      le-leb 1 (length (take_while in_line l)) (shape_some l h),
      le-leb (length (take_while in_line l)) 253 (omega arith),
      ← on_first_none 46 (take_while in_line l),
      s,
    )
