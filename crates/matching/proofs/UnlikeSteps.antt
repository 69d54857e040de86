-- A quick test that two identifiers do not match.
use Rattle.std.specs.Prelude.{if◌then◌else◌, Option, None, Some}
use Rattle.std.specs.List.{AllWithin, HoldsAt, zip}
use Rattle.std.specs.Option.{MatchOption, unwrap_or}
use Rattle.std.proofs.lemmas.Iterator.{index_from_first}
use mathlib.Core.Path.{◌≡◌, refl, sym, ap, ◌∙◌}
use mathlib.Core.Bool.{Bool, true, false, ◌&&◌, ◌||◌, not, and-eq-true_iff}
use mathlib.Core.List.{List, [], ◌∷◌}
use Prim.Native.Nat.{ℕ, ◌+◌, ◌-◌, ◌≤◌, ◌<◌, min}
use native.Mathlib.Numerals.{add-one}
use native.Mathlib.Omega.{arith}
use lib.ListN.{length, get_or, take, drop, drop_of_length-le}
use lib.Seq.{drop-cons}
use lib.Dec.{eqb}
use borrow.Author.Tests.{eq-eqb, ne_eqb, eqb-true}
use Rattle.ascii.specs.Ascii.{Bytes, ◌>>=◌, is_empty, take_while, drop_while, is_digit, is_upper, is_letter, lower_byte, lower, same, same_no_case, begins_with, text}
use Rattle.ascii.proofs.Compare.{same_eq}
use Rattle.ascii.proofs.OptionLaws.{Holds, holds}
use Rattle.hosts.specs.Host.{is_host, is_label_byte}
use Rattle.hosts.proofs.Places.{rest_whole}
use Rattle.origin.specs.Origin.{Authority, begins_https, is_port, read_port, is_host_byte, read_host, read_https, web_origin}
use Rattle.matching.specs.Matching.{same_origin, facet_matches}
use Rattle.matching.specs.code.Unlike.{is_stop, may_end, apart, unlike}

-- ---- the tests of the code

module _ (b : ℕ) where
  pub stop_colon : b ≡ 58 → true ≡ is_stop b
  unfolding is_stop
  stop_colon h = rw h

  pub stop_slash : (b ≡ 58 → ⊥) → eqb b 47 ≡ is_stop b
  unfolding is_stop
  stop_slash h = rw (ne_eqb b 58 h)

module _ (s : Bytes) (i : ℕ) where
  pub end_past : length s ≤ i → true ≡ may_end (drop i s)
  unfolding may_end
  end_past h = rw (drop_of_length-le s h)

  pub end_at : {r : Bool} → i < length s → r ≡ is_stop (get_or s i 0) → r ≡ may_end (drop i s)
  unfolding may_end
  end_at h e = e ∙ rw (drop-cons s i 0 h)

module _ (x y : Bytes) {p : Bool} where
  pub apart_first : p ≡ may_end x → p ≡ false → true ≡ apart x y
  unfolding apart
  apart_first e h = rw (sym e ∙ h)

  pub apart_second : {q : Bool} → p ≡ may_end x → p ≡ true → q ≡ may_end y → not q ≡ apart x y
  unfolding apart
  apart_second e h f = rw (f, sym e ∙ h)

-- ---- the bytes that are alike

-- the bytes of two texts are alike, and end no host
unfoldable pub alike : ℕ × ℕ → Bool
alike p = not (is_stop p.0) && eqb (lower_byte p.0) (lower_byte p.1)

before : List (ℕ × ℕ) → ℕ
before [] = 0
before (p ∷ ps) = if alike p then before ps + 1 else 0

before_hit : (p : ℕ × ℕ) (ps : List (ℕ × ℕ)) → alike p ≡ false → before (p ∷ ps) ≡ 0
unfolding before
before_hit p ps e = rw e

before_miss : (p : ℕ × ℕ) (ps : List (ℕ × ℕ)) → alike p ≡ true → before (p ∷ ps) ≡ before ps + 1
unfolding before
before_miss p ps e = rw e

unlike_at : (x y : Bytes) → unlike x y ≡ apart (drop (before (zip x y)) x) (drop (before (zip x y)) y)
unfolding unlike before alike
unlike_at [] y = refl
unlike_at (b ∷ x) [] = refl
unlike_at (b ∷ x) (c ∷ y) = go (not (is_stop b) && eqb (lower_byte b) (lower_byte c)) (unlike_at x y)
  where
    go : (u : Bool) → unlike x y ≡ apart (drop (before (zip x y)) x) (drop (before (zip x y)) y)
        → (if u then unlike x y else apart (b ∷ x) (c ∷ y)) ≡ apart (drop (if u then before (zip x y) + 1 else 0) (b ∷ x)) (drop (if u then before (zip x y) + 1 else 0) (c ∷ y))
    go true ih = rw add-one ih
    go false ih = refl

length_zip : (x y : Bytes) → length (zip x y) ≡ min (length x) (length y)
length_zip [] y = omega arith
length_zip (b ∷ x) [] = omega arith
length_zip (b ∷ x) (c ∷ y) = omega (arith, length_zip x y)

-- r is the place of the first two bytes that are not
abbrev pub First : List (ℕ × ℕ) → Option ℕ → Type 0
First ps r =
    MatchOption r (AllWithin (λ p. alike p ≡ true) ps 0 (length ps))
    (λ i. (i < length ps) × HoldsAt (λ p. alike p ≡ false) ps i × AllWithin (λ p. alike p ≡ true) ps 0 i)

first_is : (ps : List (ℕ × ℕ)) (r : Option ℕ) → First ps r → before ps ≡ unwrap_or r (length ps)
unfolding before
first_is = index_from_first before (λ p. alike p ≡ false) (λ p. alike p ≡ true) refl before_hit before_miss

module _ (x y p q : Bytes) (e : p ≡ take (length x - 8) (drop 8 x)) (f : q ≡ take (length y - 8) (drop 8 y)) where
  pub unlike_found : (r : Option ℕ) {end n : ℕ} {b : Bool} → end ≡ min (length p) (length q) → First (zip p q) r → n ≡ unwrap_or r end → b ≡ apart (drop n p) (drop n q)
      → b ≡ unlike (drop 8 x) (drop 8 y)
  unlike_found r {n = n} k F h g =
      let m : n ≡ before (zip p q) = rw (h, k, ← length_zip p q) (sym (first_is (zip p q) r F)) in
      let u : p ≡ drop 8 x = e ∙ rest_whole x 8 in
      let v : q ≡ drop 8 y = f ∙ rest_whole y 8 in
      rw (← u, ← v) (g ∙ rw m (sym (unlike_at p q)))

-- ---- what it tells

-- no text is unlike itself
not_self : (x : Bytes) → unlike x x ≡ false
unfolding unlike apart may_end
not_self [] = refl
not_self (b ∷ x) = go (is_stop b) refl (not_self x)
  where
    go : (u : Bool) → is_stop b ≡ u → unlike x x ≡ false → (if not u && eqb (lower_byte b) (lower_byte b) then unlike x x else not (u && u)) ≡ false
    go true e ih = refl
    go false e ih = rw (eq-eqb (lower_byte b) (lower_byte b) refl) ih

abbrev host_of : Bytes → Bytes
host_of x = take_while is_host_byte x

abbrev rest_of : Bytes → Bytes
rest_of x = drop_while is_host_byte x

-- a byte that a host does not end at is one of it
in_host : (b : ℕ) (x : Bytes) → is_stop b ≡ false → may_end (rest_of (b ∷ x)) ≡ true → is_host_byte b ≡ true
unfolding may_end drop_while
in_host b x u v = go (is_host_byte b) refl v
  where
    go : (t : Bool) → is_host_byte b ≡ t → may_end (if t then rest_of x else b ∷ x) ≡ true → is_host_byte b ≡ true
    go true e v = e
    go false e v = let z : true ≡ false = sym (unfold may_end in v) ∙ u in let w : ◌≡◌ {A = ℕ} 0 1 = cc in absurd (omega arith)

host_cons : (b : ℕ) (x : Bytes) → is_host_byte b ≡ true → host_of (b ∷ x) ≡ b ∷ host_of x
unfolding take_while
host_cons b x e = rw e

host_none : (b : ℕ) (x : Bytes) → is_host_byte b ≡ false → host_of (b ∷ x) ≡ []
unfolding take_while
host_none b x e = rw e

stop_not_host : (b : ℕ) → is_stop b ≡ true → is_host_byte b ≡ false
unfolding is_stop
stop_not_host b e = go (eqb b 58) (eqb b 47) refl refl e
  where
    colon : is_host_byte 58 ≡ false
    colon = unfold is_host_byte is_label_byte is_letter is_upper is_digit in refl

    slash : is_host_byte 47 ≡ false
    slash = unfold is_host_byte is_label_byte is_letter is_upper is_digit in refl

    go : (u v : Bool) → eqb b 58 ≡ u → eqb b 47 ≡ v → u || v ≡ true → is_host_byte b ≡ false
    go true v f g e = rw (eqb-true b 58 f) colon
    go false true f g e = rw (eqb-true b 47 g) slash
    go false false f g e = let w : ◌≡◌ {A = ℕ} 0 1 = cc in absurd (omega arith)

rest_cons : (b : ℕ) (x : Bytes) → is_host_byte b ≡ true → rest_of (b ∷ x) ≡ rest_of x
unfolding drop_while
rest_cons b x e = rw e

no_more : (b : ℕ) (x : Bytes) → same_no_case (b ∷ x) [] ≡ false
unfolding same_no_case lower same
no_more b x = refl

no_less : (c : ℕ) (y : Bytes) → same_no_case [] (c ∷ y) ≡ false
unfolding same_no_case lower same
no_less c y = refl

both_more : (b c : ℕ) (x y : Bytes) → same_no_case (b ∷ x) (c ∷ y) ≡ eqb (lower_byte b) (lower_byte c) && same_no_case x y
unfolding same_no_case lower same
both_more b c x y = refl

unlike_cons : (b c : ℕ) (x y : Bytes) → unlike (b ∷ x) (c ∷ y) ≡ (if not (is_stop b) && eqb (lower_byte b) (lower_byte c) then unlike x y else not (is_stop b && is_stop c))
unfolding unlike apart may_end
unlike_cons b c x y = refl

-- the hosts of two texts that are unlike
hosts_differ : (x y : Bytes) → may_end (rest_of x) ≡ true → may_end (rest_of y) ≡ true → unlike x y ≡ true → same_no_case (host_of x) (host_of y) ≡ false
hosts_differ [] [] p q e = absurd (go e)
  where
    go : unlike [] [] ≡ true → ⊥
    go e = unfold unlike apart may_end in (let w : ◌≡◌ {A = ℕ} 0 1 = cc in omega arith)
hosts_differ [] (c ∷ y) p q e = go (is_stop c) refl e
  where
    go : (u : Bool) → is_stop c ≡ u → unlike [] (c ∷ y) ≡ true → same_no_case (host_of []) (host_of (c ∷ y)) ≡ false
    go true f e = absurd (stops f e)
      where
        stops : is_stop c ≡ true → unlike [] (c ∷ y) ≡ true → ⊥
        stops f e = unfold unlike apart may_end in (let z : not (true && is_stop c) ≡ false = rw f in let w : ◌≡◌ {A = ℕ} 0 1 = cc in omega arith)
    go false f e = rw (host_cons c y (in_host c y f q)) (none_there)
      where
        none_there : same_no_case (host_of []) (c ∷ host_of y) ≡ false
        none_there = unfold take_while in no_less c (host_of y)
hosts_differ (b ∷ x) [] p q e = go (is_stop b) refl e
  where
    go : (u : Bool) → is_stop b ≡ u → unlike (b ∷ x) [] ≡ true → same_no_case (host_of (b ∷ x)) (host_of []) ≡ false
    go true f e = absurd (stops f e)
      where
        stops : is_stop b ≡ true → unlike (b ∷ x) [] ≡ true → ⊥
        stops f e = unfold unlike apart may_end in (let z : not (is_stop b && true) ≡ false = rw f in let w : ◌≡◌ {A = ℕ} 0 1 = cc in omega arith)
    go false f e = rw (host_cons b x (in_host b x f p)) (none_there)
      where
        none_there : same_no_case (b ∷ host_of x) (host_of []) ≡ false
        none_there = unfold take_while in no_more b (host_of x)
hosts_differ (b ∷ x) (c ∷ y) p q e = go (is_stop b) (is_stop c) (eqb (lower_byte b) (lower_byte c)) refl refl refl (λ u v w. hosts_differ x y u v w)
  where
    go : (u v t : Bool) → is_stop b ≡ u → is_stop c ≡ v → eqb (lower_byte b) (lower_byte c) ≡ t
        → (may_end (rest_of x) ≡ true → may_end (rest_of y) ≡ true → unlike x y ≡ true → same_no_case (host_of x) (host_of y) ≡ false)
        → same_no_case (host_of (b ∷ x)) (host_of (c ∷ y)) ≡ false
    go true true t f g h ih =
        let z : unlike (b ∷ x) (c ∷ y) ≡ false = unlike_cons b c x y ∙ rw (f, g) in
        let w : true ≡ false = sym e ∙ z in
        let v : ◌≡◌ {A = ℕ} 0 1 = cc in
        absurd (omega arith)
    go true false t f g h ih = rw (host_none b x (stop_not_host b f), host_cons c y (in_host c y g q)) (no_less c (host_of y))
    go false true t f g h ih = rw (host_none c y (stop_not_host c g), host_cons b x (in_host b x f p)) (no_more b (host_of x))
    go false false false f g h ih = rw (host_cons b x (in_host b x f p), host_cons c y (in_host c y g q), both_more, h)
    go false false true f g h ih =
        let z : unlike (b ∷ x) (c ∷ y) ≡ unlike x y = unlike_cons b c x y ∙ rw (f, h) in
        let i = in_host b x f p in
        let j = in_host c y g q in
        rw (host_cons b x i, host_cons c y j, both_more, h) (ih (sym (ap may_end (rest_cons b x i)) ∙ p) (sym (ap may_end (rest_cons c y j)) ∙ q) (sym z ∙ e))

-- ---- the hosts of web origins

abbrev Shape : Bytes → Bytes → Authority → Type 0
Shape h r a = (a.host ≡ h) × (may_end r ≡ true)

shape_end : (r : Bytes) → is_empty r || same r (text "/") ≡ true → may_end r ≡ true
unfolding may_end same is_stop
shape_end [] e = refl
shape_end (b ∷ r) e = go (eqb b 47) (eqb b 58) e
  where
    go : (u v : Bool) → u && same r [] ≡ true → v || u ≡ true
    go true true e = refl
    go true false e = refl
    go false v e = let w : ◌≡◌ {A = ℕ} 0 1 = cc in absurd (omega arith)

shape_colon : (r : Bytes) → begins_with (text ":") r ≡ true → may_end r ≡ true
unfolding may_end begins_with is_stop
shape_colon [] e = let w : ◌≡◌ {A = ℕ} 0 1 = cc in absurd (omega arith)
shape_colon (b ∷ r) e = let z : b ≡ 58 = sym (eqb-true 58 b ((and-eq-true_iff (eqb 58 b) true).0 e).0) in rw z

port_shape : (h r : Bytes) → Holds (Shape h r) (read_port h r >>= λ a. if is_empty a.tail || same a.tail (text "/") then Some a else None)
unfolding read_port
port_shape h r = go (begins_with (text ":") r) refl (is_port (take_while is_digit (drop 1 r)))
  where
    last : (a : Authority) → a.host ≡ h → may_end r ≡ true → (u : Bool) → Holds (Shape h r) (if u then Some a else None)
    last a e f true = (e, f)
    last a e f false = tt

    bare : (u : Bool) → is_empty r || same r (text "/") ≡ u → Holds (Shape h r) (if u then Some (record { host = h; port = []; tail = r }) else None)
    bare true e = (refl, shape_end r e)
    bare false e = tt

    go : (t : Bool) → begins_with (text ":") r ≡ t → (u : Bool)
        → Holds (Shape h r) ((if not t then Some (record { host = h; port = []; tail = r }) else
        if u then Some (record { host = h; port = take_while is_digit (drop 1 r); tail = drop_while is_digit (drop 1 r) }) else None)
        >>= λ a. if is_empty a.tail || same a.tail (text "/") then Some a else None)
    go false e u = bare (is_empty r || same r (text "/")) refl
    go true e true = last (record { host = h; port = take_while is_digit (drop 1 r); tail = drop_while is_digit (drop 1 r) }) refl (shape_colon r e) (is_empty (drop_while is_digit (drop 1 r)) || same (drop_while is_digit (drop 1 r)) (text "/"))
    go true e false = tt

web_shape : (s : Bytes) (a : Authority) → web_origin s ≡ Some a → Shape (host_of (drop 8 s)) (rest_of (drop 8 s)) a
unfolding web_origin read_https read_host
web_shape s a e = go (begins_https s) (is_host (host_of (drop 8 s))) e
  where
    go : (t u : Bool) → ((if t then (if u then read_port (host_of (drop 8 s)) (rest_of (drop 8 s)) else None) else None)
        >>= λ a. if is_empty a.tail || same a.tail (text "/") then Some a else None) ≡ Some a → Shape (host_of (drop 8 s)) (rest_of (drop 8 s)) a
    go true true e = holds (Shape (host_of (drop 8 s)) (rest_of (drop 8 s))) _ a (port_shape (host_of (drop 8 s)) (rest_of (drop 8 s))) e
    go true false e = let w : ◌≡◌ {A = ℕ} 0 1 = cc in absurd (omega arith)
    go false u e = let w : ◌≡◌ {A = ℕ} 0 1 = cc in absurd (omega arith)

-- ---- two identifiers that are unlike do not match

module _ (s t : Bytes) (e : unlike (drop 8 s) (drop 8 t) ≡ true) where
  native_unlike : same s t ≡ false
  native_unlike = go (same s t) refl
    where
      go : (u : Bool) → same s t ≡ u → same s t ≡ false
      go false h = h
      go true h =
          let z : unlike (drop 8 t) (drop 8 t) ≡ true = rw (same_eq s t h) at e in
          let y : true ≡ false = sym z ∙ not_self (drop 8 t) in
          let w : ◌≡◌ {A = ℕ} 0 1 = cc in
          absurd (omega arith)

  pub unlike_none : facet_matches s t ≡ false
  unlike_none = go (web_origin s) (web_origin t) refl refl
    where
      by_hosts : (a b : Authority) → web_origin s ≡ Some a → web_origin t ≡ Some b → same_no_case a.host b.host ≡ false
      by_hosts a b f g =
          let A = web_shape s a f in
          let B = web_shape t b g in
          rw (A.0, B.0) (hosts_differ (drop 8 s) (drop 8 t) A.1 B.1 e)

      go : (o p : Option Authority) → web_origin s ≡ o → web_origin t ≡ p → facet_matches s t ≡ false
      go None p f g = unfold facet_matches in rw f native_unlike
      go (Some a) None f g = unfold facet_matches same_origin in rw (f, g)
      go (Some a) (Some b) f g = unfold facet_matches same_origin in rw (f, g, by_hosts a b f g)

pub match_unlike : (s t : Bytes) {r : Bool} → r ≡ unlike (drop 8 s) (drop 8 t) → r ≡ true → false ≡ facet_matches s t
match_unlike s t e h = sym (unlike_none s t (sym e ∙ h))
