-- A string as it is decoded: what is held of it.
use Rattle.std.specs.Prelude.{Option, None, Some, option_map, unwrap_or, MatchOption}
use mathlib.Core.Path.{◌≡◌, refl, ap, sym, ◌∙◌}
use mathlib.Core.Bool.{Bool, true, false, not}
use mathlib.Core.List.{[], ◌∷◌, ◌++◌, append_assoc, append-nil}
use Prim.Native.Nat.{ℕ, suc, ◌+◌, ◌-◌, ◌/◌, ◌%◌, ◌≤◌, ◌<◌}
use native.Mathlib.Numerals.{add-one}
use native.Mathlib.Omega.{arith}
use borrow.Author.Tests.{le-leb, lt-leb, lt-ltb, le-ltb, leb-true, leb-false}
use lib.Dec.{eqb, leb}
use Rattle.std.specs.Option.{option_eq}
use lib.ListN.{length, get_or, take, drop, set, length-append, length-take, length-drop}
use lib.Seq.{take_all, take-suc, take-suc-set, length-take-le, take-append_seam}
use Rattle.ascii.specs.Ascii.{Bytes, same}
use Rattle.json_text.specs.Reader.{Read, got, bad, Reader, more, mapped, as_written, verbatim}
use Rattle.json_text.specs.Utf8.{encode_utf8}
use Rattle.json_text.specs.Lexical.{unescaped, escaped, read_char, read_chars, read_string}
use Rattle.json_text.specs.code.Places.{Peeked, read_at, place_of, point_of, fit, content_of, push, push_read, is_text, PutsRead}
use Rattle.json_text.specs.code.Held.{content}
use Rattle.json_text.specs.declared.decoding.Decoded.{Decoded}
use Rattle.json_text.proofs.Steps.{this, is_this, not_this, isnt_this, isnt_not, on, then_bad, one_yes, one_no, counted_at, place_mapped, found, missed}
use Rattle.json_text.proofs.Chars.{char_wrong, char_code, char_raw, char_moves, chars_end, chars_stop, chars_step}

-- ---- what is held

fit_is : (t : Bytes) → length t ≤ 512 → fit t ≡ Some t
unfolding fit
fit_is t h = rw (le-leb (length t) 512 h)

fit_not : (t : Bytes) → 512 < length t → fit t ≡ None
unfolding fit
fit_not t h = rw (lt-leb (length t) 512 h)

push_push : (h : Option Bytes) (x y : Bytes) → push (push h x) y ≡ push h (x ++ y)
unfolding push
push_push None x y = refl
push_push (Some t) x y = go (leb (length (t ++ x)) 512) refl
  where
    go : (u : Bool) → leb (length (t ++ x)) 512 ≡ u → push (fit (t ++ x)) y ≡ fit (t ++ (x ++ y))
    go true e = rw (fit_is (t ++ x) (leb-true (length (t ++ x)) 512 e), append_assoc)
    go false e =
        let h : 512 < length (t ++ x) = leb-false (length (t ++ x)) 512 e in
        rw (fit_not (t ++ x) h, ← append_assoc) (sym (fit_not ((t ++ x) ++ y) (omega (arith, length-append (t ++ x) y))))

module _ (d : Decoded) where
  pub held_over : d.len ≡ None → None ≡ content d
  unfolding content
  held_over h = rw h

  pub held_all : {n : ℕ} {p : Bytes} → d.len ≡ Some n → p ≡ take n d.bytes → Some p ≡ content d
  unfolding content
  held_all h e = rw (h, e)

  pub holds_none : d.len ≡ Some 0 → content d ≡ Some []
  unfolding content
  holds_none h = rw h

  -- what so many bytes hold, or none
  abbrev of_length : Option ℕ → Option Bytes
  of_length n = option_map (λ k. take k d.bytes) n

  few : (n : ℕ) → length (take n d.bytes) ≤ 512
  few n = simp length-take (omega (arith, d.sized))

  pub content_short : length (unwrap_or (content d) []) ≤ 512
  unfolding content
  content_short = go d.len
    where
      go : (u : Option ℕ) → length (unwrap_or (of_length u) []) ≤ 512
      go None = omega arith
      go (Some n) = few n

  push_nil : push (content d) [] ≡ content d
  unfolding content
  push_nil = go d.len
    where
      go : (u : Option ℕ) → push (of_length u) [] ≡ of_length u
      go None = unfold push in refl
      go (Some n) = unfold push in rw append-nil (fit_is (take n d.bytes) (few n))

  -- another string in the place of it
  module _ (s : Bytes) where
    pub hold_over : d.len ≡ None → 512 < length s → content d ≡ fit s
    hold_over l h = sym (held_over l) ∙ sym (fit_not s h)

    pub hold_all : {n : ℕ} (p t : Bytes) → d.len ≡ Some n → n ≡ length s → length s ≤ 512 → d.bytes ≡ p ++ t → p ≡ s → content d ≡ fit s
    hold_all p t l j h e w = sym (held_all l (sym (rw (j, e, w) (take-append_seam s t)))) ∙ sym (fit_is s h)

-- ---- one byte more

module _ (d : Decoded) (b : ℕ) where
  pub put_over : d.len ≡ None → content d ≡ push (content d) (b ∷ [])
  put_over h = unfold content push in (rw h)

module _ (d e : Decoded) (b : ℕ) {n : ℕ} (h : d.len ≡ Some n) where
  pub put_full : 512 ≤ n → e.len ≡ None → content e ≡ push (content d) (b ∷ [])
  put_full k m = sym (held_over e m) ∙ sym no_room
    where
      long : length (take n d.bytes ++ b ∷ []) ≡ 513
      long = let z : length (take n d.bytes) ≡ 512 = simp length-take (omega (arith, d.sized)) in omega (arith, length-append (take n d.bytes) (b ∷ []))

      no_room : push (content d) (b ∷ []) ≡ None
      no_room = unfold content push in (rw h (fit_not (take n d.bytes ++ b ∷ []) (omega (arith, long))))

  pub put_one : n < 512 → e.len ≡ Some (n + 1) → e.bytes ≡ set d.bytes n b → content e ≡ push (content d) (b ∷ [])
  put_one k l s =
      let t : take n d.bytes ++ b ∷ [] ≡ take (n + 1) e.bytes = sym (rw (s, add-one n) (take-suc-set d.bytes n b (omega (arith, d.sized)))) in
      sym (held_all e l t) ∙ sym fitting
    where
      fitting : push (content d) (b ∷ []) ≡ Some (take n d.bytes ++ b ∷ [])
      fitting = unfold content push in (rw h (fit_is (take n d.bytes ++ b ∷ []) (omega (arith, length-append (take n d.bytes) (b ∷ []), length-take-le n d.bytes (omega (arith, d.sized))))))

-- the first bytes
pub put_first : (x : Bytes) → push (Some []) x ≡ fit x
unfolding push
put_first x = refl

puts_then : (before : Option Bytes) (x y : Bytes) {between after : Option Bytes} → between ≡ push before x → after ≡ push between y → after ≡ push before (x ++ y)
puts_then before x y P Q = Q ∙ ap (λ (h : Option Bytes). push h y) P ∙ push_push before x y

-- ---- a part more

-- the first i bytes of the part x are put
pub record Part (x : Bytes) (before after : Option Bytes) (i : ℕ) : Type 0 where
  pub is : after ≡ push before (take i x)

pub part_starts : (x : Bytes) (d : Decoded) → Part x (content d) (content d) 0
part_starts x d = record { is = sym (push_nil d) }

module _ {x : Bytes} {before between : Option Bytes} {i : ℕ} (P : Part x before between i) where
  pub part_end : {y : Bytes} → length x ≤ i → x ≡ y → between ≡ push before y
  part_end h e = rw (take_all i x h, e) at P.is

  pub part_more : {after : Option Bytes} → i < length x → after ≡ push between (get_or x i 0 ∷ []) → Part x before after (i + 1)
  part_more h Q = record { is = rw (add-one i, take-suc x i 0 h) (puts_then before (take i x) (get_or x i 0 ∷ []) P.is Q) }

-- ---- a code point more

module _ (c : ℕ) (a : Option Bytes) where
  pub code_one : {z : Option Bytes} → c < 0x80 → z ≡ push a (c ∷ []) → z ≡ push a (encode_utf8 c)
  unfolding encode_utf8
  code_one h P = rw (lt-ltb c 0x80 h) P

  pub code_two : {b z : Option Bytes} → 0x80 ≤ c → c < 0x800
      → b ≡ push a ((0xC0 + c / 64) ∷ []) → z ≡ push b ((0x80 + c % 64) ∷ []) → z ≡ push a (encode_utf8 c)
  unfolding encode_utf8
  code_two h k P Q = rw (le-ltb c 0x80 h, lt-ltb c 0x800 k) (puts_then _ _ _ P Q)

  pub code_three : {b d z : Option Bytes} → 0x800 ≤ c → c < 0x10000
      → b ≡ push a ((0xE0 + c / 4096) ∷ []) → d ≡ push b ((0x80 + c / 64 % 64) ∷ [])
      → z ≡ push d ((0x80 + c % 64) ∷ []) → z ≡ push a (encode_utf8 c)
  unfolding encode_utf8
  code_three h k P Q R = rw (le-ltb c 0x80 (omega arith), le-ltb c 0x800 h, lt-ltb c 0x10000 k) (puts_then _ _ _ P (puts_then _ _ _ Q R))

  pub code_four : {b d e z : Option Bytes} → 0x10000 ≤ c
      → b ≡ push a ((0xF0 + c / 262144 % 8) ∷ []) → d ≡ push b ((0x80 + c / 4096 % 64) ∷ [])
      → e ≡ push d ((0x80 + c / 64 % 64) ∷ []) → z ≡ push e ((0x80 + c % 64) ∷ []) → z ≡ push a (encode_utf8 c)
  unfolding encode_utf8
  code_four h P Q R S = rw (le-ltb c 0x80 (omega arith), le-ltb c 0x800 (omega arith), le-ltb c 0x10000 h) (puts_then _ _ _ P (puts_then _ _ _ Q (puts_then _ _ _ R S)))

-- ---- a character more

written_at_lem : {A : Type 0} (i : ℕ) (l : Bytes) (r : Read A) {a : A} {j : ℕ} → more i r ≡ got a j → more i (as_written l r) ≡ got (take (j - i) l) j
unfolding more as_written
written_at_lem i l (got b n) {a} {j} e = let y : i + n ≡ j = cc in let z : n ≡ j - i = omega arith in rw (← z, y)
written_at_lem i l bad e = let z : ◌≡◌ {A = ℕ} 0 1 = cc in absurd (omega arith)

written_bad : {A : Type 0} (i : ℕ) (l : Bytes) (r : Read A) → more i r ≡ bad → more i (as_written l r) ≡ bad
unfolding more as_written
written_bad i l (got b n) e = let z : ◌≡◌ {A = ℕ} 0 1 = cc in absurd (omega arith)
written_bad i l bad e = refl

pub verbatim_at : {A : Type 0} (p : Reader A) (s : Bytes) (i : ℕ) {a : A} {j : ℕ} → read_at p s i ≡ got a j → read_at (verbatim p) s i ≡ got (take (j - i) (drop i s)) j
unfolding read_at verbatim
verbatim_at p s i e = written_at_lem i (drop i s) (p (drop i s)) e

pub verbatim_bad : {A : Type 0} (p : Reader A) (s : Bytes) (i : ℕ) → read_at p s i ≡ bad → read_at (verbatim p) s i ≡ bad
unfolding read_at verbatim
verbatim_bad p s i e = written_bad i (drop i s) (p (drop i s)) e

-- nothing is read
reads_bad : {before after : Option Bytes} {read : Read Bytes} → read ≡ bad → PutsRead before read after None
reads_bad {before} {after} {read} e = record { place = sym (nowhere e); is = λ f. let z : ◌≡◌ {A = ℕ} 0 1 = cc in absurd (omega arith) }
  where
    nowhere : read ≡ bad → place_of read ≡ None
    nowhere e = unfold place_of in (rw e)

-- x is read
reads_got : {before after : Option Bytes} {read : Read Bytes} {x : Bytes} {j : ℕ} → read ≡ got x j → after ≡ push before x → PutsRead before read after (Some j)
reads_got {before} {after} {read} {x} {j} e P = record { place = sym (there e); is = λ {x = y} f. let z : x ≡ y = cc in rw z at P }
  where
    there : read ≡ got x j → place_of read ≡ Some j
    there e = unfold place_of in (rw e)

module _ (s : Bytes) (i : ℕ) {before after : Option Bytes} {b : Option ℕ} {u : Bool} (g : Peeked s i b) (t : u ≡ option_eq eqb b (Some 92)) where
  module _ (h : u ≡ true) {q : Option (ℕ × ℕ)} (e : q ≡ point_of (read_at escaped s (i + 1))) where
    pub held_wrong : q ≡ None → PutsRead before (read_at read_char s i) after None
    held_wrong k = reads_bad (char_wrong g (this b 92 t h) e k)

    pub held_code : {c j : ℕ} → q ≡ Some (c, j) → after ≡ push before (encode_utf8 c) → PutsRead before (read_at read_char s i) after (Some j)
    held_code k P = reads_got (char_code g (this b 92 t h) e k) P

  module _ (w : u ≡ false) {q : Option ℕ} (e : q ≡ place_of (read_at unescaped s i)) where
    pub held_no : q ≡ None → PutsRead before (read_at read_char s i) after None
    held_no k = reads_bad (char_raw g (not_this b 92 (omega arith) t w) ∙ verbatim_bad unescaped s i (missed _ e k))

    pub held_plain : {j : ℕ} → q ≡ Some j → after ≡ push before (take (j - i) (drop i s)) → PutsRead before (read_at read_char s i) after (Some j)
    held_plain k P = reads_got (char_raw g (not_this b 92 (omega arith) t w) ∙ verbatim_at unescaped s i (found _ e k).1) P

-- ---- a whole string

-- at i the loop is among the characters: what is held and the characters from there on make the string
pub record Decodes (s : Bytes) (from : ℕ) (so_far : Option Bytes) (i : ℕ) : Type 0 where
  pub fuel : ℕ
  pub enough : length s - i ≤ fuel
  pub held_is : push_read so_far (read_at (read_chars (suc fuel)) s i) ≡ push_read (Some []) (read_at read_string s from)
  pub end_is : place_of (read_at (read_chars (suc fuel)) s i) ≡ place_of (read_at read_string s from)

push_on : (h : Option Bytes) (c : Bytes) (r : Read Bytes) → push_read h (mapped (λ cs. c ++ cs) r) ≡ push_read (push h c) r
unfolding push_read mapped
push_on h c (got cs n) = sym (push_push h c cs)
push_on h c bad = refl

module _ {s : Bytes} {from : ℕ} {b : Option ℕ} {u : Bool} (g : Peeked s from b) (t : u ≡ not (option_eq eqb b (Some 34))) where
  pub decode_wrong : (before after : Option Bytes) → u ≡ true → PutsRead before (read_at read_string s from) after None
  unfolding read_string
  decode_wrong before after h = reads_bad (then_bad _ _ _ _ (one_no g _ (isnt_this b 34 (omega arith) t h)))

  pub decode_starts : (d : Decoded) → u ≡ false → d.len ≡ Some 0 → Decodes s from (content d) (from + 1)
  unfolding read_string
  decode_starts d h l =
      let z : read_at read_string s from ≡ read_at (read_chars (suc (length (drop (from + 1) s)))) s (from + 1) =
      on _ _ _ _ (one_yes g _ (isnt_not b 34 t h)) ∙ counted_at read_chars s (from + 1) in
      record { fuel = length (drop (from + 1) s); enough = simp length-drop (omega arith); held_is = rw (holds_none d l, z); end_is = rw z }

module _ {s : Bytes} {from i : ℕ} (d : Decoded) {b : Option ℕ} {u : Bool} (L : Decodes s from (content d) i) (g : Peeked s i b) (t : u ≡ option_eq eqb b (Some 34)) where
  -- what is held at the end is the string
  pub decode_end : u ≡ true → PutsRead (Some []) (read_at read_string s from) (content d) (Some (i + 1))
  decode_end h = record {
    place = unfold place_of in (rw (chars_end g L.fuel (is_this b 34 t h)) at L.end_is);
    is = λ e. sym (push_nil d) ∙ whole (chars_end g L.fuel (is_this b 34 t h)) e L.held_is;
  }
    where
      whole : {r q : Read Bytes} {j k : ℕ} {x : Bytes} → r ≡ got [] k → q ≡ got x j → push_read (content d) r ≡ push_read (Some []) q → push (content d) [] ≡ push (Some []) x
      whole e f p = unfold push_read in (rw (e, f) at p)

  module _ (e : Decoded) {r : Option ℕ} (h : u ≡ false) (H : PutsRead (content d) (read_at read_char s i) (content e) r) where
    pub decode_bad : (after : Option Bytes) → r ≡ None → PutsRead (Some []) (read_at read_string s from) after None
    decode_bad after k =
        let z : None ≡ place_of (read_at read_string s from) = unfold place_of in (rw (chars_stop g L.fuel (not_this b 34 (omega arith) t h) (missed _ H.place k)) at L.end_is) in
        reads_bad (missed _ z refl)

    module _ {j : ℕ} (k : r ≡ Some j) where
      char_here : (c : Bytes) × (read_at read_char s i ≡ got c j)
      char_here = found _ H.place k

      pub decode_less : length s - j < length s - i
      decode_less = omega (arith, char_moves s i char_here.1)

      pub decode_more : Decodes s from (content e) j
      decode_more =
          let f = char_here in
          let l : length s - j < length s - i = decode_less in
          let p : L.fuel ≡ suc (L.fuel - 1) = omega (arith, L.enough) in
          let R : Read Bytes = read_at (read_chars L.fuel) s j in
          let y : push_read (content e) R ≡ push_read (Some []) (read_at read_string s from) =
          rw (H.is f.1) (sym (push_on (content d) f.0 R) ∙ rw (chars_step g L.fuel (not_this b 34 (omega arith) t h) f.1) at L.held_is) in
          let z : place_of R ≡ place_of (read_at read_string s from) = sym (place_mapped (λ cs. f.0 ++ cs) R) ∙ rw (chars_step g L.fuel (not_this b 34 (omega arith) t h) f.1) at L.end_is in
          record { fuel = L.fuel - 1; enough = omega (arith, L.enough); held_is = rw (← p) y; end_is = rw (← p) z }

-- ---- names

module _ (s : Bytes) (from : ℕ) (name : Bytes) {h : Option Bytes} {r : Option ℕ} (H : PutsRead (Some []) (read_at read_string s from) h r) where
  pub name_wrong : r ≡ None → false ≡ is_text (content_of (read_at read_string s from)) name
  name_wrong k = go (missed _ H.place k)
    where
      go : read_at read_string s from ≡ bad → false ≡ is_text (content_of (read_at read_string s from)) name
      go e = unfold content_of is_text in (rw e)

  module _ {j : ℕ} (k : r ≡ Some j) where
    name_held : content_of (read_at read_string s from) ≡ h
    name_held = go (found _ H.place k)
      where
        go : (x : Bytes) × (read_at read_string s from ≡ got x j) → content_of (read_at read_string s from) ≡ h
        go f = unfold content_of in (rw f.1 (sym (H.is f.1 ∙ put_first f.0)))

    module _ {T : Type 0} (f : T → Bytes) {q : Option T} (e : option_map f q ≡ h) where
      name_over : q ≡ None → false ≡ is_text (content_of (read_at read_string s from)) name
      name_over l = sym (ap (λ (x : Option Bytes). is_text x name) (name_held ∙ sym e ∙ ap (option_map f) l) ∙ unfold is_text in refl)

      name_told : {t : T} {u : Bool} → q ≡ Some t → u ≡ same (f t) name → u ≡ is_text (content_of (read_at read_string s from)) name
      name_told l w = w ∙ sym (ap (λ (x : Option Bytes). is_text x name) (name_held ∙ sym e ∙ ap (option_map f) l) ∙ unfold is_text in refl)

    -- where the test of what is held tells P of it
    pub name_tested : {T : Type 0} (f : T → Bytes) (q : Option T) {u : Bool} {P : T → Type 0} → option_map f q ≡ h → MatchOption q (u ≡ false) P
        → ((t : T) → P t → u ≡ same (f t) name) → u ≡ is_text (content_of (read_at read_string s from)) name
    name_tested f None e m told = m ∙ name_over f e refl
    name_tested f (Some t) e m told = name_told f e refl (told t m)
