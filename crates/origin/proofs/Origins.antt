-- What is known of a text that is read as a web origin or an HTTPS URL, and of native identities. Assumes nothing.
use Rattle.std.specs.Prelude.{if◌then◌else◌, Option, None, Some}
use mathlib.Core.Path.{◌≡◌, refl, sym, ap, ap₂}
use mathlib.Core.List.{[], ◌∷◌, ◌++◌}
use mathlib.Core.Bool.{Bool, true, false, ◌&&◌, ◌||◌, not, or-true, and-eq-true_iff}
use Prim.Native.Nat.{ℕ, ◌+◌, ◌≤◌}
use native.Mathlib.Omega.{arith}
use lib.ListN.{length, drop, length-append, length-drop}
use lib.Dec.{eqb, leb}
use borrow.Author.Tests.{eqb-true, leb-true}
use Rattle.ascii.specs.Ascii.{Bytes, ◌>>=◌, ◌when◌, is_none, is_empty, all, take_while, drop_while, between, is_digit, is_upper, same, lower_byte, lower, begins_with, begins_with_no_case, text, value, number16}
use Rattle.ascii.proofs.Compare.{length_lower}
use Rattle.ascii.proofs.OptionLaws.{Holds, holds}
use Rattle.ascii.proofs.Scan.{while_all, while_rest, while_length}
use Rattle.hosts.specs.Host.{is_host}
use Rattle.origin.specs.Origin.{Authority, begins_https, android_prefix, ios_prefix, is_port, read_port, is_host_byte, read_host, read_https, web_origin, is_key_hash_byte, is_android, is_ios, begins_native, is_native, is_facet, shown_port}

-- ---- tests

both : (a b : Bool) → (a && b) ≡ true → (a ≡ true) × (b ≡ true)
both a b = (and-eq-true_iff a b).0

pub begins_split : (p s : Bytes) → begins_with p s ≡ true → s ≡ p ++ drop (length p) s
unfolding begins_with
begins_split [] s e = refl
begins_split (b ∷ p) [] e = let z : ◌≡◌ {A = ℕ} 0 1 = cc in absurd (omega arith)
begins_split (b ∷ p) (c ∷ s) e = let h = both (eqb b c) (begins_with p s) e in ap₂ ◌∷◌ (sym (eqb-true b c h.0)) (begins_split p s h.1)

pub begins_length : (p s : Bytes) → begins_with p s ≡ true → length p ≤ length s
begins_length p s e = omega (arith, ap length (begins_split p s e), length-append p (drop (length p) s))

while_split : (f : ℕ → Bool) (l : Bytes) → length (take_while f l) + length (drop_while f l) ≡ length l
while_split f l = omega (arith, ap length (while_rest f l), length-drop (length (take_while f l)) l, while_length f l)

-- ---- what is read

abbrev PortRead : Bytes → Bytes → Authority → Type 0
PortRead host s a =
    (a.host ≡ host) × ((is_empty a.port || is_port a.port) ≡ true) × (length (shown_port a.port) + length a.tail ≤ length s)
    × (length s ≤ 1 + length a.port + length a.tail)

shown_length : (p : Bytes) → length (shown_port p) ≤ 1 + length p
unfolding shown_port
shown_length p = go (is_empty p || same p (text "443"))
  where
    go : (u : Bool) → length (if u then [] else text ":" ++ p) ≤ 1 + length p
    go true = omega arith
    go false = omega arith

port_read : (host s : Bytes) → Holds (PortRead host s) (read_port host s)
unfolding read_port
port_read host s = go (begins_with (text ":") s) refl (is_port (take_while is_digit (drop 1 s))) refl
  where
    go : (t : Bool) → begins_with (text ":") s ≡ t → (u : Bool) → is_port (take_while is_digit (drop 1 s)) ≡ u
        → Holds (PortRead host s) (if not t then Some (record { host = host; port = []; tail = s }) else
        if u then Some (record { host = host; port = take_while is_digit (drop 1 s); tail = drop_while is_digit (drop 1 s) }) else None)
    go false e u f = (refl, refl, unfold shown_port in omega arith, omega arith)
    go true e true f =
        (refl, rw (f, or-true), omega (arith, shown_length (take_while is_digit (drop 1 s)), while_split is_digit (drop 1 s), length-drop 1 s, begins_length (text ":") s e), omega (arith, while_split is_digit (drop 1 s), length-drop 1 s))
    go true e false f = tt

-- a is read of s
pub record ReadOf (s : Bytes) (a : Authority) : Type 0 where
  pub begins : begins_https s ≡ true
  pub good_host : is_host a.host ≡ true
  pub host_bytes : all is_host_byte a.host ≡ true
  pub good_port : (is_empty a.port || is_port a.port) ≡ true
  pub long : 8 + length a.host + length (shown_port a.port) + length a.tail ≤ length s
  pub whole : length s ≤ 9 + length a.host + length a.port + length a.tail

https_least : (s : Bytes) → begins_https s ≡ true → 8 ≤ length s
unfolding begins_https begins_with_no_case
https_least s e = omega (arith, begins_length (text "https://") (lower s) e, length_lower s)

https_read : (s : Bytes) → Holds (ReadOf s) (read_https s)
unfolding read_https read_host
https_read s = go (begins_https s) refl (is_host (take_while is_host_byte (drop 8 s))) refl (read_port (take_while is_host_byte (drop 8 s)) (drop_while is_host_byte (drop 8 s))) (port_read (take_while is_host_byte (drop 8 s)) (drop_while is_host_byte (drop 8 s)))
  where
    go : (t : Bool) → begins_https s ≡ t → (u : Bool) → is_host (take_while is_host_byte (drop 8 s)) ≡ u → (o : Option Authority)
        → Holds (PortRead (take_while is_host_byte (drop 8 s)) (drop_while is_host_byte (drop 8 s))) o → Holds (ReadOf s) (if t then (if u then o else None) else None)
    go false b u e o h = tt
    go true b false e o h = tt
    go true b true e None h = tt
    go true b true e (Some a) h = record {
      begins = b;
      good_host = rw h.0 e;
      host_bytes = rw h.0 (while_all is_host_byte (drop 8 s));
      good_port = h.1;
      long = omega (arith, ap length h.0, h.2, while_split is_host_byte (drop 8 s), length-drop 8 s, https_least s b);
      whole = omega (arith, ap length h.0, h.3, while_split is_host_byte (drop 8 s), length-drop 8 s);
    }

-- where a test of the tail stands behind the reading
then_read : (s : Bytes) (o : Option Authority) (f : Bytes → Bool) → Holds (ReadOf s) o → Holds (ReadOf s) (o >>= λ a. if f a.tail then Some a else None)
then_read s None f h = tt
then_read s (Some a) f h = go (f a.tail)
  where
    go : (u : Bool) → Holds (ReadOf s) (if u then Some a else None)
    go true = h
    go false = tt

pub origin_read : (s : Bytes) (a : Authority) → web_origin s ≡ Some a → ReadOf s a
unfolding web_origin
origin_read s a e = holds (ReadOf s) (web_origin s) a (then_read s (read_https s) (λ t. is_empty t || same t (text "/")) (https_read s)) e

pub port_digits : (p : Bytes) → is_port p ≡ true → all is_digit p ≡ true
unfolding is_port number16
port_digits p e = go (is_empty p) (all is_digit p) (leb (value p) 65535) e
  where
    go : (u v w : Bool) → (not (is_none (value p when (not u && v && w))) && not (begins_with (text "0") p)) ≡ true → v ≡ true
    go u true w e = refl
    go true false w e = let z : ◌≡◌ {A = ℕ} 0 1 = cc in absurd (omega arith)
    go false false w e = let z : ◌≡◌ {A = ℕ} 0 1 = cc in absurd (omega arith)

-- ---- native identities

pub native_begins : (s : Bytes) → is_native s ≡ true → begins_native s ≡ true
unfolding is_native begins_native is_android is_ios
native_begins s e = go (begins_with android_prefix s) (eqb (length (drop 21 s)) 27) (all is_key_hash_byte (drop 21 s)) (begins_with ios_prefix s) (between 1 255 (length (drop 14 s))) (all is_host_byte (drop 14 s)) e
  where
    go : (a b c d x y : Bool) → (a && b && c || d && x && y) ≡ true → (a || d) ≡ true
    go true b c d x y h = refl
    go false b c true x y h = refl
    go false b c false x y h = h

-- a native prefix is no `https://`
first_not : (b : ℕ) (p s : Bytes) → begins_with (b ∷ p) s ≡ true → eqb 104 (lower_byte b) ≡ false → begins_https s ≡ false
unfolding begins_with begins_https begins_with_no_case lower
first_not b p [] e n = refl
first_not b p (c ∷ s) e n = let h = both (eqb b c) (begins_with p s) e in rw (← eqb-true b c h.0, n)

pub native_not_https : (s : Bytes) → begins_native s ≡ true → begins_https s ≡ false
unfolding begins_native lower_byte is_upper
native_not_https s e = go (begins_with android_prefix s) refl (begins_with ios_prefix s) refl e
  where
    go : (a : Bool) → begins_with android_prefix s ≡ a → (b : Bool) → begins_with ios_prefix s ≡ b → (a || b) ≡ true → begins_https s ≡ false
    go true f b g h = first_not 97 (text "ndroid:apk-key-hash:") s f refl
    go false f true g h = first_not 105 (text "os:bundle-id:") s g refl
    go false f false g h = let z : ◌≡◌ {A = ℕ} 0 1 = cc in absurd (omega arith)

pub web_begins : (s : Bytes) (a : Authority) → web_origin s ≡ Some a → begins_https s ≡ true
web_begins s a e = (origin_read s a e).begins

pub no_https_no_web : (s : Bytes) → begins_https s ≡ false → web_origin s ≡ None
unfolding web_origin read_https
no_https_no_web s e = rw e

pub native_no_web : (s : Bytes) → is_native s ≡ true → web_origin s ≡ None
native_no_web s e = no_https_no_web s (native_not_https s (native_begins s e))

-- a facet that is no web origin is a native identity
pub facet_native_else : (s : Bytes) → is_facet s ≡ true → web_origin s ≡ None → is_native s ≡ true
unfolding is_facet
facet_native_else s e h =
    let f : (leb (length s) 512 && is_native s) ≡ true = rw h at e in
    (both (leb (length s) 512) (is_native s) f).1

pub facet_short_enough : (s : Bytes) → is_facet s ≡ true → length s ≤ 512
unfolding is_facet
facet_short_enough s e = leb-true (length s) 512 (both (leb (length s) 512) (not (is_none (web_origin s)) || is_native s) e).0
