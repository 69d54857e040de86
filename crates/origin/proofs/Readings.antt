-- Where the parts of a web origin or an HTTPS URL stand. Assumes nothing.
use Rattle.std.specs.Prelude.{if◌then◌else◌, Option, None, Some, is_some}
use mathlib.Core.Path.{◌≡◌, refl, sym, ◌∙◌}
use mathlib.Core.Bool.{Bool, true, false, ◌&&◌, not, and-false}
use mathlib.Core.List.{[], ◌∷◌}
use Prim.Native.Nat.{ℕ, ◌+◌, ◌-◌, ◌≤◌, ◌<◌}
use native.Mathlib.Numerals.{add-one}
use native.Mathlib.Omega.{arith}
use lib.ListN.{length, get_or, take, drop, drop_of_length-le}
use lib.Seq.{drop-cons}
use lib.Dec.{leb}
use borrow.Author.Tests.{ne_eqb, lt-leb, le-leb, leb-true, leb-false}
use Rattle.ascii.specs.Ascii.{Bytes, ◌when◌, is_empty, all, take_while, is_digit, begins_with, begins_with_no_case, text, value, number16}
use Rattle.ascii.proofs.Compare.{begins_no_case_short}
use Rattle.ascii.proofs.Scan.{scan_rest, scan_part, scan_to}
use Rattle.hosts.specs.Host.{is_host}
use Rattle.hosts.proofs.Places.{rest_whole}
use Rattle.origin.specs.Origin.{Authority, begins_https, is_port, effective_port, read_port, is_host_byte, read_host, read_https, web_origin, is_native, is_facet, is_tail, https_url}
use Rattle.origin.specs.code.Parts.{part, authority_in, Inside, Within, nowhere, within, Reads, port_of, without_port, HostEnd, is_end}
use Rattle.origin.specs.declared.Parts.{Parts}

-- ---- ports

no_part : (s : Bytes) (end : ℕ) → part s (end + 1) end ≡ []
unfolding part
no_part s end = let z : end - (end + 1) ≡ 0 = omega arith in rw z

pub port_absent : (s : Bytes) (end n tail : ℕ) → HostEnd s end → n ≡ 443 → tail ≡ end → Reads s (Some (without_port s end)) (Some (record { end = end; port = n; tail = tail }))
unfolding authority_in effective_port
port_absent s end n tail H e t = record {
  is = rw (t, no_part s end);
  places = within {p = record { end = end; port = n; tail = tail }} (record { low = H.low; middle = omega arith; high = omega (arith, H.high, t); colon = λ l. absurd (omega arith); port_is = rw (t, no_part s end) e });
}

module _ (s : Bytes) (end : ℕ) {q : Option Parts} (R : Reads s (Some (without_port s end)) q) where
  without : begins_with (text ":") (drop end s) ≡ false → Reads s (read_port (part s 8 end) (drop end s)) q
  unfolding read_port
  without h = record { is = R.is ∙ sym (rw h); places = R.places }

  pub port_at_end : length s ≤ end → Reads s (read_port (part s 8 end) (drop end s)) q
  unfolding begins_with
  port_at_end h = without (rw (drop_of_length-le s h))

  pub port_no_colon : end < length s → (get_or s end 0 ≡ 58 → ⊥) → Reads s (read_port (part s 8 end) (drop end s)) q
  unfolding begins_with
  port_no_colon h n = without (rw (drop-cons s end 0 h, ne_eqb 58 (get_or s end 0) (λ z. n (sym z))))

record IsPort (p : Bytes) (n : ℕ) : Type 0 where
  yes : is_port p ≡ true
  number : n ≡ value p

port_told : (p : Bytes) (n : ℕ) → port_of p ≡ Some n → IsPort p n
unfolding port_of is_port number16
port_told p n = go (begins_with (text "0") p) refl (not (is_empty p) && all is_digit p && leb (value p) 65535) refl
  where
    go : (u : Bool) → begins_with (text "0") p ≡ u → (v : Bool) → (not (is_empty p) && all is_digit p && leb (value p) 65535) ≡ v
        → (if u then None else (value p when v)) ≡ Some n → IsPort p n
    go true e v f h = let z : ◌≡◌ {A = ℕ} 0 1 = cc in absurd (omega arith)
    go false e true f h = record { yes = rw (e, f); number = cc }
    go false e false f h = let z : ◌≡◌ {A = ℕ} 0 1 = cc in absurd (omega arith)

port_filled : (p : Bytes) → is_port p ≡ true → effective_port p ≡ value p
unfolding is_port number16 effective_port
port_filled [] e = let z : ◌≡◌ {A = ℕ} 0 1 = cc in absurd (omega arith)
port_filled (b ∷ p) e = refl

port_refused : (p : Bytes) → port_of p ≡ None → is_port p ≡ false
unfolding port_of is_port number16
port_refused p = go (begins_with (text "0") p) refl (not (is_empty p) && all is_digit p && leb (value p) 65535) refl
  where
    go : (u : Bool) → begins_with (text "0") p ≡ u → (v : Bool) → (not (is_empty p) && all is_digit p && leb (value p) 65535) ≡ v
        → (if u then None else (value p when v)) ≡ None → is_port p ≡ false
    go true e v f h = rw (e, and-false)
    go false e true f h = let z : ◌≡◌ {A = ℕ} 0 1 = cc in absurd (omega arith)
    go false e false f h = rw f

pub digits_end : (s : Bytes) (end : ℕ) {tail : ℕ} → end < length s → tail ≡ end + 1 + length (take_while is_digit (drop (end + 1) s)) → tail ≤ length s
digits_end s end {tail} h t = scan_to is_digit s (end + 1) tail t (omega arith)

module _ (s : Bytes) (end : ℕ) {q : Option ℕ} {tail : ℕ} (H : HostEnd s end) (h : end < length s) (c : get_or s end 0 ≡ 58)
    (t : tail ≡ end + 1 + length (take_while is_digit (drop (end + 1) s))) (e : q ≡ port_of (take (tail - (end + 1)) (drop (end + 1) s))) where
  digits_are : take_while is_digit (drop (end + 1) s) ≡ part s (end + 1) tail
  unfolding part
  digits_are = sym (scan_part is_digit s (end + 1) tail t)

  colon_read : read_port (part s 8 end) (drop end s)
      ≡ (if is_port (part s (end + 1) tail) then Some (record { host = part s 8 end; port = part s (end + 1) tail; tail = drop tail s }) else None)
  unfolding read_port begins_with
  colon_read = rw (← digits_are, scan_rest is_digit s (end + 1) tail t, add-one, drop-cons s end 0 h, c)

  port_part : q ≡ port_of (part s (end + 1) tail)
  unfolding part
  port_part = e

  pub port_found : {n : ℕ} → q ≡ Some n → Reads s (read_port (part s 8 end) (drop end s)) (Some (record { end = end; port = n; tail = tail }))
  unfolding authority_in
  port_found {n} f =
      let P = port_told (part s (end + 1) tail) n (sym port_part ∙ f) in
      record {
        is = rw (colon_read, P.yes);
        places = within {p = record { end = end; port = n; tail = tail }} (record {
          low = H.low;
          middle = omega arith;
          high = digits_end s end h t;
          colon = λ l. c;
          port_is = P.number ∙ sym (port_filled (part s (end + 1) tail) P.yes);
        });
      }

  pub port_bad : q ≡ None → Reads s (read_port (part s 8 end) (drop end s)) None
  unfolding authority_in
  port_bad f = record { is = rw (colon_read, port_refused (part s (end + 1) tail) (sym port_part ∙ f)); places = nowhere }

-- ---- hosts

module _ (s : Bytes) {end : ℕ} (t : end ≡ 8 + length (take_while is_host_byte (drop 8 s))) where
  pub host_ends : 8 ≤ length s → HostEnd s end
  host_ends h = record { low = omega arith; high = scan_to is_host_byte s 8 end t h }

  module _ {b : Bool} (e : b ≡ is_host (take (end - 8) (drop 8 s))) where
    host_read : read_host (drop 8 s) ≡ (if b then read_port (part s 8 end) (drop end s) else None)
    unfolding read_host part
    host_read = rw (e, scan_part is_host_byte s 8 end t, scan_rest is_host_byte s 8 end t)

    pub host_found : {q : Option Parts} → b ≡ true → Reads s (read_port (part s 8 end) (drop end s)) q → Reads s (read_host (drop 8 s)) q
    host_found h R = record { is = R.is ∙ sym (rw (host_read, h)); places = R.places }

    pub host_bad : b ≡ false → Reads s (read_host (drop 8 s)) None
    unfolding authority_in
    host_bad h = record { is = rw (host_read, h); places = nowhere }

module _ (s : Bytes) {b : Bool} (e : b ≡ begins_https s) where
  pub https_long : b ≡ true → 8 ≤ length s
  unfolding begins_https
  https_long h = go (leb 8 (length s)) refl
    where
      go : (u : Bool) → leb 8 (length s) ≡ u → 8 ≤ length s
      go true f = leb-true 8 (length s) f
      go false f =
          let z : false ≡ begins_with_no_case (text "https://") s = begins_no_case_short (text "https://") s (leb-false 8 (length s) f) in
          let y : ◌≡◌ {A = ℕ} 0 1 = cc in
          absurd (omega arith)

  pub https_found : {q : Option Parts} → b ≡ true → Reads s (read_host (drop 8 s)) q → Reads s (read_https s) q
  unfolding read_https
  https_found h R = record { is = R.is ∙ sym (rw (← e, h)); places = R.places }

  pub https_none : b ≡ false → Reads s (read_https s) None
  unfolding read_https authority_in
  https_none h = record { is = rw (← e, h); places = nowhere }

-- ---- what is found

module _ {s : Bytes} {o : Option Authority} {q : Option Parts} (R : Reads s o q) where
  pub found : {p : Parts} → q ≡ Some p → Reads s o (Some p)
  found h = rw h at R

  pub is_none_lem : q ≡ None → None ≡ o
  unfolding authority_in
  is_none_lem h = let S : Reads s o None = rw h at R in S.is

inside : {s : Bytes} {p : Parts} → Within s (Some p) → Inside s p
inside (within I) = I

module _ {s : Bytes} {o : Option Authority} {q : Option Parts} {p : Parts} (R : Reads s o q) (h : q ≡ Some p) where
  pub found_inside : Inside s p
  found_inside = inside (found R h).places

  pub found_low : 8 ≤ p.end
  found_low = found_inside.low

  pub found_high : p.end ≤ length s
  found_high = omega (arith, found_inside.middle, found_inside.high)

  pub found_middle : p.end ≤ p.tail
  found_middle = found_inside.middle

  pub found_colon : p.end < p.tail → get_or s p.end 0 ≡ 58
  found_colon = found_inside.colon

  pub found_tail : p.tail ≤ length s
  found_tail = found_inside.high

-- ---- web origins

module _ (s : Bytes) {q : Option Parts} (R : Reads s (read_https s) q) where
  pub web_none : q ≡ None → Reads s (web_origin s) None
  unfolding web_origin authority_in
  web_none h = record { is = rw (← is_none_lem R h); places = nowhere }

  pub url_none : q ≡ None → length s ≤ 2048 → Reads s (https_url s) None
  unfolding https_url authority_in
  url_none h l = record { is = rw (← is_none_lem R h, le-leb (length s) 2048 l); places = nowhere }

  module _ {p : Parts} (h : q ≡ Some p) where
    web_is : web_origin s ≡ (if is_end (drop p.tail s) then authority_in s (Some p) else None)
    unfolding web_origin authority_in is_end
    web_is = rw (← (found R h).is)

    url_is : length s ≤ 2048 → https_url s ≡ (if is_tail (drop p.tail s) then authority_in s (Some p) else None)
    unfolding https_url authority_in
    url_is l = rw (← (found R h).is, le-leb (length s) 2048 l)

    module _ {b : Bool} (e : b ≡ is_end (take (length s - p.tail) (drop p.tail s))) where
      end_is : is_end (drop p.tail s) ≡ b
      end_is = sym (e ∙ rw (rest_whole s p.tail))

      pub web_found : b ≡ true → Reads s (web_origin s) (Some p)
      web_found t = record { is = sym (rw (web_is, end_is, t)); places = (found R h).places }

      pub web_tail : b ≡ false → Reads s (web_origin s) None
      unfolding authority_in
      web_tail t = record { is = sym (rw (web_is, end_is, t)); places = nowhere }

    module _ {b : Bool} (l : length s ≤ 2048) (e : b ≡ is_tail (take (length s - p.tail) (drop p.tail s))) where
      tail_is : is_tail (drop p.tail s) ≡ b
      tail_is = sym (e ∙ rw (rest_whole s p.tail))

      pub url_found : b ≡ true → Reads s (https_url s) (Some p)
      url_found t = record { is = sym (rw (url_is l, tail_is, t)); places = (found R h).places }

      pub url_tail : b ≡ false → Reads s (https_url s) None
      unfolding authority_in
      url_tail t = record { is = sym (rw (url_is l, tail_is, t)); places = nowhere }

pub url_long : (s : Bytes) → 2048 < length s → Reads s (https_url s) None
unfolding https_url authority_in
url_long s h = record { is = rw (lt-leb (length s) 2048 h); places = nowhere }

-- ---- facets

pub facet_long : (s : Bytes) → 512 < length s → false ≡ is_facet s
unfolding is_facet
facet_long s h = rw (lt-leb (length s) 512 h)

module _ (s : Bytes) {q : Option Parts} (l : length s ≤ 512) (R : Reads s (web_origin s) q) where
  module _ {b : Bool} (e : b ≡ is_some q) where
    pub facet_web : b ≡ true → true ≡ is_facet s
    unfolding is_facet authority_in
    facet_web h = go q (sym e ∙ h) R.is
      where
        go : (o : Option Parts) → is_some o ≡ true → authority_in s o ≡ web_origin s → true ≡ is_facet s
        go None k i = let z : ◌≡◌ {A = ℕ} 0 1 = cc in absurd (omega arith)
        go (Some p) k i = rw (← i, le-leb (length s) 512 l)

    pub facet_native : {r : Bool} → b ≡ false → r ≡ is_native s → r ≡ is_facet s
    unfolding is_facet authority_in
    facet_native h f = f ∙ go q (sym e ∙ h) R.is
      where
        go : (o : Option Parts) → is_some o ≡ false → authority_in s o ≡ web_origin s → is_native s ≡ is_facet s
        go None k i = rw (← i, le-leb (length s) 512 l)
        go (Some p) k i = let z : ◌≡◌ {A = ℕ} 0 1 = cc in absurd (omega arith)
