-- Normal forms: read again, no longer, plain ASCII. Assumes nothing.
use Rattle.std.specs.Prelude.{if◌then◌else◌, Option, None, Some}
use mathlib.Core.Path.{◌≡◌, refl, sym, ap, ◌∙◌}
use mathlib.Core.List.{[], ◌∷◌, ◌++◌, append-nil}
use mathlib.Core.Bool.{Bool, true, false, ◌||◌, and-eq-true_iff}
use Prim.Native.Nat.{ℕ, ◌+◌, ◌≤◌}
use native.Mathlib.Omega.{arith}
use lib.ListN.{length, length-append}
use borrow.Author.Tests.{le-leb}
use Rattle.ascii.specs.Ascii.{Bytes, is_empty, all, take_while, drop_while, is_digit, is_upper, is_letter, same, lower_byte, lower, begins_with, begins_with_no_case, text, value, value_from}
use Rattle.ascii.proofs.Compare.{length_lower, same_eq}
use Rattle.hosts.specs.Host.{is_host, is_label_byte}
use Rattle.hosts.proofs.Case.{is_byte, is_label_byte_lem, lower_lower, map_map_eq, all_lower, is_host_lem}
use Rattle.origin.specs.Origin.{Authority, begins_https, is_port, effective_port, read_port, is_host_byte, read_host, read_https, web_origin, is_native, is_facet, shown_port, normal_web, normal_of, normal_form}
use Rattle.origin.proofs.Origins.{origin_read, port_digits, native_no_web, facet_short_enough}
use Rattle.normal_forms.specs.code.Normals.{is_hidden, normal_authority}

-- ---- the two kinds

pub own_normal : (s : Bytes) → web_origin s ≡ None → normal_form s ≡ s
unfolding normal_form normal_of
own_normal s e = rw (e, normal_form)

pub native_normal : (s : Bytes) → is_native s ≡ true → normal_form s ≡ s
native_normal s e = own_normal s (native_no_web s e)

pub web_normal : (s : Bytes) (a : Authority) → web_origin s ≡ Some a → normal_form s ≡ normal_web a
unfolding normal_form normal_of
web_normal s a e = rw (e, normal_form)

-- ---- no longer

pub normal_short : (s : Bytes) → length (normal_form s) ≤ length s
normal_short s = go (web_origin s) refl
  where
    go : (o : Option Authority) → web_origin s ≡ o → length (normal_form s) ≤ length s
    go None e = omega (arith, ap length (own_normal s e))
    go (Some a) e =
        let n : length (normal_web a) ≡ 8 + length a.host + length (shown_port a.port) = web_size a in
        omega (arith, ap length (web_normal s a e), (origin_read s a e).long)
      where
        web_size : (a : Authority) → length (normal_web a) ≡ 8 + length a.host + length (shown_port a.port)
        web_size a = unfold normal_web in
            omega (
              arith,
              length-append (text "https://" ++ lower a.host) (shown_port a.port),
              length-append (text "https://") (lower a.host),
              length_lower a.host,
            )

-- ---- read again

take_append : (p : ℕ → Bool) (x r : Bytes) → all p x ≡ true → take_while p (x ++ r) ≡ x ++ take_while p r
unfolding all take_while
take_append p [] r e = refl
take_append p (b ∷ x) r e = let h = (and-eq-true_iff (p b) (all p x)).0 e in rw (h.0, take_append p x r h.1)

drop_append : (p : ℕ → Bool) (x r : Bytes) → all p x ≡ true → drop_while p (x ++ r) ≡ drop_while p r
unfolding all drop_while
drop_append p [] r e = refl
drop_append p (b ∷ x) r e = let h = (and-eq-true_iff (p b) (all p x)).0 e in rw (h.0, drop_append p x r h.1)

is_host_byte_lem : (b : ℕ) → is_host_byte (lower_byte b) ≡ is_host_byte b
unfolding is_host_byte
is_host_byte_lem b = rw (is_label_byte_lem b, is_byte 46 (omega arith) b)

pub lower_twice : (s : Bytes) → lower (lower s) ≡ lower s
unfolding lower
lower_twice s = map_map_eq lower_byte lower_lower s

not_first : (p q : Bool) → (p || q) ≡ false → p ≡ false
not_first false q h = refl
not_first true q h = h

module _ (a : Authority) (good_host : is_host a.host ≡ true) (host_bytes : all is_host_byte a.host ≡ true) (good_port : (is_empty a.port || is_port a.port) ≡ true) where
  pub lower_bytes : all is_host_byte (lower a.host) ≡ true
  lower_bytes = all_lower is_host_byte is_host_byte_lem a.host ∙ host_bytes

  read_shown : (u : Bool) → is_hidden a.port ≡ u
      → read_port (lower a.host) (if u then [] else text ":" ++ a.port) ≡ Some (record { host = lower a.host; port = if u then [] else a.port; tail = [] })
  unfolding read_port begins_with take_while drop_while is_hidden
  read_shown true e = refl
  read_shown false e =
      let filled : is_empty a.port ≡ false = not_first (is_empty a.port) (same a.port (text "443")) e in
      let ok : is_port a.port ≡ true = sym (ap (λ (u : Bool). u || is_port a.port) filled) ∙ good_port in
      let ds : all is_digit a.port ≡ true = port_digits a.port ok in
      let t1 : take_while is_digit a.port ≡ a.port = ap (take_while is_digit) (sym (append-nil a.port)) ∙ take_append is_digit a.port [] ds ∙ append-nil a.port in
      let t2 : drop_while is_digit a.port ≡ [] = ap (drop_while is_digit) (sym (append-nil a.port)) ∙ drop_append is_digit a.port [] ds in
      rw (t1, t2, ok)

  host_part : (u : Bool) → take_while is_host_byte (lower a.host ++ (if u then [] else text ":" ++ a.port)) ≡ lower a.host
  unfolding take_while is_host_byte is_label_byte is_letter is_upper is_digit
  host_part true = take_append is_host_byte (lower a.host) [] lower_bytes ∙ append-nil (lower a.host)
  host_part false = take_append is_host_byte (lower a.host) (text ":" ++ a.port) lower_bytes ∙ append-nil (lower a.host)

  rest_part : (u : Bool) → drop_while is_host_byte (lower a.host ++ (if u then [] else text ":" ++ a.port)) ≡ (if u then [] else text ":" ++ a.port)
  unfolding drop_while is_host_byte is_label_byte is_letter is_upper is_digit
  rest_part true = drop_append is_host_byte (lower a.host) [] lower_bytes
  rest_part false = drop_append is_host_byte (lower a.host) (text ":" ++ a.port) lower_bytes

  host_reads : read_host (lower a.host ++ shown_port a.port) ≡ Some (normal_authority a)
  unfolding read_host shown_port is_hidden normal_authority
  host_reads = rw (host_part (is_hidden a.port), rest_part (is_hidden a.port), is_host_lem, good_host) (read_shown (is_hidden a.port) refl)

  https_reads : read_https (normal_web a) ≡ Some (normal_authority a)
  unfolding read_https normal_web begins_https begins_with_no_case begins_with lower lower_byte is_upper
  https_reads = host_reads

  web_reads : web_origin (normal_web a) ≡ Some (normal_authority a)
  unfolding web_origin normal_authority
  web_reads = rw https_reads

-- what is read of the normal form of a web origin
pub origin_normal : (s : Bytes) (a : Authority) → web_origin s ≡ Some a → web_origin (normal_form s) ≡ Some (normal_authority a)
origin_normal s a e =
    let r = origin_read s a e in
    ap web_origin (web_normal s a e) ∙ web_reads a r.good_host r.host_bytes r.good_port

-- its host in lower case, and the same port by value
pub host_normal : (a : Authority) → (normal_authority a).host ≡ lower a.host
unfolding normal_authority
host_normal a = refl

pub port_normal : (a : Authority) → effective_port (normal_authority a).port ≡ effective_port a.port
unfolding effective_port normal_authority is_hidden
port_normal a = go (is_empty a.port) refl (same a.port (text "443")) refl
  where
    go : (u : Bool) → is_empty a.port ≡ u → (v : Bool) → same a.port (text "443") ≡ v
        → (if is_empty (if u || v then [] else a.port) then 443 else value (if u || v then [] else a.port)) ≡ (if u then 443 else value a.port)
    go true e v f = refl
    go false e true f = sym (rw (same_eq a.port (text "443") f) value_443)
      where
        value_443 : value (text "443") ≡ 443
        value_443 = unfold value value_from in refl
    go false e false f = rw e

-- ---- twice

shown_again : (p : Bytes) → shown_port (if is_hidden p then [] else p) ≡ shown_port p
unfolding shown_port is_hidden
shown_again p = go (is_empty p || same p (text "443")) refl
  where
    go : (u : Bool) → (is_empty p || same p (text "443")) ≡ u → shown_port (if u then [] else p) ≡ (if u then [] else text ":" ++ p)
    go true e = refl
    go false e = rw e

web_again : (a : Authority) → normal_web (normal_authority a) ≡ normal_web a
unfolding normal_web normal_authority
web_again a = rw (lower_twice, shown_again)

-- the normal form is its own normal form
pub normal_twice : (s : Bytes) → normal_form (normal_form s) ≡ normal_form s
normal_twice s = go (web_origin s) refl
  where
    go : (o : Option Authority) → web_origin s ≡ o → normal_form (normal_form s) ≡ normal_form s
    go None e = ap normal_form (own_normal s e)
    go (Some a) e = web_normal (normal_form s) (normal_authority a) (origin_normal s a e) ∙ web_again a ∙ sym (web_normal s a e)

-- ---- a facet again

pub facet_normal : (s : Bytes) → is_facet s ≡ true → is_facet (normal_form s) ≡ true
facet_normal s h = go (web_origin s) refl
  where
    web : (t : Bytes) (b : Authority) → web_origin t ≡ Some b → length t ≤ 512 → is_facet t ≡ true
    web t b e l = unfold is_facet in rw (e, le-leb (length t) 512 l)

    go : (o : Option Authority) → web_origin s ≡ o → is_facet (normal_form s) ≡ true
    go None e = rw (own_normal s e) h
    go (Some a) e = web (normal_form s) (normal_authority a) (origin_normal s a e) (omega (arith, normal_short s, facet_short_enough s h))
