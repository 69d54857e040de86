-- One entry: decoded, judged, and where the next one stands.
use Rattle.std.specs.Prelude.{if◌then◌else◌, Option, None, Some, option_map}
use mathlib.Core.Path.{◌≡◌, refl, sym, ap, ◌∙◌}
use mathlib.Core.Bool.{Bool, true, false}
use mathlib.Core.List.{[]}
use Prim.Native.Nat.{ℕ, ◌+◌, ◌-◌, ◌≤◌, ◌<◌, ◌^◌}
use native.Mathlib.Omega.{arith}
use mir.Syntax.{w64}
use mir.Val.{Fits}
use lib.Dec.{leb}
use lib.ListN.{length, take, drop}
use borrow.Author.Tests.{lt-ltb, leb-false}
use Rattle.ascii.specs.Ascii.{Bytes}
use Rattle.json_text.specs.Reader.{got}
use Rattle.json_text.specs.Lexical.{read_string}
use Rattle.json_text.specs.code.Places.{read_at, place_of, fit, PutsRead}
use Rattle.json_text.specs.code.Held.{content}
use Rattle.json_text.specs.code.PlainString.{Within, in_the_text, no_place, Plain, plain_string, other_string, PlainIs}
use Rattle.json_text.specs.declared.decoding.Decoded.{Decoded}
use Rattle.json_text.proofs.Holding.{put_first}
use Rattle.trusted_list.specs.code.Entries.{next_entry}
use Rattle.entries.specs.Causes.{cause}
use Rattle.entries.specs.code.Reading.{Decodes, EntryIs, ReadsOf}
use Rattle.entries.specs.declared.Cause.{Cause}
use Rattle.entries.specs.declared.Cause.TheVariants.{TooLong}
use Rattle.entries.specs.declared.Entry.{Entry}

-- ---- decoded

pub decodes_escaped : (body : Bytes) (at : ℕ) (d : Decoded) {r : Option ℕ} → PutsRead (Some []) (read_at read_string body at) (content d) r → Decodes body at d r
decodes_escaped body at d P = record { place = λ e j f. P.place ∙ there f; is = λ e j f. P.is f ∙ put_first e }
  where
    there : {e : Bytes} {j : ℕ} → read_at read_string body at ≡ got e j → place_of (read_at read_string body at) ≡ Some j
    there f = unfold place_of in (rw f)

module _ {s : Bytes} {at : ℕ} {r : Option ℕ} (P : PlainIs s at r) {q : ℕ} (h : r ≡ Some q) where
  bounds : (at + 1 ≤ q) × (q < length s)
  bounds = go P.within h
    where
      go : {r : Option ℕ} → Within s at r → r ≡ Some q → (at + 1 ≤ q) × (q < length s)
      go (in_the_text {q = p} l m) h = let z : p ≡ q = cc in (omega arith, omega arith)
      go no_place h = let z : ◌≡◌ {A = ℕ} 0 1 = cc in absurd (omega arith)

  pub plain_low : at + 1 ≤ q
  plain_low = bounds.0

  pub plain_high : q ≤ length s
  plain_high = omega (arith, bounds.1)

  pub plain_from : length s < 2 ^ 64 → Fits w64 (at + 1)
  plain_from l = record { fits = omega (arith, bounds.0, bounds.1) }

  pub plain_behind : length s < 2 ^ 64 → Fits w64 (q + 1)
  plain_behind l = record { fits = omega (arith, bounds.1) }

  module _ (e : Bytes) (k : ℕ) (f : read_at read_string s at ≡ got e k) where
    there : (k ≡ q + 1) × (e ≡ take (q - (at + 1)) (drop (at + 1) s))
    there = go (P.is e k f) h
      where
        go : {r : Option ℕ} → Plain s at e k r → r ≡ Some q → (k ≡ q + 1) × (e ≡ take (q - (at + 1)) (drop (at + 1) s))
        go (plain_string {q = p} a b) h = let z : p ≡ q = cc in (rw z at a, rw z at b)
        go other_string h = let z : ◌≡◌ {A = ℕ} 0 1 = cc in absurd (omega arith)

  pub decodes_plain : (d : Decoded) → content d ≡ fit (take (q - (at + 1)) (drop (at + 1) s)) → Decodes s at d (Some (q + 1))
  decodes_plain d E = record { place = λ e j f. ap Some (sym (there e j f).0); is = λ e j f. E ∙ ap fit (sym (there e j f).1) }

-- ---- held

fit_none : (e : Bytes) → None ≡ fit e → 512 < length e
unfolding fit
fit_none e h = go (leb (length e) 512) refl h
  where
    go : (u : Bool) → leb (length e) 512 ≡ u → None ≡ (if u then Some e else None) → 512 < length e
    go true f h = let z : ◌≡◌ {A = ℕ} 0 1 = cc in absurd (omega arith)
    go false f h = leb-false (length e) 512 f

pub fit_some : (e : Bytes) {t : Bytes} → Some t ≡ fit e → t ≡ e
unfolding fit
fit_some e {t} h = go (leb (length e) 512) h
  where
    go : (u : Bool) → Some t ≡ (if u then Some e else None) → t ≡ e
    go true h = cc
    go false h = let z : ◌≡◌ {A = ℕ} 0 1 = cc in absurd (omega arith)

module _ (body : Bytes) (at : ℕ) (appid table : Bytes) {d : Decoded} {r : Option ℕ} (D : Decodes body at d r) where
  pub read_wrong : {x : Entry} → r ≡ None → ReadsOf body at appid table d x
  read_wrong {x} h = record { is = λ e j f. nothing e j (D.place e j f) }
    where
      nothing : (e : Bytes) (j : ℕ) → r ≡ Some j → EntryIs appid table body e j d x
      nothing e j f = let z : ◌≡◌ {A = ℕ} 0 1 = cc in absurd (omega arith)

  module _ {k : ℕ} (h : r ≡ Some k) {y : Option ℕ} (N : y ≡ next_entry body k) where
    -- held, and judged by v
    read_so : {v : Option Cause} → ((e : Bytes) → content d ≡ fit e → v ≡ cause appid table e) → ReadsOf body at appid table d (record { cause = v; next = y })
    read_so C = record { is = λ e j f. record { content_is = D.is e j f; cause_is = C e (D.is e j f); next_is = N ∙ ap (next_entry body) (ends j (D.place e j f)) } }
      where
        ends : (j : ℕ) → r ≡ Some j → k ≡ j
        ends j f = cc

    module _ {T : Type 0} (f : T → Bytes) {q : Option T} (E : option_map f q ≡ content d) where
      pub read_over : q ≡ None → ReadsOf body at appid table d (record { cause = Some TooLong; next = y })
      read_over l = read_so (λ e x. too_long e (fit_none e (sym (ap (option_map f) l) ∙ E ∙ x)))
        where
          too_long : (e : Bytes) → 512 < length e → Some TooLong ≡ cause appid table e
          too_long e m = unfold cause in (rw (lt-ltb 512 (length e) m))

      pub read_judged : {t : T} {v : Option Cause} → q ≡ Some t → v ≡ cause appid table (f t) → ReadsOf body at appid table d (record { cause = v; next = y })
      read_judged l J = read_so (λ e x. J ∙ ap (cause appid table) (fit_some e (sym (ap (option_map f) l) ∙ E ∙ x)))
