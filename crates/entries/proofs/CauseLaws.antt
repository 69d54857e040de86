-- One law for each way to a verdict.
use mathlib.Core.Path.{◌≡◌, refl, sym, ◌∙◌}
use mathlib.Core.Bool.{Bool, true, false, not}
use Rattle.std.specs.Prelude.{Option, None, Some}
use Prim.Native.Nat.{ℕ, ◌-◌, ◌≤◌, ◌<◌}
use native.Mathlib.Omega.{arith}
use lib.ListN.{length, take, drop}
use borrow.Author.Tests.{lt-ltb, le-ltb, le-leb}
use Rattle.ascii.specs.Ascii.{Bytes}
use Rattle.hosts.specs.Host.{is_host}
use Rattle.suffix.specs.Suffix.{private_label}
use Rattle.origin.specs.Origin.{Authority, begins_https, begins_native, web_origin, is_native, is_facet}
use Rattle.origin.specs.code.Parts.{part, authority_in, Reads}
use Rattle.origin.specs.declared.Parts.{Parts}
use Rattle.origin.proofs.Readings.{found, is_none_lem, found_low, found_high}
use Rattle.origin.proofs.Origins.{origin_read, native_begins, native_not_https, no_https_no_web}
use Rattle.entries.specs.AppId.{app_label}
use Rattle.entries.specs.Causes.{labels_agree, is_other_label, cause}
use Rattle.entries.specs.declared.Cause.TheVariants.{TooLong, OtherScheme, NotFacet, OtherLabel}

-- an entry that begins `https://` is native no more
https_not_native : (e : Bytes) → begins_https e ≡ true → is_native e ≡ false
https_not_native e h = go (is_native e) refl
  where
    go : (u : Bool) → is_native e ≡ u → is_native e ≡ false
    go false f = f
    go true f = let z : true ≡ false = sym h ∙ native_not_https e (native_begins e f) in let w : ◌≡◌ {A = ℕ} 0 1 = cc in absurd (omega arith)

module _ (appid table e : Bytes) where
  pub judge_long : {n : ℕ} → n < length e → 512 ≤ n → Some TooLong ≡ cause appid table e
  judge_long h k = go (omega arith)
    where
      go : 512 < length e → Some TooLong ≡ cause appid table e
      go l = unfold cause in (rw (lt-ltb 512 (length e) l))

  module _ (l : length e ≤ 512) {b : Bool} (g : b ≡ begins_https e) where
    facet_web : {a : Authority} → web_origin e ≡ Some a → is_facet e ≡ true
    unfolding is_facet
    facet_web f = rw (le-leb (length e) 512 l, f)

    facet_native : web_origin e ≡ None → is_facet e ≡ is_native e
    unfolding is_facet
    facet_native f = rw (le-leb (length e) 512 l, f)

    module _ (h : b ≡ true) {q : Option Parts} (R : Reads e (web_origin e) q) where
      pub judge_no_origin : q ≡ None → Some NotFacet ≡ cause appid table e
      judge_no_origin n = go (facet_native (sym (is_none_lem R n)) ∙ https_not_native e (sym g ∙ h))
        where
          go : is_facet e ≡ false → Some NotFacet ≡ cause appid table e
          go f = unfold cause in (rw (le-ltb 512 (length e) l, sym g ∙ h, f))

      module _ {p : Parts} (f : q ≡ Some p) {r : Bool} (D : r ≡ not (labels_agree (private_label table (take (p.end - 8) (drop 8 e))) (app_label table appid))) where
        -- the origin that is read, by its host
        by_host : (is_facet e ≡ true) × (is_other_label appid table (web_origin e) ≡ r)
        by_host = go (found R f)
          where
            go : Reads e (web_origin e) (Some p) → (is_facet e ≡ true) × (is_other_label appid table (web_origin e) ≡ r)
            go F = unfold authority_in is_other_label part in
                (let w = sym F.is in
                (facet_web w, rw w (sym D)))

        pub judge_other : r ≡ true → Some OtherLabel ≡ cause appid table e
        judge_other t = go by_host.0 (by_host.1 ∙ t)
          where
            go : is_facet e ≡ true → is_other_label appid table (web_origin e) ≡ true → Some OtherLabel ≡ cause appid table e
            go x y = unfold cause in (rw (le-ltb 512 (length e) l, sym g ∙ h, x, y))

        pub judge_kept : r ≡ false → None ≡ cause appid table e
        judge_kept t = go by_host.0 (by_host.1 ∙ t)
          where
            go : is_facet e ≡ true → is_other_label appid table (web_origin e) ≡ false → None ≡ cause appid table e
            go x y = unfold cause in (rw (le-ltb 512 (length e) l, sym g ∙ h, x, y))

    module _ (h : b ≡ false) {c : Bool} (k : c ≡ begins_native e) where
      no_web : web_origin e ≡ None
      no_web = no_https_no_web e (sym g ∙ h)

      none_other : is_other_label appid table (web_origin e) ≡ false
      unfolding is_other_label
      none_other = rw no_web

      pub judge_native : {r : Bool} → c ≡ true → r ≡ is_native e → r ≡ true → None ≡ cause appid table e
      judge_native i n t = go (facet_native no_web ∙ sym n ∙ t) none_other
        where
          go : is_facet e ≡ true → is_other_label appid table (web_origin e) ≡ false → None ≡ cause appid table e
          go x y = unfold cause in (rw (le-ltb 512 (length e) l, sym g ∙ h, sym k ∙ i, x, y))

      pub judge_no_native : {r : Bool} → c ≡ true → r ≡ is_native e → r ≡ false → Some NotFacet ≡ cause appid table e
      judge_no_native i n t = go (facet_native no_web ∙ sym n ∙ t)
        where
          go : is_facet e ≡ false → Some NotFacet ≡ cause appid table e
          go x = unfold cause in (rw (le-ltb 512 (length e) l, sym g ∙ h, sym k ∙ i, x))

      pub judge_scheme : c ≡ false → Some OtherScheme ≡ cause appid table e
      judge_scheme i = unfold cause in (rw (le-ltb 512 (length e) l, sym g ∙ h, sym k ∙ i))

-- the place where the host of an origin ends, and the host
module _ {e : Bytes} {q : Option Parts} (R : Reads e (web_origin e) q) {p : Parts} (f : q ≡ Some p) where
  pub judge_start : 8 ≤ p.end
  judge_start = found_low R f

  pub judge_end : p.end ≤ length e
  judge_end = found_high R f

  pub judge_host : is_host (take (p.end - 8) (drop 8 e)) ≡ true
  judge_host = go (found R f)
    where
      go : Reads e (web_origin e) (Some p) → is_host (take (p.end - 8) (drop 8 e)) ≡ true
      go F = unfold authority_in part in ((origin_read e _ (sym F.is)).good_host)
