-- The exported fetch location: its three numbers, and the part that they name. Assumes nothing.
use Rattle.std.specs.Prelude.{Option, None, Some, if◌then◌else◌}
use mathlib.Core.Path.{◌≡◌, refl, ◌∙◌}
use mathlib.Core.Bool.{Bool, true, false, ◌||◌, ◌&&◌, not}
use Prim.Native.Nat.{ℕ, ◌+◌, ◌-◌, ◌≤◌, ◌<◌}
use native.Mathlib.Omega.{arith}
use mir.Syntax.{w32}
use mir.Val.{Fits}
use lib.ListN.{length}
use lib.Seq.{take-length}
use lib.Dec.{ltb}
use borrow.Author.Tests.{ltb-false}
use Rattle.ascii.specs.Ascii.{Bytes, is_none}
use Rattle.ascii.specs.declared.Span.{Span}
use Rattle.origin.specs.Origin.{begins_https, https_url, is_facet}
use Rattle.origin.specs.code.Parts.{part}
use Rattle.refusals.specs.declared.Refusal.TheVariants.{Stranger, BadAppId}
use Rattle.fetch_record.specs.Record.{last_hop}
use Rattle.fetch_record.specs.declared.item.Redirect.{Redirect}
use Rattle.entries.specs.AppId.{is_bad_app_id}
use Rattle.decision.specs.Answer.{refused}
use Rattle.decision.specs.Decide.{settled, before_list}
use Rattle.decision.specs.Location.{Source, nowhere, the_app_id, redirect, source_from, source_if_fetch, fetch_source}
use Rattle.decision.specs.code.Meaning.{Stands, at_nowhere, at_app, at_hop, Inside, text_place, location_of, Locates}
use Rattle.decision.specs.declared.Location.{Location}
use Rattle.decision.specs.declared.Location.TheVariants.{AppId, Text}
use Rattle.facets.specs.Located.{source_number, source_start, source_length, named_slice, named}

-- ---- a bad AppID is fetched from nowhere: so the length of one that is fetched fits

bad_nowhere : (caller appid items lent : Bytes) → is_bad_app_id appid ≡ true → fetch_source caller appid items lent ≡ nowhere
unfolding fetch_source before_list source_if_fetch
bad_nowhere caller appid items lent e = rw e (go (not (is_facet caller)))
  where
    go : (t : Bool) → source_if_fetch (if t then settled (refused Stranger) else settled (refused BadAppId)) (source_from (last_hop items lent)) ≡ nowhere
    go true = refl
    go false = refl

app_short : (caller appid items lent : Bytes) → fetch_source caller appid items lent ≡ the_app_id → length appid ≤ 2048
app_short caller appid items lent h = go (is_bad_app_id appid) refl
  where
    short : (a b : Bool) → ltb 2048 (length appid) ≡ a → (a || b) ≡ false → length appid ≤ 2048
    short true b e f = let z : ◌≡◌ {A = ℕ} 0 1 = cc in absurd (omega arith)
    short false b e f = ltb-false 2048 (length appid) e

    go : (t : Bool) → is_bad_app_id appid ≡ t → length appid ≤ 2048
    go true e = let n = bad_nowhere caller appid items lent e in let z : ◌≡◌ {A = ℕ} 0 1 = cc in absurd (omega arith)
    go false e = short (ltb 2048 (length appid)) (begins_https appid && is_none (https_url appid)) refl (unfold is_bad_app_id in e)

-- ---- the three numbers

stands_none : {s : Source} → Stands s None → s ≡ nowhere
stands_none at_nowhere = refl

stands_app : {s : Source} → Stands s (Some AppId) → s ≡ the_app_id
stands_app at_app = refl

record HopAt (s : Source) (a b : ℕ) : Type 0 where
  hop : Redirect
  is : s ≡ redirect hop
  from : a ≡ hop.start
  to : b ≡ hop.start + hop.size
  low : a < 65536
  high : b < 131072

stands_hop : {s : Source} {t : Span} → Stands s (Some (Text t)) → HopAt s t.from t.to
stands_hop (at_hop {h} e f l k) = record { hop = h; is = refl; from = e; to = f; low = l; high = k }

inside_text : {lent : Bytes} {t : Span} → Inside lent (Some (Text t)) → t.to ≤ length lent
inside_text (text_place l m) = m

module _ {appid lent p : Bytes} {s : Source} {r : Option Location} (L : Locates appid lent p s r) where
  module _ (h : r ≡ None) where
    none_is : s ≡ nowhere
    none_is = stands_none (rw h at L.stands)

    pub none_source : 0 ≡ source_number s
    none_source = rw none_is

    pub none_start : 0 ≡ source_start s
    none_start = rw none_is

    pub none_length : 0 ≡ source_length appid s
    none_length = rw none_is

    pub none_inside : 0 + 0 ≤ length (named_slice appid lent 0)
    none_inside = omega arith

    pub none_part : named appid lent 0 0 0 ≡ p
    unfolding named named_slice location_of
    none_part = rw h at L.is

  module _ {l : Location} (h : r ≡ Some l) (g : l ≡ AppId) where
    app_is : s ≡ the_app_id
    app_is = stands_app (rw (h, g) at L.stands)

    pub app_source : 1 ≡ source_number s
    app_source = rw app_is

    pub app_start : 0 ≡ source_start s
    app_start = rw app_is

    pub app_length : length appid ≡ source_length appid s
    app_length = rw app_is

    pub app_inside : 0 + length appid ≤ length (named_slice appid lent 1)
    unfolding named_slice
    app_inside = omega arith

    pub app_part : named appid lent 1 0 (length appid) ≡ p
    unfolding named named_slice location_of
    app_part = take-length appid ∙ (rw (h, g) at L.is)

  module _ {l : Location} {t : Span} (h : r ≡ Some l) (g : l ≡ Text t) where
    H : HopAt s t.from t.to
    H = stands_hop (rw (h, g) at L.stands)

    pub text_order : t.from ≤ t.to
    text_order = omega (arith, H.from, H.to)

    pub text_start_fits : Fits w32 t.from
    text_start_fits = record { fits = omega (arith, H.low) }

    pub text_length_fits : Fits w32 (t.to - t.from)
    text_length_fits = record { fits = omega (arith, H.high) }

    pub text_source : 2 ≡ source_number s
    text_source = rw H.is

    pub text_start : t.from ≡ source_start s
    text_start = rw H.is H.from

    pub text_length_lem : t.to - t.from ≡ source_length appid s
    text_length_lem = rw H.is (omega (arith, H.from, H.to))

    pub text_inside : t.from + (t.to - t.from) ≤ length (named_slice appid lent 2)
    unfolding named_slice
    text_inside = let e = inside_text (rw (h, g) at L.inside) in omega (arith, e, text_order)

    pub text_part : named appid lent 2 t.from (t.to - t.from) ≡ p
    unfolding named named_slice location_of part
    text_part = rw (h, g) at L.is

pub app_fits : (caller appid items lent : Bytes) {p : Bytes} {r : Option Location} {l : Location} → Locates appid lent p (fetch_source caller appid items lent) r → r ≡ Some l → l ≡ AppId → Fits w32 (length appid)
app_fits caller appid items lent L h g = record { fits = omega (arith, app_short caller appid items lent (app_is L h g)) }
