-- What is settled before the list: one law for each way through the code.
use Rattle.std.specs.Prelude.{Option, None, Some, Result, Ok, Err}
use mathlib.Core.Path.{◌≡◌, refl, sym, ap, ◌∙◌}
use mathlib.Core.Bool.{Bool, true, false}
use mathlib.Core.List.{[], ◌∷◌}
use Prim.Native.Nat.{ℕ}
use native.Mathlib.Omega.{arith}
use lib.ListN.{length}
use Rattle.ascii.specs.Ascii.{Bytes, is_empty, same, lower, begins_with, begins_with_no_case}
use Rattle.ascii.proofs.ListLaws.{empty_is, empty_not}
use Rattle.origin.specs.Origin.{begins_https, https_url, web_origin, is_facet}
use Rattle.matching.specs.Matching.{same_host}
use Rattle.refusals.specs.declared.Refusal.{Refusal}
use Rattle.refusals.specs.declared.Refusal.TheVariants.{Stranger, BadAppId, ForeignAppId}
use Rattle.fetch_record.specs.Fetching.{Fetching, fetching}
use Rattle.fetch_record.specs.declared.item.Answer.{Answer as Response}
use Rattle.entries.specs.AppId.{is_bad_app_id}
use Rattle.entries.specs.code.Owner.{AppIdIs}
use Rattle.entries.specs.declared.url.Url.{Url}
use Rattle.entries.proofs.Tellings.{told_bad, told_foreign, told_url, told_its}
use Rattle.decision.specs.Decide.{by_fetch, before_list}
use Rattle.decision.specs.code.Meaning.{answer_of, stage_of, settled_so, due_of, Before}
use Rattle.decision.specs.declared.Answer.{Answer}
use Rattle.decision.specs.declared.Answer.TheVariants.{Rule1, Rule2, Rule3, Fetch, Refused}

https_some : (s : Bytes) → begins_https s ≡ true → is_empty s ≡ false
unfolding begins_https begins_with_no_case begins_with lower
https_some [] h = let z : ◌≡◌ {A = ℕ} 0 1 = cc in absurd (omega arith)
https_some (b ∷ s) h = refl

module _ (caller appid items lent : Bytes) {f : Bool} (F : f ≡ is_facet caller) where
  pub stage_stranger : f ≡ false → {g : Answer} → g ≡ Refused Stranger → Before caller appid items lent (Err g)
  stage_stranger h e = rw e (record { is = go; appid_is = settled_so })
    where
      go : stage_of (Err (Refused Stranger)) ≡ before_list caller appid items lent
      go = unfold stage_of answer_of before_list in (rw (sym F ∙ h))

  module _ (f-is : f ≡ true) {a : Result (Option Url) Refusal} (A : AppIdIs appid a) where
    pub stage_bad : {x : Refusal} → a ≡ Err x → {g : Answer} → g ≡ Refused x → Before caller appid items lent (Err g)
    stage_bad {x} h e = rw (e, ← (told_bad A h).1) (record { is = go (told_bad A h).0; appid_is = settled_so })
      where
        go : is_bad_app_id appid ≡ true → stage_of (Err (Refused BadAppId)) ≡ before_list caller appid items lent
        go b = unfold stage_of answer_of before_list in (rw (sym F ∙ f-is, b))

    module _ {v : Option Url} (h : a ≡ Ok v) (k : v ≡ None) where
      T : (is_bad_app_id appid ≡ false) × (begins_https appid ≡ false)
      T = told_foreign A (h ∙ ap Ok k)

      pub stage_empty : length appid ≡ 0 → Before caller appid items lent (Err Rule2)
      stage_empty e = record { is = go; appid_is = settled_so }
        where
          go : stage_of (Err Rule2) ≡ before_list caller appid items lent
          go = unfold stage_of answer_of before_list in (rw (sym F ∙ f-is, T.0, empty_is appid e))

      module _ (n : length appid ≡ 0 → ⊥) {s : Bool} (S : s ≡ same appid caller) where
        pub stage_equal : s ≡ true → Before caller appid items lent (Err Rule1)
        stage_equal e = record { is = go; appid_is = settled_so }
          where
            go : stage_of (Err Rule1) ≡ before_list caller appid items lent
            go = unfold stage_of answer_of before_list in (rw (sym F ∙ f-is, T.0, empty_not appid n, T.1, sym S ∙ e))

        pub stage_foreign : s ≡ false → {g : Answer} → g ≡ Refused ForeignAppId → Before caller appid items lent (Err g)
        stage_foreign e k = rw k (record { is = go; appid_is = settled_so })
          where
            go : stage_of (Err (Refused ForeignAppId)) ≡ before_list caller appid items lent
            go = unfold stage_of answer_of before_list in (rw (sym F ∙ f-is, T.0, empty_not appid n, T.1, sym S ∙ e))

    module _ {v : Option Url} {u : Url} (h : a ≡ Ok v) (k : v ≡ Some u) {s : Bool} (S : s ≡ same_host (web_origin caller) (https_url appid)) where
      U : (is_bad_app_id appid ≡ false) × (begins_https appid ≡ true)
      U = told_url A (h ∙ ap Ok k)

      pub stage_same : s ≡ true → Before caller appid items lent (Err Rule3)
      stage_same e = record { is = go; appid_is = settled_so }
        where
          go : stage_of (Err Rule3) ≡ before_list caller appid items lent
          go = unfold stage_of answer_of before_list in (rw (sym F ∙ f-is, U.0, https_some appid U.1, U.1, sym S ∙ e))

      module _ (n : s ≡ false) (o : Fetching) (e : o ≡ fetching items lent) where
        by_record_lem : by_fetch o ≡ before_list caller appid items lent
        unfolding before_list
        by_record_lem = ap by_fetch e ∙ rw (sym F ∙ f-is, U.0, https_some appid U.1, U.1, sym S ∙ n)

        pub stage_refused : {x : Refusal} → o ≡ Err x → {y : Answer} → y ≡ Refused x → Before caller appid items lent (Err y)
        stage_refused {x} g k = rw k (record { is = go ∙ by_record_lem; appid_is = settled_so })
          where
            go : stage_of (Err (Refused x)) ≡ by_fetch o
            go = unfold stage_of answer_of by_fetch in (rw g)

        pub stage_fetch : {w : Option Response} → o ≡ Ok w → w ≡ None → Before caller appid items lent (Err Fetch)
        stage_fetch g j = record { is = go ∙ by_record_lem; appid_is = settled_so }
          where
            go : stage_of (Err Fetch) ≡ by_fetch o
            go = unfold stage_of answer_of by_fetch in (rw (g, j))

        pub stage_due : {w : Option Response} {r : Response} → o ≡ Ok w → w ≡ Some r → Before caller appid items lent (Ok (record { url = u; response = r }))
        stage_due {r} g j = record { is = go ∙ by_record_lem; appid_is = due_of {d = record { url = u; response = r }} (told_its A (h ∙ ap Ok k)) }
          where
            go : stage_of (Ok (record { url = u; response = r })) ≡ by_fetch o
            go = unfold stage_of by_fetch in (rw (g, j))

pub ruleset stage_laws = (stage_stranger, stage_bad, stage_empty, stage_equal, stage_foreign, stage_same, stage_refused, stage_fetch, stage_due)
