-- What the list settles, the whole decision, and the fetch location.
use mathlib.Core.Path.{◌≡◌, refl, sym, ap, ◌∙◌}
use mathlib.Core.Bool.{true, false}
use mathlib.Core.List.{[]}
use Rattle.std.specs.Prelude.{Option, None, Some, Result, Ok, Err, ok_or}
use Prim.Native.Nat.{ℕ, ◌-◌}
use native.Mathlib.Omega.{arith}
use lib.ListN.{take, drop}
use borrow.Author.Tests.{eq-eqb, ne_eqb}
use Rattle.ascii.specs.Ascii.{Bytes, ◌when◌, ◌or_else◌, is_none}
use Rattle.suffix.specs.Suffix.{read_table}
use Rattle.origin.specs.code.Parts.{part}
use Rattle.refusals.specs.declared.Refusal.{Refusal}
use Rattle.refusals.specs.declared.Refusal.TheVariants.{NotFetched, WrongType, BadTable, NotListed}
use Rattle.trusted_list.specs.TrustedList.{list_refusal, entries}
use Rattle.fetch_record.specs.Record.{last_hop}
use Rattle.fetch_record.specs.declared.item.Redirect.{Redirect}
use Rattle.fetch_record.specs.code.Meaning.{target, TargetOf, of_none, of_hop, Targets}
use Rattle.fetch_record.specs.declared.item.Answer.{Answer as Response}
use Rattle.ascii.specs.declared.Span.{Span}
use Rattle.fetch_record.proofs.CallerLaws.{target_start, target_end, target_some, target_none}
use Rattle.entries.specs.Causes.{kept}
use Rattle.entries.specs.code.Selecting.{kept_of, Selects}
use Rattle.entries.specs.declared.selected.Selected.{Selected}
use Rattle.decision.specs.declared.Due.{Due}
use Rattle.entries.proofs.Tellings.{Chosen, selected_refused, selected_list}
use Rattle.decision.specs.Answer.{refused, rule4}
use Rattle.decision.specs.Decide.{Stage, list_due, before_list, first_match, late_refusal, by_place, unless, by_list, decide}
use Rattle.decision.specs.Location.{fetch_from, if_fetch, fetch_location, Source, nowhere, source_from, source_if_fetch, fetch_source}
use Rattle.decision.specs.code.Meaning.{answer_of, listed_of, stage_of, Asks, settled_so, due_of, Before, location_of, no_place, app_place, text_place, Stands, at_nowhere, at_app, at_hop, Locates}
use Rattle.decision.specs.declared.Answer.{Answer}
use Rattle.decision.specs.declared.Answer.TheVariants.{Rule1, Rule2, Rule3, Rule4, Fetch, Refused}
use Rattle.decision.specs.declared.Location.{Location}
use Rattle.decision.specs.declared.Location.TheVariants.{AppId, Text}

-- ---- refusals 7 to 13

refused_is : (x : Refusal) → listed_of (Err x) ≡ refused x
unfolding listed_of
refused_is x = refl

match_is : (n : ℕ) → listed_of (Ok n) ≡ rule4 n
unfolding listed_of
match_is n = refl

module _ (caller appid : Bytes) (major minor : ℕ) (body table : Bytes) (a : Response) where
  pub late_status : (a.status ≡ 200 → ⊥) → listed_of (Err NotFetched) ≡ by_list caller appid major minor body table (list_due a)
  unfolding listed_of by_list late_refusal
  late_status n = rw (ne_eqb a.status 200 n)

  module _ (s : a.status ≡ 200) where
    pub late_type : a.type_seen ≡ false → listed_of (Err WrongType) ≡ by_list caller appid major minor body table (list_due a)
    unfolding listed_of by_list late_refusal
    late_type n = rw (eq-eqb a.status 200 s, n)

    module _ (t : a.type_seen ≡ true) {q : Result Selected Refusal} (S : Selects appid major minor body table q) where
      by_refusal : (o : Option Refusal) → (list_refusal major minor body or_else (BadTable when is_none (read_table table))) ≡ o
          → by_list caller appid major minor body table (list_due a) ≡ unless o (by_place (first_match caller (kept appid table (entries major minor body))))
      unfolding by_list late_refusal
      by_refusal o e = rw (eq-eqb a.status 200 s, t, e)

      pub late_refused : {x : Refusal} → q ≡ Err x → listed_of (Err x) ≡ by_list caller appid major minor body table (list_due a)
      late_refused {x} h = refused_is x ∙ sym (by_refusal (Some x) (selected_refused S h))

      module _ {l : Selected} (h : q ≡ Ok l) {m : Option ℕ} (M : m ≡ first_match caller (kept_of l)) where
        C : Chosen appid major minor body table l
        C = selected_list S h

        by_match : by_list caller appid major minor body table (list_due a) ≡ by_place m
        by_match = by_refusal None (rw (C.accepted, C.good)) ∙ ap by_place (sym (M ∙ rw (C.appid_is, C.table_is, C.listed_is)))

        pub late_match : {p : Result ℕ Refusal} → p ≡ ok_or m NotListed → listed_of p ≡ by_list caller appid major minor body table (list_due a)
        late_match {p} e = go m refl e
          where
            go : (k : Option ℕ) → m ≡ k → p ≡ ok_or k NotListed → listed_of p ≡ by_list caller appid major minor body table (list_due a)
            go None f e = rw e (refused_is NotListed ∙ sym (by_match ∙ ap by_place f))
            go (Some n) f e = rw e (match_is n ∙ sym (by_match ∙ ap by_place f))

-- ---- the decision

module _ (caller appid : Bytes) (major minor : ℕ) (items lent body table : Bytes) {q : Result Due Answer} (B : Before caller appid items lent q) where
  pub decide_settled : {a : Answer} → q ≡ Err a → answer_of a ≡ decide caller appid major minor items lent body table
  unfolding decide stage_of by_list
  decide_settled h = let x = rw h at B.is in rw (← x)

  module _ {d : Due} (h : q ≡ Ok d) (r : Result ℕ Refusal) (R : listed_of r ≡ by_list caller d.url.appid.now major minor body table (list_due d.response)) where
    due_is : listed_of r ≡ decide caller appid major minor items lent body table
    unfolding decide stage_of
    due_is = let x = rw h at B.is in R ∙ ap (λ (s : Bytes). by_list caller s major minor body table (list_due d.response)) (go B.appid_is h) ∙ ap (by_list caller appid major minor body table) x
      where
        go : {q : Result Due Answer} → Asks appid q → q ≡ Ok d → d.url.appid.now ≡ appid
        go settled_so h = let z : ◌≡◌ {A = ℕ} 0 1 = cc in absurd (omega arith)
        go (due_of {d = e} E) h = let x : e ≡ d = cc in ap (λ (w : Due). w.url.appid.now) (sym x) ∙ E

    pub decide_listed : {n : ℕ} → r ≡ Ok n → answer_of (Rule4 n) ≡ decide caller appid major minor items lent body table
    unfolding answer_of listed_of
    decide_listed k = rw k at due_is

    pub decide_refused : {x : Refusal} {a : Answer} → r ≡ Err x → a ≡ Refused x → answer_of a ≡ decide caller appid major minor items lent body table
    unfolding answer_of listed_of
    decide_refused k e = rw e (rw k at due_is)

-- ---- the fetch location

module _ (appid items lent : Bytes) {q : Option Span} (T : Targets lent (target items lent) (last_hop items lent) q) where
  app_stands : {l : Option Redirect} → TargetOf l None → Stands (source_from l) (Some AppId)
  unfolding source_from
  app_stands of_none = at_app

  text_stands : {l : Option Redirect} {t : Span} → TargetOf l (Some t) → Stands (source_from l) (Some (Text t))
  unfolding source_from
  text_stands (of_hop e f s t) = at_hop e f s t

  pub target_app : q ≡ None → Locates appid lent (fetch_from appid items lent) (source_from (last_hop items lent)) (Some AppId)
  target_app h = record { is = go (target_none T h); inside = app_place; stands = app_stands (rw h at T.hop) }
    where
      go : target items lent ≡ None → location_of appid lent (Some AppId) ≡ fetch_from appid items lent
      go e = unfold location_of fetch_from target in (rw e)

  pub target_text : {t : Span} → q ≡ Some t → Locates appid lent (fetch_from appid items lent) (source_from (last_hop items lent)) (Some (Text t))
  target_text {t} h = record { is = go (target_some T h); inside = text_place (target_start T h) (target_end T h); stands = text_stands (rw h at T.hop) }
    where
      go : target items lent ≡ Some (take (t.to - t.from) (drop t.from lent)) → location_of appid lent (Some (Text t)) ≡ fetch_from appid items lent
      go e = unfold location_of fetch_from target part in (rw e)

module _ (caller appid items lent : Bytes) {q : Result Due Answer} (B : Before caller appid items lent q) where
  nothing_at : if_fetch (before_list caller appid items lent) (fetch_from appid items lent) ≡ [] → source_if_fetch (before_list caller appid items lent) (source_from (last_hop items lent)) ≡ nowhere → Locates appid lent (fetch_location caller appid items lent) (fetch_source caller appid items lent) None
  nothing_at h n = record { is = go h; inside = no_place; stands = stand n }
    where
      stand : source_if_fetch (before_list caller appid items lent) (source_from (last_hop items lent)) ≡ nowhere → Stands (fetch_source caller appid items lent) None
      stand n = unfold fetch_source in (rw n at_nowhere)

      go : if_fetch (before_list caller appid items lent) (fetch_from appid items lent) ≡ [] → location_of appid lent None ≡ fetch_location caller appid items lent
      go h = unfold location_of fetch_location in (sym h)

  pub locate_due : {d : Due} → q ≡ Ok d → Locates appid lent (fetch_location caller appid items lent) (fetch_source caller appid items lent) None
  locate_due {d} h = nothing_at (go (rw h at B.is)) (from (rw h at B.is))
    where
      from : stage_of (Ok d) ≡ before_list caller appid items lent → source_if_fetch (before_list caller appid items lent) (source_from (last_hop items lent)) ≡ nowhere
      from x = unfold stage_of source_if_fetch in (rw (← x))

      go : stage_of (Ok d) ≡ before_list caller appid items lent → if_fetch (before_list caller appid items lent) (fetch_from appid items lent) ≡ []
      go x = unfold stage_of if_fetch in (rw (← x))

  pub locate_fetch : {a : Answer} {r : Option Location} → q ≡ Err a → a ≡ Fetch → Locates appid lent (fetch_from appid items lent) (source_from (last_hop items lent)) r → Locates appid lent (fetch_location caller appid items lent) (fetch_source caller appid items lent) r
  locate_fetch h f L =
      let e = h ∙ ap Err f in
      record { is = L.is ∙ go (rw e at B.is); inside = L.inside; stands = rw (← from (rw e at B.is)) L.stands }
    where
      from : stage_of (Err Fetch) ≡ before_list caller appid items lent → source_from (last_hop items lent) ≡ fetch_source caller appid items lent
      from x = unfold fetch_source stage_of answer_of source_if_fetch in (rw (← x))

      go : stage_of (Err Fetch) ≡ before_list caller appid items lent → fetch_from appid items lent ≡ fetch_location caller appid items lent
      go x = unfold fetch_location stage_of answer_of if_fetch in (rw (← x))

  pub locate_other : {a : Answer} → q ≡ Err a → (a ≡ Fetch → ⊥) → Locates appid lent (fetch_location caller appid items lent) (fetch_source caller appid items lent) None
  locate_other {a} h n = nothing_at (ap (λ (t : Stage). if_fetch t (fetch_from appid items lent)) (sym (rw h at B.is)) ∙ parts a n) (ap (λ (t : Stage). source_if_fetch t (source_from (last_hop items lent))) (sym (rw h at B.is)) ∙ sources a n)
    where
      parts : (a : Answer) → (a ≡ Fetch → ⊥) → if_fetch (stage_of (Err a)) (fetch_from appid items lent) ≡ []
      parts Rule1 n = unfold stage_of answer_of if_fetch in refl
      parts Rule2 n = unfold stage_of answer_of if_fetch in refl
      parts Rule3 n = unfold stage_of answer_of if_fetch in refl
      parts (Rule4 i) n = unfold stage_of answer_of if_fetch in refl
      parts (Refused x) n = unfold stage_of answer_of if_fetch in refl
      parts Fetch n = absurd (n refl)

      sources : (a : Answer) → (a ≡ Fetch → ⊥) → source_if_fetch (stage_of (Err a)) (source_from (last_hop items lent)) ≡ nowhere
      sources Rule1 n = unfold stage_of answer_of source_if_fetch in refl
      sources Rule2 n = unfold stage_of answer_of source_if_fetch in refl
      sources Rule3 n = unfold stage_of answer_of source_if_fetch in refl
      sources (Rule4 i) n = unfold stage_of answer_of source_if_fetch in refl
      sources (Refused x) n = unfold stage_of answer_of source_if_fetch in refl
      sources Fetch n = absurd (n refl)

-- the part itself
module _ {appid lent s : Bytes} {source : Source} {r : Option Location} (L : Locates appid lent s source r) where
  pub part_none : r ≡ None → take 0 (drop 0 appid) ≡ s
  unfolding location_of
  part_none h = (rw h at L.is)

  module _ {l : Location} (h : r ≡ Some l) where
    pub part_app : l ≡ AppId → appid ≡ s
    unfolding location_of
    part_app e = (rw (h, e) at L.is)

    pub part_text : {t : Span} → l ≡ Text t → take (t.to - t.from) (drop t.from lent) ≡ s
    unfolding location_of part
    part_text e = (rw (h, e) at L.is)
