-- The verdict of the reference is the verdict of the audit.
use Rattle.std.proofs.Common.{◌≡◌, ◌⊎◌, inl, inr, ℕ, Bool, true, false, cond, List, [], ◌∷◌, ◌++◌, refl, ap, sym, ◌∙◌, arith, subst, Option, None, Some}
use Rattle.std.specs.Prelude.{is_some, nat_eq}
use Rattle.std.proofs.lemmas.Bool.{and_cases, and_parts, eq-eqb}
use Rattle.std.proofs.lemmas.Bool.Decides.{nat_tests}
use Rattle.net_core.specs.declared.rows.LinkNo.{LinkNo}
use Rattle.net_core.specs.declared.rows.NetRows.{NetRows}
use Rattle.dta_model.specs.declared.trip.Trip.{Trip}
use Rattle.start_table.specs.Starts.{TellsWalk}
use Rattle.dta_model.specs.LinkTimes.{table_of}
use Rattle.dta_model.specs.Loading.{journeys_of}
use Rattle.dta_words.specs.Ranges.{AreSettings}
use Rattle.dta_words.specs.declared.command.Settings.{Settings}
use Rattle.assignment.specs.Traffic.{IsSoundLoading}
use Rattle.assignment.proofs.SoundFacts.{sound-loading}
use Rattle.audit.specs.Audit.{all_journey_checks, all_time_checks, checks_of, loading_of, routes_named}
use Rattle.audit.proofs.Verdicts.{yes_first}
use Rattle.audit.proofs.Whole.{checks_before, is_sound}
use Rattle.audit.specs.Checks.{Check, Statement, Holds, IsVerdict, names_route, never, same_if_any, same_list, same_number}
use Rattle.audit.specs.declared.verdict.Verdict.TheVariants.{No, Yes}
use Rattle.jobs.specs.Jobs.{IsJob, JobRows}
use Rattle.commands.specs.Outputs.{IsAudited}
use Rattle.commands.specs.Texts.{audit_plan}
use Rattle.reference.specs.Audits.{holds, is_same_if_any, is_same_list, verdict_of, verdict_on}
use Rattle.reference.specs.Routes.{walk_named}
use Rattle.reference.proofs.StartFacts.{tells-walk}

same-number : (a b : ℕ) → nat_eq a b ≡ true → a ≡ b
same-number a b e = grind (arith, nat_tests)

other-number : (a b : ℕ) → nat_eq a b ≡ false → a ≡ b → ⊥
other-number a b f same = let yes : nat_eq a b ≡ true = eq-eqb a b same in let both : true ≡ false = sym yes ∙ f in cc

same-list : (as' bs : List ℕ) → is_same_list as' bs ≡ true → as' ≡ bs
same-list [] [] e = refl
same-list [] (b ∷ bs) e = cc
same-list (a ∷ as') [] e = cc
same-list (a ∷ as') (b ∷ bs) e =
    let parts = and_parts (nat_eq a b) (is_same_list as' bs) e in
    ap (λ x. x ∷ as') (same-number a b parts.0) ∙ ap (λ xs. b ∷ xs) (same-list as' bs parts.1)

other-list : (as' bs : List ℕ) → is_same_list as' bs ≡ false → as' ≡ bs → ⊥
other-list [] [] f same = cc
other-list [] (b ∷ bs) f same = cc
other-list (a ∷ as') [] f same = cc
other-list (a ∷ as') (b ∷ bs) f same =
    let first : a ≡ b = cc in
    let rest : as' ≡ bs = cc in
    by (λ g. other-list as' bs g rest) (and_cases (nat_eq a b) (is_same_list as' bs) f) first
  where
    by : (is_same_list as' bs ≡ false → ⊥) → (nat_eq a b ≡ false) ⊎ (is_same_list as' bs ≡ false) → a ≡ b → ⊥
    by more (inl t) first = other-number a b t first
    by more (inr g) first = more g

same-if-any : (a b : Option ℕ) → is_same_if_any a b ≡ true → a ≡ b
same-if-any None None e = refl
same-if-any None (Some b) e = cc
same-if-any (Some a) None e = cc
same-if-any (Some a) (Some b) e = ap Some (same-number a b e)

other-if-any : (a b : Option ℕ) → is_same_if_any a b ≡ false → a ≡ b → ⊥
other-if-any None None f same = cc
other-if-any None (Some b) f same = cc
other-if-any (Some a) None f same = cc
other-if-any (Some a) (Some b) f same = other-number a b f (cc)

-- ---- statements
named : (net : NetRows) (trip : Trip) (ids : List ℕ) (o : Option (List LinkNo)) → TellsWalk net trip.origin trip.destination ids o → is_some o ≡ true → Holds (names_route net trip ids)
named net trip ids None none e = cc
named net trip ids (Some walk) is e = inr (walk, is)

not-named : (net : NetRows) (trip : Trip) (id : ℕ) (ids : List ℕ) (o : Option (List LinkNo)) → TellsWalk net trip.origin trip.destination (id ∷ ids) o → is_some o ≡ false
    → Holds (names_route net trip (id ∷ ids)) → ⊥
not-named net trip id ids (Some walk) is f h = cc f
not-named net trip id ids None none f (inl e) = cc e
not-named net trip id ids None none f (inr (walk, is)) = none walk is

hold : (c : Statement) → holds c ≡ true → Holds c
unfolding holds
hold (same_number a b) e = same-number a b e
hold (same_if_any a b) e = same-if-any a b e
hold (same_list a b) e = same-list a b e
hold (names_route net trip []) e = inl refl
hold (names_route net trip (id ∷ ids)) e =
    named net trip (id ∷ ids) (walk_named net trip.origin trip.destination (id ∷ ids)) (tells-walk net trip.origin trip.destination (id ∷ ids)) e
hold never e = cc

fail : (c : Statement) → holds c ≡ false → Holds c → ⊥
unfolding holds
fail (same_number a b) f h = other-number a b f h
fail (same_if_any a b) f h = other-if-any a b f h
fail (same_list a b) f h = other-list a b f h
fail (names_route net trip []) f h = cc f
fail (names_route net trip (id ∷ ids)) f h =
    not-named net trip id ids (walk_named net trip.origin trip.destination (id ∷ ids)) (tells-walk net trip.origin trip.destination (id ∷ ids)) f h
fail never f h = h

-- ---- verdicts
pub verdict-is : (cs : List Check) → IsVerdict cs (verdict_on cs)
unfolding verdict_on
verdict-is [] = refl
verdict-is (c ∷ others) = by (verdict-is others) (holds c.statement) refl
  where
    by : IsVerdict others (verdict_on others) → (b : Bool) → holds c.statement ≡ b → IsVerdict (c ∷ others) (cond b (verdict_on others) (No c.table c.line c.column))
    by rest true e = inl (hold c.statement e, rest)
    by rest false f = inr (fail c.statement f, refl)

pub audited : (s : Settings) (job : JobRows) → IsAudited s job (verdict_of s job)
audited s job = verdict-is (checks_of job.net job.trips job.agents job.times (audit_plan s))

-- where no check fails, the loading over the agents' routes is sound
pub audited-soundly : (s : Settings) (job : JobRows) → AreSettings s → IsJob s job → verdict_of s job ≡ Yes
    → IsSoundLoading (loading_of job.net job.trips job.agents (audit_plan s))
audited-soundly s job settings good passes =
    let loading = loading_of job.net job.trips job.agents (audit_plan s) in
    let before = checks_before job.net job.trips job.agents in
    let journeys = all_journey_checks job.agents (journeys_of loading) in
    let times = all_time_checks (table_of loading s.bucket) job.times in
    let most = settings.horizon.1 in
    let is : IsAudited s job Yes = subst (λ v. IsAudited s job v) passes (audited s job) in
    sound-loading loading (is_sound job.net job.trips job.agents (audit_plan s) (routes_named job.net job.agents) Yes
    good.net good.trips.in_order good.trips.rising good.trips.early (record {
      queue = settings.queue;
      delta_least = settings.step.0;
      delta_most = settings.step.1;
      horizon_least = settings.horizon.0;
      horizon_most = omega (arith, most);
      bucket_least = settings.bucket.0;
    }) refl (yes_first before journeys (yes_first (before ++ journeys) times is)) refl)
