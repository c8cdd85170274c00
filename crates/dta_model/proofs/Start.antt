-- The state before the first step.
use Rattle.std.specs.Prelude.{count_by, nat_lt}
use Rattle.std.proofs.Common.{◌≡◌, ◌&&◌, ℕ, Bool, true, false, List, [], ◌∷◌, refl, ◌∙◌, arith}
use Rattle.std.proofs.lemmas.Bool.Decides.{nat_tests}
use Rattle.dta_model.specs.declared.plan.Plan.{Plan}
use Rattle.dta_model.specs.Laws.{NothingAtTheStart}
use Rattle.dta_model.specs.Loading.{trace_after}
use Rattle.dta_model.specs.Plans.{departure_of, vehicles_of}
use Rattle.dta_model.specs.State.{arrived_in, count_on, eight_after, eight_in, has_arrived, is_due, is_routed, no_vehicles, running_in, runs, waiting_in, waits}
use Rattle.dta_model.specs.Trace.{last_moves, queue_of}
use Rattle.dta_model.proofs.Congruence.{count_same}

none_of : (vs : List ℕ) → count_by (λ v. false) vs ≡ 0
none_of [] = refl
none_of (v ∷ vs) = none_of vs

none_due : (p : Plan) (v : ℕ) (b : Bool) → (is_due p 0 v && b) ≡ false
unfolding is_due
none_due p v b = by (is_routed p v) (nat_lt (departure_of p v) 0) b (none_before (departure_of p v))
  where
    none_before : (d : ℕ) → nat_lt d 0 ≡ false
    none_before d = grind (arith, nat_tests)

    by : (c d b : Bool) → d ≡ false → ((c && d) && b) ≡ false
    by true false b e = refl
    by true true b e = cc
    by false d b e = refl

none_counted : (p : Plan) (f : ℕ → Bool) → count_by (λ v. is_due p 0 v && f v) (vehicles_of p) ≡ 0
none_counted p f = count_same (λ v. is_due p 0 v && f v) (λ v. false) (λ v. none_due p v (f v)) (vehicles_of p) ∙ none_of (vehicles_of p)

pub nothing_at_the_start : NothingAtTheStart
unfolding eight_after eight_in waiting_in running_in arrived_in no_vehicles trace_after count_on queue_of last_moves
nothing_at_the_start p = rw (none_counted p (waits []), none_counted p (runs []), none_counted p (has_arrived [])) refl
