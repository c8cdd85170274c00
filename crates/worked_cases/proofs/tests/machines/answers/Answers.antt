use Rattle.std.specs.Prelude.{nat_lt}
use Rattle.std.specs.List.{list_all}
use Rattle.std.proofs.Common.{◌≡◌, ℕ, zero, suc, ◌<◌, Bool, true, false, ◌&&◌, List, [], ◌∷◌, length, get_or, refl, ap, ◌∙◌, arith}
use Rattle.std.proofs.lemmas.Bool.{and_parts}
use Rattle.net_core.proofs.Orders.{lt_holds}
use Rattle.claim_core.specs.Machine.{worker_of}
use Rattle.dta_model.specs.Machine.{Claims}
use Rattle.dta_model.specs.declared.machine.Event.{Event}
use Rattle.dta_model.specs.declared.machine.Event.TheVariants as event
use Rattle.dta_model.specs.declared.machine.Outcome.{Outcome}
use Rattle.dta_model.specs.declared.machine.Outcome.TheVariants as outcomes
use Rattle.claim_core.proofs.AtStart.{idle_count}
use Rattle.worked_cases.proofs.tests.machines.answers.Goals as goal

passes : {X : Type 0} (test : X → Bool) (xs : List X) (i : ℕ) (d : X) → i < length xs → list_all test xs ≡ true → test (get_or xs i d) ≡ true
passes test [] i d l h = absurd (omega (arith, l))
passes test (x ∷ xs) zero d l h = (and_parts (test x) (list_all test xs) h).0
passes test (x ∷ xs) (suc i) d l h = passes test xs i d (omega (arith, l)) (and_parts (test x) (list_all test xs) h).1

pub loop-i-init : goal.loop-i-init
loop-i-init c = ap (λ (s : Claims). length s.stages) c.in_ok-machine.ensures.claims ∙ idle_count c.args.workers

in_range : (cases : List (Event × Outcome)) (i : ℕ) (d : Event × Outcome) (workers count : ℕ) → count ≡ workers → i < length cases → list_all (λ case. nat_lt (worker_of case.0) workers) cases ≡ true → worker_of (get_or cases i d).0 < count
in_range cases i d workers count e l h =
    let k : worker_of (get_or cases i d).0 < workers = lt_holds (worker_of (get_or cases i d).0) workers (passes (λ case. nat_lt (worker_of case.0) workers) cases i d l h) in
    omega (arith, e, k)

pub apply-requires : goal.apply-requires
apply-requires c = in_range c.args.cases.now c.loop-i.i (event.Claim 0, outcomes.Given 0) c.args.workers (length c.loop-i.machine.claims.stages) c.loop-i.invariant c.loop-i-test.true c.requires.each
