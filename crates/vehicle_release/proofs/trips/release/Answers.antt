use Rattle.std.proofs.Common.{arith}
use Rattle.std.proofs.lemmas.Result.{err_from_is_err_and}
use Rattle.vehicle_release.proofs.WholeFacts.{all_within, answers_within, are_early, are_rising, are_trips}
use Rattle.vehicle_release.proofs.trips.release.Goals as goal

pub all_trips-requires-clause-few : goal.all_trips-requires-clause-few
all_trips-requires-clause-few c = omega (arith, all_within _ c.in_ok-total.ensures.within, c.in_ok-total.ensures.total)

pub returns-in_err-all_trips-clause-too_many : goal.returns-in_err-all_trips-clause-too_many
returns-in_err-all_trips-clause-too_many c =
    let p = err_from_is_err_and c.from_residual-in_err-all_trips.result c.from_residual-in_err-all_trips.ensures.1 in
    answers_within _ _ c.in_ok-total.ensures.within (λ line total e. cc (p.1, p.2, e))

pub returns-clause-sound : goal.returns-clause-sound
returns-clause-sound c = are_trips _ c.in_ok-total.total _ c.requires.windows c.in_ok-total.ensures.total
    (omega (arith, all_within _ c.in_ok-total.ensures.within, c.in_ok-total.ensures.total)) c.in_ok-all_trips.ensures

pub returns-clause-rising : goal.returns-clause-rising
returns-clause-rising c = are_rising _ _ c.requires.windows c.in_ok-all_trips.ensures

pub returns-clause-early : goal.returns-clause-early
returns-clause-early c = λ steps windows. are_early _ steps _ windows c.in_ok-all_trips.ensures

pub returns-clause-too_many : goal.returns-clause-too_many
returns-clause-too_many c = answers_within _ _ c.in_ok-total.ensures.within (λ line total e. cc)
