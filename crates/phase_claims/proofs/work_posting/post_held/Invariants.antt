use Rattle.std.proofs.Common.{◌≡◌, suc, [], ◌∷◌}
use Rattle.dta_model.specs.Lent.{plan_of}
use Rattle.dta_model.specs.Plans.{all_nodes}
use Rattle.phase_claims.specs.PlacesCounted.{cell_place, counted_in, writer_place}
use Rattle.phase_claims.specs.PlacesHeld.{IsSameSeat}
use Rattle.phase_claims.proofs.PlacesTurn.{midway}
use Rattle.phase_claims.proofs.work_posting.post_held.Given as goal

abbrev pub invariant-loop-n : goal.invariant-loop-n
invariant-loop-n g l =
    let p = plan_of l.loading in
    IsSameSeat l.initial.seat l.seat
    × (l.eight ≡ counted_in p (suc l.step) l.n)
    × (l.seat.me.1 ≡ midway (cell_place p (suc l.step)) (cell_place p (suc l.step)) (writer_place p l.board l.step ∷ []) (all_nodes p) l.n)
