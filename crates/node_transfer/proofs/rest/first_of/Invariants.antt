use Rattle.std.proofs.Common.{ℕ, ◌<◌, take}
use Rattle.std.specs.Prelude.{All}
use Rattle.node_transfer.specs.declared.rest.TheConstants.{NO_STEP}
use Rattle.node_transfer.proofs.rest.first_of.Given as goal

abbrev pub invariant-loop-link : goal.invariant-loop-link
invariant-loop-link g l =
    ((step : ℕ) → step < l.first → All (g.T.Rests.IsStill step) (take l.link-index l.links))
    × (l.first < NO_STEP → All (g.T.Rests.IsStill l.first) (take l.link-index l.links) → ⊥)
