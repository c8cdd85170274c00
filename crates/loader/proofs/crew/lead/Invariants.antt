use Rattle.std.proofs.Common.{◌≡◌}
use Rattle.desk_io.specs.State.{DeskState}
use Rattle.phase_claims.specs.Crews.{IsReady}
use Rattle.loader.specs.Watching.{HasWatched, IsSameWatch}
use Rattle.loader.proofs.crew.lead.Given as goal

abbrev pub invariant-loop : goal.invariant-loop
invariant-loop g l =
    (goal.iterator-loop g).can_next l.iterator'
    × (goal.iterator-loop g).is_finite l.iterator'
    × IsReady l.floor 1 l.pass
    × IsSameWatch l.initial.watcher l.watcher
    × (l.watcher.monitor.board ≡ l.watcher.board.now)
    × ((before : DeskState) → HasWatched l.initial.watcher before (g.D.Desk.state l.initial.desk)
    → HasWatched l.watcher before (g.D.Desk.state l.desk))
