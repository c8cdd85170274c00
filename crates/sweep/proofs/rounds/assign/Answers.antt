use Rattle.std.proofs.Common.{◌≡◌, ℕ, arith, subst}
use Rattle.assignment.specs.Lent.{settings_in, traffic_in}
use Rattle.assignment.specs.Progress.{IsAt}
use Rattle.assignment.proofs.AssignmentFacts.{ahead, assigned, begun}
use Rattle.sweep.proofs.rounds.assign.Goals as goal

pub loop-iteration-init : goal.loop-iteration-init
loop-iteration-init g c =
    let a = c.args.assignment.now in record {
      some = omega arith;
      at = begun (settings_in a) (traffic_in a) c.in_ok-it.it.routes c.in_ok-it.it.lines.items c.requires.is.traffic.start c.in_ok-it.ensures;
    }

pub loop-iteration-preserved : goal.loop-iteration-preserved
loop-iteration-preserved g c =
    let a = c.args.assignment.now in
    let i = c.loop-iteration.invariant in record {
      some = omega arith;
      at = ahead (settings_in a) (traffic_in a) c.loop-iteration.iteration c.loop-iteration.it.routes c.advance.new.it.routes
          c.loop-iteration.it.lines.items c.advance.new.it.lines.items i.at c.in_ok-advance.ensures;
    }

pub returns : goal.returns
returns g c =
    let a = c.args.assignment.now in
    let least = c.requires.is.settings.iterations.0 in
    let last : c.loop-iteration.iteration ≡ (settings_in a).iterations = omega (arith, least) in
    assigned (settings_in a) (traffic_in a) c.loop-iteration.it.routes c.loop-iteration.it.lines.items c.in_ok-assigned.assigned
    (subst (λ (n : ℕ). IsAt (settings_in a) (traffic_in a) n c.loop-iteration.it.routes c.loop-iteration.it.lines.items) last c.loop-iteration.invariant.at)
    c.in_ok-assigned.ensures
