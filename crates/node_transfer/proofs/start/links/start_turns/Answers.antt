use Rattle.std.proofs.Common.{◌∙◌, sym}
use Rattle.dta_model.specs.Lent.{plan_of}
use Rattle.dta_model.specs.Plans.{link_numbers}
use Rattle.node_transfer.proofs.OfStart.Starts.{free_turns, no_turn_found, turn_found}
use Rattle.node_transfer.proofs.start.links.start_turns.Goals as goal
use Rattle.node_transfer.proofs.start.links.start_turns.Goals.{in-Some+in_ok-push-in-Some, in-None}

pub loop-i-preserved : goal.loop-i-preserved
loop-i-preserved c =
    let p = plan_of c.args.loading.now in
    let bs = c.args.outs.now in
    elim c.match-branch-2.branch [
      | in-Some+in_ok-push-in-Some w ↦
          rw (w.list-is, w.in_ok-push-in-Some.ensures.items, c.loop-i.invariant)
          (turn_found p c.args.link.0 bs c.loop-i.i (record { 0 = 0 }) w.in-Some.turn c.loop-i-test.true (sym w.in-Some.is ∙ c.in_ok-start_turn.ensures))
      | in-None w ↦
          rw (w.list-is, c.loop-i.invariant)
          (no_turn_found p c.args.link.0 bs c.loop-i.i (record { 0 = 0 }) c.loop-i-test.true (sym w.in-None.is ∙ c.in_ok-start_turn.ensures))
    ]

pub returns-then-not-is_named : goal.returns-then-not-is_named
returns-then-not-is_named c =
    let p = plan_of c.args.loading.now in
    let unnamed = sym c.is_named.ensures ∙ c.if-not-is_named.true in
    c.new-list.ensures.items ∙ sym (free_turns p c.args.link.0 c.link.result (link_numbers c.args.outs.now) c.link.ensures unnamed)
