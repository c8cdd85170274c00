use Rattle.std.proofs.Common.{◌∙◌, ◌<◌, arith, sym, rules, [], length, get_or}
use Rattle.dta_model.specs.Lent.{plan_of}
use Rattle.node_transfer.proofs.OfStart.Starts.{outs_next, left_next, outs_end, left_end, default_same}
use Rattle.node_transfer.proofs.start.links.start_outs.Goals as goal

pub loop-i-preserved : goal.loop-i-preserved
loop-i-preserved c =
    let p = plan_of c.args.loading.now in
    let link = get_or c.args.outs.now c.loop-i.i (record { 0 = 0 }) in
    let here = c.loop-i-test.true in
    let known = c.requires.links c.loop-i.i (record { 0 = 0 }) here in
    let same = c.loop-i.auto.lines in
    let all = c.requires.lines in
    let within : link.0 < length c.loop-i.lines = omega (arith, known, same, all) in (
      rw (c.in_ok-push.ensures.items, c.in_ok-inflow.ensures, c.take_all.ensures.all, default_same c.loop-i.lines link.0 c.index-lines-outs.result [] within, c.new.ensures, c.new-in-loop-i.ensures, c.take_all.ensures.emptied) (sym (outs_next p c.loop-i.lines c.loop-i.out_links.items c.args.outs.now c.loop-i.i (record { 0 = 0 }) here within) ∙ c.loop-i.invariant.0),
      rw c.take_all.ensures.emptied (sym (left_next c.loop-i.lines c.args.outs.now c.loop-i.i (record { 0 = 0 }) here within) ∙ c.loop-i.invariant.1),
      search rules,
    )

pub returns-clause-taken : goal.returns-clause-taken
returns-clause-taken c = sym (outs_end (plan_of c.args.loading.now) c.loop-i.lines c.loop-i.out_links.items c.args.outs.now c.loop-i.i c.loop-i-test.false) ∙ c.loop-i.invariant.0

pub returns-clause-left : goal.returns-clause-left
returns-clause-left c = sym (left_end c.loop-i.lines c.args.outs.now c.loop-i.i c.loop-i-test.false) ∙ c.loop-i.invariant.1
