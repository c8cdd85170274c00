use Rattle.std.proofs.Common.{◌-◌, drop, arith, rules}
use Rattle.std.proofs.lemmas.List.Elements.{All-drop, All-take}
use Rattle.scaled_demand.proofs.LimitFacts.{WithinAt}
use Rattle.sweep.proofs.RoundFacts.{round-more, rounds-all}
use Rattle.sweep.proofs.rounds.all_scenarios.Goals as goal

pub round-preserved : goal.round-preserved
round-preserved g c = record {
  within = omega arith;
  so_far = round-more c.args.settings.now c.args.net.now c.args.cells.now c.args.scales.now _ c.round.from c.min-to.result
      c.round.kept.items c.keep.new.kept.items c.in_ok-round.round.items (omega arith) (omega arith) (search rules)
      c.round.invariant.so_far c.in_ok-round.ensures c.in_ok-keep.ensures;
}

pub returns : goal.returns
returns g c =
    rounds-all c.args.settings.now c.args.net.now c.args.cells.now c.args.scales.now c.round.from c.round.kept.items
    c.round-test.false c.round.invariant.so_far

pub side_by_side-requires-clause-within : goal.side_by_side-requires-clause-within
side_by_side-requires-clause-within g c κs within =
    let scales = c.args.scales.now in
    let Within = WithinAt c.args.cells.now scales in
    All-take Within (c.min-to.result - c.round.from) (drop c.round.from scales) (All-drop Within c.round.from scales c.requires.within)
