use Rattle.std.proofs.Common.{◌≡◌, ◌∙◌, arith, slice_index}
use Rattle.trip_costs.proofs.Agreeing.{free_then}
use Rattle.trip_costs.proofs.exits.own_exit.Goals as goal

pub returns : goal.returns
returns c =
    let free : c.at-free.result ≡ slice_index c.args.times.now.free c.args.link.0 =
    c.at-free.ensures.time ∙ free_then c.args.times.now c.args.link.0 c.horizon-end.result (omega (arith, c.horizon-end.ensures.is)) in
    omega (arith, free, c.at-time.ensures.time, c.horizon-end.ensures.is, c.min.ensures, c.max.ensures)
