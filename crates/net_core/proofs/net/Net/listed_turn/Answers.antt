use Rattle.std.proofs.Common.{sym, refl}
use Rattle.net_core.specs.NetInside.{rows_of}
use Rattle.net_core.proofs.PairsFacts.{find-placed, find-unplaced}
use Rattle.net_core.proofs.net.Net.listed_turn.Goals as goal

pub returns-in-Some : goal.returns-in-Some
returns-in-Some c =
    let turns = (rows_of c.self.inside).turns in
    let row = c.index-row.result.now in
    let placed = sym (rw c.self.invariant.pairs at c.in-Some.ensures.place) in
    let found = find-placed turns c.args.a.0 c.args.b.0 c.in-Some.place row placed in
    rw (← c.self.view_is, found, ← c.index-row.ensures) refl

pub returns-in-None : goal.returns-in-None
returns-in-None c =
    let turns = (rows_of c.self.inside).turns in
    let unplaced = sym (rw c.self.invariant.pairs at c.in-None.ensures.place) in
    rw (← c.self.view_is, find-unplaced turns c.args.a.0 c.args.b.0 unplaced) refl
