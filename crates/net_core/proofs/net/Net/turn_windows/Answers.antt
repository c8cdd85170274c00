use Rattle.std.proofs.Common.{◌∙◌, refl}
use Rattle.net_core.specs.NetInside.{rows_of}
use Rattle.net_core.specs.Network.{turn_windows}
use Rattle.net_core.proofs.PairsFacts.{place_of_pair-turn}
use Rattle.net_core.proofs.RatesSound.{turn_rates_sound}
use Rattle.net_core.proofs.net.Net.turn_windows.Goals as goal

pub returns-in-Some : goal.returns-in-Some
unfolding turn_windows
returns-in-Some c =
    let turns = (rows_of c.self.inside).turns in
    let placed = rw c.self.invariant.pairs at c.in-Some.ensures.place in
    let found = placed ∙ place_of_pair-turn c.args.a.0 c.args.b.0 turns in
    record { windows = rw (← c.self.view_is, ← found, c.windows_in.ensures, c.deref.ensures.value) refl; sound = rw (← c.self.view_is) (turn_rates_sound (rows_of c.self.inside) c.args.a.0 c.args.b.0 c.self.invariant.rows) }

pub returns-in-None : goal.returns-in-None
unfolding turn_windows
returns-in-None c =
    let turns = (rows_of c.self.inside).turns in
    let unplaced = rw c.self.invariant.pairs at c.in-None.ensures.place in
    let found = unplaced ∙ place_of_pair-turn c.args.a.0 c.args.b.0 turns in
    record { windows = rw (← c.self.view_is, ← found) refl; sound = rw (← c.self.view_is) (turn_rates_sound (rows_of c.self.inside) c.args.a.0 c.args.b.0 c.self.invariant.rows) }
