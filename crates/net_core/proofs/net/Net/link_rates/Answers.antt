use Rattle.std.proofs.Common.{◌<◌, length, sym, subst}
use Rattle.net_core.specs.NetInside.{rows_of}
use Rattle.net_core.specs.declared.rows.NetRows.{NetRows}
use Rattle.net_core.proofs.RatesSound.{link_rates_sound}
use Rattle.net_core.proofs.net.Net.link_rates.Goals as goal

pub returns-in_err-copy_of-clause-sound : goal.returns-in_err-copy_of-clause-sound
returns-in_err-copy_of-clause-sound c =
    let net = rows_of c.self.inside in
    let l = c.args.link.0 in
    let within : l < length net.links = subst (λ (rows : NetRows). l < length rows.links) (sym c.self.view_is) c.requires in
    rw (← c.self.view_is) (link_rates_sound net l within c.self.invariant.rows)

pub returns-clause-sound : goal.returns-clause-sound
returns-clause-sound c =
    let net = rows_of c.self.inside in
    let l = c.args.link.0 in
    let within : l < length net.links = subst (λ (rows : NetRows). l < length rows.links) (sym c.self.view_is) c.requires in
    rw (← c.self.view_is) (link_rates_sound net l within c.self.invariant.rows)
