use Rattle.std.proofs.Common.{◌≡◌, ◌<◌, ◌∙◌, length, refl, sym, subst, ap, ℕ}
use Rattle.std.specs.Prelude.{None, Some, Option, IsSome}
use Rattle.net_core.specs.NetInside.{rows_of}
use Rattle.net_core.specs.Network.{link_at, link_windows}
use Rattle.net_core.specs.Rates.{last_begun}
use Rattle.net_core.specs.declared.rows.LinkRow.{LinkRow}
use Rattle.net_core.specs.declared.rows.NetRows.{NetRows}
use Rattle.net_core.proofs.RatesFacts.{rate_given, windows_given}
use Rattle.net_core.proofs.RowsFacts.{link_in-get_or}
use Rattle.net_core.proofs.net.Net.link_rate_at.Goals as goal

pub unreachable-requires : goal.unreachable-requires
unreachable-requires c =
    let net = rows_of c.self.inside in
    let l = c.args.link.0 in
    let usual : Option ℕ = Some c.index.result.now.rate in
    let windows : c.link_windows.result.now ≡ link_windows net l =
    c.link_windows.ensures.windows ∙ ap (λ (v : NetRows). link_windows v l) (sym c.self.view_is) in
    let given = rate_given usual (link_windows net l) c.args.step refl (windows_given net l c.self.invariant.rows) in
    let none : None ≡ last_begun usual (link_windows net l) c.args.step = rw windows at c.in-None.ensures in
    let nothing : Option ℕ = None in
    let some : IsSome nothing = subst (λ (o : Option ℕ). IsSome o) (sym none) given in
    absurd cc

pub returns : goal.returns
returns c =
    let net = rows_of c.self.inside in
    let l = c.args.link.0 in
    let within : l < length net.links = subst (λ (rows : NetRows). l < length rows.links) (sym c.self.view_is) c.requires in
    let row = c.index.ensures ∙ sym (link_in-get_or net.links l c.index.result.now within) in
    let usual : c.index.result.now.rate ≡ (link_at net l).rate = ap (λ (link : LinkRow). link.rate) row in
    let windows : c.link_windows.result.now ≡ link_windows net l =
    c.link_windows.ensures.windows ∙ ap (λ (v : NetRows). link_windows v l) (sym c.self.view_is) in
    rw (← c.self.view_is) (sym (rw (windows, usual) at c.in-Some.ensures))
