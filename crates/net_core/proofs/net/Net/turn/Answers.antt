use Rattle.std.proofs.Common.{◌≡◌, ◌<◌, ◌∙◌, length, refl, rules, sym, subst}
use Rattle.net_core.specs.NetInside.{rows_of}
use Rattle.net_core.specs.Rows.{IsBetween}
use Rattle.net_core.specs.declared.rows.NetRows.{NetRows}
use Rattle.net_core.specs.Network.{link_at}
use Rattle.net_core.proofs.TurnsFacts.{turn-None, turn-met}
use Rattle.net_core.proofs.RowsFacts.{link_in-all}
use Rattle.net_core.proofs.net.Net.turn.Goals as goal

pub turn_at-requires-clause-within : goal.turn_at-requires-clause-within
turn_at-requires-clause-within c =
    let net = rows_of c.self.inside in
    let there = subst (λ (rows : NetRows). c.args.a.0 < length rows.links) (sym c.self.view_is) c.requires.from in
    let between = link_in-all (IsBetween net.nodes) net.links c.args.a.0 there c.self.invariant.rows.between in
    rw (← c.self.view_is, c.row.ensures, c.deref.ensures.value) between.to

pub returns-then-eq-clause-none : goal.returns-then-eq-clause-none
returns-then-eq-clause-none c =
    let net = c.args.self.now in
    let here : (link_at net c.args.a.0).to.0 ≡ c.row.result.to.0 = rw (c.row.ensures, c.deref.ensures.value, ← c.self.view_is) refl in
    let there : (link_at net c.args.b.0).from.0 ≡ c.row.result.to.0 = search (rules, c.if-eq.ensures) in
    let same = c.turn_at.ensures ∙ sym (turn-met net c.args.a.0 c.args.b.0 c.row.result.to.0 here there) in
    rw same (turn-None net c.args.a.0 c.args.b.0)
