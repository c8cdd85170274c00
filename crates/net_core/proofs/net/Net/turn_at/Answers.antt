use Rattle.std.proofs.Common.{◌≡◌, ◌<◌, ◌∙◌, length, sym, subst, true, false}
use Rattle.net_core.specs.NetInside.{rows_of}
use Rattle.net_core.specs.Network.{is_named}
use Rattle.net_core.specs.declared.rows.NetRows.{NetRows}
use Rattle.net_core.proofs.ByNodeFacts.{named-told, turn_at-free, turn_at-listed}
use Rattle.net_core.proofs.net.Net.turn_at.Goals as goal

pub returns-then-index : goal.returns-then-index
returns-then-index c =
    let net = rows_of c.self.inside in
    let n = c.args.node.0 in
    let within : n < length net.nodes = subst (λ (rows : NetRows). n < length rows.nodes) (sym c.self.view_is) c.requires.within in
    let named : is_named net n ≡ true = sym (named-told net c.self.inside.named.items n c.index.result.now within c.self.invariant.named) ∙ sym c.index.ensures ∙ c.if-index.true in
    c.listed_turn.ensures
    ∙ rw (← c.self.view_is) (sym (turn_at-listed net n c.args.a.0 c.args.b.0 named))

pub returns-else-index : goal.returns-else-index
returns-else-index c =
    let net = rows_of c.self.inside in
    let n = c.args.node.0 in
    let within : n < length net.nodes = subst (λ (rows : NetRows). n < length rows.nodes) (sym c.self.view_is) c.requires.within in
    let named : is_named net n ≡ false = sym (named-told net c.self.inside.named.items n c.index.result.now within c.self.invariant.named) ∙ sym c.index.ensures ∙ c.if-index.false in
    rw (← c.self.view_is) (sym (turn_at-free net n c.args.a.0 c.args.b.0 named))
