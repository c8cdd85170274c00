use Rattle.std.proofs.Common.{◌∙◌, ◌<◌, length, ap, subst, sym, arith}
use Rattle.std.proofs.lemmas.Grind.{get_or_default_zero}
use Rattle.std.specs.Prelude.{slice_set}
use Rattle.labels.specs.States.LinkStates.{AreAtNodes}
use Rattle.labels.proofs.OfStates.StateFacts.{at_set, led_known}
use Rattle.labels.proofs.states.link_states.Leads.state_for.Goals as goal

pub returns-then-known-clause-led : goal.returns-then-known-clause-led
returns-then-known-clause-led c =
    let nodes = c.args.self.now.at_node.items in
    let n = c.end_of-node.result.0 in
    let known = c.index-known.result.now in
    let small : n < length nodes = omega (arith, c.end_of-node.ensures.within, c.requires.nodes.many) in
    led_known c.args.net.now c.args.self.now.links.items nodes c.args.link.0 n known c.requires.nodes c.requires.link (ap (λ x. x.0) c.end_of-node.ensures.is) small (sym c.is_named.ensures ∙ c.if-is_named.false)
    (c.index-known.ensures ∙ get_or_default_zero nodes n known small) c.if-known.true

pub returns-clause-nodes : goal.returns-clause-nodes
returns-clause-nodes c =
    let old = c.args.self.now.links.items in
    let new = c.push-2.new.self.links.items in
    let n = c.end_of-node.result.0 in
    let same = ap (λ v. v.items) c.push-2.ensures.nodes in
    subst (λ s. AreAtNodes c.args.net.now new (slice_set c.push-2.new.self.at_node.items n s)) (sym c.in_ok-state.ensures.state)
    (at_set c.args.net.now old new c.push-2.new.self.at_node.items c.args.link.0 n c.requires.link (ap (λ x. x.0) c.end_of-node.ensures.is) c.in_ok-state.ensures.grown
    (subst (λ xs. AreAtNodes c.args.net.now old xs) (sym same) c.requires.nodes))
