use Rattle.std.proofs.Common.{◌≡◌, ◌++◌, ◌∷◌, [], ℕ, length, subst, sym, ap, refl, arith, get_or, ◌∙◌}
use Rattle.std.proofs.lemmas.Grind.{common_steps}
use Rattle.labels.specs.States.Onwards.{AreStates, AreOnwards, ways_from, end_zone}
use Rattle.labels.proofs.OfStates.RouterFacts.{AreOnwards_more, router_is}
use Rattle.labels.proofs.states.network_router.router_of.Goals as goal

pub loop-lead-preserved : goal.loop-lead-preserved
loop-lead-preserved c =
    let net = c.args.net.now in
    let of = c.in_ok-of.field-0.of.items in
    let leads = c.as_slice-lead-items.result.now in
    let st = subst (λ ls. AreStates net of ls) (sym c.as_slice-lead-items.ensures.value) c.in_ok-of.ensures.are in
    let a : ℕ = get_or leads c.loop-lead.lead-index 0 in
    let grown : c.add_ways.new.ways.items ≡ c.loop-lead.ways.items ++ ways_from net of a = c.in_ok-add_ways.ensures ∙ ap (λ xs. c.loop-lead.ways.items ++ ways_from net xs a) c.as_slice.ensures.value in
    let begun : c.push-in-loop-lead.new.self.items ≡ c.loop-lead.starts.items ++ length c.add_ways.new.ways.items ∷ [] =
    (let count : c.len.result ≡ length c.add_ways.new.ways.items = grind (arith, common_steps) in c.in_ok-push-2.ensures.items ∙ ap (λ n. c.loop-lead.starts.items ++ n ∷ []) count) in
    let zoned : c.push-in-loop-lead-2.new.self.items ≡ c.loop-lead.zones.items ++ end_zone net a ∷ [] = c.in_ok-push-3.ensures.items ∙ ap (λ z. c.loop-lead.zones.items ++ z ∷ []) c.zone_of_end.ensures in
    AreOnwards_more net of leads c.in_ok-of.ensures.net st c.loop-lead.starts.items c.loop-lead.ways.items c.loop-lead.zones.items c.loop-lead.lead-index a
    c.push-in-loop-lead.new.self.items c.add_ways.new.ways.items c.push-in-loop-lead-2.new.self.items refl grown begun zoned c.loop-lead.invariant

pub returns : goal.returns
returns c =
    let net = c.args.net.now in
    let of = c.in_ok-of.field-0.of.items in
    let leads = c.as_slice-lead-items.result.now in
    let st = subst (λ ls. AreStates net of ls) (sym c.as_slice-lead-items.ensures.value) c.in_ok-of.ensures.are in
    let done : c.loop-lead.lead-index ≡ length leads = omega (arith, c.loop-lead-test.false, c.loop-lead.auto.lead-index-end) in
    router_is net leads _ c.in_ok-of.ensures.net st
    (subst (λ n. AreOnwards net of leads c.loop-lead.starts.items c.loop-lead.ways.items c.loop-lead.zones.items n) done c.loop-lead.invariant)
