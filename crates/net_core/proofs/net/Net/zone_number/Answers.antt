use Rattle.std.proofs.Common.{◌∙◌, refl, sym}
use Rattle.net_core.proofs.ZonesFacts.{zone-absent}
use Rattle.net_core.proofs.net.Net.zone_number.Goals as goal

pub returns-in-Some-clause-none : goal.returns-in-Some-clause-none
returns-in-Some-clause-none c =
    let placed = rw c.self.invariant.zones at c.in-Some.ensures.place in
    rw (← c.self.view_is) (
      (λ none. absurd cc),
      (λ all. absurd (let w = placed ∙ (zone-absent c.self.inside.nodes.items c.args.id).1 all in cc)),
    )

pub returns-in-None-clause-none : goal.returns-in-None-clause-none
returns-in-None-clause-none c =
    let placed = rw c.self.invariant.zones at c.in-None.ensures.place in
    rw (← c.self.view_is) (
      (λ none. (zone-absent c.self.inside.nodes.items c.args.id).0 (sym placed)),
      (λ all. refl),
    )
