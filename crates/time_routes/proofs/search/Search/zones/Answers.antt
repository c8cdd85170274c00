use Rattle.std.proofs.Common.{◌≡◌, ◌≢◌, ℕ, ◌+◌, ◌<◌, [], sym, ◌∙◌, subst, ap, get_or}
use Rattle.std.specs.Prelude.{All}
use Rattle.time_routes.specs.Tell.{noted, Stands}
use Rattle.labels.specs.ToZone.{zone_numbers}
use Rattle.time_routes.proofs.TellFacts.{found_below, found_each}
use Rattle.time_routes.proofs.search.Search.zones.Goals as goal

pub loop-zone-preserved : goal.loop-zone-preserved
loop-zone-preserved c =
    let lists = c.args.self.now.lists in
    let zone = c.loop-zone.zone in
    let old = c.loop-zone.found.items in
    let is : c.note.new.found.items ≡ noted old (record { 0 = zone }) (get_or lists zone []) = c.in_ok-note.ensures ∙ ap (λ l. noted old (record { 0 = zone }) l) (sym c.get.ensures) in (
      subst (λ l. All (λ z. z.0 < zone + 1) l) (sym is) (found_below old zone (get_or lists zone []) c.loop-zone.invariant.0),
      subst (λ l. (z : ℕ) → z < zone + 1 → get_or lists z [] ≢ [] → Stands (zone_numbers l) z) (sym is) (found_each lists old zone c.loop-zone.invariant.1),
    )
