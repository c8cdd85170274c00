use Rattle.std.proofs.Common.{◌≡◌, ◌<◌, length, map, take, Some}
use Rattle.std.specs.Prelude.{All}
use Rattle.dta_model.specs.Plans.{link_numbers}
use Rattle.net_core.specs.Ids.{place_of}
use Rattle.start_table.proofs.walks.links_named.Given as goal

abbrev pub invariant-loop-id : goal.invariant-loop-id
invariant-loop-id l = record {
  names : map (place_of l.index) (take l.id-index l.ids) ≡ map Some (link_numbers l.links.items);
  within : All (λ link. link.0 < length l.index) l.links.items;
}
