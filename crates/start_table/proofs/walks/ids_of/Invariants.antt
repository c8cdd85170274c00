use Rattle.std.proofs.Common.{◌≡◌, take}
use Rattle.net_core.specs.Rows.{link_ids}
use Rattle.start_table.proofs.walks.ids_of.Given as goal

abbrev pub invariant-loop-link : goal.invariant-loop-link
invariant-loop-link l = l.ids ≡ link_ids (take l.link-index l.links)
