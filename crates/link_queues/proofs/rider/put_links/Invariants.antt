use Rattle.std.proofs.Common.{◌≡◌, ◌++◌, take}
use Rattle.dta_model.specs.Plans.{link_numbers}
use Rattle.std.specs.Vec.{vec_capacity}
use Rattle.link_queues.proofs.rider.put_links.Given as goal

abbrev pub invariant-loop-place : goal.invariant-loop-place
invariant-loop-place l =
    (l.path.items ≡ l.fn.path.items ++ link_numbers (take l.place l.links))
    × (vec_capacity l.path ≡ vec_capacity l.fn.path)
