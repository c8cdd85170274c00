use Rattle.std.proofs.Common.{◌≡◌, ◌<◌, ◌++◌, length, reverse}
use Rattle.dta_model.specs.Plans.{link_numbers}
use Rattle.labels.specs.Reading.Fewest.{path_to}
use Rattle.labels.proofs.reading.fewest.links_back.Given as goal

abbrev pub invariant-back : goal.invariant-back
invariant-back l = (l.back < length l.reached) × (path_to l.reached l.fn.place ≡ path_to l.reached l.back ++ reverse (link_numbers l.links.items))

abbrev pub decreases-back : goal.decreases-back
decreases-back l = l.back
