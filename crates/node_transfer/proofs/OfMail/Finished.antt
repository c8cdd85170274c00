-- Where a number is past all nodes, each link begins and ends at a node below it.
use Rattle.std.proofs.Common.{ℕ, ◌<◌, ◌≤◌, length, arith}
use Rattle.dta_model.specs.Plans.{link_at}
use Rattle.dta_model.specs.Sound.{IsSound}
use Rattle.dta_model.specs.declared.plan.Plan.{Plan}
use Rattle.dta_model.proofs.Steady.{steady_of}

pub from-below : (p : Plan) → IsSound p → (k : ℕ) → length p.net.nodes ≤ k → (l : ℕ) → l < length p.net.links → (link_at p l).from.0 < k
from-below p sound k over l h = let ends = (steady_of p sound).ends l h in let from = ends.0 in omega (arith, from, over)

pub to-below : (p : Plan) → IsSound p → (k : ℕ) → length p.net.nodes ≤ k → (l : ℕ) → l < length p.net.links → (link_at p l).to.0 < k
to-below p sound k over l h = let ends = (steady_of p sound).ends l h in let to = ends.1 in omega (arith, to, over)
