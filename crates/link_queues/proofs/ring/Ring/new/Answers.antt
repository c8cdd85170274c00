-- What is left to show of a new ring.
use Rattle.link_queues.proofs.RingFacts.{new_ring}
use Rattle.link_queues.proofs.ring.Ring.new.Goals as goal

pub returns : goal.returns
returns c = new_ring c.args.count c.in_ok-counts.counts.items (c.in_ok-counts.ensures.items_if_clones_equal (λ y e. e))
