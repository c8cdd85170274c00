use Rattle.capacity_credits.proofs.meter.Meter.close.Goals as goal

pub invariant_of-self : goal.invariant_of-self
invariant_of-self c =
    (c.self.invariant.0, c.close.ensures.kept c.self.inside.delta c.self.invariant.1)
