use Rattle.capacity_credits.proofs.meter.Meter.open.Goals as goal

pub invariant_of-self : goal.invariant_of-self
invariant_of-self c =
    (c.self.invariant.0, c.open.ensures.kept c.self.inside.delta c.self.invariant.1)
