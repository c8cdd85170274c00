use Rattle.capacity_credits.proofs.outlook.Outlook.of.Goals as goal

pub returns-then-is_empty-clause-range : goal.returns-then-is_empty-clause-range
returns-then-is_empty-clause-range c = c.steady.ensures.range c.args.delta
