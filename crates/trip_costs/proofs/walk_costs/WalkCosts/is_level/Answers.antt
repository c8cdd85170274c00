use Rattle.trip_costs.proofs.Timed.{level_by_links}
use Rattle.trip_costs.proofs.walk_costs.WalkCosts.is_level.Goals as goal

pub returns-in-Links : goal.returns-in-Links
returns-in-Links c = λ told. level_by_links c.args.self.now c.in-Links.field-0 c.in-Links.is c.args.link.0 c.args.bucket
