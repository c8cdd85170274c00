use Rattle.dta_model.specs.Lent.{plan_of}
use Rattle.trip_costs.proofs.Walks.{times_short}
use Rattle.trip_costs.proofs.loading_costs.LoadingCosts.of.Goals as goal

pub returns-in_ok-times-in-Links-clause-short : goal.returns-in_ok-times-in-Links-clause-short
returns-in_ok-times-in-Links-clause-short c =
    times_short (plan_of c.args.loading.now) c.args.bucket c.in_ok-times-in-Links.times c.requires.sound c.in_ok-times-in-Links.ensures.table c.in_ok-times-in-Links.ensures.short
