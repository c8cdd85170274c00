use Rattle.std.proofs.Common.{◌∙◌, length, ap, subst, sym}
use Rattle.dta_model.specs.Lent.{plan_of}
use Rattle.link_times.specs.TimeTables.{IsShort}
use Rattle.trip_costs.proofs.Walks.{times_end, times_many, times_short}
use Rattle.trip_costs.proofs.costs.TripCosts.of.Goals as goal

pub of-requires-4-clause-links : goal.of-requires-4-clause-links
of-requires-4-clause-links c =
    c.link_count-links.ensures.count ∙ sym (times_many (plan_of c.args.loading.now) c.args.bucket c.in_ok-times.times c.in_ok-times.ensures.table)

pub of-requires-4-clause-short : goal.of-requires-4-clause-short
of-requires-4-clause-short c =
    times_short (plan_of c.args.loading.now) c.args.bucket c.in_ok-times.times c.requires.sound c.in_ok-times.ensures.table c.in_ok-times.ensures.short

pub of-requires-4-clause-horizon : goal.of-requires-4-clause-horizon
of-requires-4-clause-horizon c = times_end (plan_of c.args.loading.now) c.args.bucket c.in_ok-times.times c.requires.sound c.in_ok-times.ensures.table

pub returns-clause-many : goal.returns-clause-many
returns-clause-many c =
    ap (λ t. length t.free) c.in_ok-exits.ensures ∙ times_many (plan_of c.args.loading.now) c.args.bucket c.in_ok-times.times c.in_ok-times.ensures.table

pub returns-clause-short : goal.returns-clause-short
returns-clause-short c =
    subst IsShort (sym c.in_ok-exits.ensures)
    (times_short (plan_of c.args.loading.now) c.args.bucket c.in_ok-times.times c.requires.sound c.in_ok-times.ensures.table c.in_ok-times.ensures.short)
