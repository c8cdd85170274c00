use Rattle.std.proofs.Common.{ap}
use Rattle.start_table.proofs.Walked.{row_is, row_joins}
use Rattle.start_table.proofs.walks.ends_of.Goals as goal

pub returns-clause-from : goal.returns-clause-from
returns-clause-from c = ap (λ row. row.from) (row_is c.args.net.now c.args.link.0 c.link-row.result c.link-row.ensures)

pub returns-clause-to : goal.returns-clause-to
returns-clause-to c = ap (λ row. row.to) (row_is c.args.net.now c.args.link.0 c.link-row.result c.link-row.ensures)

pub returns-clause-within : goal.returns-clause-within
returns-clause-within c =
    let joins = row_joins c.args.net.now c.args.link.0 c.link-row.result c.link_count-count.ensures.sound c.link-row.ensures in
    (joins.from, joins.to)
