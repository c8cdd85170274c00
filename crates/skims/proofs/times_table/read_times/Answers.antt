use Rattle.row_reader.specs.Records.{records}
use Rattle.skims.proofs.TimesFacts.{rows-told}
use Rattle.skims.proofs.times_table.read_times.Goals as goal

pub returns-clause-sound : goal.returns-clause-sound
returns-clause-sound c =
    rows-told c.args.net.now c.args.bucket c.args.horizon c.rows_wanted.result (records c.args.text.now) c.in_ok-table.table.rows.items c.whole.result
    c.requires.bucket c.requires.horizon c.rows_wanted.ensures c.in_ok-table.ensures c.whole.ensures.whole
