use Rattle.std.proofs.Common.{◌∙◌, ap, arith, rules}
use Rattle.csv.specs.Records.{fields_of}
use Rattle.row_reader.specs.Columns.{column_of, place_of}
use Rattle.row_reader.specs.declared.faults.Column.TheVariants.{NodeId}
use Rattle.row_reader.specs.declared.faults.TheConstants.{ALL_COLUMNS}
use Rattle.row_reader.proofs.ColumnsFacts.{one-place-more}
use Rattle.row_reader.proofs.header.Header.of.Goals as goal

pub loop-number-preserved : goal.loop-number-preserved
loop-number-preserved c =
    let e = c.column_in.ensures ∙ ap (column_of (fields_of c.args.names)) c.column_name.ensures in (
      search rules,
      one-place-more (place_of (fields_of c.args.names)) ALL_COLUMNS c.loop-number.places c.loop-number.number NodeId c.column_in.result
          (omega arith) (omega arith) c.loop-number.invariant.1 e,
    )
