use Rattle.std.proofs.Common.{rules, ◌∙◌, sym}
use Rattle.std.specs.Prelude.{IsTrue}
use Rattle.csv.specs.Records.{fields_of}
use Rattle.row_reader.proofs.ColumnsFacts.{name-there, name-absent, name-nowhere}
use Rattle.row_reader.proofs.header.column_in.Goals as goal

pub returns-then-has_name : goal.returns-then-has_name
returns-then-has_name c = sym (c.loop-place.invariant ∙ name-there (fields_of c.args.names.now) c.args.name.now c.loop-place.place c.loop-place.place (c.has_name.ensures.0 (search rules)))

pub loop-place-preserved : goal.loop-place-preserved
loop-place-preserved c = c.loop-place.invariant ∙ name-absent (fields_of c.args.names.now) c.args.name.now c.loop-place.place c.loop-place.place
    (λ e. let t : IsTrue c.has_name.result = c.has_name.ensures.1 e in cc)

pub returns : goal.returns
returns c = sym (c.loop-place.invariant ∙ name-nowhere (fields_of c.args.names.now) c.args.name.now c.loop-place.place c.loop-place.place (search rules))
