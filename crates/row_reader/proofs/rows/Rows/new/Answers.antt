use Rattle.std.proofs.Common.{arith, refl, sym, ◌∙◌, true, false}
use Rattle.csv.specs.Records.{fields_of}
use Rattle.csv.specs.Reading.{ReadRecord}
use Rattle.row_reader.specs.RowsInside.{IsFresh}
use Rattle.row_reader.proofs.RowsFacts.{remaining}
use Rattle.row_reader.proofs.OpenFacts.{opened, opens-row, opens-empty, bad-open}
use Rattle.row_reader.proofs.rows.Rows.new.Goals as goal

pub invariant_of-result : goal.invariant_of-result
invariant_of-result c none open_ =
    let fresh : IsFresh c.deref_mut.result.now c.args.text.now = rw c.deref_mut.ensures.value c.in_ok-reader.ensures.fresh in
    let read : ReadRecord remaining c.deref_mut.result.now c.read_record.new.self true (fields_of c.read_record.new.row)
    = rw c.in-Ok-true.field-0-test at (c.in-Ok-true.ensures.reads fresh.trim fresh.ready) in
    rw c.of.ensures ((opened c.args.text.now _ c.read_record.new.self fresh _ (omega arith) read (c.in-Ok-true.ensures.ready fresh.trim)
    c.in-Ok-true.ensures.flexible c.in-Ok-true.ensures.goes).next)

pub returns-in-Ok-true-clause-opens : goal.returns-in-Ok-true-clause-opens
returns-in-Ok-true-clause-opens c =
    let fresh : IsFresh c.deref_mut.result.now c.args.text.now = rw c.deref_mut.ensures.value c.in_ok-reader.ensures.fresh in
    let read : ReadRecord remaining c.deref_mut.result.now c.read_record.new.self true (fields_of c.read_record.new.row)
    = rw c.in-Ok-true.field-0-test at (c.in-Ok-true.ensures.reads fresh.trim fresh.ready) in
    rw c.of.ensures (opens-row c.args.text.now _ c.read_record.new.self fresh _ (opened c.args.text.now _ c.read_record.new.self fresh _ (omega arith) read
    (c.in-Ok-true.ensures.ready fresh.trim) c.in-Ok-true.ensures.flexible c.in-Ok-true.ensures.goes) (c.in-Ok-true.ensures.text fresh.trim))

pub returns-in-Ok-false-clause-opens : goal.returns-in-Ok-false-clause-opens
returns-in-Ok-false-clause-opens c =
    let fresh : IsFresh c.deref_mut.result.now c.args.text.now = rw c.deref_mut.ensures.value c.in_ok-reader.ensures.fresh in
    let read : ReadRecord remaining c.deref_mut.result.now c.read_record.new.self false (fields_of c.read_record.new.row)
    = rw c.in-Ok-false.field-0-test at (c.in-Ok-false.ensures.reads fresh.trim fresh.ready) in
    opens-empty c.args.text.now _ c.read_record.new.self fresh (fields_of c.read_record.new.row) _ read (rw (c.of-in-Ok-false.ensures, c.new.ensures.fields) refl)

pub returns-clause-bad : goal.returns-clause-bad
returns-clause-bad c l e =
    let fresh : IsFresh c.deref_mut.result.now c.args.text.now = rw c.deref_mut.ensures.value c.in_ok-reader.ensures.fresh in
    bad-open c.args.text.now _ c.read_record.new.self fresh _ l (c.in-Err.ensures.why fresh.trim fresh.ready) (sym c.fault_of.ensures ∙ e)
