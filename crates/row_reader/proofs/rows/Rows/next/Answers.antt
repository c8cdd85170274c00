use Rattle.std.proofs.Common.{arith, ap, refl, true, false, ◌∙◌, ◌+◌, ◌<◌, ◌^◌}
use Rattle.csv.specs.Records.{fields_of}
use Rattle.csv.specs.Reading.{ReadRecord}
use Rattle.row_reader.specs.RowsInside.{IsReading, view_of}
use Rattle.row_reader.proofs.RowsFacts.{remaining, moved, at-end, step-row, step-end, step-fault, explains, line-next}
use Rattle.row_reader.proofs.rows.Rows.next.Goals as goal

pub overflow_add-self : goal.overflow_add-self
overflow_add-self c =
    let sound : IsReading c.deref_mut.result.now c.self.inside.header c.self.inside.line
    = rw c.deref_mut.ensures.value (c.self.invariant (rw c.in-None.is refl) c.if-self.false) in
    let read : ReadRecord remaining c.deref_mut.result.now c.read_record.new.self true (fields_of c.read_record.new.row)
    = rw c.in-Ok-true.field-0-test at (c.in-Ok-true.ensures.reads sound.trim sound.ready) in
    let fits : c.self.inside.line + 1 < 2 ^ 64
    = (moved c.deref_mut.result.now c.read_record.new.self _ _ _ sound read (c.in-Ok-true.ensures.ready sound.trim) c.in-Ok-true.ensures.flexible c.in-Ok-true.ensures.goes).fits in
    omega arith

pub invariant_of-self : goal.invariant_of-self
invariant_of-self c none open_ =
    let sound : IsReading c.deref_mut.result.now c.self.inside.header c.self.inside.line
    = rw c.deref_mut.ensures.value (c.self.invariant (rw c.in-None.is refl) c.if-self.false) in
    let read : ReadRecord remaining c.deref_mut.result.now c.read_record.new.self true (fields_of c.read_record.new.row)
    = rw c.in-Ok-true.field-0-test at (c.in-Ok-true.ensures.reads sound.trim sound.ready) in
    (moved c.deref_mut.result.now c.read_record.new.self _ _ _ sound read (c.in-Ok-true.ensures.ready sound.trim) c.in-Ok-true.ensures.flexible c.in-Ok-true.ensures.goes).next

pub returns-in-Ok-true-clause-steps : goal.returns-in-Ok-true-clause-steps
returns-in-Ok-true-clause-steps c none =
    let sound : IsReading c.deref_mut.result.now c.self.inside.header c.self.inside.line
    = rw c.deref_mut.ensures.value (c.self.invariant (rw c.in-None.is refl) c.if-self.false) in
    let read : ReadRecord remaining c.deref_mut.result.now c.read_record.new.self true (fields_of c.read_record.new.row)
    = rw c.in-Ok-true.field-0-test at (c.in-Ok-true.ensures.reads sound.trim sound.ready) in
    let seen = ap (λ r. view_of r c.self.inside.header c.self.inside.line c.self.inside.ended c.self.inside.fault) c.deref_mut.ensures.value ∙ c.self.view_is in
    step-row c.deref_mut.result.now c.read_record.new.self _ _ _ _ _ seen c.if-self.false _
    (moved c.deref_mut.result.now c.read_record.new.self _ _ _ sound read (c.in-Ok-true.ensures.ready sound.trim) c.in-Ok-true.ensures.flexible c.in-Ok-true.ensures.goes)
    (c.in-Ok-true.ensures.text sound.trim)

pub returns-in-Ok-false-clause-steps : goal.returns-in-Ok-false-clause-steps
returns-in-Ok-false-clause-steps c none =
    let sound : IsReading c.deref_mut.result.now c.self.inside.header c.self.inside.line
    = rw c.deref_mut.ensures.value (c.self.invariant (rw c.in-None.is refl) c.if-self.false) in
    let read : ReadRecord remaining c.deref_mut.result.now c.read_record.new.self false (fields_of c.read_record.new.row)
    = rw c.in-Ok-false.field-0-test at (c.in-Ok-false.ensures.reads sound.trim sound.ready) in
    let seen = ap (λ r. view_of r c.self.inside.header c.self.inside.line c.self.inside.ended c.self.inside.fault) c.deref_mut.ensures.value ∙ c.self.view_is in
    step-end c.deref_mut.result.now c.read_record.new.self _ _ _ _ _ seen c.if-self.false
    (at-end c.deref_mut.result.now c.read_record.new.self _ _ _ sound read)

pub returns-in-Err-clause-steps : goal.returns-in-Err-clause-steps
returns-in-Err-clause-steps c none =
    let sound : IsReading c.deref_mut.result.now c.self.inside.header c.self.inside.line
    = rw c.deref_mut.ensures.value (c.self.invariant (rw c.in-None.is refl) c.if-self.false) in
    let seen = ap (λ r. view_of r c.self.inside.header c.self.inside.line c.self.inside.ended c.self.inside.fault) c.deref_mut.ensures.value ∙ c.self.view_is in
    step-fault c.deref_mut.result.now c.read_record.new.self _ _ _ _ _ seen c.if-self.false _
    (rw c.fault_of-fault.ensures (explains c.deref_mut.result.now c.read_record.new.self _ _ _ _ _ seen c.if-self.false _ _ sound
    (c.in-Err.ensures.why sound.trim sound.ready) (line-next c.deref_mut.result.now c.read_record.new.self _ _ _ sound c.saturating_add.ensures)))
