use Rattle.std.proofs.Common.{arith, refl, ◌∙◌, ap, ◌<◌, ◌≤◌, length}
use Rattle.std.specs.Prelude.{Some, None, Ok, Err}
use Rattle.row_reader.specs.Rows.{Steps}
use Rattle.row_reader.specs.declared.rows.RowFault.TheVariants as fault
use Rattle.row_reader.proofs.FirstFaultFacts.{at-end, next-line, many, complains, bad, more}
use Rattle.row_reader.proofs.accepted.accept_all.Goals as goal

pub returns-in-Ok-None-clause-ok : goal.returns-in-Ok-None-clause-ok
returns-in-Ok-None-clause-ok g c =
    let e : Steps c.each.rows c.next.new.self (Ok None) = rw (c.in-Ok-None.is, c.in-Ok-None.field-0-is) at (c.next.ensures.steps (rw c.each.invariant.state.running refl)) in
    at-end _ _ _ _ _ _ _ _ c.each.invariant.state e

pub overflow_sub-line : goal.overflow_sub-line
overflow_sub-line g c =
    let e : Steps c.each.rows c.next.new.self (Ok (Some c.in-Ok-Some.row)) = rw (c.in-Ok-Some.is, c.in-Ok-Some.field-0-is) at (c.next.ensures.steps (rw c.each.invariant.state.running refl)) in
    let line = next-line _ _ _ _ _ _ _ _ c.each.invariant.state c.in-Ok-Some.row e in
    omega arith

pub returns-then-line-most-clause-refused : goal.returns-then-line-most-clause-refused
returns-then-line-most-clause-refused g c =
    let e : Steps c.each.rows c.next.new.self (Ok (Some c.in-Ok-Some.row)) = rw (c.in-Ok-Some.is, c.in-Ok-Some.field-0-is) at (c.next.ensures.steps (rw c.each.invariant.state.running refl)) in
    let line = next-line _ _ _ _ _ _ _ _ c.each.invariant.state c.in-Ok-Some.row e in
    let n : g.A.Accepted.limit ≤ length (g.A.Accepted.rows c.each.accepted) = omega arith in
    let m = many _ _ _ _ _ _ _ _ c.each.invariant.state c.in-Ok-Some.row e n in
    rw (c.refusal_at.ensures, c.complain.ensures, c.line-line.ensures) m

pub returns-in-Err-Complaint-clause-refused : goal.returns-in-Err-Complaint-clause-refused
returns-in-Err-Complaint-clause-refused g c =
    let e : Steps c.each.rows c.next.new.self (Ok (Some c.in-Ok-Some.row)) = rw (c.in-Ok-Some.is, c.in-Ok-Some.field-0-is) at (c.next.ensures.steps (rw c.each.invariant.state.running refl)) in
    let line = next-line _ _ _ _ _ _ _ _ c.each.invariant.state c.in-Ok-Some.row e in
    let n : length (g.A.Accepted.rows c.each.accepted) < g.A.Accepted.limit = omega arith in
    let j = rw c.each.invariant.checks at (c.accept.ensures.complaint c.in-Err-Complaint.c (c.in-Err-Complaint.is ∙ ap Err c.in-Err-Complaint.field-0-is)) in
    let m = complains _ _ _ _ _ _ _ _ c.each.invariant.state c.in-Ok-Some.row _ c.in-Err-Complaint.c e (rw c.header.ensures at c.of.ensures) n j in
    rw (c.refusal_at-in-Err-Complaint.ensures, c.line-line.ensures) m

pub each-preserved : goal.each-preserved
each-preserved g c =
    let e : Steps c.each.rows c.next.new.self (Ok (Some c.in-Ok-Some.row)) = rw (c.in-Ok-Some.is, c.in-Ok-Some.field-0-is) at (c.next.ensures.steps (rw c.each.invariant.state.running refl)) in
    let line = next-line _ _ _ _ _ _ _ _ c.each.invariant.state c.in-Ok-Some.row e in
    let n : length (g.A.Accepted.rows c.each.accepted) < g.A.Accepted.limit = omega arith in
    let a = c.in-Ok.ensures.accepted in
    let j = rw c.each.invariant.checks at a.1 in
    let m = more _ _ _ _ _ _ _ _ c.each.invariant.state c.in-Ok-Some.row _ a.0 e (rw c.header.ensures at c.of.ensures) n j in
    record {
      state = rw a.2 m;
      checks = c.accept.ensures.checks ∙ c.each.invariant.checks;
    }

pub returns-in-Err-BadRecord-clause-refused : goal.returns-in-Err-BadRecord-clause-refused
returns-in-Err-BadRecord-clause-refused g c =
    let e : Steps c.each.rows c.next.new.self (Err (fault.BadRecord c.in-Err-BadRecord.line)) = rw (c.in-Err-BadRecord.is, c.in-Err-BadRecord.field-0-is) at (c.next.ensures.steps (rw c.each.invariant.state.running refl)) in
    let m = bad _ _ _ _ _ _ c.next.new.self _ c.each.invariant.state c.in-Err-BadRecord.line e in
    rw (c.refusal_at-in-Err-BadRecord.ensures, c.complain-in-Err-BadRecord.ensures) m
