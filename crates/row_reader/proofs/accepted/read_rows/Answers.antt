use Rattle.std.proofs.Common.{◌∙◌, subst, sym}
use Rattle.std.specs.Prelude.{Err}
use Rattle.row_reader.specs.FirstFault.{Tells}
use Rattle.row_reader.specs.Records.{records}
use Rattle.row_reader.proofs.FirstFaultFacts.{below-told, columns-told, header-told, told-on}
use Rattle.row_reader.proofs.accepted.read_rows.Goals as goal

pub returns-in_err-rows : goal.returns-in_err-rows
returns-in_err-rows g c = let h = c.from_residual.ensures in
    told-on g.A.Accepted.rows _ _ _ h.1 (header-told c.args.table g.A.Accepted.limit c.args.required.now (g.A.Accepted.checks c.args.accepted)
    (records c.args.text.now) c.in_err-rows.field-0.0 c.in_err-rows.ensures.refused)

pub returns-in-Err : goal.returns-in-Err
returns-in-Err g c =
    let e = rw c.header.ensures at (sym c.has.ensures ∙ c.in-Err.is) in
    rw c.header_refusal.ensures (columns-told c.args.table g.A.Accepted.limit c.args.required.now (g.A.Accepted.checks c.args.accepted)
    (records c.args.text.now) c.in_ok-rows.rows c.in_ok-rows.ensures.opens c.in-Err.complaint e)

pub returns : goal.returns
returns g c =
    let e = rw c.header.ensures at (sym c.has.ensures ∙ c.in-Ok.is) in
    let told = below-told c.args.table g.A.Accepted.limit c.args.required.now (g.A.Accepted.checks c.args.accepted)
    (records c.args.text.now) c.in_ok-rows.rows c.in_ok-rows.ensures.opens e (g.A.Accepted.rows c.args.accepted) c.requires.empty in
    told ∙ c.in_ok-accept_all.ensures.ok

pub returns-in_err-accept_all : goal.returns-in_err-accept_all
returns-in_err-accept_all g c =
    let e = rw c.header.ensures at (sym c.has.ensures ∙ c.in-Ok.is) in
    let told = below-told c.args.table g.A.Accepted.limit c.args.required.now (g.A.Accepted.checks c.args.accepted)
    (records c.args.text.now) c.in_ok-rows.rows c.in_ok-rows.ensures.opens e (g.A.Accepted.rows c.args.accepted) c.requires.empty in
    let h = c.from_residual-in_err-accept_all.ensures in
    told-on g.A.Accepted.rows _ _ _ h.1 (subst (λ v. Tells v (Err c.in_err-accept_all.field-0.0)) (sym told) c.in_err-accept_all.ensures.refused)
