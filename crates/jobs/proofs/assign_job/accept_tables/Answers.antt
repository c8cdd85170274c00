use Rattle.std.proofs.Common.{List}
use Rattle.std.specs.Prelude.{⊤, Ok}
use Rattle.std.proofs.lemmas.Result.{err_from_is_err_and}
use Rattle.start_table.specs.declared.rows.StartRow.{StartRow}
use Rattle.jobs.specs.Calls.{OnlyReads, rows_in_tables, with_start_rows}
use Rattle.jobs.specs.Kinds.{rows_in_job}
use Rattle.jobs.specs.Inputs.{Assigning}
use Rattle.jobs.specs.TableRows.{all_tables, loading_tables, no_rows, start_tables}
use Rattle.jobs.specs.Tables.{AreAccepted}
use Rattle.jobs.proofs.ChainFacts.{accepted-start, accepted-unstarted, among-first, among-start, reads-both, reads-done, reads-so, reads-stopped}
use Rattle.jobs.proofs.JobFacts.{among, asked-for, own-jobs, sized}
use Rattle.jobs.proofs.assign_job.accept_tables.Goals as goal
use Rattle.jobs.proofs.assign_job.accept_tables.Goals.{then-settings+in_ok-start, else-settings}

pub returns-in_err-tables-clause-reads : goal.returns-in_err-tables-clause-reads
returns-in_err-tables-clause-reads g c =
    let p = err_from_is_err_and c.from_residual.result c.from_residual.ensures.1 in
    let s = c.args.settings.now in
    let r = c.in_err-tables.ensures.reads in
    rw (p.1, p.2) (reads-stopped r (among s (asked-for s Assigning c.requires.command) (g.D.Desk.state c.args.desk.now) (g.D.Desk.state c.accept_all.new.desk) _
    (among-first s all_tables (start_tables s.start) no_rows _ _ _ r.stops)))

pub returns-in_err-start-clause-reads : goal.returns-in_err-start-clause-reads
returns-in_err-start-clause-reads g c =
    let p = err_from_is_err_and c.from_residual-in_err-start.result c.from_residual-in_err-start.ensures.1 in
    let s = c.args.settings.now in
    let rows = rows_in_tables c.in_ok-tables.tables in
    let r = c.in_ok-tables.ensures.reads in
    let t = c.in_err-start.ensures.reads s rows (c.requires.settings.start c.if-settings.true) in
    rw (p.1, p.2) (reads-stopped (reads-both r t) (among s (asked-for s Assigning c.requires.command) (g.D.Desk.state c.args.desk.now) (g.D.Desk.state c.accept_start.new.desk) _
    (among-start s s.start rows _ _ _ _ c.if-settings.true r.done r.later t.stops)))

pub returns-clause-reads : goal.returns-clause-reads
returns-clause-reads g c =
    let s = c.args.settings.now in
    let rows = rows_in_tables c.in_ok-tables.tables in
    let r = c.in_ok-tables.ensures.reads in
    let before = g.D.Desk.state c.args.desk.now in
    let after = g.D.Desk.state c.if-settings.desk in
    let all : OnlyReads {T = List StartRow} (λ start from rest. AreAccepted s (loading_tables s.start) no_rows (with_start_rows rows start) from.left rest.left) (λ stop from rest. ⊤)
    before after (Ok c.if-settings.start) = elim c.if-settings.branch [
      | then-settings+in_ok-start w ↦
          let t = w.in_ok-start.ensures.reads s rows (c.requires.settings.start w.if-settings.true) in
          rw (w.start-is, w.desk-is) (reads-done (reads-both r t) (accepted-start s s.start rows (with_start_rows rows w.in_ok-start.start) _ _ _ w.if-settings.true r.done t.done))
      | else-settings w ↦
          rw (w.start-is, w.new-start.ensures, w.desk-is) (reads-done r (accepted-unstarted s s.start rows _ _ w.if-settings.false r.done))
    ] in
    let full = with_start_rows rows c.if-settings.start in
    let made = c.assign_job_of.ensures in
    reads-so all (own-jobs s (asked-for s Assigning c.requires.command) rows_in_job full c.assign_job_of.result _ _ all.done made.within made.makes)
    (sized s (asked-for s Assigning c.requires.command) before after full c.assign_job_of.result all.done made.stops)
