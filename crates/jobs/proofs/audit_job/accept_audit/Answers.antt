use Rattle.std.proofs.Common.{ℕ, List, ◌*◌, ◌≤◌, [], ◌∷◌, ◌++◌, ◌≡◌, ◌∙◌, ap, arith, length, refl, subst, sym}
use Rattle.std.proofs.lemmas.Result.{err_from_is_err_and}
use Rattle.agent_table.specs.declared.rows.AgentRow.{AgentRow}
use Rattle.desk_io.specs.Desk.{Left}
use Rattle.desk_io.specs.declared.desk.Table.TheVariants as table
use Rattle.dta_words.specs.declared.command.Settings.{Settings}
use Rattle.skims.specs.declared.time_rows.TimeRow.{TimeRow}
use Rattle.jobs.specs.Inputs.{Auditing, Sweeping}
use Rattle.jobs.specs.Calls.{rows_in_tables, with_agent_rows, with_time_rows}
use Rattle.jobs.specs.TableRows.{TableRows, all_tables, no_rows}
use Rattle.jobs.specs.Tables.{AreAccepted, IsAccepted}
use Rattle.jobs.proofs.ChainFacts.{accepted-both, accepted-one, among-first, among-then, reads-both, reads-done, reads-stopped}
use Rattle.dta_model.specs.declared.loading.TheConstants.{MOST_LINK_STEPS}
use Rattle.gmns_tables.specs.RowsWithWindows.{rows_of}
use Rattle.net_core.specs.declared.rows.NetRows.{NetRows}
use Rattle.vehicle_release.specs.Limits.{IsWithin}
use Rattle.assignment.proofs.AssignmentFacts.{no-start-rows}
use Rattle.jobs.proofs.JobFacts.{among, asked-for, audit-job, link-count, own-job, past, starved}
use Rattle.jobs.proofs.audit_job.accept_audit.Goals as goal

-- the tables of an audit, accepted one after the other
module _ (s : Settings) (rows : TableRows) (agents : List AgentRow) {before between after : Left}
    (read : AreAccepted s all_tables no_rows rows before between) (own : IsAccepted s table.Start rows (with_agent_rows rows agents) between after) where
  with-agents : AreAccepted s (all_tables ++ table.Start ∷ []) no_rows (with_agent_rows rows agents) before after
  with-agents = accepted-both s all_tables (table.Start ∷ []) no_rows rows _ _ _ _ read (accepted-one s table.Start rows _ _ _ own)

  with-times : (times : List TimeRow) {rest : Left} → IsAccepted s table.Times (with_agent_rows rows agents) (with_time_rows (with_agent_rows rows agents) times) after rest
      → AreAccepted s (all_tables ++ table.Start ∷ table.Times ∷ []) no_rows (with_time_rows (with_agent_rows rows agents) times) before rest
  with-times times last = accepted-both s (all_tables ++ table.Start ∷ []) (table.Times ∷ []) no_rows _ _ _ _ _ with-agents (accepted-one s table.Times _ _ _ _ last)

pub returns-in_err-tables-clause-reads : goal.returns-in_err-tables-clause-reads
returns-in_err-tables-clause-reads g c =
    let p = err_from_is_err_and c.from_residual.result c.from_residual.ensures.1 in
    let s = c.args.settings.now in
    let r = c.in_err-tables.ensures.reads in
    rw (p.1, p.2) (reads-stopped r (among s (asked-for s Auditing c.requires.kind) (g.D.Desk.state c.args.desk.now) (g.D.Desk.state c.accept_all.new.desk) _
    (among-first s all_tables (table.Start ∷ table.Times ∷ []) no_rows _ _ _ r.stops)))

pub returns-in_err-agents-clause-reads : goal.returns-in_err-agents-clause-reads
returns-in_err-agents-clause-reads g c =
    let p = err_from_is_err_and c.from_residual-in_err-agents.result c.from_residual-in_err-agents.ensures.1 in
    let s = c.args.settings.now in
    let rows = rows_in_tables c.in_ok-tables.tables in
    let r = c.in_ok-tables.ensures.reads in
    let t = c.in_err-agents.ensures.reads s rows c.requires.kind in
    rw (p.1, p.2) (reads-stopped (reads-both r t) (among s (asked-for s Auditing c.requires.kind) (g.D.Desk.state c.args.desk.now) (g.D.Desk.state c.accept_agents.new.desk) _
    (among-then s all_tables (table.Times ∷ []) table.Start no_rows rows _ _ _ _ r.done r.later t.stops)))

pub returns-in_err-net-clause-reads : goal.returns-in_err-net-clause-reads
returns-in_err-net-clause-reads g c =
    let p = err_from_is_err_and c.from_residual-in_err-net.result c.from_residual-in_err-net.ensures.1 in
    let s = c.args.settings.now in
    let rows = rows_in_tables c.in_ok-tables.tables in
    let r = c.in_ok-tables.ensures.reads in
    let t = c.in_ok-agents.ensures.reads s rows c.requires.kind in
    rw (p.1, p.2) (reads-stopped (reads-both r t) (starved s (asked-for s Auditing c.requires.kind) (g.D.Desk.state c.args.desk.now) (g.D.Desk.state c.accept_agents.new.desk)
    (all_tables ++ table.Start ∷ []) table.Times [] _ refl (with-agents s rows c.in_ok-agents.agents r.done t.done)))

pub returns-in_err-times-clause-reads : goal.returns-in_err-times-clause-reads
returns-in_err-times-clause-reads g c =
    let p = err_from_is_err_and c.from_residual-in_err-times.result c.from_residual-in_err-times.ensures.1 in
    let s = c.args.settings.now in
    let rows = rows_in_tables c.in_ok-tables.tables in
    let more = with_agent_rows rows c.in_ok-agents.agents in
    let r = c.in_ok-tables.ensures.reads in
    let t = c.in_ok-agents.ensures.reads s rows c.requires.kind in
    let u = c.in_err-times.ensures.reads more (sym c.in_ok-net.ensures) in
    rw (p.1, p.2) (reads-stopped (reads-both (reads-both r t) u) (among s (asked-for s Auditing c.requires.kind) (g.D.Desk.state c.args.desk.now) (g.D.Desk.state c.accept_times.new.desk) _
    (among-then s (all_tables ++ table.Start ∷ []) [] table.Times no_rows more _ _ _ _ (with-agents s rows c.in_ok-agents.agents r.done t.done) (let a = r.later in let b = t.later in omega (arith, a, b)) u.stops)))

pub returns-in_err-trips-clause-reads : goal.returns-in_err-trips-clause-reads
returns-in_err-trips-clause-reads g c =
    let p = err_from_is_err_and c.from_residual-in_err-trips.result c.from_residual-in_err-trips.ensures.1 in
    let s = c.args.settings.now in
    let rows = rows_in_tables c.in_ok-tables.tables in
    let all = with_time_rows (with_agent_rows rows c.in_ok-agents.agents) c.in_ok-times.times in
    let r = c.in_ok-tables.ensures.reads in
    let t = c.in_ok-agents.ensures.reads s rows c.requires.kind in
    let u = c.in_ok-times.ensures.reads (with_agent_rows rows c.in_ok-agents.agents) (sym c.in_ok-net.ensures) in
    let every = with-times s rows c.in_ok-agents.agents r.done t.done c.in_ok-times.times u.done in
    let links = c.in_ok-tables.tables.network.roads.links in
    let many = link-count links (rows_of links) refl ∙ ap (λ (n : NetRows). length n.links) (sym c.in_ok-net.ensures) ∙ sym c.link_count.ensures.count in
    rw (p.1, p.2) (reads-stopped (reads-both (reads-both r t) u) (past s (asked-for s Auditing c.requires.kind) (g.D.Desk.state c.args.desk.now) (g.D.Desk.state c.accept_times.new.desk) all _ every
    (c.in_err-trips.ensures.stops all many (sym c.deref.ensures.value))))

pub returns-clause-reads : goal.returns-clause-reads
returns-clause-reads g c =
    let s = c.args.settings.now in
    let rows = rows_in_tables c.in_ok-tables.tables in
    let all = with_time_rows (with_agent_rows rows c.in_ok-agents.agents) c.in_ok-times.times in
    let r = c.in_ok-tables.ensures.reads in
    let t = c.in_ok-agents.ensures.reads s rows c.requires.kind in
    let u = c.in_ok-times.ensures.reads (with_agent_rows rows c.in_ok-agents.agents) (sym c.in_ok-net.ensures) in
    let every = with-times s rows c.in_ok-agents.agents r.done t.done c.in_ok-times.times u.done in
    let links = c.in_ok-tables.tables.network.roads.links in
    let many = link-count links (rows_of links) refl ∙ ap (λ (n : NetRows). length n.links) (sym c.in_ok-net.ensures) ∙ sym c.link_count.ensures.count in
    let room = subst (λ (n : ℕ). n * s.horizon ≤ MOST_LINK_STEPS) (sym many) c.in_ok-trips.ensures.within.0 in
    let within = subst IsWithin c.deref.ensures.value c.in_ok-trips.ensures.within.1 in
    reads-done (reads-both (reads-both r t) u) (rw (c.in_ok-net.ensures, c.in_ok-trips.ensures.trips, c.deref.ensures.value)
    (own-job s (asked-for s Auditing c.requires.kind) all _ _ _ every (room, within) (audit-job s all c.requires.kind)))

pub returns-clause-sound : goal.returns-clause-sound
returns-clause-sound g c = record {
  net = rw (c.in_ok-net.ensures) c.in_ok-tables.ensures.net;
  trips = c.in_ok-trips.ensures.sound;
  start = no-start-rows;
  times = λ takes. c.in_ok-times.ensures.sound;
  sweep = λ is. let same : Auditing ≡ Sweeping = sym c.requires.kind ∙ is in absurd cc;
}
