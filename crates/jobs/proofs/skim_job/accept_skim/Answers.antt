use Rattle.std.proofs.Common.{[], ◌∷◌, ◌≡◌, ◌∙◌, refl, sym}
use Rattle.jobs.specs.Inputs.{Skimming, Sweeping}
use Rattle.std.proofs.lemmas.Result.{err_from_is_err_and}
use Rattle.desk_io.specs.declared.desk.Table.TheVariants as table
use Rattle.jobs.specs.Calls.{rows_in_network, with_time_rows}
use Rattle.jobs.specs.TableRows.{network_tables, no_rows}
use Rattle.jobs.proofs.ChainFacts.{accepted-both, accepted-one, among-first, among-then, reads-both, reads-done, reads-stopped}
use Rattle.assignment.proofs.AssignmentFacts.{no-start-rows}
use Rattle.jobs.proofs.JobFacts.{among, asked-for, no-trips, own-job, past, skim-job, starved}
use Rattle.jobs.proofs.skim_job.accept_skim.Goals as goal

pub returns-in_err-network-clause-reads : goal.returns-in_err-network-clause-reads
returns-in_err-network-clause-reads g c =
    let p = err_from_is_err_and c.from_residual.result c.from_residual.ensures.1 in
    let s = c.args.settings.now in
    let r = c.in_err-network.ensures.reads in
    rw (p.1, p.2) (reads-stopped r (among s (asked-for s Skimming c.requires.kind) (g.D.Desk.state c.args.desk.now) (g.D.Desk.state c.accept_network.new.desk) _
    (among-first s network_tables (table.Times ∷ []) no_rows _ _ _ r.stops)))

pub returns-in_err-net-clause-reads : goal.returns-in_err-net-clause-reads
returns-in_err-net-clause-reads g c =
    let p = err_from_is_err_and c.from_residual-in_err-net.result c.from_residual-in_err-net.ensures.1 in
    let r = c.in_ok-network.ensures.reads in
    rw (p.1, p.2) (reads-stopped r (starved c.args.settings.now (asked-for c.args.settings.now Skimming c.requires.kind) (g.D.Desk.state c.args.desk.now) (g.D.Desk.state c.accept_network.new.desk)
    network_tables table.Times [] (rows_in_network c.in_ok-network.network) refl r.done))

pub returns-in_err-times-clause-reads : goal.returns-in_err-times-clause-reads
returns-in_err-times-clause-reads g c =
    let p = err_from_is_err_and c.from_residual-in_err-times.result c.from_residual-in_err-times.ensures.1 in
    let s = c.args.settings.now in
    let rows = rows_in_network c.in_ok-network.network in
    let r = c.in_ok-network.ensures.reads in
    let t = c.in_err-times.ensures.reads rows (sym c.in_ok-net.ensures) in
    rw (p.1, p.2) (reads-stopped (reads-both r t) (among s (asked-for s Skimming c.requires.kind) (g.D.Desk.state c.args.desk.now) (g.D.Desk.state c.accept_times.new.desk) _
    (among-then s network_tables [] table.Times no_rows rows _ _ _ _ r.done r.later t.stops)))

pub returns-in_err-skim_sizes-clause-reads : goal.returns-in_err-skim_sizes-clause-reads
returns-in_err-skim_sizes-clause-reads g c =
    let p = err_from_is_err_and c.from_residual-in_err-skim_sizes.result c.from_residual-in_err-skim_sizes.ensures.1 in
    let s = c.args.settings.now in
    let rows = rows_in_network c.in_ok-network.network in
    let all = with_time_rows rows c.in_ok-times.times in
    let r = c.in_ok-network.ensures.reads in
    let t = c.in_ok-times.ensures.reads rows (sym c.in_ok-net.ensures) in
    let read = accepted-both s network_tables (table.Times ∷ []) no_rows rows all _ _ _ r.done
    (accepted-one s table.Times rows all _ _ t.done) in
    rw (p.1, p.2) (reads-stopped (reads-both r t) (past s (asked-for s Skimming c.requires.kind) (g.D.Desk.state c.args.desk.now) (g.D.Desk.state c.accept_times.new.desk) all _ read
    (c.in_err-skim_sizes.ensures.stops all (sym c.in_ok-net.ensures))))

pub returns-clause-reads : goal.returns-clause-reads
returns-clause-reads g c =
    let s = c.args.settings.now in
    let rows = rows_in_network c.in_ok-network.network in
    let all = with_time_rows rows c.in_ok-times.times in
    let r = c.in_ok-network.ensures.reads in
    let t = c.in_ok-times.ensures.reads rows (sym c.in_ok-net.ensures) in
    let read = accepted-both s network_tables (table.Times ∷ []) no_rows rows all _ _ _ r.done
    (accepted-one s table.Times rows all _ _ t.done) in
    reads-done (reads-both r t) (rw (c.in_ok-net.ensures)
    (own-job s (asked-for s Skimming c.requires.kind) all _ _ _ read (c.in_ok-skim_sizes.ensures.within all (sym c.in_ok-net.ensures))
    (skim-job s all c.requires.kind refl refl refl)))

pub returns-clause-sound : goal.returns-clause-sound
returns-clause-sound g c = record {
  net = rw (c.in_ok-net.ensures) c.in_ok-network.ensures.net;
  trips = no-trips c.args.settings.now.horizon;
  start = no-start-rows;
  times = λ takes. c.in_ok-times.ensures.sound;
  sweep = λ is. let same : Skimming ≡ Sweeping = sym c.requires.kind ∙ is in absurd cc;
}
