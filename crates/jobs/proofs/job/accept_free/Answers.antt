use Rattle.std.proofs.Common.{[], ◌≡◌, ◌∙◌, inr, subst, sym}
use Rattle.jobs.specs.Calls.{rows_in_roads}
use Rattle.jobs.specs.Inputs.{FreeFlow, Kind, Sweeping, inputs_by}
use Rattle.std.proofs.lemmas.List.Elements.{All-nil}
use Rattle.std.proofs.lemmas.Result.{err_from_is_err_and}
use Rattle.net_core.specs.Rows.{IsTurning}
use Rattle.gmns_tables.proofs.NetFacts.{no-turns}
use Rattle.gmns_tables.specs.RowsWithWindows.{rows_of}
use Rattle.jobs.proofs.ChainFacts.{reads-stopped, reads-done}
use Rattle.assignment.proofs.AssignmentFacts.{no-start-rows}
use Rattle.jobs.proofs.JobFacts.{asked-for, counted, free-job, no-trips, own-job}
use Rattle.jobs.proofs.TableFacts.{joined-net}
use Rattle.jobs.proofs.job.accept_free.Goals as goal

pub join_net-requires : goal.join_net-requires
join_net-requires g c =
    joined-net c.in_ok-roads.roads.nodes c.in_ok-roads.roads.links [] c.in_ok-roads.ensures.nodes c.in_ok-roads.ensures.links
    c.in_ok-roads.ensures.between no-turns (All-nil (IsTurning (rows_of c.in_ok-roads.roads.links)))

pub returns-in_err-net-clause-reads : goal.returns-in_err-net-clause-reads
returns-in_err-net-clause-reads g c =
    let p = err_from_is_err_and c.from_residual-in_err-net.result c.from_residual-in_err-net.ensures.1 in
    let r = c.in_ok-roads.ensures.reads in
    rw (p.1, p.2) (reads-stopped r (inr (inr (counted c.args.settings.now (asked-for c.args.settings.now FreeFlow c.requires.kind) (rows_in_roads c.in_ok-roads.roads) _ _ r.done))))

pub returns-clause-reads : goal.returns-clause-reads
returns-clause-reads g c =
    let r = c.in_ok-roads.ensures.reads in
    reads-done r (rw (c.in_ok-net.ensures)
    (own-job c.args.settings.now (asked-for c.args.settings.now FreeFlow c.requires.kind) (rows_in_roads c.in_ok-roads.roads) _ _ _ r.done tt
    (free-job c.args.settings.now c.in_ok-roads.roads.nodes c.in_ok-roads.roads.links c.requires.kind)))

pub returns-clause-sound : goal.returns-clause-sound
returns-clause-sound g c = record {
  net = rw (c.in_ok-net.ensures)
      (joined-net c.in_ok-roads.roads.nodes c.in_ok-roads.roads.links [] c.in_ok-roads.ensures.nodes c.in_ok-roads.ensures.links
      c.in_ok-roads.ensures.between no-turns (All-nil (IsTurning (rows_of c.in_ok-roads.roads.links))));
  trips = no-trips c.args.settings.now.horizon;
  start = no-start-rows;
  times = λ takes. absurd (subst (λ (k : Kind). (inputs_by k).takes_times) c.requires.kind takes);
  sweep = λ is. let same : FreeFlow ≡ Sweeping = sym c.requires.kind ∙ is in absurd cc;
}
