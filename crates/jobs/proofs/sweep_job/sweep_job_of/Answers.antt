use Rattle.std.proofs.Common.{ℕ, ◌*◌, ◌≤◌, length, refl, subst, sym}
use Rattle.gmns_tables.specs.RowsWithWindows.{rows_of}
use Rattle.net_core.specs.declared.rows.NetRows.{NetRows}
use Rattle.std.proofs.lemmas.Result.{err_from_is_err_and}
use Rattle.reports.specs.declared.refusal.TheConstants.{MOST_SWEEP_LINK_STEPS}
use Rattle.jobs.specs.Calls.{rows_in_tables}
use Rattle.jobs.specs.Inputs.{Kind, inputs_by}
use Rattle.assignment.proofs.AssignmentFacts.{no-start-rows}
use Rattle.jobs.proofs.JobFacts.{link-count, no-trips, trips_of-none}
use Rattle.jobs.proofs.sweep_job.sweep_job_of.Goals as goal

pub returns-in_err-sweep_sizes-clause-stops : goal.returns-in_err-sweep_sizes-clause-stops
returns-in_err-sweep_sizes-clause-stops c =
    let p = err_from_is_err_and c.from_residual.result c.from_residual.ensures.1 in
    rw (p.1, p.2) (c.in_err-sweep_sizes.ensures.stops (rows_in_tables c.args.tables)
    (link-count c.args.tables.network.roads.links c.as_slice.result.now c.as_slice.ensures.links) (sym c.deref.ensures.value))

pub returns-clause-within : goal.returns-clause-within
returns-clause-within c =
    c.in_ok-sweep_sizes.ensures.within (rows_in_tables c.args.tables)
    (link-count c.args.tables.network.roads.links c.as_slice.result.now c.as_slice.ensures.links) (sym c.deref.ensures.value)

pub returns-clause-makes : goal.returns-clause-makes
returns-clause-makes c = rw (
  c.in_ok-net.ensures,
  c.requires.kind,
  trips_of-none,
) refl

pub returns-clause-sound : goal.returns-clause-sound
returns-clause-sound c = record {
  net = rw (c.in_ok-net.ensures) c.requires.net;
  trips = no-trips c.args.settings.now.horizon;
  start = no-start-rows;
  times = λ takes. absurd (subst (λ (k : Kind). (inputs_by k).takes_times) c.requires.kind takes);
  sweep = λ asks.
      let w = c.in_ok-sweep_sizes.ensures.within (rows_in_tables c.args.tables)
      (link-count c.args.tables.network.roads.links c.as_slice.result.now c.as_slice.ensures.links) (sym c.deref.ensures.value) in
      let links = c.args.tables.network.roads.links in
      let horizon = c.args.settings.now.horizon in
      record {
        cells = c.requires.demand_cells;
        few = subst (λ (n : NetRows). length n.links * horizon ≤ MOST_SWEEP_LINK_STEPS) (sym c.in_ok-net.ensures)
            (subst (λ (n : ℕ). n * horizon ≤ MOST_SWEEP_LINK_STEPS) (link-count links (rows_of links) refl) w.0);
        within = w.1;
      };
}
