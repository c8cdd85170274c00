use Rattle.std.proofs.Common.{ℕ, ◌*◌, ◌≤◌, refl, subst, sym}
use Rattle.std.proofs.lemmas.Result.{err_from_is_err_and}
use Rattle.dta_model.specs.declared.loading.TheConstants.{MOST_LINK_STEPS}
use Rattle.vehicle_release.specs.Limits.{IsWithin}
use Rattle.jobs.specs.Calls.{rows_in_tables, with_start_rows}
use Rattle.jobs.proofs.JobFacts.{assigned-no-sweep, assigned-no-times, assigned-released, assigned-unswept, link-count}
use Rattle.jobs.proofs.assign_job.assign_job_of.Goals as goal

pub returns-in_err-trips-clause-stops : goal.returns-in_err-trips-clause-stops
returns-in_err-trips-clause-stops c =
    let p = err_from_is_err_and c.from_residual.result c.from_residual.ensures.1 in
    rw (p.1, p.2) (c.in_err-trips.ensures.stops (with_start_rows (rows_in_tables c.args.tables) c.args.start)
    (link-count c.args.tables.network.roads.links c.as_slice.result.now c.as_slice.ensures.links) (sym c.deref.ensures.value))

pub returns-clause-sound : goal.returns-clause-sound
returns-clause-sound c = record {
  net = rw (c.in_ok-net.ensures) c.requires.net;
  trips = c.in_ok-trips.ensures.sound;
  start = c.requires.start;
  times = λ takes. absurd (assigned-no-times c.args.settings.now.command c.requires.command takes);
  sweep = λ asks. absurd (assigned-no-sweep c.args.settings.now.command c.requires.command asks);
}

pub returns-clause-within : goal.returns-clause-within
returns-clause-within c = (
  subst (λ (n : ℕ). n * c.args.settings.now.horizon ≤ MOST_LINK_STEPS)
      (sym (link-count c.args.tables.network.roads.links c.as_slice.result.now c.as_slice.ensures.links)) c.in_ok-trips.ensures.within.0,
  subst IsWithin c.deref.ensures.value c.in_ok-trips.ensures.within.1,
)

pub returns-clause-makes : goal.returns-clause-makes
returns-clause-makes c =
    let s = c.args.settings.now in
    let cells = c.args.tables.demand_cells.items in
    rw (
      c.in_ok-net.ensures,
      c.in_ok-trips.ensures.trips,
      c.deref.ensures.value,
      assigned-released s.command c.requires.command cells,
      assigned-unswept s.command c.requires.command cells,
    ) refl
