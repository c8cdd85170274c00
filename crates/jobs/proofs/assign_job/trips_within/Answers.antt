use Rattle.std.proofs.Common.{◌<◌, arith}
use Rattle.std.proofs.lemmas.List.Elements.{All-weaker}
use Rattle.dta_model.specs.declared.trip.Trip.{Trip}
use Rattle.jobs.proofs.assign_job.trips_within.Goals as goal

pub returns-clause-sound : goal.returns-clause-sound
returns-clause-sound c =
    let s = c.args.settings.now in
    let is = c.in_ok-release.ensures in
    let most = c.requires.settings.period.1 in record {
      in_order = is.sound;
      rising = is.rising;
      early = All-weaker (λ (trip : Trip). trip.departure < s.period) (λ (trip : Trip). trip.departure < s.horizon) (λ trip h. omega (arith, h, most)) _
          (is.early s.period c.requires.demand_cells.windows);
    }
