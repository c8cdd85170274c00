use Rattle.std.proofs.Common.{List, ap, subst, sym, ◌∙◌, ◌<◌, arith}
use Rattle.std.specs.Prelude.{All, Err}
use Rattle.std.proofs.lemmas.List.Elements.{All-weaker}
use Rattle.dta_model.specs.Release.{HaveWindows}
use Rattle.dta_model.specs.declared.trip.Trip.{Trip}
use Rattle.dta_model.specs.declared.trip.DemandCell.{DemandCell}
use Rattle.vehicle_release.specs.Limits.{IsFirstAbove}
use Rattle.vehicle_release.specs.declared.fault.ReleaseFault.{ReleaseFault}
use Rattle.scaled_demand.specs.Scales.{scaled}
use Rattle.scaled_demand.proofs.LimitFacts.{none-above, scaled_windows}
use Rattle.sweep.proofs.rounds.released.Goals as goal

pub unreachable-requires : goal.unreachable-requires
unreachable-requires c =
    let line = c.in-Err-TooMany.field-0-0 in
    let total = c.in-Err-TooMany.field-0-1 in
    none-above (scaled c.args.scale c.args.cells.now) line total c.requires.within
    (subst (λ (cells : List DemandCell). IsFirstAbove cells line total) (c.deref.ensures.value ∙ c.in_ok-scaled.ensures.are)
    ((c.release.ensures.too_many line total).0 (c.in-Err-TooMany.is ∙ ap (λ (e : ReleaseFault). Err e) c.in-Err-TooMany.field-0-is)))

pub release-requires-clause-windows : goal.release-requires-clause-windows
release-requires-clause-windows c =
    subst (λ (cells : List DemandCell). All (λ cell. cell.from < cell.to) cells) (sym (c.deref.ensures.value ∙ c.in_ok-scaled.ensures.are))
    (scaled_windows c.args.settings.now.period c.args.scale c.args.cells.now c.requires.windows).some

pub returns-in-Ok-clause-below : goal.returns-in-Ok-clause-below
returns-in-Ok-clause-below c =
    let s = c.args.settings.now in
    let is = c.in-Ok.ensures in
    let most = c.requires.settings.period.1 in
    let windows = subst (HaveWindows s.period) (sym (c.deref.ensures.value ∙ c.in_ok-scaled.ensures.are)) (scaled_windows s.period c.args.scale c.args.cells.now c.requires.windows) in record {
      in_order = is.sound;
      rising = is.rising;
      early = All-weaker (λ (trip : Trip). trip.departure < s.period) (λ (trip : Trip). trip.departure < s.horizon) (λ trip h. omega (arith, h, most)) _ (is.early s.period windows);
    }
