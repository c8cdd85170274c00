-- What is left to each zone of a group.
use Rattle.std.proofs.Common.{◌≡◌, ℕ, ◌<◌, List, length, ap, sym, ◌∙◌, arith, get_or}
use Rattle.std.proofs.lemmas.List.{get_or-map, length-map}
use Rattle.net_core.specs.Network.{zones}
use Rattle.net_core.specs.declared.rows.ZoneNo.{ZoneNo}
use Rattle.trip_costs.specs.WalkCosts.{steps_in, table_in}
use Rattle.labels.specs.Reading.Serves.{Fit, Serves}
use Rattle.labels.specs.Filling.Tables.{rests}
use Rattle.labels.specs.ToZone.{zone_numbers}
use Rattle.labels.specs.Reading.GroupsTo.{AreFilled}
use Rattle.labels.specs.declared.reading.group_labels.GroupLabels.TheInside.{Inside}
use Rattle.labels.proofs.OfReading.ServeFacts.{serves_of}

-- the number at a place
pub number_of : (zs : List ZoneNo) (j : ℕ) (d : ZoneNo) → j < length zs → get_or (zone_numbers zs) j 0 ≡ (get_or zs j d).0
number_of zs j d h = get_or-map (λ z. z.0) zs j d 0 h

-- the labels of a group serve walks to each of its zones
module _ (l : Inside) (i : AreFilled l) (j : ℕ) (within : j < length (zone_numbers l.zones.items)) where
  abbrev pub number : ℕ
  number = get_or (zone_numbers l.zones.items) j 0

  small : j < length l.zones.items
  small = let n = length-map l.zones.items (λ z. z.0) in omega (arith, within, n)

  pub in_net : number < length (zones l.net.now.nodes)
  in_net = let d : ZoneNo = record { 0 = 0 } in let is = number_of l.zones.items j d small in let h = i.inside j d small in omega (arith, is, h)

  pub serves_at : Serves l.net.now (get_or (zone_numbers l.zones.items) j 0) (steps_in l.costs) (rests l.labels j) l.router
  serves_at = serves_of l.net.now (table_in l.costs) (steps_in l.costs) l.router (rests l.labels j) number i.net i.timed i.table in_net i.router (i.left.each j within)

  pub fit_at : Fit l.labels j l.router (table_in l.costs)
  fit_at = record { within = omega (arith, within, i.left.places); states = i.left.states; links = i.router.many ∙ sym i.table }

  pub zone_is : (z : ZoneNo) → z ≡ get_or l.zones.items j z → get_or (zone_numbers l.zones.items) j 0 ≡ z.0
  zone_is z is = number_of l.zones.items j z small ∙ ap (λ x. x.0) (sym is)
