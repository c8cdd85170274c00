-- What a rider is inside.
use Rattle.std.specs.List.{last_or}
use Rattle.std.specs.Prelude.{◌≡◌, ◌≤◌, IsSome, None, drop, length, option_map, slice_get, take}
use Rattle.dta_model.specs.Riders.{RiderState}
use Rattle.link_queues.specs.declared.rider.Rider.TheInside.{Inside}

-- what contracts see of it: no place in memory
abbrev pub rider_state : Inside → RiderState
rider_state r = record {
  number = r.number;
  departure = r.departure;
  ahead = drop r.entered r.path.items;
  entries = take r.entered r.path.items;
  arrival = r.arrival;
}

-- what stands in every rider: no more entries than places in its path, an arrival only after the
-- last entry, and beside the path the last entry and the next link
pub record IsSoundRider (r : Inside) : Type 0 where
  pub within : r.entered ≤ length r.path.items
  pub arrives : IsSome r.arrival → r.entered ≡ length r.path.items
  pub last_entry : r.last ≡ last_or None (take r.entered r.path.items)
  pub next_link : option_map (λ link. link.0) r.next ≡ slice_get (drop r.entered r.path.items) 0
