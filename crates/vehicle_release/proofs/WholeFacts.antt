-- The trips of a table, from trips that were made, put in order and numbered.
use Rattle.std.proofs.Common.{◌≡◌, ◌≢◌, ℕ, zero, suc, ◌+◌, ◌<◌, ◌≤◌, Bool, true, false, List, [], ◌∷◌, ◌++◌, length, take, drop, map, All, arith, refl, ap, sym, ◌∙◌, cond, subst}
use Rattle.std.specs.Prelude.{nat_eq, filter, slice_get, Option, None, Some, Result, Err, ◌↔◌}
use Rattle.std.specs.List.{flat_map, range_with_len}
use Rattle.std.specs.List.Sorted.{IsNonDecreasingBy}
use Rattle.std.proofs.lemmas.Option.{slice_get_within}
use Rattle.std.proofs.lemmas.List.{map-append}
use Rattle.net_core.specs.Network.{numbers_below}
use Rattle.dta_model.specs.Released.{IsRelease}
use Rattle.dta_model.specs.Sound.{AreTrips}
use Rattle.dta_model.proofs.Releases.{departs_is, last_windows, trips_are_released}
use Rattle.dta_model.specs.Release.{HaveWindows, Released, in_order_of_departure, last_end, numbered, released, trip_by, trips_of, vehicles_before}
use Rattle.dta_model.specs.declared.trip.DemandCell.{DemandCell}
use Rattle.dta_model.specs.declared.trip.TheConstants.{MOST_TRIPS}
use Rattle.dta_model.specs.declared.trip.Trip.{Trip}
use Rattle.vehicle_release.specs.declared.fault.ReleaseFault.{ReleaseFault}
use Rattle.vehicle_release.specs.declared.fault.ReleaseFault.TheVariants.{TooMany}
use Rattle.vehicle_release.specs.Limits.{IsWithin, IsFirstAbove}
use Rattle.vehicle_release.specs.Unnumbered.{by_departure, renumbered, unnumbered}
use Rattle.vehicle_release.proofs.MadeFacts.{released_early}
use Rattle.vehicle_release.proofs.NumbersFacts.{length-renumbered, lent}
use Rattle.vehicle_release.proofs.SumsFacts.{vehicles_before-volume}

-- ---- the definition's order and numbers
trip_by-number : (o : Option DemandCell) (number departs : ℕ)
    → record (trip_by o 0 departs) { number = number } ≡ trip_by o number departs
trip_by-number None number departs = refl
trip_by-number (Some cell) number departs = refl

renumbered-numbered : (cells : List DemandCell) (from : ℕ) (all : List Released)
    → renumbered from (map (unnumbered cells) all) ≡ numbered cells from all
renumbered-numbered cells from [] = refl
renumbered-numbered cells from (r ∷ rest) =
    λ i. trip_by-number (slice_get cells r.row) from r.departs i ∷ renumbered-numbered cells (from + 1) rest i

cond-map : {X Y : Type 0} (f : X → Y) (b : Bool) (x : X) (xs : List X)
    → cond b (f x ∷ map f xs) (map f xs) ≡ map f (cond b (x ∷ xs) xs)
cond-map f true x xs = refl
cond-map f false x xs = refl

of_step-map : (cells : List DemandCell) (step : ℕ) (all : List Released)
    → filter (λ trip. nat_eq trip.departure step) (map (unnumbered cells) all) ≡ map (unnumbered cells) (filter (λ r. nat_eq r.departs step) all)
of_step-map cells step [] = refl
of_step-map cells step (r ∷ rest) =
    (λ i. cond (nat_eq (departs_is (slice_get cells r.row) 0 r.departs i) step) (unnumbered cells r ∷ of_step-map cells step rest i) (of_step-map cells step rest i))
    ∙ cond-map (unnumbered cells) (nat_eq r.departs step) r (filter (λ r. nat_eq r.departs step) rest)

by_steps-map : (cells : List DemandCell) (from n : ℕ) (all : List Released)
    → flat_map (λ step. filter (λ trip. nat_eq trip.departure step) (map (unnumbered cells) all)) (range_with_len from n)
    ≡ map (unnumbered cells) (flat_map (λ step. filter (λ r. nat_eq r.departs step) all) (range_with_len from n))
by_steps-map cells from zero all = refl
by_steps-map cells from (suc n) all =
    (λ i. of_step-map cells from all i ++ by_steps-map cells (from + 1) n all i)
    ∙ sym (map-append (unnumbered cells) (filter (λ r. nat_eq r.departs from) all) (flat_map (λ step. filter (λ r. nat_eq r.departs step) all) (range_with_len (from + 1) n)))

-- what is in order and numbered is the definition's trips
trips_made : (cells : List DemandCell)
    → renumbered 0 (by_departure (last_end cells) (map (unnumbered cells) (released cells))) ≡ trips_of cells
unfolding trips_of in_order_of_departure by_departure
trips_made cells =
    ap (renumbered 0) (by_steps-map cells 0 (last_end cells) (released cells))
    ∙ renumbered-numbered cells 0 (flat_map (λ step. filter (λ r. nat_eq r.departs step) (released cells)) (numbers_below (last_end cells)))

-- ---- the whole
module _ (cells : List DemandCell) where
  -- trips that were made and put in order are the definition's, once they are numbered
  ordered-numbered : (made ordered : List Trip) → made ≡ map (unnumbered cells) (released cells)
      → ordered ≡ by_departure (last_end cells) made
      → renumbered 0 ordered ≡ trips_of cells
  ordered-numbered made ordered made_is order =
      ap (renumbered 0) (order ∙ ap (by_departure (last_end cells)) made_is) ∙ trips_made cells

  -- the same of what a sort gives, whose trips depart before the last window ends
  pub in_order : (made ordered : List Trip) → All (λ cell. cell.from < cell.to) cells
      → made ≡ map (unnumbered cells) (released cells)
      → ((steps : ℕ) → All (λ trip. trip.departure < steps) made → ordered ≡ by_departure steps made)
      → ordered ≡ by_departure (last_end cells) made
  in_order made ordered windows made_is order = order (last_end cells) (released_early cells made windows made_is)

  pub ordered_few : (total : ℕ) (made ordered now : List Trip) → All (λ cell. cell.from < cell.to) cells
      → total ≡ vehicles_before cells (length cells) → total ≤ MOST_TRIPS
      → made ≡ map (unnumbered cells) (released cells) → ordered ≡ by_departure (last_end cells) made
      → now ≡ ordered → length now ≤ MOST_TRIPS
  ordered_few total made ordered now windows total_is few made_is order is =
      let whole = ap length (ordered-numbered made ordered made_is order) in
      omega (arith, few, total_is, ap length is, length-renumbered 0 ordered, whole, (trips_are_released cells (last_end cells) (last_windows cells windows)).total)

  pub numbered_whole : (n : ℕ) (made ordered now numbered : List Trip)
      → made ≡ map (unnumbered cells) (released cells) → ordered ≡ by_departure (last_end cells) made
      → n ≡ length ordered → now ≡ ordered → numbered ≡ renumbered 0 now
      → take n (numbered ++ drop (length numbered) ordered) ≡ trips_of cells
  numbered_whole n made ordered now numbered made_is order long is numbered_is =
      lent n ordered now numbered long is numbered_is ∙ ordered-numbered made ordered made_is order

-- what is true of the definition's trips
pub are_trips : (cells : List DemandCell) (total : ℕ) (trips : List Trip) → All (λ cell. cell.from < cell.to) cells
    → total ≡ vehicles_before cells (length cells) → total ≤ MOST_TRIPS → trips ≡ trips_of cells
    → AreTrips trips
are_trips cells total trips windows total_is few is =
    let law = subst (IsRelease cells (last_end cells)) (sym is) (trips_are_released cells (last_end cells) (last_windows cells windows)) in
    record { few = omega (arith, few, total_is, law.total); numbered = law.numbered; apart = law.apart }

pub are_rising : (cells : List DemandCell) (trips : List Trip) → All (λ cell. cell.from < cell.to) cells
    → trips ≡ trips_of cells → IsNonDecreasingBy (λ trip. trip.departure) trips
are_rising cells trips windows is = (subst (IsRelease cells (last_end cells)) (sym is) (trips_are_released cells (last_end cells) (last_windows cells windows))).rising

pub are_early : (cells : List DemandCell) (steps : ℕ) (trips : List Trip) → HaveWindows steps cells
    → trips ≡ trips_of cells → All (λ trip. trip.departure < steps) trips
are_early cells steps trips windows is = (subst (IsRelease cells steps) (sym is) (trips_are_released cells steps windows)).early

-- ---- the limit
pub all_within : (cells : List DemandCell) → IsWithin cells
    → vehicles_before cells (length cells) ≤ MOST_TRIPS
all_within [] within = let none = vehicles_before-volume [] 0 in omega (arith, none)
all_within (cell ∷ cells) within = let last : length cells + 1 ≡ length (cell ∷ cells) = omega arith in subst (λ n. vehicles_before (cell ∷ cells) n ≤ MOST_TRIPS) last (within (length cells) (omega arith))

-- within the limit there is no first row above it
none_above : (cells : List DemandCell) (line total : ℕ) → IsWithin cells
    → IsFirstAbove cells line total → ⊥
none_above cells line total within first =
    omega (arith, within first.row (slice_get_within cells first.row first.cell first.at), first.so_many, first.above)

-- an answer that isn't too many, within the limit
pub answers_within : {T : Type 0} (cells : List DemandCell) (r : Result T ReleaseFault)
    → IsWithin cells → ((line total : ℕ) → r ≢ Err (TooMany line total))
    → (line total : ℕ) → (r ≡ Err (TooMany line total)) ↔ IsFirstAbove cells line total
answers_within cells r within other line total =
    (λ e. absurd (other line total e), λ first. absurd (none_above cells line total within first))
