-- Free-flow times stand still, and walks by equal times take equal times.
use Rattle.std.proofs.Common.{◌≡◌, ◌⊎◌, inl, inr, ℕ, zero, suc, ◌+◌, ◌-◌, ◌*◌, ◌/◌, ◌<◌, ◌≤◌, true, false, cond, List, [], ◌∷◌, length, refl, ap, sym, ◌∙◌, subst, arith, Option, Some, None, get_or, map, mul-le-mul_right}
use Rattle.std.specs.Prelude.{nat_lt, slice_get}
use Rattle.std.proofs.lemmas.Bool.{cases_lt}
use Rattle.std.proofs.lemmas.Bool.Decides.{nat_tests}
use Rattle.std.proofs.lemmas.List.{length-map}
use Rattle.net_core.specs.Network.{link_at, turn}
use Rattle.net_core.specs.Rows.{link_in}
use Rattle.net_core.specs.declared.rows.LinkNo.{LinkNo}
use Rattle.net_core.specs.declared.rows.LinkRow.{LinkRow}
use Rattle.net_core.specs.declared.rows.NetRows.{NetRows}
use Rattle.dta_model.specs.Least.{IsChosen}
use Rattle.dta_model.specs.LinkTimes.{TimeTable, buckets_to, by_bucket, free_steps, free_table, place_in, time_at}
use Rattle.dta_model.specs.Plans.{link_numbers}
use Rattle.dta_model.specs.TimedWalks.{arrival_after, penalty_steps, walk_time}
use Rattle.dta_model.specs.declared.trip.Trip.{Trip}
use Rattle.link_times.proofs.Places.{bucket_inside, by_bucket-get, by_bucket-long}
use Rattle.time_routes.specs.Destinations.{AreTold, asks_walk, WalkOf}
use Rattle.time_routes.specs.declared.vehicles.Ask.{Ask}
use Rattle.trip_costs.specs.Timings.{Links}
use Rattle.route_flows.specs.Averages.{AreChosenRoutes, AreStartedBy, AreStartedRoutes, StartsOn}
use Rattle.route_flows.specs.Selection.{free_time}
use Rattle.route_flows.specs.Starting.{asks_for_rest, FillsIn}
use Rattle.start_table.specs.Starts.{TellsStart}
use Rattle.start_table.specs.declared.rows.StartRow.{StartRow}
use Rattle.route_flows.proofs.Started.{started_are}

past : (xs : List ℕ) (i : ℕ) → length xs ≤ i → get_or xs i 0 ≡ 0
past [] i h = refl
past (x ∷ xs) zero h = absurd (omega (arith, h))
past (x ∷ xs) (suc i) h = past xs i (omega (arith, h))

free_in : (links : List LinkRow) (l : ℕ) → l < length links → (link_in links l).free ≡ get_or (map (λ link. link.free) links) l 0
unfolding link_in
free_in [] l h = absurd (omega (arith, h))
free_in (link ∷ links) zero h = refl
free_in (link ∷ links) (suc l) h = free_in links l (omega (arith, h))

module _ (net : NetRows) (bucket horizon l step : ℕ) (some : 1 ≤ bucket) (lasts : 1 ≤ horizon) where
  abbrev links : ℕ
  links = length net.links

  abbrev buckets : ℕ
  buckets = buckets_to bucket horizon

  abbrev free_of : ℕ → ℕ → ℕ
  free_of l b = (link_at net l).free

  in_table : step < horizon → (l < links) ⊎ (links ≤ l) → get_or (by_bucket links buckets free_of) (place_in buckets l (step / bucket)) 0 ≡ get_or (free_steps net) l 0
  in_table early (inl b) = by_bucket-get links buckets free_of l (step / bucket) b (bucket_inside bucket horizon step some early) ∙ free_in net.links l b
  in_table early (inr b) =
      let long = by_bucket-long links buckets free_of in
      let all : links * buckets ≤ l * buckets = mul-le-mul_right buckets b in
      let many : length (free_steps net) ≡ links = length-map net.links (λ link. link.free) in
      past (by_bucket links buckets free_of) (place_in buckets l (step / bucket)) (omega (arith, long, all)) ∙ sym (past (free_steps net) l (omega (arith, many, b)))

  -- the free-flow table stands still
  pub free-stands : time_at (free_table net bucket horizon) l step ≡ free_time net l step
  unfolding time_at free_table free_time
  free-stands = by (cases_lt step horizon)
    where
      by : (step < horizon) ⊎ (horizon ≤ step) → cond (nat_lt step horizon) (get_or (by_bucket links buckets free_of) (place_in buckets l (step / bucket)) 0) (get_or (free_steps net) l 0) ≡ get_or (free_steps net) l 0
      by (inl b) = let t : nat_lt step horizon ≡ true = grind (arith, nat_tests) in rw t (in_table b (cases_lt l links))
      by (inr b) = let t : nat_lt step horizon ≡ false = grind (arith, nat_tests) in rw t refl

pub free-many : (net : NetRows) (bucket horizon : ℕ) → length (free_table net bucket horizon).free ≡ length net.links
unfolding free_table
free-many net bucket horizon = length-map net.links (λ link. link.free)

-- ---- walks by equal times
module _ (at other : ℕ → ℕ → ℕ) (same : (l step : ℕ) → at l step ≡ other l step) (net : NetRows) where
  arrival-same : (step l : ℕ) (rest : List ℕ) → arrival_after at net step l rest ≡ arrival_after other net step l rest
  unfolding arrival_after
  arrival-same step l [] = ap (λ t. step + t) (same l step)
  arrival-same step l (b ∷ rest) =
      arrival-same (step + at l step + penalty_steps (turn net l b)) b rest
      ∙ ap (λ t. arrival_after other net (step + t + penalty_steps (turn net l b)) b rest) (same l step)

  walk-same : (start : ℕ) (walk : List ℕ) → walk_time at net start walk ≡ walk_time other net start walk
  walk-same start [] = refl
  walk-same start (l ∷ rest) = ap (λ t. t - start) (arrival-same start l rest)

  chosen-same : (o d start : ℕ) (walk : List ℕ) → IsChosen at net o d start walk → IsChosen other net o d start walk
  chosen-same o d start walk c = record {
    walks = c.walks;
    none_less = λ more w. (let n = c.none_less more w in let a = walk-same start walk in let b = walk-same start more in omega (arith, n, a, b));
    first = λ more w e. c.first more w (walk-same start more ∙ e ∙ sym (walk-same start walk));
  }

  told-same : (trip : Trip) (told : Option (List LinkNo)) → WalkOf (Links at) net trip told → WalkOf (Links other) net trip told
  told-same trip None h = h
  told-same trip (Some links) h = chosen-same trip.origin trip.destination trip.departure (link_numbers links) h

  pub started-same : (start : List StartRow) (trips : List Trip) (routes : List (Option (List LinkNo))) → AreStartedBy (Links at) net start trips routes → AreStartedBy (Links other) net start trips routes
  started-same start trips routes are = record { as_many = are.as_many; each = λ v trip route t n. by trip route (are.each v trip route t n) }
    where
      by : (trip : Trip) (route : Option (List LinkNo)) → StartsOn (Links at) net start trip route → StartsOn (Links other) net start trip route
      by trip route (inl started) = inl started
      by trip route (inr (none, chosen)) = inr (none, told-same trip route chosen)

-- ---- from a start table
pub from_start : (net : NetRows) (start : List StartRow) (trips : List Trip) (times : TimeTable) (asks shown : List Ask) (others told_walks old shown_old new : List (Option (List LinkNo))) → times ≡ free_table net 1 1
    → AreTold (TellsStart net start) (λ v. true) trips old → shown_old ≡ old → asks ≡ asks_for_rest shown_old → shown ≡ asks → AreTold (WalkOf (Links (time_at times)) net) (asks_walk shown) trips told_walks → others ≡ told_walks → FillsIn others old new
    → AreStartedRoutes net start trips new
from_start net start trips times asks shown others told_walks old shown_old new table started so asked sa told ot fills =
    started-same (time_at times) (free_time net) (λ l step. ap (λ t. time_at t l step) table ∙ free-stands net 1 1 l step (omega arith) (omega arith)) net start trips new
    (started_are (Links (time_at times)) net start trips shown others old new started (sa ∙ asked ∙ ap (λ o. asks_for_rest o) so)
    (subst (λ w. AreTold (WalkOf (Links (time_at times)) net) (asks_walk shown) trips w) (sym ot) told) fills)

pub started_table : (net : NetRows) (start : List StartRow) (trips : List Trip) (routes : List (Option (List LinkNo))) (bucket horizon : ℕ) → 1 ≤ bucket → 1 ≤ horizon → AreStartedRoutes net start trips routes → AreStartedBy (Links (time_at (free_table net bucket horizon))) net start trips routes
started_table net start trips routes bucket horizon some lasts are =
    started-same (free_time net) (time_at (free_table net bucket horizon)) (λ l step. sym (free-stands net bucket horizon l step some lasts)) net start trips routes are

pub nobody_started : (at : ℕ → ℕ → ℕ) (net : NetRows) (start : List StartRow) (trips : List Trip) (routes : List (Option (List LinkNo))) → start ≡ [] → AreStartedBy (Links at) net start trips routes → AreChosenRoutes (Links at) net trips routes
nobody_started at net start trips routes none are = record { as_many = are.as_many; each = λ v trip route t n. by trip route (are.each v trip route t n) }
  where
    by : (trip : Trip) (route : Option (List LinkNo)) → StartsOn (Links at) net start trip route → WalkOf (Links at) net trip route
    by trip route (inl (walk, is, (r, row, here, fits))) = let lost : slice_get [] r ≡ Some row = ap (λ l. slice_get l r) (sym none) ∙ here in absurd (cc lost)
    by trip route (inr (unstarted, chosen)) = chosen
