-- The search finds the chosen walk.
use Rattle.std.proofs.Common.{◌≡◌, ◌⊎◌, inl, inr, ℕ, ◌<◌, ◌≤◌, true, List, length, ap, ◌∙◌, subst, arith, Option, Some, None}
use Rattle.std.specs.Cmp.Lexicographic.{slice_cmp}
use Rattle.std.specs.Ordering.{is_le, nat_cmp}
use Rattle.std.proofs.lemmas.Bool.{cases_lt}
use Rattle.net_core.specs.Network.{IsNet}
use Rattle.net_core.specs.declared.rows.NetRows.{NetRows}
use Rattle.dta_model.specs.TimedWalks.{walk_time}
use Rattle.dta_model.specs.Walks.{IsWalk}
use Rattle.trip_costs.specs.Timings.{Links, Timing, Trips}
use Rattle.trip_costs.specs.TripCosts.{TravelCosts, time_by}
use Rattle.reference.specs.Search.{comes_before, comes_first, most_links, search_within, walks_between}
use Rattle.reference.specs.Searched.{AreCostsWithin, AreTimesWithin, Finds, NeverFalls, WalksAreFound}
use Rattle.reference.proofs.Among.{Among}
use Rattle.reference.proofs.Bests.{IsBest, before_first, before_time, best_is, fewer_first, numbers_first}
use Rattle.reference.proofs.Erased.{as_long, short_walk}
use Rattle.reference.proofs.Runs.{found, walks_found}
use Rattle.reference.proofs.Straight.{Straight, straight_of}

-- ---- by link times
module _ (most : ℕ) (at : ℕ → ℕ → ℕ) (net : NetRows) (is : IsNet net) (times : AreTimesWithin most at net) (origin destination start : ℕ) where
  abbrev enough : ℕ
  enough = most_links most (Links at) net

  -- a walk that takes no longer than one without repetitions is among those that are searched
  among_all : (w : List ℕ) → IsWalk net origin destination w → walk_time at net start w ≤ enough → Among w (walks_between net origin destination enough)
  among_all w walk h = let n = as_long most at net is times destination origin start w walk in found net destination origin enough w walk (omega (arith, n, h))

  by_links : (o : Option (List ℕ)) → IsBest (Links at) net start (walks_between net origin destination enough) o → Finds (Links at) net origin destination start o
  by_links None none = λ w walk. (let s = short_walk most at net is times destination origin start w walk in none (s.0) (among_all (s.0) (s.1) (s.2)))
  by_links (Some best) one = record {
    walks = walks_found net destination origin enough best (one.0);
    none_less = λ w walk. no_less w walk (cases_lt enough (walk_time at net start w));
    first = λ w walk same. before_first (Links at) net start best w same (one.1 w (among_all w walk (let s = short w walk in omega (arith, s, same))));
  }
    where
      -- no walk is better, and the best takes no longer than one without repetitions
      short : (w : List ℕ) → IsWalk net origin destination w → walk_time at net start best ≤ enough
      short w walk =
          let s = short_walk most at net is times destination origin start w walk in
          let b = before_time (Links at) net start best (s.0) (one.1 (s.0) (among_all (s.0) (s.1) (s.2))) in
          omega (arith, b, s.2)

      no_less : (w : List ℕ) → IsWalk net origin destination w → (enough < walk_time at net start w) ⊎ (walk_time at net start w ≤ enough)
          → walk_time at net start best ≤ walk_time at net start w
      no_less w walk (inl h) = let s = short w walk in omega (arith, h, s)
      no_less w walk (inr h) = before_time (Links at) net start best w (one.1 w (among_all w walk h))

-- ---- by trips
module _ (costs : TravelCosts) (net : NetRows) (falls : NeverFalls costs.at) (origin destination start : ℕ) where
  abbrev all_walks : List (List ℕ)
  all_walks = walks_between net origin destination (length net.links)

  abbrev straight : (w : List ℕ) → IsWalk net origin destination w → Straight costs net falls origin destination start w
  straight w walk = straight_of costs net falls origin destination start w walk

  among_few : (w : List ℕ) → IsWalk net origin destination w → length w ≤ length net.links → Among w all_walks
  among_few w walk few = found net destination origin (length net.links) w walk few

  by_trips : (o : Option (List ℕ)) → IsBest (Trips costs) net start all_walks o → Finds (Trips costs) net origin destination start o
  by_trips None none = λ w walk. (let s = straight w walk in none s.straight (among_few s.straight s.walks s.few))
  by_trips (Some best) one = record {
    walks = walks_found net destination origin (length net.links) best (one.0);
    none_less = λ w walk. (let s = straight w walk in let a = no_later w walk in let b = s.no_later in omega (arith, a, b));
    fewest = λ w walk same. (let s = straight w walk in let a = no_more w walk same in let b = as_few w s.straight s.fewer in omega (arith, a, b));
    first = λ w walk same long. first w walk same long ((straight w walk).fewer);
  }
    where
      -- the best comes before each walk that repeats no link
      before : (w : List ℕ) (walk : IsWalk net origin destination w) → comes_before (Trips costs) net start best (straight w walk).straight ≡ true
      before w walk = let s = straight w walk in one.1 s.straight (among_few s.straight s.walks s.few)

      no_later : (w : List ℕ) (walk : IsWalk net origin destination w) → time_by costs net start best ≤ time_by costs net start (straight w walk).straight
      no_later w walk = before_time (Trips costs) net start best (straight w walk).straight (before w walk)

      -- of those that take as long it has the fewest links
      same_time : (w : List ℕ) (walk : IsWalk net origin destination w) → time_by costs net start w ≡ time_by costs net start best
          → time_by costs net start (straight w walk).straight ≡ time_by costs net start best
      same_time w walk same = let a = no_later w walk in let b = (straight w walk).no_later in omega (arith, a, b, same)

      comes : (w : List ℕ) (walk : IsWalk net origin destination w) → time_by costs net start w ≡ time_by costs net start best
          → comes_first (Trips costs) best (straight w walk).straight ≡ true
      comes w walk same = before_first (Trips costs) net start best (straight w walk).straight (same_time w walk same) (before w walk)

      no_more : (w : List ℕ) (walk : IsWalk net origin destination w) → time_by costs net start w ≡ time_by costs net start best
          → length best ≤ length (straight w walk).straight
      no_more w walk same =
          fewer_first (length best) (length (straight w walk).straight) best (straight w walk).straight (comes w walk same)

      as_few : (w v : List ℕ) → (v ≡ w) ⊎ (length v < length w) → length v ≤ length w
      as_few w v (inl same) = let e : length v ≡ length w = ap length same in omega (arith, e)
      as_few w v (inr h) = omega (arith, h)

      -- and of as many it is the first: a walk that has no more repeats no link
      first : (w : List ℕ) (walk : IsWalk net origin destination w) → time_by costs net start w ≡ time_by costs net start best → length w ≡ length best
          → ((straight w walk).straight ≡ w) ⊎ (length (straight w walk).straight < length w) → is_le (slice_cmp nat_cmp best w) ≡ true
      first w walk same long (inl is) =
          let many : length (straight w walk).straight ≡ length best = ap length is ∙ long in
          subst (λ v. is_le (slice_cmp nat_cmp best v) ≡ true) is
          (numbers_first (length best) (length (straight w walk).straight) best (straight w walk).straight many (comes w walk same))
      first w walk same long (inr h) = absurd (let a = no_more w walk same in omega (arith, a, h, long))

-- ---- by either costs
either : (most : ℕ) (costs : Timing) (net : NetRows) → IsNet net → AreCostsWithin most costs net → (origin destination start : ℕ) (o : Option (List ℕ))
    → IsBest costs net start (walks_between net origin destination (most_links most costs net)) o → Finds costs net origin destination start o
either most (Links at) net is times origin destination start o best = by_links most at net is times origin destination start o best
either most (Trips costs) net is falls origin destination start o best = by_trips costs net falls origin destination start o best

pub walks_are_found : WalksAreFound
walks_are_found most costs net is within origin destination start =
    either most costs net is within origin destination start (search_within most costs net origin destination start)
    (best_is costs net start (walks_between net origin destination (most_links most costs net)))
