-- Arrivals over costs by which who enters a link later never leaves it earlier.
use Rattle.std.proofs.Common.{ℕ, ◌+◌, ◌≤◌, List, [], ◌∷◌, ◌++◌, refl, arith}
use Rattle.net_core.specs.Network.{turn}
use Rattle.net_core.specs.declared.rows.NetRows.{NetRows}
use Rattle.dta_model.specs.TimedWalks.{arrival_after, penalty_steps}
use Rattle.trip_costs.specs.Laws.{LaterNeverArrivesEarlier, LinksAreTheTable}
use Rattle.trip_costs.specs.TripCosts.{TravelCosts, arrival_by, by_trips}
use Rattle.trip_costs.proofs.Rising.{entries_never_fall, exits_ordered}

module _ (at : ℕ → ℕ → ℕ) (net : NetRows) (ordered : (l r s : ℕ) → r ≤ s → r + at l r ≤ s + at l s) where
  pub later_after : (rest : List ℕ) (l r s : ℕ) → r ≤ s → arrival_after at net r l rest ≤ arrival_after at net s l rest
  unfolding arrival_after
  later_after [] l r s h = ordered l r s h
  later_after (b ∷ rest) l r s h =
      let a = ordered l r s h in
      later_after rest b (r + at l r + penalty_steps (turn net l b)) (s + at l s + penalty_steps (turn net l b)) (omega (arith, a))

  -- over more links a link is entered later
  pub after_more : (B C : List ℕ) (step k l : ℕ) → arrival_after at net step l C ≤ arrival_after at net step k (B ++ l ∷ C)
  unfolding arrival_after
  after_more [] C step k l = later_after C l step (step + at k step + penalty_steps (turn net k l)) (omega arith)
  after_more (b ∷ B) C step k l =
      let next : ℕ = step + at k step + penalty_steps (turn net k b) in
      let x = later_after C l step next (omega arith) in
      let y = after_more B C next b l in
      omega (arith, x, y)

  -- without a round nobody arrives later
  pub without_round : (A B C : List ℕ) (step k l : ℕ) → arrival_after at net step k (A ++ l ∷ C) ≤ arrival_after at net step k (A ++ l ∷ (B ++ l ∷ C))
  unfolding arrival_after
  without_round [] B C step k l = after_more B C (step + at k step + penalty_steps (turn net k l)) l l
  without_round (a ∷ A) B C step k l = without_round A B C (step + at k step + penalty_steps (turn net k a)) a l

pub straight_is_earlier : (costs : TravelCosts) (net : NetRows) → ((l r s : ℕ) → r ≤ s → r + costs.at l r ≤ s + costs.at l s) → (A B C : List ℕ) (start l : ℕ) → arrival_by costs net start (A ++ l ∷ C) ≤ arrival_by costs net start (A ++ l ∷ (B ++ l ∷ C))
straight_is_earlier costs net ordered [] B C start l = after_more costs.at net ordered B C (costs.enter l start) l l
straight_is_earlier costs net ordered (a ∷ A) B C start l = without_round costs.at net ordered A B C (costs.enter a start) a l

pub later_never_arrives_earlier : LaterNeverArrivesEarlier
later_never_arrives_earlier t w net [] r s h = h
later_never_arrives_earlier t w net (l ∷ rest) r s h =
    later_after (by_trips t w).at net (exits_ordered t) rest l _ _ (entries_never_fall w l r s h)

pub links_are_the_table : LinksAreTheTable
links_are_the_table at net start [] = refl
links_are_the_table at net start (l ∷ rest) = refl
