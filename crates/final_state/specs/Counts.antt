-- Vehicles counted by their whereabouts.
use Rattle.std.specs.Prelude.{ℕ, ◌+◌, ◌<◌, Bool, true, false, nat_eq, List, [], ◌∷◌, All, count_by}
use Rattle.std.specs.Prelude.{zero, suc}
use Rattle.net_core.specs.Network.{numbers_below}
use Rattle.dta_model.specs.declared.eight.Eight.{Eight}
use Rattle.dta_model.specs.declared.trip.TheConstants.{MOST_TRIPS}
use Rattle.final_state.specs.declared.whereabouts.Whereabouts.{Whereabouts}
use Rattle.final_state.specs.declared.whereabouts.Whereabouts.TheVariants as whereabouts

-- whether a vehicle waits, is on a link, or has arrived
abbrev pub is_waiting : Whereabouts → Bool
is_waiting whereabouts.Waiting = true
is_waiting other = false

abbrev pub is_running : Whereabouts → Bool
is_running (whereabouts.OnLink l) = true
is_running other = false

abbrev pub has_come : Whereabouts → Bool
has_come whereabouts.Arrived = true
has_come other = false

-- whether a vehicle is on link l
abbrev pub is_on : ℕ → Whereabouts → Bool
is_on l (whereabouts.OnLink b) = nat_eq b.0 l
is_on l other = false

-- one more at a place of a list, and nothing where the list ends before it
abbrev pub one_more : List ℕ → ℕ → List ℕ
one_more [] l = []
one_more (n ∷ counts) zero = (n + 1) ∷ counts
one_more (n ∷ counts) (suc l) = n ∷ one_more counts l

-- a state with one more vehicle, which is there
abbrev pub counted : Whereabouts → Eight → Eight
counted whereabouts.Unrouted e = e
counted whereabouts.Waiting e = record e { waiting = e.waiting + 1 }
counted (whereabouts.OnLink l) e =
    record e { running = e.running + 1; first = one_more e.first l.0 }
counted whereabouts.Arrived e = record e { arrived = e.arrived + 1 }

-- a state that isn't of all vehicles yet
pub record HasRoom (e : Eight) : Type 0 where
  pub waiting : e.waiting < MOST_TRIPS
  pub running : e.running < MOST_TRIPS
  pub arrived : e.arrived < MOST_TRIPS
  pub first : All (λ n. n < MOST_TRIPS) e.first

-- the state of the first n vehicles after so many steps, by their whereabouts
unfoldable pub state_of : ℕ → (ℕ → Whereabouts) → ℕ → Eight
state_of steps at n = record {
  steps = steps;
  waiting = count_by (λ v. is_waiting (at v)) (numbers_below n);
  running = count_by (λ v. is_running (at v)) (numbers_below n);
  arrived = count_by (λ v. has_come (at v)) (numbers_below n);
  first = count_by (λ v. is_on 0 (at v)) (numbers_below n)
      ∷ count_by (λ v. is_on 1 (at v)) (numbers_below n)
      ∷ count_by (λ v. is_on 2 (at v)) (numbers_below n)
      ∷ count_by (λ v. is_on 3 (at v)) (numbers_below n) ∷ [];
}
