-- Rows of what is left to a zone.
use Rattle.std.specs.Prelude.{◌≡◌, ℕ, ◌+◌, ◌-◌, ◌*◌, ◌<◌, ◌≤◌, List, length, slice_index_or, All}
use Rattle.labels.specs.Filling.Labels.{value}
use Rattle.labels.specs.States.RouterWays.{is_own, onwards}
use Rattle.labels.specs.declared.states.router.Router.{Router}

-- the first states of a row are what they ought to be, and the rows before stay
pub record IsRowTo (at : ℕ → ℕ → ℕ) (beyond states horizon : ℕ) (old new : List ℕ) (back step : ℕ)
    (r : Router) (zone : ℕ) (count : ℕ) : Type 0 where
  pub as_many : length new ≡ length old
  pub before : (k : ℕ) → k < back * states → slice_index_or new k 0 ≡ slice_index_or old k 0
  pub each : (s : ℕ) → s < count → slice_index_or new (back * states + s) 0
      ≡ value at beyond states horizon old (is_own r zone s) (onwards r s) step
  pub low : All (λ x. x ≤ beyond) new

-- from a step on to the horizon each number is what it ought to be, and the tail stands
pub record AreRows (at : ℕ → ℕ → ℕ) (beyond states horizon : ℕ) (old new : List ℕ) (r : Router)
    (zone : ℕ) (first : ℕ) : Type 0 where
  pub tail : (k : ℕ) → k < states → slice_index_or new k 0 ≡ slice_index_or old k 0
  pub each : (s e : ℕ) → s < states → first ≤ e → e < horizon
      → slice_index_or new ((horizon - e) * states + s) 0
      ≡ value at beyond states horizon new (is_own r zone s) (onwards r s) e
  pub low : All (λ x. x ≤ beyond) new
