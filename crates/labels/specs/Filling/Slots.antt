-- What is left to a few zones side by side, a slot for each.
use Rattle.std.specs.Prelude.{ℕ, ◌<◌, List, length, slice_index}
use Rattle.labels.specs.Filling.Labels.{in_slot, rest_in}
use Rattle.labels.specs.Filling.Rows.{IsRowTo, AreRows}
use Rattle.labels.specs.Filling.Tails.{widened}
use Rattle.labels.specs.Reading.Serves.{AreLeft}
use Rattle.labels.specs.declared.states.router.Router.{Router}

module _ {S : Type 0} (slot : S → ℕ → ℕ) (at : ℕ → ℕ → ℕ) (beyond : ℕ) (r : Router) (horizon : ℕ)
    (zones : List ℕ) where
  -- the first states of the row of a step are filled, in the slot of each zone
  abbrev pub AreSlotsTo : List S → List S → ℕ → ℕ → ℕ → Type 0
  AreSlotsTo old new back step count = (j : ℕ) → j < length zones
      → IsRowTo at beyond (length r.zones.items) horizon (in_slot slot old j) (in_slot slot new j)
      back step r (slice_index zones j) count

  -- all rows from a step on are filled, in the slot of each zone
  abbrev pub AreSlotRows : List S → List S → ℕ → Type 0
  AreSlotRows old new first = (j : ℕ) → j < length zones
      → AreRows at beyond (length r.zones.items) horizon (in_slot slot old j) (in_slot slot new j)
      r (slice_index zones j) first

  -- what is left to each zone, in its slot
  abbrev pub AreSlotsLeft : List S → Type 0
  AreSlotsLeft labels = (j : ℕ) → j < length zones
      → AreLeft at (λ s e. widened beyond (rest_in (length r.zones.items) horizon
      (in_slot slot labels j) s e)) r (slice_index zones j)
