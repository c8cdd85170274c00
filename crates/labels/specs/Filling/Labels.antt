-- What is left from each state at each step, row by row: the static tail first, then each step
-- before the row of the next.
use Rattle.std.specs.Prelude.{ℕ, ◌+◌, ◌-◌, ◌*◌, ◌^◌, Bool, cond, List, map, slice_index_or}
use Rattle.fixed_units.specs.declared.turn.TheConstants.{MOST_PENALTY_STEPS}
use Rattle.labels.specs.Filling.Rests.{least_over}
use Rattle.labels.specs.declared.filling.no_walk.TheConstants.{FAR}
use Rattle.labels.specs.declared.states.onward.Onward.{Onward}

-- what stands for no walk
abbrev pub far : ℕ
far = FAR

-- no way on takes so many steps: a penalty, and a link time of 32 bits
abbrev pub most_span : ℕ
most_span = 2 ^ 32 + MOST_PENALTY_STEPS

-- the most that is left where there is a walk
abbrev pub most_left : ℕ
most_left = 2 ^ 60

-- what is left from a state at a step; from the horizon on it is the tail's
unfoldable pub rest_in : ℕ → ℕ → List ℕ → ℕ → ℕ → ℕ
rest_in states horizon labels s e = slice_index_or labels ((horizon - e) * states + s) 0

-- the labels of one slot, where each has a number in every slot
abbrev pub in_slot : {S : Type 0} → (S → ℕ → ℕ) → List S → ℕ → List ℕ
in_slot slot labels j = map (λ x. slot x j) labels

-- what ought to stand there: nothing at the zone, else the least over the ways on
abbrev pub value : (ℕ → ℕ → ℕ) → ℕ → ℕ → ℕ → List ℕ → Bool → List Onward → ℕ → ℕ
value at beyond states horizon labels own ways e =
    cond own 0 (least_over at beyond (rest_in states horizon labels) e ways)
