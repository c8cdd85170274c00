-- Lists of posted states, and what a pass or a note of a board is to a contract.
use Rattle.std.specs.Prelude.{◌≡◌, ◌<◌, ◌⊎◌, List, [], ◌∷◌, ◌++◌, All}
use Rattle.std.specs.List.{AllPairs}
use Rattle.atomic_table.specs.Seated.{TableId}
use Rattle.dta_model.specs.declared.eight.Eight.{Eight}

-- what a board shows before the first post
abbrev pub zeros : Eight
zeros = record { steps = 0; waiting = 0; running = 0; arrived = 0; first = 0 ∷ 0 ∷ 0 ∷ 0 ∷ [] }

-- the last of a list of posted states, or zeros where it is empty
abbrev pub last_of : List Eight → Eight
last_of [] = zeros
last_of (x ∷ []) = x
last_of (x ∷ y ∷ more) = last_of (y ∷ more)

-- the second list begins with the first
abbrev pub IsPrefix : List Eight → List Eight → Type 0
IsPrefix front list = (rest : List Eight) × (list ≡ front ++ rest)

-- one of two lists begins with the other
abbrev pub OneIsPrefix : List Eight → List Eight → Type 0
OneIsPrefix xs ys = IsPrefix xs ys ⊎ IsPrefix ys xs

-- a state has more steps than each of those posted before
abbrev pub IsLater : Eight → List Eight → Type 0
IsLater eight list = All (λ before. before.steps < eight.steps) list

-- each state has fewer steps than those posted after it
abbrev pub StepsRise : List Eight → Type 0
StepsRise list = AllPairs (λ before after. before.steps < after.steps) list

-- what a pass or a note carries: the name of its board, and the posted states that it knows
pub record Known : Type 0 where
  pub board : TableId
  pub list : List Eight
