-- Steps that rise one by one, as a test posts them.
use Rattle.std.proofs.Common.{arith, ◌<◌, ◌+◌, ℕ, List, [], ◌∷◌, ◌++◌}
use Rattle.std.specs.List.{All}
use Rattle.std.proofs.lemmas.List.Elements.{All-append, All-cons}
use Rattle.dta_model.specs.declared.eight.Eight.{Eight}
use Rattle.monitors.specs.Examples.{running_after}
use Rattle.monitors.specs.Posted.{IsLater}

pub IsLater-nothing : (e : Eight) → IsLater e []
IsLater-nothing e k d below = omega arith

-- the state after one step more is later than the one posted now, too
pub IsLater-next : (n : ℕ) (xs : List Eight)
    → IsLater (running_after (n + 1)) xs
    → IsLater (running_after (n + 1 + 1)) (xs ++ running_after (n + 1) ∷ [])
IsLater-next n xs later =
    let below : Eight → Type 0 = λ e. e.steps < n + 1 + 1 in
    let last : All below (running_after (n + 1) ∷ []) =
    All-cons below (running_after (n + 1)) [] (omega arith) (λ k d within. omega arith) in
    All-append below xs (running_after (n + 1) ∷ [])
    (λ k d within. let earlier = later k d within in omega arith)
    last

pub ruleset posts = (IsLater-nothing, IsLater-next)
