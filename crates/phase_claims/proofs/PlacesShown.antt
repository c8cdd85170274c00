-- What a monitor of a floor's board sees.
use Rattle.std.specs.List.{range_with_len}
use Rattle.std.proofs.Common.{◌≡◌, ℕ, zero, suc, ◌+◌, ◌<◌, ◌≤◌, List, [], ◌∷◌, ◌++◌, map, refl, ap, sym, ◌∙◌, arith, ◌⊎◌, inl, inr}
use Rattle.dta_model.proofs.Start.{nothing_at_the_start}
use Rattle.dta_model.specs.State.{eight_after, no_vehicles}
use Rattle.dta_model.specs.declared.eight.Eight.{Eight}
use Rattle.dta_model.specs.declared.plan.Plan.{Plan}
use Rattle.monitors.specs.Posted.{IsPrefix, last_of, zeros}
use Rattle.phase_claims.specs.PlacesHome.{posted_in}

-- the last of a list that is the beginning of the values of some numbers
shown : (f : ℕ → Eight) (list : List Eight) (n a : ℕ) → IsPrefix list (map f (range_with_len a n))
    → (list ≡ []) ⊎ ((t : ℕ) × (t < n) × (last_of list ≡ f (a + t)))
shown f [] n a h = inl refl
shown f (x ∷ more) zero a h =
    let none : [] ≡ x ∷ (more ++ h.0) = h.1 in cc
shown f (x ∷ []) (suc n) a h =
    let all : f a ∷ map f (range_with_len (a + 1) n) ≡ x ∷ h.0 = h.1 in
    let first : f a ≡ x = cc in
    let here : a ≡ a + 0 = omega arith in
    inr (0, omega arith, sym first ∙ ap f here)
shown f (x ∷ y ∷ more) (suc n) a h =
    let all : f a ∷ map f (range_with_len (a + 1) n) ≡ x ∷ ((y ∷ more) ++ h.0) = h.1 in
    let tail : map f (range_with_len (a + 1) n) ≡ (y ∷ more) ++ h.0 = cc in
    later (shown f (y ∷ more) n (a + 1) (h.0, tail))
  where
    later : (y ∷ more ≡ []) ⊎ ((t : ℕ) × (t < n) × (last_of (y ∷ more) ≡ f (a + 1 + t)))
        → (x ∷ y ∷ more ≡ []) ⊎ ((t : ℕ) × (t < suc n) × (last_of (x ∷ y ∷ more) ≡ f (a + t)))
    later (inl e) = cc
    later (inr (t, less, e)) =
        let next : a + 1 + t ≡ a + (t + 1) = omega arith in
        inr (t + 1, omega (arith, less), e ∙ ap f next)

start : (p : Plan) → eight_after p 0 ≡ zeros
unfolding no_vehicles
start p = nothing_at_the_start p

pub states_are_shown : (p : Plan) (steps : ℕ) (list : List Eight) → IsPrefix list (posted_in p steps)
    → (t : ℕ) × (t ≤ steps) × (last_of list ≡ eight_after p t)
states_are_shown p steps list h = at_end (shown (λ t. eight_after p (suc t)) list steps 0 h)
  where
    at_end : (list ≡ []) ⊎ ((t : ℕ) × (t < steps) × (last_of list ≡ eight_after p (suc (0 + t))))
        → (t : ℕ) × (t ≤ steps) × (last_of list ≡ eight_after p t)
    at_end (inl e) = (0, omega arith, ap last_of e ∙ sym (start p))
    at_end (inr (t, less, e)) =
        let next : suc (0 + t) ≡ suc t = omega arith in
        (suc t, omega (arith, less), e ∙ ap (λ s. eight_after p s) next)
