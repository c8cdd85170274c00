-- What is left over ways on, read at its place.
use Rattle.std.proofs.Common.{◌≡◌, ℕ, ◌+◌, ◌-◌, ◌*◌, ◌<◌, List, ◌∷◌, length, refl, arith, min, drop, get_or, subst}
use Rattle.std.proofs.lemmas.List.{drop_more}
use Rattle.labels.specs.Filling.Labels.{rest_in}
use Rattle.labels.specs.Filling.Rests.{span, over, least_over}
use Rattle.labels.specs.declared.states.onward.Onward.{Onward}

-- the time over a way on stands at its place
pub over_place : (at : ℕ → ℕ → ℕ) (beyond states horizon : ℕ) (labels : List ℕ) (e back p sp : ℕ) (w : Onward) → back + e ≡ horizon → sp ≡ span at e w → p ≡ (back - sp) * states + w.to → get_or labels p 0 + sp ≡ over at beyond (rest_in states horizon labels) e w
unfolding over rest_in
over_place at beyond states horizon labels e back p sp w sum hs hp =
    let back_of : horizon - (e + span at e w) ≡ back - sp = omega (arith, hs) in
    let place : p ≡ (horizon - (e + span at e w)) * states + w.to = rw back_of (omega (arith, hp)) in
    rw (place, hs) refl

-- one more way on
pub least_step : (at : ℕ → ℕ → ℕ) (beyond : ℕ) (rest : ℕ → ℕ → ℕ) (e : ℕ) (ws : List Onward) (i : ℕ) (d : Onward) (m a b x : ℕ) → i < length ws → x ≡ over at beyond rest e (get_or ws i d) → b ≡ min a x
    → min a (least_over at beyond rest e (drop i ws)) ≡ m → min b (least_over at beyond rest e (drop (i + 1) ws)) ≡ m
unfolding least_over
least_step at beyond rest e ws i d m a b x h hx hb was =
    let more : drop i ws ≡ get_or ws i d ∷ drop (i + 1) ws = drop_more ws i d h in
    let now : min a (min (over at beyond rest e (get_or ws i d)) (least_over at beyond rest e (drop (i + 1) ws))) ≡ m = subst (λ r. min a (least_over at beyond rest e r) ≡ m) more was in
    omega (arith, hx, hb, now)
