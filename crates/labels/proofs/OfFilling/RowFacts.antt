-- Rows of what is left.
use Rattle.std.proofs.Common.{◌≡◌, ◌⊎◌, inl, inr, ℕ, suc, ◌+◌, ◌-◌, ◌*◌, ◌<◌, ◌≤◌, cond, List, [], ◌∷◌, length, refl, arith, get_or, ap, ◌∙◌, subst, mul-le-mul_right}
use Rattle.std.specs.Prelude.{nat_eq, slice_set, All}
use Rattle.std.proofs.lemmas.Grind.{get_or-set_at}
use Rattle.std.proofs.lemmas.List.{get_or-set_other, length-set}
use Rattle.std.proofs.lemmas.Bool.{cases_lt}
use Rattle.labels.specs.Filling.Labels.{rest_in, value}
use Rattle.labels.specs.Filling.Rests.{span, over, least_over}
use Rattle.labels.specs.Filling.Rows.{IsRowTo}
use Rattle.labels.specs.States.Spans.{AreShortAt}
use Rattle.labels.specs.declared.states.onward.Onward.{Onward}
use Rattle.labels.specs.declared.states.router.Router.{Router}
use Rattle.labels.specs.States.RouterWays.{is_own, onwards}

pub IsRowTo_none : (at : ℕ → ℕ → ℕ) (beyond states horizon : ℕ) (labels : List ℕ) (back step : ℕ) (r : Router) (zone : ℕ) → All (λ x. x ≤ beyond) labels → IsRowTo at beyond states horizon labels labels back step r zone 0
IsRowTo_none at beyond states horizon labels back step r zone low = record { as_many = refl; before = λ k h. refl; each = λ s h. absurd (omega arith); low = low }

-- what is left before the horizon reads only the rows before
module _ (at : ℕ → ℕ → ℕ) (beyond states horizon : ℕ) (old new : List ℕ) (back e : ℕ) (sum : back + e ≡ horizon) (some : 0 < back) (same : (k : ℕ) → k < back * states → get_or new k 0 ≡ get_or old k 0) where
  pub rest_same : (s sp : ℕ) → s < states → 0 < sp → rest_in states horizon new s (e + sp) ≡ rest_in states horizon old s (e + sp)
  unfolding rest_in
  rest_same s sp inside goes =
      let fewer : horizon - (e + sp) + 1 ≤ back = omega arith in
      let rows : (horizon - (e + sp) + 1) * states ≤ back * states = mul-le-mul_right states fewer in
      same ((horizon - (e + sp)) * states + s) (omega arith)

  pub least_same : (ws : List Onward) → All (λ w. w.to < states) ws → All (λ w. 0 < span at e w) ws → least_over at beyond (rest_in states horizon new) e ws ≡ least_over at beyond (rest_in states horizon old) e ws
  unfolding least_over over
  least_same [] inside goes = refl
  least_same (w ∷ ws) inside goes =
      let here : rest_in states horizon new w.to (e + span at e w) ≡ rest_in states horizon old w.to (e + span at e w) = rest_same w.to (span at e w) (inside 0 w (omega arith)) (goes 0 w (omega arith)) in
      let rest = least_same ws (λ k d h. inside (suc k) d (omega arith)) (λ k d h. goes (suc k) d (omega arith)) in
      rw (here, rest) refl

-- one more state
pub IsRowTo_more : (at : ℕ → ℕ → ℕ) (beyond states horizon : ℕ) (old now new : List ℕ) (back step : ℕ) (r : Router) (zone : ℕ) (count : ℕ)
    → back + step ≡ horizon → 0 < back → count < states → back * states + states ≤ length old
    → All (λ w. w.to < states) (onwards r count) → All (λ w. 0 < span at step w) (onwards r count)
    → All (λ x. x ≤ beyond) new
    → new ≡ slice_set now (back * states + count) (value at beyond states horizon now (is_own r zone count) (onwards r count) step)
    → IsRowTo at beyond states horizon old now back step r zone count → IsRowTo at beyond states horizon old new back step r zone (count + 1)
IsRowTo_more at beyond states horizon old now new back step r zone count sum some inside rows to goes low written row = record {
  as_many = ap (λ xs. length xs) written ∙ length-set now (back * states + count) v ∙ row.as_many;
  before = λ k h. ap (λ xs. get_or xs k 0) written ∙ get_or-set_other now (back * states + count) k v 0 (λ e. absurd (omega arith)) ∙ row.before k h;
  each = λ s h. at_state s h (cases_lt s count);
  low = low;
}
  where
    v : ℕ
    v = value at beyond states horizon now (is_own r zone count) (onwards r count) step

    at_state : (s : ℕ) → s < count + 1 → (s < count) ⊎ (count ≤ s) → get_or new (back * states + s) 0 ≡ value at beyond states horizon old (is_own r zone s) (onwards r s) step
    at_state s h (inl less) = ap (λ xs. get_or xs (back * states + s) 0) written ∙ get_or-set_other now (back * states + count) (back * states + s) v 0 (λ e. absurd (omega arith)) ∙ row.each s less
    at_state s h (inr more) =
        let here : s ≡ count = omega arith in
        let stands : get_or new (back * states + count) 0 ≡ v = ap (λ xs. get_or xs (back * states + count) 0) written ∙ get_or-set_at now (back * states + count) (back * states + count) v 0 refl (omega (arith, row.as_many)) in
        let same : least_over at beyond (rest_in states horizon now) step (onwards r count) ≡ least_over at beyond (rest_in states horizon old) step (onwards r count) = least_same at beyond states horizon old now back step sum some row.before (onwards r count) to goes in
        rw here (stands ∙ ap (λ x. cond (is_own r zone count) 0 x) same)

-- one more state, by its zone and its ways on
pub IsRowTo_next : (at : ℕ → ℕ → ℕ) (beyond states horizon : ℕ) (old now new : List ℕ) (back step : ℕ) (r : Router) (zone count own : ℕ) (on : List Onward)
    → own ≡ get_or r.zones.items count 0 → on ≡ onwards r count
    → back + step ≡ horizon → 0 < back → count < states → back * states + states ≤ length old
    → All (λ w. w.to < states) (onwards r count) → All (λ w. 0 < span at step w) (onwards r count)
    → All (λ x. x ≤ beyond) new
    → new ≡ slice_set now (back * states + count) (value at beyond states horizon now (nat_eq own zone) on step)
    → IsRowTo at beyond states horizon old now back step r zone count → IsRowTo at beyond states horizon old new back step r zone (count + 1)
IsRowTo_next at beyond states horizon old now new back step r zone count own on zoned are sum some inside rows to goes low written row =
    let with_zone : new ≡ slice_set now (back * states + count) (value at beyond states horizon now (is_own r zone count) on step) = subst (λ z. new ≡ slice_set now (back * states + count) (value at beyond states horizon now (nat_eq z zone) on step)) zoned written in
    let with_ways : new ≡ slice_set now (back * states + count) (value at beyond states horizon now (is_own r zone count) (onwards r count) step) = subst (λ ws. new ≡ slice_set now (back * states + count) (value at beyond states horizon now (is_own r zone count) ws step)) are with_zone in
    IsRowTo_more at beyond states horizon old now new back step r zone count sum some inside rows to goes low with_ways row

-- short ways on take time
pub short_some : (at : ℕ → ℕ → ℕ) (beyond e : ℕ) (ways : List Onward) → AreShortAt at beyond e ways → All (λ w. 0 < span at e w) ways
short_some at beyond e ways short k d h = (short k d h).0
