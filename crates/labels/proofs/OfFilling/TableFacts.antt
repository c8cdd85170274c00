-- Rows of what is left, one after another.
use Rattle.std.proofs.Common.{◌≡◌, ◌⊎◌, inl, inr, ℕ, ◌+◌, ◌-◌, ◌*◌, ◌<◌, ◌≤◌, Bool, cond, List, length, refl, arith, get_or, ap, sym, ◌∙◌, mul-le-mul_right}
use Rattle.std.specs.Prelude.{All}
use Rattle.std.proofs.lemmas.Bool.{cases_lt}
use Rattle.labels.specs.Filling.Labels.{rest_in, value}
use Rattle.labels.specs.Filling.Rests.{span, least_over}
use Rattle.labels.specs.Filling.Rows.{IsRowTo, AreRows}
use Rattle.labels.proofs.OfFilling.RowFacts.{least_same}
use Rattle.labels.proofs.Basics.{All_range}
use Rattle.labels.specs.declared.states.router.Router.{Router}
use Rattle.labels.specs.States.RouterWays.{is_own, onwards}

pub AreRows_none : (at : ℕ → ℕ → ℕ) (beyond states horizon : ℕ) (labels : List ℕ) (r : Router) (zone : ℕ) (first : ℕ) → horizon ≤ first → All (λ x. x ≤ beyond) labels → AreRows at beyond states horizon labels labels r zone first
AreRows_none at beyond states horizon labels r zone first none low = record { tail = λ k h. refl; each = λ s e h l m. absurd (omega arith); low = low }

-- one more row, for the step before, over labels that were grown by room for it
pub AreRows_more : (at : ℕ → ℕ → ℕ) (beyond states horizon : ℕ) (old now grown new : List ℕ) (r : Router) (zone : ℕ) (step back : ℕ)
    → back + step ≡ horizon → 0 < back → length r.zones.items ≡ states
    → ((s : ℕ) → s < length r.zones.items → (get_or r.starts.items s 0 ≤ get_or r.starts.items (s + 1) 0) × (get_or r.starts.items (s + 1) 0 ≤ length r.ways.items))
    → All (λ w. w.to < states) r.ways.items → ((e : ℕ) → All (λ w. 0 < span at e w) r.ways.items)
    → AreRows at beyond states horizon old now r zone (step + 1)
    → ((k : ℕ) → k < back * states → get_or grown k 0 ≡ get_or now k 0)
    → IsRowTo at beyond states horizon grown new back step r zone (length r.zones.items)
    → AreRows at beyond states horizon old new r zone step
AreRows_more at beyond states horizon old now grown new r zone step back sum some many ordered to goes rows stay row = record {
  tail = λ k h. before k (in_tail k h) ∙ rows.tail k h;
  each = λ s e h l m. at_step s e h l m (cases_lt step e);
  low = row.low;
}
  where
    before : (k : ℕ) → k < back * states → get_or new k 0 ≡ get_or now k 0
    before k h = row.before k h ∙ stay k h

    in_tail : (k : ℕ) → k < states → k < back * states
    in_tail k h = let m : 1 * states ≤ back * states = mul-le-mul_right states (omega arith) in omega arith

    inside : (s : ℕ) → s < states → All (λ w. w.to < states) (onwards r s)
    inside s h = let o = ordered s (omega arith) in All_range (λ w. w.to < states) r.ways.items (get_or r.starts.items s 0) (get_or r.starts.items (s + 1) 0) (o.0) (o.1) to

    going : (s e : ℕ) → s < states → All (λ w. 0 < span at e w) (onwards r s)
    going s e h = let o = ordered s (omega arith) in All_range (λ w. 0 < span at e w) r.ways.items (get_or r.starts.items s 0) (get_or r.starts.items (s + 1) 0) (o.0) (o.1) (goes e)

    at_step : (s e : ℕ) → s < states → step ≤ e → e < horizon → (step < e) ⊎ (e ≤ step) → get_or new ((horizon - e) * states + s) 0 ≡ value at beyond states horizon new (is_own r zone s) (onwards r s) e
    at_step s e h l m (inl later) =
        let fewer : horizon - e + 1 ≤ back = omega arith in
        let below : (horizon - e + 1) * states ≤ back * states = mul-le-mul_right states fewer in
        let own : Bool = is_own r zone s in
        let same : least_over at beyond (rest_in states horizon new) e (onwards r s) ≡ least_over at beyond (rest_in states horizon now) e (onwards r s)
        = least_same at beyond states horizon now new (horizon - e) e (omega arith) (omega arith) (λ k q. before k (omega arith)) (onwards r s) (inside s h) (going s e h) in
        before ((horizon - e) * states + s) (omega arith) ∙ rows.each s e h (omega arith) m ∙ ap (λ x. cond own 0 x) (sym same)
    at_step s e h l m (inr here) =
        let now_step : e ≡ step = omega arith in
        let at_back : horizon - e ≡ back = omega arith in
        let own : Bool = is_own r zone s in
        let same : least_over at beyond (rest_in states horizon new) step (onwards r s) ≡ least_over at beyond (rest_in states horizon grown) step (onwards r s)
        = least_same at beyond states horizon grown new back step sum some row.before (onwards r s) (inside s h) (going s step h) in
        rw (at_back, now_step) (row.each s (omega arith) ∙ ap (λ x. cond own 0 x) (sym same))

-- a place in a row stands in the table
pub place_inside : (n wide back k : ℕ) → back ≤ n → k < wide → back * wide + k < (n + 1) * wide
place_inside n wide back k h inside =
    let rows : (back + 1) * wide ≤ (n + 1) * wide = mul-le-mul_right wide (omega arith) in
    omega arith
