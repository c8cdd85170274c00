-- The vehicles on a link, counted vehicle by vehicle.
use Rattle.std.specs.Prelude.{All, count_by, filter, find, sum_by, ◌≢◌}
use Rattle.std.proofs.Common.{◌≡◌, ℕ, ◌+◌, ◌<◌, true, false, cond, ◌&&◌, List, [], ◌∷◌, refl, sym, ◌∙◌, subst, arith, ◌⊎◌, inl, inr}
use Rattle.std.proofs.lemmas.Bool.{and_parts}
use Rattle.std.proofs.lemmas.Bool.Decides.{eqb_tells}
use Rattle.std.proofs.lemmas.List.{length-map}
use Rattle.std.proofs.lemmas.List.Elements.{All-head, All-tail, All-weaker}
use Rattle.std.proofs.lemmas.List.Sums.{length-filter, sum_by-cons}
use Rattle.std.proofs.Math.Dec.{eqb}
use Rattle.net_core.specs.Network.{numbers_below}
use Rattle.dta_model.specs.declared.plan.Plan.{Plan}
use Rattle.dta_model.specs.Loading.{trace_after}
use Rattle.dta_model.specs.Plans.{vehicle_count, vehicles_of}
use Rattle.dta_model.specs.State.{count_on}
use Rattle.dta_model.specs.Trace.{Move, is_of, last_move, last_moves, leads_there, leads_to, queue_of}
use Rattle.dta_model.proofs.Fuel.{Lawful, trace-lawful}
use Rattle.dta_model.proofs.Queues.{absent, distinct, last_moves-distinct, vehicles}
use Rattle.dta_model.proofs.Standing.{find_absent}
use Rattle.dta_model.proofs.Totals.{all_last, sum_alike, sum_both, sum_zero, vehicle_count_one}

-- a move is that of its vehicle, and no other move here is
split_there : (l : ℕ) (m : Move) (L : List Move) (v : ℕ) → absent m.vehicle (vehicles L) ≡ true
    → cond (leads_there l (find (is_of v) (m ∷ L))) 1 0 ≡ cond (eqb m.vehicle v && leads_to l m) 1 0 + cond (leads_there l (find (is_of v) L)) 1 0
split_there l m L v a = split_step (eqb_tells m.vehicle v)
  where
    plain : (n : ℕ) → n ≡ n + 0
    plain n = omega arith

    zero_plus : (n : ℕ) → n ≡ 0 + n
    zero_plus n = omega arith

    split_step : ((eqb m.vehicle v ≡ true) × (m.vehicle ≡ v)) ⊎ ((eqb m.vehicle v ≡ false) × (m.vehicle ≢ v))
        → cond (leads_there l (find (is_of v) (m ∷ L))) 1 0 ≡ cond (eqb m.vehicle v && leads_to l m) 1 0 + cond (leads_there l (find (is_of v) L)) 1 0
    split_step (inl (s, same)) = rw (s, find_absent v L (subst (λ w. absent w (vehicles L) ≡ true) same a)) (plain (cond (leads_to l m) 1 0))
    split_step (inr (s, other)) = rw s (zero_plus (cond (leads_there l (find (is_of v) L)) 1 0))

-- moves of distinct vehicles that lead to a link, counted by their vehicles
moves_there : (l n : ℕ) (L : List Move) → distinct (vehicles L) ≡ true → All (λ m. m.vehicle < n) L
    → sum_by (λ v. cond (leads_there l (find (is_of v) L)) 1 0) (numbers_below n) ≡ count_by (leads_to l) L
moves_there l n [] d all = sum_zero n 0
moves_there l n (m ∷ L) d all =
    let parts = and_parts (absent m.vehicle (vehicles L)) (distinct (vehicles L)) d in
    let a = sum_by-cons (λ x. cond (leads_to l x) 1 0) m L in
    let b = sum_alike (λ v. cond (leads_there l (find (is_of v) (m ∷ L))) 1 0) (λ v. cond (eqb m.vehicle v && leads_to l m) 1 0 + cond (leads_there l (find (is_of v) L)) 1 0) (λ v. split_there l m L v parts.0) (numbers_below n) in
    let c = sum_both (λ v. cond (eqb m.vehicle v && leads_to l m) 1 0) (λ v. cond (leads_there l (find (is_of v) L)) 1 0) (numbers_below n) in
    let e = vehicle_count_one m.vehicle n (leads_to l m) (All-head (λ x. x.vehicle < n) m L all) in
    let rest = moves_there l n L parts.1 (All-tail (λ x. x.vehicle < n) m L all) in
    omega (arith, a, b, c, e, rest)

-- the vehicles on a link are those whose last moves lead there
pub count_on_is : (p : Plan) (t l : ℕ) → count_on (trace_after p t) l ≡ count_by (λ v. leads_there l (last_move v (trace_after p t))) (vehicles_of p)
unfolding count_on queue_of last_move
count_on_is p t l =
    let T = trace_after p t in
    length-map (filter (leads_to l) (last_moves T)) (λ m. m.vehicle)
    ∙ length-filter (leads_to l) (last_moves T)
    ∙ sym (moves_there l (vehicle_count p) (last_moves T) (last_moves-distinct T) (all_last (λ m. m.vehicle < vehicle_count p) T (All-weaker (Lawful p t) (λ m. m.vehicle < vehicle_count p) (λ m a. a.below) T (trace-lawful p t))))
