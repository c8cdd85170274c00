-- Exits and out-links that open and close.
use Rattle.std.specs.Prelude.{count_by, option_map}
use Rattle.std.proofs.Common.{◌≡◌, ℕ, ◌-◌, ◌≤◌, Bool, true, false, cond, ◌&&◌, List, [], ◌∷◌, map, refl, ap, ◌∙◌, subst, arith, Option, Some, None, min}
use Rattle.std.proofs.lemmas.List.Sums.{sum_by-cons}
use Rattle.dta_model.specs.Allowance.{allowance}
use Rattle.dta_model.specs.NodeMoves.{left, entered, turned}
use Rattle.dta_model.specs.Plans.{link_allowance, link_rates, turn, turn_rates}
use Rattle.dta_model.specs.Room.{room}
use Rattle.cell_stages.specs.Stages.{room_mail}
use Rattle.dta_model.specs.TimedWalks.{penalty_steps}
use Rattle.dta_model.specs.Trace.{Move, leads_to, stands_on}
use Rattle.dta_model.specs.declared.plan.Plan.{Plan}
use Rattle.net_core.specs.declared.rates.Rates.{Rates}
use Rattle.cell_stages.specs.Contents.{is_limited, kept_turns, turn_of, exit_of, room_of}
use Rattle.cell_stages.proofs.MailTells.{rooms_are_told}
use Rattle.capacity_credits.specs.Meter.{MeterState, granted, closed, unopened}
use Rattle.cell_stages.specs.declared.exit.Exit.{Exit}
use Rattle.cell_stages.specs.declared.turn.LimitedTurn.{LimitedTurn}
use Rattle.node_transfer.specs.Inside.Cells.{IsShut}
use Rattle.node_transfer.specs.Inside.Outs.{capped_by, capped_at}
use Rattle.node_transfer.specs.Exits.{opened_turn, closed_turn, opened_exit, closed_exit}
use Rattle.node_transfer.proofs.OfStep.Mid.{T, meter_mid, meter_with, capped_room, turn_mid, exit_mid, takes}

-- the allowance of a step, of which nothing is used yet
pub meter-opens : (p : Plan) (t : ℕ) (rates : Rates) (used : ℕ) → used ≡ 0 → granted t (unopened p.delta rates) ≡ meter_mid p t rates used
meter-opens p t rates used z = ap (λ k. meter_with p t rates k) (less_none (allowance rates p.delta t) used z)
  where
    less_none : (a u : ℕ) → u ≡ 0 → a ≡ a - u
    less_none a u z = omega (arith, z)

count_and : {X : Type 0} (p q : X → Bool) (xs : List X) → count_by (λ x. p x && q x) xs ≤ count_by q xs
count_and p q [] = omega arith
count_and p q (x ∷ xs) =
    let ih : count_by (λ x. p x && q x) xs ≤ count_by q xs = count_and p q xs in
    let a = sum_by-cons (λ x. cond (p x && q x) 1 0) x xs in
    let b = sum_by-cons (λ x. cond (q x) 1 0) x xs in
    let one : cond (p x && q x) 1 0 ≤ cond (q x) 1 0 = by_two (p x) (q x) in
    omega (arith, a, b, one, ih)
  where
    by_two : (c d : Bool) → cond (c && d) 1 0 ≤ cond d 1 0
    by_two true true = omega arith
    by_two true false = omega arith
    by_two false true = omega arith
    by_two false false = omega arith

-- closing once more changes nothing, and neither does opening before
closed-limit : (o : Option MeterState) → option_map closed (option_map closed o) ≡ option_map closed o
closed-limit None = refl
closed-limit (Some m) = refl

opened-limit : (step : ℕ) (o : Option MeterState) → option_map closed (option_map (granted step) o) ≡ option_map closed o
opened-limit step None = refl
opened-limit step (Some m) = refl

closed-turns : (ts : List LimitedTurn) → map closed_turn (map closed_turn ts) ≡ map closed_turn ts
closed-turns [] = refl
closed-turns (t ∷ ts) = rw (closed-turns ts) (ap (λ k. record t { limit = k } ∷ map closed_turn ts) (closed-limit t.limit))

opened-turns : (step : ℕ) (ts : List LimitedTurn) → map closed_turn (map (opened_turn step) ts) ≡ map closed_turn ts
opened-turns step [] = refl
opened-turns step (t ∷ ts) = rw (opened-turns step ts) (ap (λ k. record t { limit = k } ∷ map closed_turn ts) (opened-limit step t.limit))

pub closed-shut : (g : Exit) → IsShut (closed_exit g)
closed-shut g = ap (λ ts. record g { outflow = closed g.outflow; turns = ts }) (closed-turns g.turns)

pub closed-opened : (step : ℕ) (g : Exit) → closed_exit (opened_exit step g) ≡ closed_exit g
closed-opened step g = ap (λ ts. record g { outflow = closed g.outflow; turns = ts }) (opened-turns step g.turns)

module _ (p : Plan) (n t : ℕ) (M : List Move) (l : ℕ) where
  turned-le : (b : ℕ) → turned p n t (T p n t) M l b ≤ left p n t (T p n t) M l
  unfolding turned left
  turned-le b = count_and (leads_to b) (λ m. stands_on l (T p n t) m.vehicle) M

  -- a limit, by whether there is one
  limit-opens : (b : ℕ) (rates : Rates) (c : Bool) → turned p n t (T p n t) M l b ≡ 0
      → option_map (granted t) (cond c (Some (unopened p.delta rates)) None) ≡ cond c (Some (meter_mid p t rates (turned p n t (T p n t) M l b))) None
  limit-opens b rates false e = refl
  limit-opens b rates true e = ap (λ k. Some k) (meter-opens p t rates (turned p n t (T p n t) M l b) e)

  limit-closes : (b : ℕ) (rates : Rates) (c : Bool)
      → option_map closed (cond c (Some (meter_mid p t rates (turned p n t (T p n t) M l b))) None) ≡ cond c (Some (unopened p.delta rates)) None
  limit-closes b rates false = refl
  limit-closes b rates true = refl

  pub exit-opens : left p n t (T p n t) M l ≡ 0 → opened_exit t (exit_of p n l) ≡ exit_mid p n t M l
  exit-opens z =
      let o : granted t (unopened p.delta (link_rates p l)) ≡ meter_mid p t (link_rates p l) (left p n t (T p n t) M l) = meter-opens p t (link_rates p l) (left p n t (T p n t) M l) z in
      let ts : map (opened_turn t) (map (turn_of p l) (kept_turns p n l)) ≡ map (turn_mid p n t M l) (kept_turns p n l) = turns (kept_turns p n l) in
      rw (o, ts) refl
    where
      turns : (xs : List ℕ) → map (opened_turn t) (map (turn_of p l) xs) ≡ map (turn_mid p n t M l) xs
      turns [] = refl
      turns (b ∷ xs) =
          let none : turned p n t (T p n t) M l b ≡ 0 = omega (arith, turned-le b) in
          let e : opened_turn t (turn_of p l b) ≡ turn_mid p n t M l b =
          ap (λ k. record { to = record { 0 = b }; penalty = penalty_steps (turn p l b); limit = k }) (limit-opens b (turn_rates p l b) (is_limited (turn_rates p l b)) none) in
          let r : map (opened_turn t) (map (turn_of p l) xs) ≡ map (turn_mid p n t M l) xs = turns xs in
          rw (e, r) refl

  pub exit-closes : closed_exit (exit_mid p n t M l) ≡ exit_of p n l
  exit-closes =
      let ts : map closed_turn (map (turn_mid p n t M l) (kept_turns p n l)) ≡ map (turn_of p l) (kept_turns p n l) = turns (kept_turns p n l) in rw ts refl
    where
      turns : (xs : List ℕ) → map closed_turn (map (turn_mid p n t M l) xs) ≡ map (turn_of p l) xs
      turns [] = refl
      turns (b ∷ xs) =
          let e : closed_turn (turn_mid p n t M l b) ≡ turn_of p l b =
          ap (λ k. record { to = record { 0 = b }; penalty = penalty_steps (turn p l b); limit = k }) (limit-closes b (turn_rates p l b) (is_limited (turn_rates p l b))) in
          let r : map closed_turn (map (turn_mid p n t M l) xs) ≡ map (turn_of p l) xs = turns xs in
          rw (e, r) refl

-- the exits of a cell before a step
pub exit-shut : (p : Plan) (n t l : ℕ) → IsShut (exit_of p n l)
exit-shut p n t l = subst IsShut (exit-closes p n t [] l) (closed-shut (exit_mid p n t [] l))

-- an inflow at the start of a step, within the room
pub inflow-opens : (p : Plan) (n t b : ℕ) → capped_by (room_of p t b) (granted t (unopened p.delta (link_rates p b)))
    ≡ meter_with p t (link_rates p b) (takes p n t b - entered p n t (T p n t) [] b)
unfolding room_mail link_allowance entered
inflow-opens p n t b = ap (λ m. capped_by m (granted t (unopened p.delta (link_rates p b)))) (rooms_are_told p t b).1 ∙ by_room (room p b t (T p n t))
  where
    min_less : (a places : ℕ) → min (a - 0) places ≡ min a places - 0
    min_less a places = omega arith

    by_room : (r : Option ℕ) → capped_at r (granted t (unopened p.delta (link_rates p b)))
        ≡ meter_with p t (link_rates p b) (capped_room r (allowance (link_rates p b) p.delta t) - 0)
    by_room None = meter-opens p t (link_rates p b) 0 refl
    by_room (Some places) =
        ap (λ m. capped_at (Some places) m) (meter-opens p t (link_rates p b) 0 refl)
        ∙ ap (λ k. meter_with p t (link_rates p b) k) (min_less (allowance (link_rates p b) p.delta t) places)
