-- The counts of all cells are those of the loading, since each vehicle has at most one rider in them.
use Rattle.net_core.specs.Network.{numbers_below}
use Rattle.std.specs.List.{flat_map, sum_by}
use Rattle.std.specs.Prelude.{All, count_by, filter, is_some, nat_eq, nat_lt, slice_get}
use Rattle.std.proofs.Common.{◌≡◌, ℕ, ◌+◌, ◌<◌, Bool, true, false, cond, ◌&&◌, not, List, [], ◌∷◌, length, refl, ap, sym, ◌∙◌, arith, Option, Some, None, ◌⊎◌, inl, inr}
use Rattle.std.proofs.Math.Bool.{and-false}
use Rattle.std.proofs.Math.Dec.{eqb}
use Rattle.std.proofs.lemmas.Bool.{and_parts, cases_Bool}
use Rattle.std.proofs.lemmas.List.{length-map}
use Rattle.std.proofs.lemmas.List.Concat.{length-flat_map}
use Rattle.std.proofs.lemmas.List.Elements.{All-nil, All-cons, All-head, All-tail}
use Rattle.std.proofs.lemmas.List.Sums.{length-filter}
use Rattle.dta_model.specs.Loading.{is_onto, trace_after}
use Rattle.dta_model.specs.Plans.{all_nodes, departure_of, first_link, ins, outs, route_of, vehicle_count, vehicles_of}
use Rattle.dta_model.specs.Riders.{RiderState, rider_at, riders}
use Rattle.dta_model.specs.Sound.{IsSound}
use Rattle.cell_stages.specs.Stages.{arrived_before, line_before, waiting_before}
use Rattle.dta_model.specs.State.{arrived_in, count_on, eight_after, eight_in, has_arrived, is_due, is_routed, leads_onto, leads_out, running_in, runs, some_route, waiting_in, waits}
use Rattle.dta_model.specs.Trace.{Arrived, Move, Onto, Target, has_moved, last_move, queue_of}
use Rattle.dta_model.specs.declared.plan.Plan.{Plan}
use Rattle.cell_stages.proofs.Arrived.{arrived_total}
use Rattle.cell_stages.proofs.ByNumber.{all_numbered, numbered}
use Rattle.dta_model.proofs.Conserved.{mover_due}
use Rattle.dta_model.proofs.Fuel.{trace-lawful}
use Rattle.cell_stages.proofs.HandOver.{one_number, passing_one, routed_has, running_one, unrouted}
use Rattle.dta_model.proofs.Flat.{filter-flat}
use Rattle.dta_model.proofs.Standing.{no-last}
use Rattle.dta_model.proofs.Steady.{steady_of}
use Rattle.dta_model.proofs.Totals.{one_below, sum_alike, sum_both, sum_zero}
use Rattle.cell_stages.proofs.Whereabouts.{link_by, link_of, waits_at}
use Rattle.link_queues.specs.Lines.{due}
use Rattle.node_transfer.specs.Counts.{CountsAddUp}

abbrev one_if : Bool → ℕ
one_if b = cond b 1 0

-- riders whose numbers are below a bound, counted number by number
sum-numbered : (V : ℕ) (all : List RiderState) → All (λ r. r.number < V) all → sum_by (λ v. length (numbered v all)) (numbers_below V) ≡ length all
sum-numbered V [] below = sum_zero V 0
sum-numbered V (r ∷ all) below =
    let a = sum_alike (λ v. length (numbered v (r ∷ all))) (λ v. cond (eqb r.number v) 1 0 + length (numbered v all)) (λ v. one_more (eqb r.number v) (numbered v all)) (numbers_below V) in
    let b = sum_both (λ v. cond (eqb r.number v) 1 0) (λ v. length (numbered v all)) (numbers_below V) in
    let c = one_below r.number V (All-head (λ x. x.number < V) r all below) in
    let rest = sum-numbered V all (All-tail (λ x. x.number < V) r all below) in
    omega (arith, a, b, c, rest)
  where
    one_more : (b : Bool) (xs : List RiderState) → length (cond b (r ∷ xs) xs) ≡ cond b 1 0 + length xs
    one_more true xs = omega arith
    one_more false xs = omega arith

all_same : (P : Type 0) (xs : List RiderState) → P → All (λ r. P) xs
all_same P [] h = All-nil (λ r. P)
all_same P (x ∷ xs) h = All-cons (λ r. P) x xs h (all_same P xs h)

-- riders of which each vehicle that passes a test has one, and the others none, are as many as such vehicles
count-numbered : (V : ℕ) (f : ℕ → Bool) → ((v : ℕ) → f v ≡ true → v < V) → (all : List RiderState) → ((v : ℕ) → length (numbered v all) ≡ one_if (f v))
    → length all ≡ count_by f (numbers_below V)
count-numbered V f high all each =
    sym (sum-numbered V all (all_below all (λ v. of_one v (numbered v all) (f v) refl (each v))))
    ∙ sum_alike (λ v. length (numbered v all)) (λ v. one_if (f v)) each (numbers_below V)
  where
    of_one : (v : ℕ) (xs : List RiderState) (b : Bool) → f v ≡ b → length xs ≡ one_if b → All (λ r. v < V) xs
    of_one v xs true e h = all_same (v < V) xs (high v e)
    of_one v [] false e h = All-nil (λ r. v < V)
    of_one v (x ∷ xs) false e h = absurd (omega (arith, h))

    all_below : (rs : List RiderState) → ((v : ℕ) → All (λ r. v < V) (numbered v rs)) → All (λ r. r.number < V) rs
    all_below [] h = All-nil (λ r. r.number < V)
    all_below (r ∷ rs) h = all_numbered (λ v x. v < V) (r ∷ rs) h r

length_some : (b : Bool) (r : RiderState) → length (cond b (r ∷ []) []) ≡ one_if b
length_some true r = refl
length_some false r = refl

onto_is_some : (o : Option Move) → is_some (link_of o) ≡ leads_onto o
onto_is_some None = refl
onto_is_some (Some m) = by_target m.target
  where
    by_target : (x : Target) → is_some (link_by x) ≡ is_onto x
    by_target (Onto l) = refl
    by_target Arrived = refl

module _ (p : Plan) (sound : IsSound p) (t : ℕ) where
  abbrev T : List Move
  T = trace_after p t

  -- who is due is a vehicle of the plan
  due-below : (v : ℕ) → is_due p t v ≡ true → v < vehicle_count p
  unfolding is_due is_routed
  due-below v h = (routed_has p sound t v (slice_get p.routes v) refl (and_parts (some_route (slice_get p.routes v)) (nat_lt (departure_of p v) t) h).0).0

  both-below : (f : ℕ → Bool) (v : ℕ) → (is_due p t v && f v) ≡ true → v < vehicle_count p
  both-below f v h = due-below v (and_parts (is_due p t v) (f v) h).0

  -- who has moved is due
  moved-due : (v : ℕ) (f : Option Move → Bool) → f None ≡ false → (is_due p t v && f (last_move v T)) ≡ f (last_move v T)
  moved-due v f none = by_moved (cases_Bool (has_moved v T))
    where
      by_moved : (has_moved v T ≡ true) ⊎ (has_moved v T ≡ false) → (is_due p t v && f (last_move v T)) ≡ f (last_move v T)
      by_moved (inl e) = rw (mover_due p t T (trace-lawful p t) v e) refl
      by_moved (inr e) = rw (no-last v T e, none) (and-false (is_due p t v))

  abbrev running_at : ℕ → List RiderState
  running_at n = flat_map (line_before p t) (ins p n)

  abbrev due_line : ℕ → List RiderState
  due_line b = filter (λ r. nat_lt r.departure t) (waiting_before p t b)

  abbrev due_at : ℕ → List RiderState
  due_at n = flat_map due_line (outs p n)

  abbrev arrived_at : ℕ → List RiderState
  arrived_at n = arrived_before p n t

  on_line : (l : ℕ) → count_on T l ≡ length (line_before p t l)
  unfolding count_on line_before
  on_line l = sym (length-map (queue_of l T) (rider_at p T))

  running-lists : sum_by (λ n. sum_by (count_on T) (ins p n)) (all_nodes p) ≡ length (flat_map running_at (all_nodes p))
  running-lists =
      sum_alike (λ n. sum_by (count_on T) (ins p n)) (λ n. length (running_at n)) (λ n. sum_alike (count_on T) (λ l. length (line_before p t l)) on_line (ins p n) ∙ sym (length-flat_map (line_before p t) (ins p n))) (all_nodes p)
      ∙ sym (length-flat_map running_at (all_nodes p))

  due-lists : sum_by (λ n. sum_by (λ b. due t (waiting_before p t b)) (outs p n)) (all_nodes p) ≡ length (flat_map due_at (all_nodes p))
  due-lists =
      sum_alike (λ n. sum_by (λ b. due t (waiting_before p t b)) (outs p n)) (λ n. length (due_at n))
      (λ n. sum_alike (λ b. due t (waiting_before p t b)) (λ b. length (due_line b)) (λ b. sym (length-filter (λ r. nat_lt r.departure t) (waiting_before p t b))) (outs p n) ∙ sym (length-flat_map due_line (outs p n))) (all_nodes p)
      ∙ sym (length-flat_map due_at (all_nodes p))

  running-each : (v : ℕ) → length (numbered v (flat_map running_at (all_nodes p))) ≡ one_if (is_due p t v && runs T v)
  unfolding runs
  running-each v =
      ap (λ L. length L) (running_one p sound t v)
      ∙ length_some (is_some (link_of (last_move v T))) (rider_at p T v)
      ∙ ap one_if (onto_is_some (last_move v T) ∙ sym (moved-due v leads_onto refl))

  arrived-each : (v : ℕ) → length (numbered v (flat_map arrived_at (all_nodes p))) ≡ one_if (is_due p t v && has_arrived T v)
  unfolding has_arrived
  arrived-each v =
      ap (λ L. length L) (filter-flat (λ r. nat_eq r.number v) arrived_at (all_nodes p) ∙ arrived_total p (steady_of p sound) t v)
      ∙ length_some (leads_out (last_move v T)) (rider_at p T v)
      ∙ ap one_if (sym (moved-due v leads_out refl))

  abbrev of_plan : ℕ → List RiderState
  of_plan v = riders p T (filter (λ w. nat_eq w v) (vehicles_of p))

  -- who hasn't moved waits, if it is due
  due-waits : (v : ℕ) → (some_route (slice_get p.routes v) ≡ true) ⊎ (some_route (slice_get p.routes v) ≡ false)
      → length (cond (is_some (first_link p v)) (filter (λ r. nat_lt r.departure t) (of_plan v)) []) ≡ one_if ((some_route (slice_get p.routes v) && nat_lt (departure_of p v) t) && true)
  unfolding first_link route_of rider_at
  due-waits v (inl h) =
      let has = routed_has p sound t v (slice_get p.routes v) refl h in
      rw (h, has.1.1, one_number p sound t v has.0) (by_departure (nat_lt (departure_of p v) t))
    where
      by_departure : (b : Bool) → length (cond b (rider_at p T v ∷ []) []) ≡ one_if (b && true)
      by_departure true = refl
      by_departure false = refl
  due-waits v (inr h) = rw (h, unrouted p sound t v (slice_get p.routes v) h) refl

  due-each : (v : ℕ) → length (numbered v (flat_map due_at (all_nodes p))) ≡ one_if (is_due p t v && waits T v)
  unfolding is_due waits is_routed
  due-each v = ap (λ L. length L) (passing_one p sound t v (λ r. nat_lt r.departure t)) ∙ by_moved (has_moved v T)
    where
      by_moved : (moved : Bool) → length (cond (is_some (waits_at moved (first_link p v))) (filter (λ r. nat_lt r.departure t) (of_plan v)) []) ≡ one_if ((some_route (slice_get p.routes v) && nat_lt (departure_of p v) t) && not moved)
      by_moved true = ap one_if (sym (and-false (some_route (slice_get p.routes v) && nat_lt (departure_of p v) t)))
      by_moved false = due-waits v (cases_Bool (some_route (slice_get p.routes v)))

pub counts_add_up : CountsAddUp
unfolding eight_after eight_in waiting_in running_in arrived_in
counts_add_up p sound t = record {
  waiting = due-lists p sound t ∙ count-numbered (vehicle_count p) (λ v. is_due p t v && waits (trace_after p t) v) (both-below p sound t (waits (trace_after p t))) (flat_map (due_at p sound t) (all_nodes p)) (due-each p sound t);
  running = running-lists p sound t ∙ count-numbered (vehicle_count p) (λ v. is_due p t v && runs (trace_after p t) v) (both-below p sound t (runs (trace_after p t))) (flat_map (running_at p sound t) (all_nodes p)) (running-each p sound t);
  arrived = sym (length-flat_map (arrived_at p sound t) (all_nodes p)) ∙ count-numbered (vehicle_count p) (λ v. is_due p t v && has_arrived (trace_after p t) v) (both-below p sound t (has_arrived (trace_after p t))) (flat_map (arrived_at p sound t) (all_nodes p)) (arrived-each p sound t);
}
