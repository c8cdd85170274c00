-- What is known of a vehicle on an in-link at the start of a step.
use Rattle.net_core.specs.Network as network
use Rattle.net_core.specs.Network.{numbers_below}
use Rattle.net_core.specs.declared.rows.LinkNo.{LinkNo}
use Rattle.net_core.specs.declared.rows.Turn.{Turn}
use Rattle.std.specs.List.{range_with_len, last_or}
use Rattle.std.specs.Prelude.{filter, find, slice_get, ◌≢◌, nat_eq, IsSome, option_map}
use Rattle.std.proofs.Common.{◌≡◌, ℕ, zero, suc, ◌+◌, ◌<◌, ◌≤◌, Bool, true, false, cond, List, [], ◌∷◌, length, map, refl, ap, sym, ◌∙◌, subst, arith, Option, Some, None, ◌⊎◌, inl, inr}
use Rattle.std.proofs.lemmas.Bool.Decides.{eqb_tells}
use Rattle.std.proofs.lemmas.List.{length-map}
use Rattle.std.proofs.lemmas.Option.{slice_get-get_or, slice_get_within}
use Rattle.std.proofs.Math.Dec.{eqb}
use Rattle.dta_model.proofs.Onward.{onto_one}
use Rattle.dta_model.specs.Loading.{is_entry, entries_of}
use Rattle.dta_model.specs.Plans.{link_at, outs, turn, route_of, route_in, link_numbers}
use Rattle.dta_model.specs.Riders.{rider_at}
use Rattle.dta_model.specs.Sound.{IsSound}
use Rattle.dta_model.specs.State.{leads_onto}
use Rattle.dta_model.specs.Trace.{Move, Onto, moves_of, last_move, leads_to, next_target, target_at, queue_of, stands_on, has_moved}
use Rattle.cell_stages.specs.Transfers.{OnlyEnters}
use Rattle.dta_model.specs.declared.plan.Plan.{Plan}
use Rattle.dta_model.specs.declared.trip.Trip.{Trip}
use Rattle.dta_model.proofs.Journeys.{routes_are_followed}
use Rattle.dta_model.proofs.Conserved.{link_onto}
use Rattle.dta_model.proofs.Fuel.{has_moved-if}
use Rattle.dta_model.proofs.Riders.{first_ahead, last_move_is}
use Rattle.cell_stages.proofs.Riders.{riders_tell}
use Rattle.dta_model.proofs.Riders.{enters}
use Rattle.dta_model.proofs.Standing.{in-queue}
use Rattle.dta_model.proofs.Steady.{all_at}
use Rattle.node_transfer.proofs.OfStep.ByKey.{find_kept}
use Rattle.node_transfer.proofs.OfStep.Mid.{T}
use Rattle.node_transfer.proofs.OfStep.HeadActions.{Allowed}

last_at : (o : Option Move) (xs : List Move) (x : Move) → last_or o xs ≡ Some x → (o ≡ Some x × (xs ≡ [])) ⊎ ((i : ℕ) × (slice_get xs i ≡ Some x) × (suc i ≡ length xs))
last_at o [] x h = inl (h, refl)
last_at o (y ∷ xs) x h = at_step (last_at (Some y) xs x h)
  where
    at_step : (Some y ≡ Some x × (xs ≡ [])) ⊎ ((i : ℕ) × (slice_get xs i ≡ Some x) × (suc i ≡ length xs)) → (o ≡ Some x × (y ∷ xs ≡ [])) ⊎ ((i : ℕ) × (slice_get (y ∷ xs) i ≡ Some x) × (suc i ≡ length (y ∷ xs)))
    at_step (inl (e, none)) = inr (0, e, ap (λ L. length (y ∷ L)) (sym none))
    at_step (inr (i, e, k)) = inr (suc i, e, ap (λ j. suc j) k)

find_range : (b k from : ℕ) → from ≤ b → b < from + k → find (λ x. nat_eq x b) (range_with_len from k) ≡ Some b
find_range b zero from low high = absurd (omega (arith, low, high))
find_range b (suc k) from low high = range_step (eqb_tells from b) (find_range b k (from + 1))
  where
    range_step : ((eqb from b ≡ true) × (from ≡ b)) ⊎ ((eqb from b ≡ false) × (from ≢ b)) → (from + 1 ≤ b → b < from + 1 + k → find (λ x. nat_eq x b) (range_with_len (from + 1) k) ≡ Some b)
        → find (λ x. nat_eq x b) (range_with_len from (suc k)) ≡ Some b
    range_step (inl (s, same)) ih = rw s (ap (λ j. Some j) same)
    range_step (inr (s, other)) ih = rw s (ih (omega (arith, low, other)) (omega (arith, high)))

target_link : (o : Option ℕ) (l : ℕ) → Onto l ≡ target_at o → o ≡ Some l
target_link None l h = cc
target_link (Some b) l h = let e : l ≡ b = one l b h in ap (λ k. Some k) (sym e)
  where
    one : (l b : ℕ) → Onto l ≡ Onto b → l ≡ b
    one l b e = cc

-- from a link of a route to the next there is a turn, to a link of the table
module _ (p : Plan) (sound : IsSound p) where
  pub turn-next : (v i l b : ℕ) → slice_get (route_of p v) i ≡ Some l → slice_get (route_of p v) (suc i) ≡ Some b → IsSome (turn p l b) × (b < length p.net.links)
  unfolding route_of
  turn-next v i l b here next = route_step (slice_get p.routes v) refl here next
    where
      some_trip : Trip
      some_trip = record { number = 0; origin = 0; destination = 0; departure = 0 }

      route_step : (o : Option (Option (List LinkNo))) → slice_get p.routes v ≡ o → slice_get (route_in o) i ≡ Some l → slice_get (route_in o) (suc i) ≡ Some b → IsSome (turn p l b) × (b < length p.net.links)
      route_step None e h k = cc
      route_step (Some None) e h k = cc
      route_step (Some (Some route)) e h k =
          let within = slice_get_within p.routes v (Some route) e in
          let each = sound.each in
          let walk = sound.walks v _ route (slice_get-get_or p.trips v some_trip (omega (arith, within, each))) e in
          (walk.turns i l b h k, all_at (λ x. x < length p.net.links) (link_numbers route) (suc i) b walk.links k)

  some-turn : (l b n : ℕ) → (link_at p l).to.0 ≡ n → IsSome (turn p l b) → (nat_eq (link_at p b).from.0 n ≡ true) × ((way : Turn) × (turn p l b ≡ Some way))
  unfolding network.turn
  some-turn l b n to h = turn_step (nat_eq (link_at p b).from.0 (link_at p l).to.0) refl (network.turn_at p.net (link_at p l).to.0 l b) h
    where
      turn_step : (c : Bool) → nat_eq (link_at p b).from.0 (link_at p l).to.0 ≡ c → (o : Option Turn) → IsSome (cond c o None) → (nat_eq (link_at p b).from.0 n ≡ true) × ((way : Turn) × (cond c o None ≡ Some way))
      turn_step true e (Some way) h = (subst (λ k. nat_eq (link_at p b).from.0 k ≡ true) to e, (way, refl))
      turn_step true e None h = let g : false ≡ true = h in cc
      turn_step false e o h = let g : false ≡ true = h in cc

-- what is known of a vehicle on an in-link
pub record OnLink (p : Plan) (n t l v : ℕ) : Type 0 where
  pub entry : Move
  pub came : last_move v (T p n t) ≡ Some entry
  pub last : last_or None (rider_at p (T p n t) v).entries ≡ Some entry.step
  pub next : next_target p (T p n t) v ≡ target_at (slice_get (rider_at p (T p n t) v).ahead 0)
  pub under_way : (rider_at p (T p n t) v).arrival ≡ None
  pub only : OnlyEnters (T p n t) v
  pub stood : stands_on l (T p n t) v ≡ true
  pub started : has_moved v (T p n t) ≡ true
  pub allowed : (b : ℕ) → slice_get (rider_at p (T p n t) v).ahead 0 ≡ Some b → Allowed p n l b

module _ (p : Plan) (sound : IsSound p) (n t l : ℕ) (to : (link_at p l).to.0 ≡ n) where
  out-found : (b : ℕ) → nat_eq (link_at p b).from.0 n ≡ true → b < length p.net.links → find (λ o. nat_eq o b) (outs p n) ≡ Some b
  unfolding network.outs
  out-found b from below = find_kept (λ x. nat_eq (link_at p x).from.0 n) b (numbers_below (length p.net.links)) ∙ rw from (find_range b (length p.net.links) 0 (omega arith) (omega (arith, below)))

  pub on-link : (i v : ℕ) → slice_get (queue_of l (T p n t)) i ≡ Some v → OnLink p n t l v
  unfolding rider_at entries_of stands_on
  on-link i v h =
      let tells = riders_tell p t l i v h in
      let x = in-queue l (T p n t) i v h in
      let whole : OnlyEnters (T p n t) v = enters p t v (ap leads_onto (x.1) ∙ link_onto l (x.0).target (x.2)) in
      let count : length (map (λ m. m.step) (filter is_entry (moves_of v (T p n t)))) ≡ length (moves_of v (T p n t)) = length-map (filter is_entry (moves_of v (T p n t))) (λ m. m.step) ∙ ap (λ K. length K) whole in
      record {
        entry = x.0;
        came = x.1;
        last = tells.entered ∙ ap (λ o. option_map (λ m. m.step) o) (x.1);
        next = tells.next;
        under_way = tells.under_way;
        only = whole;
        stood = ap (λ o. leads_there_of o) (x.1) ∙ x.2;
        started = has_moved-if v (T p n t) (x.0) (x.1);
        allowed = λ b e. allow b (x.0) (x.2) (last_at None (moves_of v (T p n t)) (x.0) (sym (last_move_is v (T p n t)) ∙ x.1)) (ap (λ k. slice_get (route_of p v) k) (sym count) ∙ sym (first_ahead (length (map (λ m. m.step) (filter is_entry (moves_of v (T p n t))))) (route_of p v)) ∙ e);
      }
    where
      leads_there_of : Option Move → Bool
      leads_there_of None = false
      leads_there_of (Some m) = leads_to l m

      allow : (b : ℕ) (x : Move) → leads_to l x ≡ true → (None ≡ Some x × (moves_of v (T p n t) ≡ [])) ⊎ ((i : ℕ) × (slice_get (moves_of v (T p n t)) i ≡ Some x) × (suc i ≡ length (moves_of v (T p n t)))) → slice_get (route_of p v) (length (moves_of v (T p n t))) ≡ Some b → Allowed p n l b
      allow b x leads (inl (e, none)) h = cc
      allow b x leads (inr (i, e, k)) h =
          let here : slice_get (route_of p v) i ≡ Some l = target_link (slice_get (route_of p v) i) l (sym (onto_one l x.target leads) ∙ routes_are_followed p t v i x e) in
          let way = turn-next p sound v i l b here (ap (λ j. slice_get (route_of p v) j) k ∙ h) in
          let found = some-turn p sound l b n to way.0 in
          record { way = found.1.0; allows = found.1.1; there = out-found b found.0 way.1 }
