-- Where a vehicle is by its journey is where it is by the trace.
use Rattle.std.specs.List.{last_or}
use Rattle.std.specs.Prelude.{All, filter, find, option_map, option_to_list, slice_get}
use Rattle.std.proofs.Common.{◌≡◌, ℕ, zero, suc, ◌<◌, ◌≤◌, Bool, true, false, cond, not, List, [], ◌∷◌, ◌++◌, length, map, refl, ap, sym, ◌∙◌, subst, arith, Option, Some, None, append-nil}
use Rattle.std.proofs.lemmas.List.{length-map}
use Rattle.std.proofs.lemmas.List.Elements.{filter_passes}
use Rattle.std.proofs.lemmas.List.FromFn.{length-range_with_len}
use Rattle.std.proofs.lemmas.Option.{none-some, same_Some, slice_get-map, slice_get_within}
use Rattle.net_core.specs.declared.rows.LinkNo.{LinkNo}
use Rattle.dta_model.specs.declared.loaded.Journey.{Journey}
use Rattle.dta_model.specs.declared.plan.Plan.{Plan}
use Rattle.dta_model.specs.Loading.{arrival_of, entries_of, is_entry, is_onto, journey_of, journeys_of, step_in, trace_after}
use Rattle.dta_model.specs.Plans.{link_numbers, route_in, route_of, vehicle_count, vehicles_of}
use Rattle.dta_model.specs.State.{is_routed, some_route}
use Rattle.dta_model.specs.Trace.{Arrived, Move, Onto, Target, last_move, moves_of, target_at}
use Rattle.dta_model.proofs.Arrivals.{arrival_is_last}
use Rattle.dta_model.proofs.Ends.{found_fails, journey_is}
use Rattle.dta_model.proofs.Journeys.{routes_are_followed}
use Rattle.dta_model.proofs.Riders.{last_move_is, last_push}
use Rattle.dta_model.proofs.Steady.{all_at}
use Rattle.final_state.specs.Whereabouts.{on_link, whereabouts_after, whereabouts_at, whereabouts_by, whereabouts_to}
use Rattle.final_state.specs.declared.whereabouts.Whereabouts.{Whereabouts}
use Rattle.final_state.specs.declared.whereabouts.Whereabouts.TheVariants as whereabouts

-- what the journey of a vehicle tells
pub record Tells (route : List LinkNo) (entries : List ℕ) (arrival : Option ℕ) (at : Whereabouts) : Type 0 where
  pub within : length entries ≤ length route
  pub whereabouts : whereabouts_by route entries arrival ≡ at

last_there : (m : Move) (L : List Move) → (x : Move) × (last_or (Some m) L ≡ Some x) × (slice_get (m ∷ L) (length L) ≡ Some x)
last_there m [] = (m, refl, refl)
last_there m (y ∷ L) = last_there y L

out_place : (x : Target) → is_onto x ≡ false → whereabouts_to x ≡ whereabouts.Arrived
out_place (Onto l) h = cc
out_place Arrived h = refl

-- the link on which a vehicle is after an entry
entry_place : (o : Option LinkNo) (x : Target) → x ≡ target_at (option_map (λ l. l.0) o) → is_onto x ≡ true → (on_link o ≡ whereabouts_to x) × ((l : LinkNo) × (o ≡ Some l))
entry_place None x e h = let clash : false ≡ true = sym (ap is_onto e) ∙ h in cc
entry_place (Some l) x e h = (sym (ap whereabouts_to e), (l, refl))

abbrev OnRoute : List LinkNo → List Move → Type 0
OnRoute route M = (i : ℕ) (m : Move) → slice_get M i ≡ Some m → m.target ≡ target_at (slice_get (link_numbers route) i)

got_front : (L M : List Move) (i : ℕ) (m : Move) → slice_get L i ≡ Some m → slice_get (L ++ M) i ≡ Some m
got_front [] M i m e = absurd (none-some m e)
got_front (x ∷ L) M zero m e = e
got_front (x ∷ L) M (suc i) m e = got_front L M i m e

-- the last of some entries
module _ (route : List LinkNo) (m : Move) (E M : List Move) (entries : All (λ x. is_entry x ≡ true) (m ∷ E)) (on : OnRoute route ((m ∷ E) ++ M)) where
  last_entry : (x : Move) × (last_or (Some m) E ≡ Some x) × (on_link (slice_get route (length E)) ≡ whereabouts_to x.target) × (length E < length route)
  last_entry =
      let last = last_there m E in
      let x : Move = last.0 in
      let goes : x.target ≡ target_at (option_map (λ l. l.0) (slice_get route (length E))) = on (length E) x (got_front (m ∷ E) M (length E) x (last.2)) ∙ ap target_at (slice_get-map (λ l. l.0) route (length E)) in
      let enters : is_onto x.target ≡ true = all_at (λ y. is_entry y ≡ true) (m ∷ E) (length E) x entries (last.2) in
      let found = entry_place (slice_get route (length E)) x.target goes enters in
      (x, last.1, found.0, slice_get_within route (length E) (found.1.0) (found.1.1))

tells : (route : List LinkNo) (E : List Move) (o : Option Move) → All (λ m. is_entry m ≡ true) E → ((m : Move) → o ≡ Some m → is_entry m ≡ false) → OnRoute route (E ++ option_to_list o)
    → Tells route (map (λ m. m.step) E) (step_in o) (whereabouts_after (last_or None (E ++ option_to_list o)))
tells route [] None entries out on = record { within = omega arith; whereabouts = refl }
tells route [] (Some a) entries out on = record { within = omega arith; whereabouts = sym (out_place a.target (out a refl)) }
tells route (m ∷ E) None entries out on =
    let last = last_entry route m E [] entries on in
    let many = length-map E (λ x. x.step) in
    let few = last.3 in
    record {
      within = omega (arith, many, few);
      whereabouts = ap (λ k. on_link (slice_get route k)) many ∙ last.2 ∙ sym (ap whereabouts_after (ap (λ L. last_or (Some m) L) (append-nil E) ∙ last.1));
    }
tells route (m ∷ E) (Some a) entries out on =
    let last = last_entry route m E (a ∷ []) entries on in
    let many = length-map E (λ x. x.step) in
    let few = last.3 in
    record {
      within = omega (arith, many, few);
      whereabouts = sym (ap whereabouts_after (last_push (Some m) E a) ∙ out_place a.target (out a refl));
    }

-- a vehicle that has a route is where its entries and its arrival tell
pub journey_tells : (p : Plan) (t v : ℕ) (route : List LinkNo) → slice_get p.routes v ≡ Some (Some route)
    → Tells route (entries_of (trace_after p t) v) (arrival_of (trace_after p t) v) (whereabouts_at p (trace_after p t) v)
unfolding entries_of arrival_of route_of whereabouts_at is_routed
journey_tells p t v route there =
    let T = trace_after p t in
    let ms : List Move = moves_of v T in
    let o : Option Move = find (λ m. not (is_entry m)) ms in
    let parts : ms ≡ filter is_entry ms ++ option_to_list o = arrival_is_last p t v in
    let way : route_of p v ≡ link_numbers route = ap route_in there in
    let on : OnRoute route (filter is_entry ms ++ option_to_list o) =
    λ i m e. routes_are_followed p t v i m (ap (λ L. slice_get L i) parts ∙ e) ∙ ap (λ L. target_at (slice_get L i)) way in
    let told = tells route (filter is_entry ms) o (filter_passes is_entry ms) (λ m e. found_fails ms m e) on in
    let whereabouts : whereabouts_after (last_or None (filter is_entry ms ++ option_to_list o)) ≡ whereabouts_at p T v =
    sym (ap (λ r. cond (some_route r) (whereabouts_after (last_move v T)) whereabouts.Unrouted) there ∙ ap whereabouts_after (last_move_is v T ∙ ap (λ L. last_or None L) parts)) in
    record { within = told.within; whereabouts = told.whereabouts ∙ whereabouts }

-- the same of what a loading gives
pub loaded_tells : (p : Plan) (v : ℕ) (loaded : List Journey) (route way : List LinkNo) (journey : Journey) (entries : List ℕ)
    → slice_get p.routes v ≡ Some (Some route) → way ≡ route → loaded ≡ journeys_of p → slice_get loaded v ≡ Some journey → entries ≡ journey.entries
    → Tells way entries journey.arrival (whereabouts_at p (trace_after p p.horizon) v)
unfolding journey_of
loaded_tells p v loaded route way journey entries there same is got e =
    let at = whereabouts_at p (trace_after p p.horizon) v in
    let j : journey ≡ record { entries = entries_of (trace_after p p.horizon) v; arrival = arrival_of (trace_after p p.horizon) v } = journey_is p v journey (ap (λ L. slice_get L v) (sym is) ∙ got) in
    subst (λ w. Tells w entries journey.arrival at) (sym same)
    (subst (λ s. Tells route s journey.arrival at) (sym e)
    (subst (λ k. Tells route k.entries k.arrival at) (sym j) (journey_tells p p.horizon v route there)))

-- and one without a route is nowhere
pub unrouted_is : (p : Plan) (T : List Move) (v : ℕ) → slice_get p.routes v ≡ Some None → whereabouts.Unrouted ≡ whereabouts_at p T v
unfolding whereabouts_at is_routed
unrouted_is p T v e = sym (ap (λ r. cond (some_route r) (whereabouts_after (last_move v T)) whereabouts.Unrouted) e)
