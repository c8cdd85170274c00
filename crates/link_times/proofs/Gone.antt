-- What is known of a vehicle of a sound loading.
use Rattle.std.specs.Prelude.{slice_get, slice_index, All, filter, find, option_to_list}
use Rattle.std.proofs.Common.{◌≡◌, ℕ, zero, suc, ◌+◌, ◌<◌, ◌≤◌, Bool, true, false, cond, not, List, [], ◌∷◌, ◌++◌, length, map, refl, ap, sym, ◌∙◌, subst, arith, Some, Option, None}
use Rattle.std.proofs.lemmas.Bool.{eqb-true}
use Rattle.std.proofs.lemmas.List.{length-map}
use Rattle.std.proofs.lemmas.List.Elements.{All-head, All-tail, All-weaker, filter_passes}
use Rattle.std.proofs.lemmas.Option.{slice_get_past}
use Rattle.net_core.specs.declared.rows.LinkNo.{LinkNo}
use Rattle.dta_model.specs.declared.loaded.Journey.{Journey}
use Rattle.dta_model.specs.declared.plan.Plan.{Plan}
use Rattle.dta_model.specs.TimedWalks.{penalty_steps}
use Rattle.dta_model.specs.Loading.{arrival_of, entries_of, is_entry, journey_of, journeys_of, step_in, trace_after}
use Rattle.dta_model.specs.Plans.{link_at, link_numbers, route_in, route_of, turn}
use Rattle.dta_model.specs.Sound.{IsSound}
use Rattle.dta_model.specs.State.{is_due, is_routed, waits, some_route}
use Rattle.dta_model.specs.Trace.{Move, has_moved, is_of, moves_of, target_at}
use Rattle.dta_model.proofs.Arrivals.{arrival_is_last}
use Rattle.dta_model.proofs.Onward.{vehicles_are_conserved}
use Rattle.dta_model.proofs.NoMoves.{no-moves}
use Rattle.dta_model.proofs.Ends.{found_fails, journey_is}
use Rattle.dta_model.proofs.Journeys.{routes_are_followed, steps_rise}
use Rattle.dta_model.proofs.Steady.{steady_of}
use Rattle.link_times.proofs.TravelTimes.{Spaced, moves_are_spaced}
use Rattle.link_times.specs.Journeys.{HasGone, link_on, moves_along}
use Rattle.link_times.proofs.Along.{along_end, along_get, is_along, out_in, rising_few, spaced_at}

all_split : (P : Move → Type 0) (L : List Move) → ((A B : List Move) (a : Move) → L ≡ A ++ a ∷ B → P a) → All P L
all_split P [] f i d h = absurd (omega (arith, h))
all_split P (x ∷ L) f zero d h = f [] L x refl
all_split P (x ∷ L) f (suc i) d h = all_split P L (λ A B a e. f (x ∷ A) B a (ap (λ K. x ∷ K) e)) i d (omega (arith, h))

all_filter : (P : Move → Type 0) (q : Move → Bool) (L : List Move) → All P L → All P (filter q L)
all_filter P q [] all = all
all_filter P q (x ∷ L) all = filter_step (q x) (all_filter P q L (All-tail P x L all))
  where
    filter_step : (b : Bool) → All P (filter q L) → All P (cond b (x ∷ filter q L) (filter q L))
    filter_step true ih zero d h = All-head P x L all
    filter_step true ih (suc i) d h = ih i d (omega (arith, h))
    filter_step false ih i d h = ih i d h

all_steps : (most : ℕ) (L : List Move) → All (λ m. m.step < most) L → All (λ s. s < most) (map (λ m. m.step) L)
all_steps most [] all i d h = absurd (omega (arith, h))
all_steps most (x ∷ L) all zero d h = All-head (λ m. m.step < most) x L all
all_steps most (x ∷ L) all (suc i) d h = all_steps most L (All-tail (λ m. m.step < most) x L all) i d (omega (arith, h))

all_links : (most : ℕ) (L : List LinkNo) → All (λ l. l < most) (link_numbers L) → All (λ l. l.0 < most) L
all_links most [] all i d h = absurd (omega (arith, h))
all_links most (x ∷ L) all zero d h = All-head (λ l. l < most) x.0 (link_numbers L) all
all_links most (x ∷ L) all (suc i) d h = all_links most L (All-tail (λ l. l < most) x.0 (link_numbers L) all) i d (omega (arith, h))

found_in : (P : Move → Type 0) (q : Move → Bool) (L : List Move) (m : Move) → All P L → find q L ≡ Some m → P m
found_in P q [] m all e = cc
found_in P q (x ∷ L) m all e = found_step (q x) e (found_in P q L m (All-tail P x L all))
  where
    found_step : (b : Bool) → cond b (Some x) (find q L) ≡ Some m → (find q L ≡ Some m → P m) → P m
    found_step true e ih = let same : x ≡ m = cc in subst P same (All-head P x L all)
    found_step false e ih = ih e

step_of : (o : Option Move) (s : ℕ) → step_in o ≡ Some s → (m : Move) × (o ≡ Some m) × (m.step ≡ s)
step_of None s e = cc
step_of (Some m) s e = (m, refl, (let q : m.step ≡ s = cc in q))

-- who has no route doesn't move, and nor does who isn't there
stays : (p : Plan) (v : ℕ) → is_routed p v ≡ false → has_moved v (trace_after p p.horizon) ≡ false
unfolding is_due waits
stays p v r = not_true _ ((vehicles_are_conserved p p.horizon).due v (rw r refl))
  where
    not_true : (c : Bool) → not c ≡ true → c ≡ false
    not_true true e = cc
    not_true false e = refl

pub absent : (p : Plan) (v : ℕ) → length p.routes ≤ v → has_moved v (trace_after p p.horizon) ≡ false
unfolding is_routed
absent p v h = stays p v (ap some_route (slice_get_past p.routes v h))

module _ (p : Plan) (sound : IsSound p) (v : ℕ) where
  below : All (λ m. m.step < p.horizon) (moves_of v (trace_after p p.horizon))
  unfolding moves_of
  below = all_filter (λ m. m.step < p.horizon) (is_of v) (trace_after p p.horizon) (all_split (λ m. m.step < p.horizon) (trace_after p p.horizon) (λ A B a e. (steps_rise p p.horizon A B a e).0))

  own : All (λ m. m.vehicle ≡ v) (moves_of v (trace_after p p.horizon))
  unfolding moves_of
  own = All-weaker (λ m. is_of v m ≡ true) (λ m. m.vehicle ≡ v) (λ m h. eqb-true m.vehicle v h) (filter (is_of v) (trace_after p p.horizon)) (filter_passes (is_of v) (trace_after p p.horizon))

  pub gone : (route : List LinkNo) → slice_get p.routes v ≡ Some (Some route) → HasGone p v route (entries_of (trace_after p p.horizon) v) (arrival_of (trace_after p p.horizon) v)
  unfolding entries_of arrival_of route_of
  gone route there =
      let ms : List Move = moves_of v (trace_after p p.horizon) in
      let E : List Move = filter is_entry ms in
      let o : Option Move = find (λ m. not (is_entry m)) ms in
      let parts : ms ≡ E ++ option_to_list o = arrival_is_last p p.horizon v in
      let way : route_of p v ≡ link_numbers route = ap route_in there in
      let on : (i : ℕ) (m : Move) → slice_get (E ++ option_to_list o) i ≡ Some m → m.target ≡ target_at (slice_get (link_numbers route) i) =
      λ i m e. routes_are_followed p p.horizon v i m (ap (λ L. slice_get L i) parts ∙ e) ∙ ap (λ L. target_at (slice_get L i)) way in
      let a = is_along v route E o (filter_passes is_entry ms) (λ m e. found_fails ms m e) (subst (λ L. All (λ m. m.vehicle ≡ v) L) parts own) on in
      let es : List ℕ = map (λ m. m.step) E in
      let out : Option ℕ = step_in o in
      let within : length es ≤ length route = subst (λ n. n ≤ length route) (sym (length-map E (λ m. m.step))) a.within in
      let moves : ms ≡ moves_along v route es out = parts ∙ sym a.moves in
      let apart : Spaced p None (moves_along v route es out) = subst (Spaced p None) moves (moves_are_spaced p p.horizon v) in
      let early : All (λ s. s < p.horizon) es = all_steps p.horizon E (all_filter (λ m. m.step < p.horizon) is_entry ms below) in
      let steady = steady_of p sound in
      let spaced : (i : ℕ) → suc i < length es → slice_index es i + (link_at p (link_on route i)).free + penalty_steps (turn p (link_on route i) (link_on route (suc i))) ≤ slice_index es (suc i) =
      λ i h. spaced_at p None (moves_along v route es out) i _ _ apart (along_get v route es out i within (omega (arith, h))) (along_get v route es out (suc i) within h) in
      record {
        moves = moves;
        within = within;
        links = all_links (length p.net.links) route (subst (λ L. All (λ l. l < length p.net.links) L) way (steady.routes v));
        early = early;
        few = rising_few es p.horizon (λ i h. let x = spaced i h in let y = steady.free (link_on route i) in omega (arith, x, y)) (λ i h. early i 0 h);
        arrives = λ s e. let x = step_of o s e in subst (λ k. k < p.horizon) (x.2) (found_in (λ m. m.step < p.horizon) (λ m. not (is_entry m)) ms (x.0) below (x.1));
        spaced = spaced;
        ended = λ i s h e.
            let x : slice_get (moves_along v route es out) (suc i) ≡ out_in v (Some s) = along_end v route es out (suc i) within h ∙ ap (out_in v) e in
            let y : slice_index es i + (link_at p (link_on route i)).free + 0 ≤ s = spaced_at p None (moves_along v route es out) i _ _ apart (along_get v route es out i within (omega (arith, h))) x in
            omega (arith, y);
      }

  pub unrouted : slice_get p.routes v ≡ Some None → moves_of v (trace_after p p.horizon) ≡ []
  unfolding is_routed
  unrouted e = no-moves v (trace_after p p.horizon) (stays p v (ap some_route e))

pub gone_by : (p : Plan) → IsSound p → (v : ℕ) (loaded : List Journey) (route way : List LinkNo) (journey : Journey) (entries : List ℕ) → slice_get p.routes v ≡ Some (Some route) → way ≡ route → loaded ≡ journeys_of p → slice_get loaded v ≡ Some journey → entries ≡ journey.entries → HasGone p v way entries journey.arrival
unfolding journey_of
gone_by p sound v loaded route way journey entries there same is got e =
    let j : journey ≡ record { entries = entries_of (trace_after p p.horizon) v; arrival = arrival_of (trace_after p p.horizon) v } = journey_is p v journey (ap (λ L. slice_get L v) (sym is) ∙ got) in
    subst (λ w. HasGone p v w entries journey.arrival) (sym same)
    (subst (λ s. HasGone p v route s journey.arrival) (sym e)
    (subst (λ k. HasGone p v route k.entries k.arrival) (sym j) (gone p sound v route there)))
