-- What the laws use of a sound loading.
use Rattle.std.proofs.Common.{◌≡◌, ℕ, ◌<◌, ◌≤◌, List, length, refl, sym, subst, arith, Option, Some, None}
use Rattle.std.specs.Prelude.{All, slice_get}
use Rattle.std.proofs.lemmas.Option.{slice_get-get_or, get_or_from_slice_get, slice_get_within}
use Rattle.std.proofs.lemmas.List.Elements.{All-get_or, All-nil}
use Rattle.net_core.specs.Rows.{IsBetween, IsLinkInRange, link_in, no_link, or_no_link}
use Rattle.net_core.specs.declared.rows.LinkNo.{LinkNo}
use Rattle.net_core.specs.declared.rows.LinkRow.{LinkRow}
use Rattle.dta_model.specs.declared.plan.Plan.{Plan}
use Rattle.dta_model.specs.declared.trip.Trip.{Trip}
use Rattle.dta_model.specs.Plans.{link_at, route_in, route_of, departure_of, vehicle_count}
use Rattle.dta_model.specs.Sound.{IsSound}

-- each link takes a step at least, routes lead over links of the table, and links join nodes of the table
pub record IsSteady (p : Plan) : Type 0 where
  pub free : (l : ℕ) → 1 ≤ (link_at p l).free
  pub routes : (v : ℕ) → All (λ l. l < length p.net.links) (route_of p v)
  pub ends : (l : ℕ) → l < length p.net.links → ((link_at p l).from.0 < length p.net.nodes) × ((link_at p l).to.0 < length p.net.nodes)

-- what is true of each is true of the one at a place
pub all_at : {X : Type 0} (P : X → Type 0) (xs : List X) (i : ℕ) (x : X) → All P xs → slice_get xs i ≡ Some x → P x
all_at P xs i x all e = subst P (get_or_from_slice_get xs i x x e) (All-get_or P xs i x (slice_get_within xs i x e) all)

link_cases : (P : LinkRow → Type 0) (links : List LinkRow) (l : ℕ) → ((link : LinkRow) → slice_get links l ≡ Some link → P link) → P no_link → P (link_in links l)
unfolding link_in
link_cases P links l there absent = link_step (slice_get links l) refl
  where
    link_step : (o : Option LinkRow) → slice_get links l ≡ o → P (or_no_link o)
    link_step None e = absent
    link_step (Some link) e = there link e

link_there : (P : LinkRow → Type 0) (links : List LinkRow) (l : ℕ) → All P links → l < length links → P (link_in links l)
unfolding link_in
link_there P links l all h = let e = slice_get-get_or links l no_link h in subst (λ o. P (or_no_link o)) (sym e) (All-get_or P links l no_link h all)

pub some_trip : Trip
some_trip = record { number = 0; origin = 0; destination = 0; departure = 0 }

pub steady_of : (p : Plan) → IsSound p → IsSteady p
unfolding route_of
steady_of p sound = record {
  free = λ l. link_cases (λ link. 1 ≤ link.free) p.net.links l (λ link e. (all_at IsLinkInRange p.net.links l link sound.net.links.range e).moves) (omega arith);
  routes = λ v. route_step v (slice_get p.routes v) refl;
  ends = λ l h. let b = link_there (IsBetween p.net.nodes) p.net.links l sound.net.between h in (b.from, b.to);
}
  where
    route_step : (v : ℕ) (o : Option (Option (List LinkNo))) → slice_get p.routes v ≡ o → All (λ l. l < length p.net.links) (route_in o)
    route_step v None e = All-nil _
    route_step v (Some None) e = All-nil _
    route_step v (Some (Some route)) e =
        let h = slice_get_within p.routes v (Some route) e in
        let each = sound.each in
        (sound.walks v _ route (slice_get-get_or p.trips v some_trip (omega (arith, h, each))) e).links

-- departures don't fall from one vehicle to a later one
pub departures_rise : (p : Plan) → IsSound p → (u v : ℕ) → u ≤ v → v < vehicle_count p → departure_of p u ≤ departure_of p v
unfolding departure_of
departures_rise p sound u v l h =
    rw (slice_get-get_or p.trips u some_trip (omega (arith, l, h)), slice_get-get_or p.trips v some_trip h) (sound.rising u v some_trip l h)
