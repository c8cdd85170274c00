-- The steps that a visit takes, as the entries of a vehicle tell them.
use Rattle.std.specs.Prelude.{slice_get, slice_index, max}
use Rattle.std.proofs.Common.{◌≡◌, ℕ, suc, ◌-◌, ◌<◌, ◌≤◌, List, length, ap, sym, ◌∙◌, subst, arith, get_or, Some, Option, None}
use Rattle.std.proofs.lemmas.List.{get_or-map}
use Rattle.net_core.specs.Rows.{IsLinkInRange}
use Rattle.net_core.specs.declared.rows.LinkNo.{LinkNo}
use Rattle.net_core.specs.declared.rows.LinkRow.{LinkRow}
use Rattle.dta_model.specs.declared.loading.TheConstants.{MOST_HORIZON}
use Rattle.dta_model.specs.declared.plan.Plan.{Plan}
use Rattle.dta_model.specs.LinkTimes.{visit_time}
use Rattle.dta_model.specs.TimedWalks.{penalty_steps}
use Rattle.dta_model.specs.Plans.{link_at, turn}
use Rattle.dta_model.specs.Sound.{IsSound}
use Rattle.dta_model.proofs.Steady.{all_at, steady_of}
use Rattle.net_core.specs.Rows.{link_in, or_no_link}
use Rattle.link_times.specs.Journeys.{HasGone, link_on, moves_along}
use Rattle.link_times.proofs.Along.{along_end, along_get, out_in}

pub on_route : (route : List LinkNo) (i : ℕ) (d : LinkNo) → i < length route → (get_or route i d).0 ≡ link_on route i
on_route route i d h = sym (get_or-map (λ l. l.0) route i d 0 h)

module _ (p : Plan) (v : ℕ) (route : List LinkNo) (entries : List ℕ) (arrival : Option ℕ) (i : ℕ) (gone : HasGone p v route entries arrival) where
  -- a visit that ends by the next entry
  pub onto_is : (x : ℕ) (d e : LinkNo) → suc i < length entries → x ≡ penalty_steps (turn p (get_or route i d).0 (get_or route (suc i) e).0)
      → (slice_index entries (suc i) - slice_index entries i - x ≡ visit_time p (link_on route i) (slice_index entries i) (slice_get (moves_along v route entries arrival) (suc i)))
      × (1 ≤ (link_at p (link_on route i)).free → 1 ≤ slice_index entries (suc i) - slice_index entries i - x)
  onto_is x d e h q =
      let w = gone.within in
      let same : x ≡ penalty_steps (turn p (link_on route i) (link_on route (suc i))) =
      q ∙ ap (λ l. penalty_steps (turn p l (get_or route (suc i) e).0)) (on_route route i d (omega (arith, w, h))) ∙ ap (λ l. penalty_steps (turn p (link_on route i) l)) (on_route route (suc i) e (omega (arith, w, h))) in
      let s = gone.spaced i h in (
        ap (λ y. slice_index entries (suc i) - slice_index entries i - y) same ∙ ap (visit_time p (link_on route i) (slice_index entries i)) (sym (along_get v route entries arrival (suc i) w h)),
        λ least. omega (arith, same, s, least),
      )

  pub onto_at : (x n : ℕ) (d e : LinkNo) → n ≡ suc i → n < length entries → x ≡ penalty_steps (turn p (get_or route i d).0 (get_or route n e).0)
      → (slice_index entries n - slice_index entries i - x ≡ visit_time p (link_on route i) (slice_index entries i) (slice_get (moves_along v route entries arrival) (suc i)))
      × (1 ≤ (link_at p (link_on route i)).free → 1 ≤ slice_index entries n - slice_index entries i - x)
  onto_at x n d e en h q =
      subst (λ k. k < length entries → x ≡ penalty_steps (turn p (get_or route i d).0 (get_or route k e).0)
      → (slice_index entries k - slice_index entries i - x ≡ visit_time p (link_on route i) (slice_index entries i) (slice_get (moves_along v route entries arrival) (suc i)))
      × (1 ≤ (link_at p (link_on route i)).free → 1 ≤ slice_index entries k - slice_index entries i - x)) (sym en) (onto_is x d e) h q

  -- one that ends by the arrival
  pub out_is : (s : ℕ) → i < length entries → length entries ≤ suc i → arrival ≡ Some s
      → (s - slice_index entries i ≡ visit_time p (link_on route i) (slice_index entries i) (slice_get (moves_along v route entries arrival) (suc i)))
      × (1 ≤ (link_at p (link_on route i)).free → 1 ≤ s - slice_index entries i)
  out_is s h past e =
      let last : suc i ≡ length entries = omega (arith, h, past) in
      let t = gone.ended i s last e in
      let x : slice_get (moves_along v route entries arrival) (suc i) ≡ out_in v (Some s) = along_end v route entries arrival (suc i) (gone.within) last ∙ ap (out_in v) e in
      let y : s - slice_index entries i ≡ s - slice_index entries i - 0 = omega arith in
      (y ∙ ap (visit_time p (link_on route i) (slice_index entries i)) (sym x), λ least. omega (arith, t, least))

  -- one that hasn't ended
  pub left_is : (row : LinkRow) (d : LinkNo) (x : ℕ) → i < length entries → length entries ≤ suc i → arrival ≡ None → slice_get p.net.links (get_or route i d).0 ≡ Some row → x ≡ max row.free (p.horizon - slice_index entries i)
      → x ≡ visit_time p (link_on route i) (slice_index entries i) (slice_get (moves_along v route entries arrival) (suc i))
  unfolding link_in
  left_is row d x h past e there q =
      let w = gone.within in
      let last : suc i ≡ length entries = omega (arith, h, past) in
      let never : slice_get (moves_along v route entries arrival) (suc i) ≡ None = along_end v route entries arrival (suc i) w last ∙ ap (out_in v) e in
      let free : row.free ≡ (link_at p (link_on route i)).free =
      sym (ap (λ o. (or_no_link o).free) there) ∙ ap (λ l. (link_at p l).free) (on_route route i d (omega (arith, w, h))) in
      q ∙ ap (λ f. max f (p.horizon - slice_index entries i)) free ∙ ap (visit_time p (link_on route i) (slice_index entries i)) (sym never)

pub free_least : (p : Plan) → IsSound p → (l : ℕ) → 1 ≤ (link_at p l).free
free_least p sound l = (steady_of p sound).free l

pub row_short : (p : Plan) (l : ℕ) (row : LinkRow) → IsSound p → slice_get p.net.links l ≡ Some row → row.free ≤ MOST_HORIZON
row_short p l row sound e = let x = (all_at IsLinkInRange p.net.links l row sound.net.links.range e).free in omega (arith, x)
