-- What is left in slots is what is left.
use Rattle.std.proofs.Common.{◌≡◌, ◌⊎◌, inl, inr, ℕ, suc, ◌+◌, ◌-◌, ◌*◌, ◌<◌, ◌≤◌, Bool, true, false, cond, min, List, [], ◌∷◌, length, ap, ◌∙◌, arith, get_or, subst, Some}
use Rattle.std.specs.Prelude.{slice_get, All}
use Rattle.std.proofs.lemmas.Bool.{cases_lt}
use Rattle.std.proofs.lemmas.Option.{slice_get_within, get_or_from_slice_get}
use Rattle.std.proofs.lemmas.Bool.Decides.{nat_tests}
use Rattle.dta_model.specs.LinkTimes.{TimeTable}
use Rattle.trip_costs.specs.WalkCosts.{AreSteps}
use Rattle.labels.specs.Filling.Labels.{far, most_left, rest_in}
use Rattle.labels.specs.Filling.Rows.{AreRows}
use Rattle.labels.specs.Filling.Tails.{widened, AreWithin, FitsBelow, IsPut, IsTail}
use Rattle.labels.specs.Filling.Rests.{span, over, least_over}
use Rattle.labels.specs.Reading.Serves.{AreLeft}
use Rattle.labels.specs.States.RouterWays.{is_own, onwards}
use Rattle.labels.specs.States.Spans.{AreShortAt}
use Rattle.labels.specs.Filling.FreeFlow.{still_least}
use Rattle.labels.specs.declared.states.onward.Onward.{Onward}
use Rattle.labels.specs.declared.states.router.Router.{Router}
use Rattle.labels.proofs.OfReading.Joined.{near}
use Rattle.labels.proofs.OfFilling.LeastOver.{least_over_le}
use Rattle.labels.proofs.Basics.{All_range}

-- from the horizon on, the least is the narrowed one of numbers that stand still
narrow_stands : (at : ℕ → ℕ → ℕ) (beyond : ℕ) (rest : ℕ → ℕ → ℕ) (free tail : List ℕ) (horizon count e : ℕ) → beyond ≤ far → horizon ≤ e
    → ((l f : ℕ) → horizon ≤ f → at l f ≡ get_or free l 0) → ((s f : ℕ) → s < count → horizon ≤ f → rest s f ≡ min (get_or tail s 0) beyond)
    → (ws : List Onward) → All (λ w. w.to < count) ws → least_over at beyond rest e ws ≡ min (still_least tail free ws) beyond
unfolding least_over over
narrow_stands at beyond rest free tail horizon count e low late times rests [] to = omega (arith, low)
narrow_stands at beyond rest free tail horizon count e low late times rests (w ∷ ws) to =
    let time : at w.link (e + w.wait) ≡ get_or free w.link 0 = times w.link (e + w.wait) (omega arith) in
    let left : rest w.to (e + (w.wait + at w.link (e + w.wait))) ≡ min (get_or tail w.to 0) beyond = rests w.to (e + (w.wait + at w.link (e + w.wait))) (to 0 w (omega arith)) (omega arith) in
    let ih = narrow_stands at beyond rest free tail horizon count e low late times rests ws (λ k d h. to (suc k) d (omega arith)) in
    omega (arith, low, time, left, ih)

wide_same : (beyond x : ℕ) → x < beyond → widened beyond x ≡ x
wide_same beyond x h = grind (arith, nat_tests)

wide_far : (beyond x : ℕ) → beyond ≤ x → widened beyond x ≡ far
wide_far beyond x h = grind (arith, nat_tests)

-- numbers that fit have their least there
widen_least : (at : ℕ → ℕ → ℕ) (beyond : ℕ) (rest : ℕ → ℕ → ℕ) (e : ℕ) → beyond ≤ far → (ws : List Onward) → All (λ w. rest w.to (e + span at e w) < beyond → rest w.to (e + span at e w) + span at e w < beyond) ws
    → widened beyond (least_over at beyond rest e ws) ≡ least_over at far (λ s f. widened beyond (rest s f)) e ws
unfolding least_over over
widen_least at beyond rest e low [] fits = wide_far beyond beyond (omega arith)
widen_least at beyond rest e low (w ∷ ws) fits = by (widen_least at beyond rest e low ws (λ k d h. fits (suc k) d (omega arith))) (least_over_le at far (λ s f. widened beyond (rest s f)) e ws) (cases_lt (rest w.to (e + span at e w)) beyond) (cases_lt (least_over at beyond rest e ws) beyond)
  where
    by : widened beyond (least_over at beyond rest e ws) ≡ least_over at far (λ s f. widened beyond (rest s f)) e ws → least_over at far (λ s f. widened beyond (rest s f)) e ws ≤ far
        → (rest w.to (e + span at e w) < beyond) ⊎ (beyond ≤ rest w.to (e + span at e w)) → (least_over at beyond rest e ws < beyond) ⊎ (beyond ≤ least_over at beyond rest e ws)
        → widened beyond (min (rest w.to (e + span at e w) + span at e w) (least_over at beyond rest e ws)) ≡ min (widened beyond (rest w.to (e + span at e w)) + span at e w) (least_over at far (λ s f. widened beyond (rest s f)) e ws)
    by ih at_most (inl h) (inl k) =
        let f : rest w.to (e + span at e w) + span at e w < beyond = fits 0 w (omega arith) h in
        let a = wide_same beyond (rest w.to (e + span at e w)) h in
        let b = wide_same beyond (least_over at beyond rest e ws) k in
        let c = wide_same beyond (min (rest w.to (e + span at e w) + span at e w) (least_over at beyond rest e ws)) (omega (arith, f)) in
        omega (arith, a, b, c, ih)
    by ih at_most (inl h) (inr k) =
        let f : rest w.to (e + span at e w) + span at e w < beyond = fits 0 w (omega arith) h in
        let a = wide_same beyond (rest w.to (e + span at e w)) h in
        let b = wide_far beyond (least_over at beyond rest e ws) k in
        let c = wide_same beyond (min (rest w.to (e + span at e w) + span at e w) (least_over at beyond rest e ws)) (omega (arith, f)) in
        omega (arith, a, b, c, f, k, ih, low)
    by ih at_most (inr h) (inl k) =
        let a = wide_far beyond (rest w.to (e + span at e w)) h in
        let b = wide_same beyond (least_over at beyond rest e ws) k in
        let c = wide_same beyond (min (rest w.to (e + span at e w) + span at e w) (least_over at beyond rest e ws)) (omega (arith, k)) in
        omega (arith, a, b, c, h, k, ih, low)
    by ih at_most (inr h) (inr k) =
        let a = wide_far beyond (rest w.to (e + span at e w)) h in
        let b = wide_far beyond (least_over at beyond rest e ws) k in
        let c = wide_far beyond (min (rest w.to (e + span at e w) + span at e w) (least_over at beyond rest e ws)) (omega (arith, h, k)) in
        omega (arith, a, b, c, h, k, ih, at_most)

either : (b : Bool) (x y : ℕ) → x ≡ cond b 0 y → cond b (x ≡ 0) (x ≡ y)
either true x y h = h
either false x y h = h

in_all : {X : Type 0} (P : X → Type 0) (xs : List X) (k : ℕ) (x : X) → slice_get xs k ≡ Some x → All P xs → P x
in_all P xs k x h all = subst P (get_or_from_slice_get xs k x x h) (all k x (slice_get_within xs k x h))

-- filled rows over a settled tail hold what is left
module _ (t : TimeTable) (at : ℕ → ℕ → ℕ) (r : Router) (zone most longest beyond : ℕ) (free old new tail : List ℕ) (low : beyond ≤ far)
    (sound : AreSteps t at) (links : length r.states.items ≡ length t.free) (frees : (l : ℕ) → get_or t.free l 0 ≡ get_or free l 0)
    (settled : IsTail free r zone most tail) (put : IsPut beyond old tail)
    (rows : AreRows at beyond (length r.zones.items) t.horizon old new r zone 0)
    (within : AreWithin at r longest) (fits : t.horizon + 2 * longest + most < beyond) (is_near : t.horizon + 2 * longest + most ≤ most_left) where
  abbrev rest : ℕ → ℕ → ℕ
  rest = rest_in (length r.zones.items) t.horizon new

  of_range : (P : Onward → Type 0) (s : ℕ) → s < length r.zones.items → All P r.ways.items → All P (onwards r s)
  of_range P s h all = let o = r.inside.order s h in All_range P r.ways.items (get_or r.starts.items s 0) (get_or r.starts.items (s + 1) 0) (o.0) (o.1) all

  late_rest : (s e : ℕ) → s < length r.zones.items → t.horizon ≤ e → rest_in (length r.zones.items) t.horizon new s e ≡ min (get_or tail s 0) beyond
  unfolding rest_in
  late_rest s e small late =
      let zero_back : t.horizon - e ≡ 0 = omega arith in
      let place : (t.horizon - e) * length r.zones.items + s ≡ s = rw zero_back (omega arith) in
      rw place (rows.tail s small ∙ put s (omega (arith, small, settled.as_many)))

  late_value : (s e : ℕ) (b : Bool) → s < length r.zones.items → t.horizon ≤ e → get_or tail s 0 ≡ cond b 0 (still_least tail free (onwards r s)) → rest_in (length r.zones.items) t.horizon new s e ≡ cond b 0 (least_over at beyond rest e (onwards r s))
  late_value s e true small late is = let l = late_rest s e small late in omega (arith, l, is)
  late_value s e false small late is =
      let l = late_rest s e small late in
      let n = narrow_stands at beyond rest free tail t.horizon (length r.zones.items) e low late (λ k f x. sound.late k f x ∙ frees k) (λ s f x y. late_rest s f x y) (onwards r s) (of_range (λ w. w.to < length r.zones.items) s small r.inside.to) in
      omega (arith, l, is, n)

  rests_of : (s e : ℕ) → s < length r.zones.items → cond (is_own r zone s) (rest s e ≡ 0) (rest s e ≡ least_over at beyond rest e (onwards r s))
  unfolding rest_in
  rests_of s e small = either (is_own r zone s) _ _ (by (cases_lt e t.horizon))
    where
      by : (e < t.horizon) ⊎ (t.horizon ≤ e) → rest_in (length r.zones.items) t.horizon new s e ≡ cond (is_own r zone s) 0 (least_over at beyond rest e (onwards r s))
      by (inl early) = rows.each s e small (omega arith) early
      by (inr late) = late_value s e (is_own r zone s) small late (settled.settled s (omega (arith, small, settled.as_many)))

  spans : (s k e : ℕ) (w : Onward) → s < length r.zones.items → slice_get (onwards r s) k ≡ Some w → (w.to < length r.zones.items) × (0 < span at e w) × (span at e w ≤ longest)
  spans s k e w h g =
      let to = in_all (λ x. x.to < length r.zones.items) (onwards r s) k w g (of_range (λ x. x.to < length r.zones.items) s h r.inside.to) in
      let link = in_all (λ x. x.link < length r.states.items) (onwards r s) k w g (of_range (λ x. x.link < length r.states.items) s h r.inside.link) in
      let least = sound.least w.link (e + w.wait) (omega (arith, link, links)) in
      let most = in_all (λ x. span at e x ≤ longest) (onwards r s) k w g (of_range (λ x. span at e x ≤ longest) s h (within e)) in
      (to, omega (arith, least), most)

  late_near : (s e : ℕ) → s < length r.zones.items → t.horizon ≤ e → rest s e < beyond → rest s e ≤ most
  late_near s e small late below =
      let l = late_rest s e small late in
      let n = settled.near s (omega (arith, small, settled.as_many)) (omega (arith, l, below, low)) in
      omega (arith, l, below, n)

  near_all : (s e : ℕ) → s < length r.zones.items → rest s e < beyond → rest s e ≤ t.horizon + longest + most
  near_all = near at beyond t.horizon longest most (length r.zones.items) (is_own r zone) (onwards r) rest rests_of spans late_near

  fit_all : (s e : ℕ) → s < length r.zones.items → All (λ w. rest w.to (e + span at e w) < beyond → rest w.to (e + span at e w) + span at e w < beyond) (onwards r s)
  fit_all s e small k d h below =
      let to = of_range (λ x. x.to < length r.zones.items) s small r.inside.to k d h in
      let sp = of_range (λ x. span at e x ≤ longest) s small (within e) k d h in
      let n = near_all _ _ to below in
      omega (arith, sp, n, fits)

  wide_left : (s e : ℕ) (b : Bool) → s < length r.zones.items → cond b (rest s e ≡ 0) (rest s e ≡ least_over at beyond rest e (onwards r s)) → cond b (widened beyond (rest s e) ≡ 0) (widened beyond (rest s e) ≡ least_over at far (λ s f. widened beyond (rest s f)) e (onwards r s))
  wide_left s e true small is = let w = wide_same beyond (rest s e) (omega (arith, is, fits)) in omega (arith, w, is)
  wide_left s e false small is = ap (λ x. widened beyond x) is ∙ widen_least at beyond rest e low (onwards r s) (fit_all s e small)

  wide_near : (s e : ℕ) → s < length r.zones.items → widened beyond (rest s e) < far → widened beyond (rest s e) ≤ most_left
  wide_near s e small below = by (cases_lt (rest s e) beyond)
    where
      by : (rest s e < beyond) ⊎ (beyond ≤ rest s e) → widened beyond (rest s e) ≤ most_left
      by (inl h) =
          let w = wide_same beyond (rest s e) h in
          let n = near_all s e small h in
          omega (arith, w, n, is_near)
      by (inr h) = let w = wide_far beyond (rest s e) h in absurd (omega (arith, w, below))

  pub rows_left : AreLeft at (λ s e. widened beyond (rest_in (length r.zones.items) t.horizon new s e)) r zone
  rows_left = record { left = λ s e small. wide_left s e (is_own r zone s) small (rests_of s e small); near = wide_near }

-- spans are within the greatest penalty and the greatest time
pub spans_within : (t : TimeTable) (at : ℕ → ℕ → ℕ) (r : Router) (wait time : ℕ) → length r.states.items ≡ length t.free → All (λ w. w.wait ≤ wait) r.ways.items → ((l e : ℕ) → l < length t.free → at l e ≤ time) → AreWithin at r (wait + time)
spans_within t at r wait time links waits times e k d h =
    let w = get_or r.ways.items k d in
    let a = waits k d h in
    let b = times w.link (e + w.wait) (let x = r.inside.link k d h in omega (arith, x, links)) in
    omega (arith, a, b)

-- and short where all fits
pub spans_short_at : (t : TimeTable) (at : ℕ → ℕ → ℕ) (r : Router) (most beyond : ℕ) → AreSteps t at → length r.states.items ≡ length t.free → FitsBelow at t.horizon r most beyond → (e : ℕ) → AreShortAt at beyond e r.ways.items
spans_short_at t at r most beyond sound links fits e k d h =
    let w = get_or r.ways.items k d in
    let a = sound.least w.link (e + w.wait) (let x = r.inside.link k d h in omega (arith, x, links)) in
    let b = fits.within e k d h in
    let c = fits.fits in
    (omega (arith, a), omega (arith, b, c))
