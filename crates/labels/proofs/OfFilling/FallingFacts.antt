-- What is left falls to what it ought to be, state by state.
use Rattle.std.proofs.Common.{◌≡◌, ℕ, zero, suc, ◌+◌, ◌*◌, ◌^◌, ◌<◌, ◌≤◌, Bool, true, false, cond, List, [], ◌∷◌, length, refl, ap, sym, ◌∙◌, subst, arith, get_or, ◌⊎◌, inl, inr, Some, nat_eq}
use Rattle.std.specs.Prelude.{◌≢◌, All, replicate, slice_get, slice_set, sum, Contains, IsPermutation}
use Rattle.std.specs.declared.cmp.Reverse.{Reverse}
use Rattle.std.proofs.Math.Dec.{eqb}
use Rattle.std.proofs.lemmas.Grind.{get_or-set_at}
use Rattle.std.proofs.lemmas.Bool.{cases_lt}
use Rattle.std.proofs.lemmas.Bool.Decides.{eqb_tells, nat_tests}
use Rattle.std.proofs.lemmas.List.{get_or-replicate, length-replicate, get_or-set_other, get_or_past, length-set}
use Rattle.std.proofs.lemmas.List.Elements.{All-set, All-cons, All-tail}
use Rattle.std.proofs.lemmas.List.Sorted.{All-permutation, Contains-permutation, length_permutation}
use Rattle.std.proofs.lemmas.Option.{same_Some, slice_get_within}
use Rattle.labels.specs.Filling.Falling.{waiting, Waits, IsEased, IsFalling, mark_of, IsLowered, work}
use Rattle.labels.specs.Filling.FreeFlow.{still, still_least, value, AreSettled, known}
use Rattle.labels.specs.Filling.Labels.{most_span, far}
use Rattle.labels.specs.Filling.Rests.{over, least_over}
use Rattle.labels.specs.Filling.WaysBack.{AreWaysBack, HoldAllTo, IsWayBack, still_span}
use Rattle.labels.specs.States.RouterWays.{is_own, onwards}
use Rattle.labels.specs.declared.filling.free_flow.Reached.{Reached}
use Rattle.labels.specs.declared.filling.ways_back.WayBack.{WayBack}
use Rattle.labels.specs.declared.states.onward.Onward.{Onward}
use Rattle.labels.specs.declared.states.router.Router.{Router}
use Rattle.labels.proofs.Basics.{equal_of}
use Rattle.labels.proofs.OfFilling.FreeFlowFacts.{AreAbove_set, AreShort_set, set_lower, start_above, start_low, start_short, sum_set_less}
use Rattle.labels.proofs.OfFilling.LeastOver.{least_le}

-- what is contained in a list with one more in front is that or stands behind it
contains_cons : (xs : List (Reverse Reached)) (x y : Reverse Reached) → Contains (x ∷ xs) y → (x ≡ y) ⊎ Contains xs y
contains_cons xs x y c = by (c.0) (c.1) (c.2)
  where
    by : (k : ℕ) → k < length (x ∷ xs) → get_or (x ∷ xs) k y ≡ y → (x ≡ y) ⊎ Contains xs y
    by zero h e = inl e
    by (suc k) h e = inr (k, omega (arith, h), e)

contains_head : (xs : List (Reverse Reached)) (x : Reverse Reached) → Contains (x ∷ xs) x
contains_head xs x = (zero, omega arith, refl)

contains_more : (xs : List (Reverse Reached)) (x y : Reverse Reached) → Contains xs y → Contains (x ∷ xs) y
contains_more xs x y c = (suc (c.0), (let h = c.1 in omega (arith, h)), c.2)

-- more ways on, and what is at most each of them is at most the least
least_above : (tail free : List ℕ) (ws : List Onward) (x : ℕ) → x ≤ far → ((k : ℕ) (w : Onward) → slice_get ws k ≡ Some w → x ≤ get_or tail w.to 0 + still_span free w) → x ≤ still_least tail free ws
unfolding least_over over
least_above tail free [] x low each = low
least_above tail free (w ∷ ws) x low each =
    let here = each zero w refl in
    let rest = least_above tail free ws x low (λ k v e. each (suc k) v e) in
    omega (arith, here, rest)

-- what is left is at most what it takes over a way on
over_way : (tail free : List ℕ) (ws : List Onward) (k : ℕ) (w : Onward) → slice_get ws k ≡ Some w → still_least tail free ws ≤ get_or tail w.to 0 + still_span free w
unfolding over
over_way tail free ws k w e = least_le (still free) far (still tail) 0 ws k w e

-- also past the end of a list nothing is above what stands for no walk
low_everywhere : (tail : List ℕ) → All (λ x. x ≤ far) tail → (s : ℕ) → get_or tail s 0 ≤ far
low_everywhere tail low s = by (cases_lt s (length tail))
  where
    by : (s < length tail) ⊎ (length tail ≤ s) → get_or tail s 0 ≤ far
    by (inl h) = low s 0 h
    by (inr h) = let e = get_or_past tail s 0 h in omega (arith, e)

module _ (r : Router) (free : List ℕ) (zone : ℕ) (backs : List WayBack) where
  -- before the first state
  pub IsFalling_start : (lasts : List ℕ) → AreWaysBack r free backs lasts (length r.zones.items) 0 → IsFalling r free zone backs [] (replicate (length r.zones.items) far) 0 0 0
  IsFalling_start lasts ways = record {
    above = start_above free r zone (length r.zones.items);
    short = start_short (length r.zones.items);
    low = start_low (length r.zones.items);
    many = length-replicate (length r.zones.items) far;
    inside = λ k d h. absurd (omega (arith, h));
    at_zone = λ s h own. absurd (omega (arith, h));
    eased = λ k b e. inl (eased_at k b e);
  }
    where
      n : ℕ
      n = length r.zones.items

      eased_at : (k : ℕ) (b : WayBack) → slice_get backs k ≡ Some b → IsEased (replicate (length r.zones.items) far) b
      eased_at k b e =
          let w = ways.sound k b e in
          let f = get_or-replicate (length r.zones.items) b.from far 0 (w.from_inside) in
          let t = get_or-replicate (length r.zones.items) b.to far 0 (w.to_inside) in
          omega (arith, f, t)

  -- what is left from a state is lowered, and the state waits
  IsFalling_fall : (heap after : List (Reverse Reached)) (tail new : List ℕ) (begun seen mark s v : ℕ) → s < length tail → v < get_or tail s 0 → value free r zone tail s ≤ v → v ≤ known tail * most_span + most_span
      → new ≡ slice_set tail s v → IsPermutation (waiting v s ∷ heap) after
      → IsFalling r free zone backs heap tail begun seen mark → IsFalling r free zone backs after new begun seen mark
  IsFalling_fall heap after tail new begun seen mark s v within less ought most set joined f =
      subst (λ l. IsFalling r free zone backs after l begun seen mark) (sym set) (record {
        above = AreAbove_set free r zone tail s v ought within less f.above;
        short = AreShort_set tail s v within less f.low most f.short;
        low = All-set (λ x. x ≤ far) tail s v (let l = f.low s 0 within in omega (arith, l, less)) f.low;
        many = length-set tail s v ∙ f.many;
        inside = All-permutation (λ x. x.0.state < length (slice_set tail s v)) _ _ joined
            (All-cons (λ x. x.0.state < length (slice_set tail s v)) (waiting v s) heap (let n = length-set tail s v in omega (arith, n, within)) (λ k d h. let n = length-set tail s v in let i = f.inside k d h in omega (arith, n, i)));
        at_zone = λ t h own. (let l = set_lower tail s v less t in let z = f.at_zone t h own in omega (arith, l, z));
        eased = λ k b e. eased_at k b (eqb_tells b.to s) (f.eased k b e);
      })
    where
      lowered : List ℕ
      lowered = slice_set tail s v

      eased_at : (k : ℕ) (b : WayBack) → ((eqb b.to s ≡ true) × (b.to ≡ s)) ⊎ ((eqb b.to s ≡ false) × (b.to ≢ s)) → IsEased tail b ⊎ Waits heap tail b.to ⊎ ((b.to ≡ seen) × (k < mark))
          → IsEased (slice_set tail s v) b ⊎ Waits after (slice_set tail s v) b.to ⊎ ((b.to ≡ seen) × (k < mark))
      eased_at k b (inl (t, same)) old =
          let here : get_or (slice_set tail s v) b.to 0 ≡ v = get_or-set_at tail s b.to v 0 same within in
          let is : waiting v s ≡ waiting (get_or (slice_set tail s v) b.to 0) b.to = ap (λ n. waiting n s) (sym here) ∙ ap (λ n. waiting (get_or (slice_set tail s v) b.to 0) n) (sym same) in
          inr (inl (subst (λ x. Contains after x) is (Contains-permutation _ _ (waiting v s) joined (contains_head heap (waiting v s)))))
      eased_at k b (inr (t, other)) (inl eased) =
          let here : get_or (slice_set tail s v) b.to 0 ≡ get_or tail b.to 0 = get_or-set_other tail s b.to v 0 other in
          let from = set_lower tail s v less b.from in
          inl (omega (arith, here, from, eased))
      eased_at k b (inr (t, other)) (inr (inl waits)) =
          let here : get_or (slice_set tail s v) b.to 0 ≡ get_or tail b.to 0 = get_or-set_other tail s b.to v 0 other in
          inr (inl (subst (λ n. Contains after (waiting n b.to)) (sym here) (Contains-permutation _ _ (waiting (get_or tail b.to 0) b.to) joined (contains_more heap (waiting v s) (waiting (get_or tail b.to 0) b.to) waits))))
      eased_at k b (inr (t, other)) (inr (inr seen_there)) = inr (inr seen_there)

  -- the same by what a lowering does, also where nothing falls
  pub IsFalling_lower : (heap after : List (Reverse Reached)) (tail new : List ℕ) (begun seen mark s v : ℕ) → s < length tail → value free r zone tail s ≤ v → (v < get_or tail s 0 → v ≤ known tail * most_span + most_span)
      → IsLowered tail heap s v new after → IsFalling r free zone backs heap tail begun seen mark
      → IsFalling r free zone backs after new begun seen mark × (get_or new s 0 ≤ v) × (work after new ≤ work heap tail)
  IsFalling_lower heap after tail new begun seen mark s v within ought most lowered f = by (cases_lt v (get_or tail s 0))
    where
      by : (v < get_or tail s 0) ⊎ (get_or tail s 0 ≤ v) → IsFalling r free zone backs after new begun seen mark × (get_or new s 0 ≤ v) × (work after new ≤ work heap tail)
      by (inl less) =
          let l = lowered.falls less in
          let at = ap (λ (xs : List ℕ). get_or xs s 0) (l.0) ∙ get_or-set_at tail s s v 0 refl within in
          let fell = sum_set_less tail s v within less in
          let total = ap (λ (xs : List ℕ). sum xs) (l.0) in
          let longer = length_permutation (waiting v s ∷ heap) after (l.1) in (
            IsFalling_fall heap after tail new begun seen mark s v within less ought (most less) (l.0) (l.1) f,
            omega (arith, at),
            omega (arith, fell, total, longer),
          )
      by (inr low) =
          let l = lowered.stays low in
          let at = ap (λ (xs : List ℕ). get_or xs s 0) (l.0) in
          let total = ap (λ (xs : List ℕ). sum xs) (l.0) in
          let long = ap (λ (xs : List (Reverse Reached)). length xs) (l.1) in (
            subst (λ xs. IsFalling r free zone backs after xs begun seen mark) (sym (l.0)) (subst (λ h. IsFalling r free zone backs h tail begun seen mark) (sym (l.1)) f),
            omega (arith, at, low),
            omega (arith, total, long),
          )

  -- one more state, that isn't in the zone or from which nothing is left
  pub IsFalling_next : (heap : List (Reverse Reached)) (tail : List ℕ) (state : ℕ) → (is_own r zone state ≡ true → get_or tail state 0 ≡ 0) → IsFalling r free zone backs heap tail state 0 0 → IsFalling r free zone backs heap tail (state + 1) 0 0
  IsFalling_next heap tail state here f = record { above = f.above; short = f.short; low = f.low; many = f.many; inside = f.inside; at_zone = zone_at; eased = f.eased }
    where
      zone_at : (s : ℕ) → s < state + 1 → is_own r zone s ≡ true → get_or tail s 0 ≡ 0
      zone_at s h own = by (cases_lt s state)
        where
          by : (s < state) ⊎ (state ≤ s) → get_or tail s 0 ≡ 0
          by (inl early) = f.at_zone s early own
          by (inr late) = let same : s ≡ state = omega (arith, h, late) in ap (λ n. get_or tail n 0) same ∙ here (subst (λ n. is_own r zone n ≡ true) same own)

  module _ (lasts : List ℕ) (ways : AreWaysBack r free backs lasts (length r.zones.items) 0) where
    -- a state no longer waits, and is looked at
    pub IsFalling_pop : (heap rest : List (Reverse Reached)) (first : Reverse Reached) (tail : List ℕ) (begun seen : ℕ) → IsPermutation heap (first ∷ rest) → IsFalling r free zone backs heap tail begun seen 0
        → (first.0.state < length tail) × IsFalling r free zone backs rest tail begun first.0.state (mark_of lasts tail first.0) × (work rest tail + 1 ≤ work heap tail)
    IsFalling_pop heap rest first tail begun seen taken f = (
      all 0 first (omega arith),
      record {
        above = f.above;
        short = f.short;
        low = f.low;
        many = f.many;
        inside = All-tail (λ x. x.0.state < length tail) first rest all;
        at_zone = f.at_zone;
        eased = λ k b e. eased_at k b e (f.eased k b e);
      },
      (let n = length_permutation heap (first ∷ rest) taken in omega (arith, n)),
    )
      where
        all : All (λ x. x.0.state < length tail) (first ∷ rest)
        all = All-permutation (λ x. x.0.state < length tail) _ _ taken f.inside

        eased_at : (k : ℕ) (b : WayBack) → slice_get backs k ≡ Some b → IsEased tail b ⊎ Waits heap tail b.to ⊎ ((b.to ≡ seen) × (k < 0))
            → IsEased tail b ⊎ Waits rest tail b.to ⊎ ((b.to ≡ first.0.state) × (k < mark_of lasts tail first.0))
        eased_at k b e (inl eased) = inl eased
        eased_at k b e (inr (inr none)) = absurd (let h = none.1 in omega (arith, h))
        eased_at k b e (inr (inl waits)) = by (contains_cons rest first (waiting (get_or tail b.to 0) b.to) (Contains-permutation _ _ (waiting (get_or tail b.to 0) b.to) taken waits))
          where
            by : (first ≡ waiting (get_or tail b.to 0) b.to) ⊎ Contains rest (waiting (get_or tail b.to 0) b.to) → IsEased tail b ⊎ Waits rest tail b.to ⊎ ((b.to ≡ first.0.state) × (k < mark_of lasts tail first.0))
            by (inr later) = inr (inl later)
            by (inl here) =
                let left : first.0.left ≡ get_or tail b.to 0 = ap (λ (x : Reverse Reached). x.0.left) here in
                let state : first.0.state ≡ b.to = ap (λ (x : Reverse Reached). x.0.state) here in
                let test : nat_eq first.0.left (get_or tail first.0.state 0) ≡ true = (let same : get_or tail first.0.state 0 ≡ get_or tail b.to 0 = ap (λ n. get_or tail n 0) state in grind (arith, nat_tests)) in
                let w = ways.sound k b e in
                let inside : b.to < length lasts = (let t = w.to_inside in let m = ways.many in omega (arith, t, m)) in
                let h = ways.ended b.to inside in
                let early : k < get_or lasts b.to 0 = h.all k b (slice_get_within backs k b e) e refl in
                let mark : mark_of lasts tail first.0 ≡ get_or lasts b.to 0 = ap (λ t. cond t (get_or lasts first.0.state 0) 0) test ∙ ap (λ n. get_or lasts n 0) state in
                inr (inr (sym state, omega (arith, early, mark)))

    -- where ways are looked at, no less is left from the state than when it waited; the last of
    -- the ways leads to it
    pub look_start : (tail : List ℕ) (x : Reached) (mark : ℕ) → mark ≡ mark_of lasts tail x → x.state < length lasts
        → (0 < mark → get_or tail x.state 0 ≡ x.left) × (mark ≤ length backs) × ((k : ℕ) (b : WayBack) → k + 1 ≡ mark → slice_get backs k ≡ Some b → b.to ≡ x.state)
    look_start tail x mark is within = by (nat_eq x.left (get_or tail x.state 0)) refl
      where
        h : HoldAllTo backs (length backs) x.state (get_or lasts x.state 0)
        h = ways.ended x.state within

        by : (t : Bool) → nat_eq x.left (get_or tail x.state 0) ≡ t → (0 < mark → get_or tail x.state 0 ≡ x.left) × (mark ≤ length backs) × ((k : ℕ) (b : WayBack) → k + 1 ≡ mark → slice_get backs k ≡ Some b → b.to ≡ x.state)
        by true e =
            let all : mark ≡ get_or lasts x.state 0 = is ∙ ap (λ t. cond t (get_or lasts x.state 0) 0) e in
            (λ some. sym (equal_of x.left (get_or tail x.state 0) e), (let i = h.within in omega (arith, i, all)), λ k b at stands. h.last k b (at ∙ all) stands)
        by false e =
            let none : mark ≡ 0 = is ∙ ap (λ t. cond t (get_or lasts x.state 0) 0) e in
            (λ some. absurd (omega (arith, some, none)), omega (arith, none), λ k b at stands. absurd (omega (arith, at, none)))

    -- from where a way to a state begins, no more ought to be left than over that way
    pub ought_over : (tail : List ℕ) (k : ℕ) (b : WayBack) → slice_get backs k ≡ Some b → value free r zone tail b.from ≤ get_or tail b.to 0 + b.span
    ought_over tail k b e = by (is_own r zone b.from)
      where
        w : IsWayBack r free b
        w = ways.sound k b e

        by : (own : Bool) → cond own 0 (still_least tail free (onwards r b.from)) ≤ get_or tail b.to 0 + b.span
        by true = omega arith
        by false =
            let o = over_way tail free (onwards r b.from) w.place w.way w.stands in
            let there : get_or tail b.to 0 ≡ get_or tail w.way.to 0 = ap (λ n. get_or tail n 0) w.leads in
            let span = w.takes in
            omega (arith, o, there, span)

    -- all ways but those before the last one that was looked at are eased
    pub IsFalling_eased : (heap : List (Reverse Reached)) (tail : List ℕ) (begun seen mark k : ℕ) (b : WayBack) → k + 1 ≡ mark → slice_get backs k ≡ Some b → b.to ≡ seen → get_or tail b.from 0 ≤ get_or tail seen 0 + b.span
        → IsFalling r free zone backs heap tail begun seen mark → IsFalling r free zone backs heap tail begun seen b.before
    IsFalling_eased heap tail begun seen mark k b place stands leads eased f = record { above = f.above; short = f.short; low = f.low; many = f.many; inside = f.inside; at_zone = f.at_zone; eased = λ i x e. eased_at i x e (f.eased i x e) }
      where
        eased_at : (i : ℕ) (x : WayBack) → slice_get backs i ≡ Some x → IsEased tail x ⊎ Waits heap tail x.to ⊎ ((x.to ≡ seen) × (i < mark)) → IsEased tail x ⊎ Waits heap tail x.to ⊎ ((x.to ≡ seen) × (i < b.before))
        eased_at i x e (inl done) = inl done
        eased_at i x e (inr (inl waits)) = inr (inl waits)
        eased_at i x e (inr (inr (to, early))) = by (cases_lt i k)
          where
            by : (i < k) ⊎ (k ≤ i) → IsEased tail x ⊎ Waits heap tail x.to ⊎ ((x.to ≡ seen) × (i < b.before))
            by (inl less) = let h = ways.chained k b stands in inr (inr (to, h.all i x less e (to ∙ sym leads)))
            by (inr more) =
                let at : i ≡ k = omega (arith, early, place, more) in
                let same : x ≡ b = same_Some x b (sym e ∙ ap (λ n. slice_get backs n) at ∙ stands) in
                let there : get_or tail b.to 0 ≡ get_or tail seen 0 = ap (λ n. get_or tail n 0) leads in
                inl (subst (λ (y : WayBack). IsEased tail y) (sym same) (omega (arith, eased, there)))

    -- where no state waits, everything is what it ought to be
    pub IsFalling_done : (heap : List (Reverse Reached)) (tail : List ℕ) (seen : ℕ) → length heap ≡ 0 → IsFalling r free zone backs heap tail (length r.zones.items) seen 0 → AreSettled free r zone tail
    IsFalling_done heap tail seen none f s within = by (is_own r zone s) refl
      where
        small : s < length r.zones.items
        small = let m = f.many in omega (arith, within, m)

        eased_at : (k : ℕ) (b : WayBack) → IsEased tail b ⊎ Waits heap tail b.to ⊎ ((b.to ≡ seen) × (k < 0)) → IsEased tail b
        eased_at k b (inl done) = done
        eased_at k b (inr (inl waits)) = absurd (let h = waits.1 in omega (arith, h, none))
        eased_at k b (inr (inr before)) = absurd (let h = before.1 in omega (arith, h))

        over_each : (k : ℕ) (w : Onward) → slice_get (onwards r s) k ≡ Some w → get_or tail s 0 ≤ get_or tail w.to 0 + still_span free w
        over_each k w e =
            let t = ways.told s k w (inl small) e in
            let b = t.back in
            let eased : get_or tail b.from 0 ≤ get_or tail b.to 0 + b.span = eased_at t.place b (f.eased t.place b t.stands) in
            let from : get_or tail b.from 0 ≡ get_or tail s 0 = ap (λ n. get_or tail n 0) t.leaves in
            let to : get_or tail b.to 0 ≡ get_or tail w.to 0 = ap (λ n. get_or tail n 0) t.leads in
            let span = t.takes in
            omega (arith, eased, from, to, span)

        by : (own : Bool) → is_own r zone s ≡ own → get_or tail s 0 ≡ value free r zone tail s
        by true e = f.at_zone s small e ∙ sym (ap (λ t. cond t 0 (still_least tail free (onwards r s))) e)
        by false e =
            let above = f.above s within in
            let low = f.low s 0 within in
            let least = least_above tail free (onwards r s) (get_or tail s 0) low over_each in
            let is : value free r zone tail s ≡ still_least tail free (onwards r s) = ap (λ t. cond t 0 (still_least tail free (onwards r s))) e in
            omega (arith, above, least, is)

    -- there is room for what it takes over a way, and where it begins is a state
    pub look_room : (heap : List (Reverse Reached)) (tail : List ℕ) (begun seen mark k : ℕ) (b : WayBack) (left : ℕ) → slice_get backs k ≡ Some b → get_or tail seen 0 ≡ left → IsFalling r free zone backs heap tail begun seen mark → (b.from < length tail) × (left + b.span < 2 ^ 64)
    look_room heap tail begun seen mark k b left stands here f =
        let w = ways.sound k b stands in
        let from = w.from_inside in
        let short = w.short in
        let m = f.many in
        let low = low_everywhere tail f.low seen in
        (omega (arith, from, m), omega (arith, low, short, here))

    -- a way is looked at: what is left where it begins is lowered to what it takes over the way
    pub look_step : (heap after : List (Reverse Reached)) (tail new : List ℕ) (begun seen left mark k : ℕ) (b : WayBack) → k + 1 ≡ mark → slice_get backs k ≡ Some b → b.to ≡ seen → seen < length tail → get_or tail seen 0 ≡ left
        → IsLowered tail heap b.from (left + b.span) new after → IsFalling r free zone backs heap tail begun seen mark
        → IsFalling r free zone backs after new begun seen b.before × (get_or new seen 0 ≡ left) × (work after new ≤ work heap tail) × HoldAllTo backs k seen b.before
    look_step heap after tail new begun seen left mark k b place stands leads within here lowered f =
        (IsFalling_eased after new begun seen mark k b place stands leads (let x = low.1 in omega (arith, x, same)) low.0, same, low.2, subst (λ n. HoldAllTo backs k n b.before) leads (ways.chained k b stands))
      where
        w : IsWayBack r free b
        w = ways.sound k b stands

        from_in : b.from < length tail
        from_in = let i = w.from_inside in let m = f.many in omega (arith, i, m)

        to_is : get_or tail b.to 0 ≡ left
        to_is = ap (λ n. get_or tail n 0) leads ∙ here

        most : left + b.span < get_or tail b.from 0 → left + b.span ≤ known tail * most_span + most_span
        most less =
            let l = f.low b.from 0 from_in in
            let short = f.short seen 0 within (omega (arith, here, less, l)) in
            let span = w.short in
            omega (arith, short, span, here)

        ought : value free r zone tail b.from ≤ left + b.span
        ought = let o = ought_over tail k b stands in omega (arith, o, to_is)

        low : IsFalling r free zone backs after new begun seen mark × (get_or new b.from 0 ≤ left + b.span) × (work after new ≤ work heap tail)
        low = IsFalling_lower heap after tail new begun seen mark b.from (left + b.span) from_in ought most lowered f

        same : get_or new seen 0 ≡ left
        same = by (cases_lt (left + b.span) (get_or tail b.from 0)) (eqb_tells seen b.from)
          where
            by : (left + b.span < get_or tail b.from 0) ⊎ (get_or tail b.from 0 ≤ left + b.span) → ((eqb seen b.from ≡ true) × (seen ≡ b.from)) ⊎ ((eqb seen b.from ≡ false) × (seen ≢ b.from)) → get_or new seen 0 ≡ left
            by (inr stays) at = ap (λ (l : List ℕ). get_or l seen 0) ((lowered.stays stays).0) ∙ here
            by (inl falls) (inl at) = absurd (let e : get_or tail seen 0 ≡ get_or tail b.from 0 = ap (λ n. get_or tail n 0) (at.1) in omega (arith, e, falls, here))
            by (inl falls) (inr at) = ap (λ (l : List ℕ). get_or l seen 0) ((lowered.falls falls).0) ∙ get_or-set_other tail b.from seen (left + b.span) 0 (at.1) ∙ here

  -- once no way is left to look at, it doesn't matter which state was looked at
  pub IsFalling_whole : (heap : List (Reverse Reached)) (tail : List ℕ) (begun seen mark : ℕ) → mark ≤ 0 → IsFalling r free zone backs heap tail begun seen mark → IsFalling r free zone backs heap tail begun 0 0
  IsFalling_whole heap tail begun seen mark none f = record { above = f.above; short = f.short; low = f.low; many = f.many; inside = f.inside; at_zone = f.at_zone; eased = λ k b e. eased_at k b (f.eased k b e) }
    where
      eased_at : (k : ℕ) (b : WayBack) → IsEased tail b ⊎ Waits heap tail b.to ⊎ ((b.to ≡ seen) × (k < mark)) → IsEased tail b ⊎ Waits heap tail b.to ⊎ ((b.to ≡ 0) × (k < 0))
      eased_at k b (inl done) = inl done
      eased_at k b (inr (inl waits)) = inr (inl waits)
      eased_at k b (inr (inr early)) = absurd (let h = early.1 in omega (arith, h, none))
