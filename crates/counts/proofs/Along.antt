-- The turns of a vehicle are those along its route.
use Rattle.std.specs.Prelude.{nat_eq, All, count_by}
use Rattle.std.proofs.Common.{◌≡◌, ℕ, zero, suc, ◌+◌, ◌/◌, ◌<◌, ◌≤◌, Bool, true, false, cond, ◌&&◌, List, [], ◌∷◌, ◌++◌, length, drop, get_or, refl, ap, sym, ◌∙◌, subst, arith, append_assoc, Option, None, Some}
use Rattle.std.proofs.lemmas.List.Sums.{sum_by-cons}
use Rattle.std.proofs.lemmas.List.Elements.{All-cons, All-head, All-nil, All-tail}
use Rattle.net_core.specs.declared.rows.LinkNo.{LinkNo}
use Rattle.dta_model.specs.LinkTimes.{buckets_to}
use Rattle.dta_model.specs.Trace.{Arrived, Move, Onto, last_move, last_moves, leads_there, stands_on}
use Rattle.dta_model.proofs.Pushes.{last_move-own}
use Rattle.link_times.specs.Journeys.{moves_along}
use Rattle.link_times.proofs.Places.{bucket_inside}
use Rattle.counts.specs.Inside.Turns.{IsWithin, is_turn, turns_after, turns_along}
use Rattle.counts.specs.Turns.{takes, timed, times_taken}
use Rattle.counts.specs.declared.turns.TimedTurn.{TimedTurn}
use Rattle.counts.proofs.OverVehicles.{taken, taken-more, taken-none}

-- a vehicle that entered a link stands on it
stands-push : (l b e v : ℕ) (before : List Move) → stands_on l (before ++ record { step = e; vehicle = v; target = Onto b } ∷ []) v ≡ nat_eq b l
unfolding stands_on
stands-push l b e v before = ap (leads_there l) (last_move-own before (record { step = e; vehicle = v; target = Onto b }))

-- before its first move it stands on none
stands-none : (l v : ℕ) → stands_on l [] v ≡ false
unfolding stands_on last_move last_moves
stands-none l v = refl

module _ (bucket : ℕ) (t : TimedTurn) (v : ℕ) where
  onto : ℕ → ℕ → Move
  onto e b = record { step = e; vehicle = v; target = Onto b }

  -- an arrival takes no turn
  taken-out : (s : ℕ) (before : List Move) → taken bucket t before (record { step = s; vehicle = v; target = Arrived } ∷ []) ≡ 0
  unfolding takes
  taken-out s before =
      taken-more bucket t before (record { step = s; vehicle = v; target = Arrived }) []
      ∙ by (stands_on t.a before v) (nat_eq (s / bucket) t.bucket) (taken-none bucket t (before ++ record { step = s; vehicle = v; target = Arrived } ∷ []))
    where
      by : (b c : Bool) → {n : ℕ} → n ≡ 0 → cond (b && false && c) 1 0 + n ≡ 0
      by true c {n} e = omega (arith, e)
      by false c {n} e = omega (arith, e)

  taken-after : (a : ℕ) (route : List LinkNo) (entries : List ℕ) (arrival : Option ℕ) (before : List Move) → ((l : ℕ) → stands_on l before v ≡ nat_eq a l) → taken bucket t before (moves_along v route entries arrival) ≡ count_by (is_turn t) (turns_after bucket a route entries)
  unfolding moves_along takes onto
  taken-after a route [] None before on = taken-none bucket t before
  taken-after a route [] (Some s) before on = taken-out s before
  taken-after a [] (e ∷ entries) arrival before on = taken-none bucket t before
  taken-after a (b ∷ route) (e ∷ entries) arrival before on =
      taken-more bucket t before (onto e b.0) (moves_along v route entries arrival)
      ∙ both _ _ _ _
      (ap (λ s. cond (s && nat_eq b.0 t.b && nat_eq (e / bucket) t.bucket) 1 0) (on t.a))
      (taken-after b.0 route entries arrival (before ++ onto e b.0 ∷ []) (λ l. stands-push l b.0 e v before))
      ∙ sym (sum_by-cons (λ x. cond (is_turn t x) 1 0) (timed a b.0 (e / bucket)) (turns_after bucket b.0 route entries))
    where
      both : (x y m n : ℕ) → x ≡ y → m ≡ n → x + m ≡ y + n
      both x y m n e f = omega (arith, e, f)

  pub taken-along : (route : List LinkNo) (entries : List ℕ) (arrival : Option ℕ) → times_taken bucket t (moves_along v route entries arrival) ≡ count_by (is_turn t) (turns_along bucket route entries)
  unfolding moves_along takes times_taken onto
  taken-along route [] None = taken-none bucket t []
  taken-along route [] (Some s) = taken-out s []
  taken-along [] (e ∷ entries) arrival = taken-none bucket t []
  taken-along (b ∷ route) (e ∷ entries) arrival =
      taken-more bucket t [] (onto e b.0) (moves_along v route entries arrival)
      ∙ none _ _ (ap (λ s. cond (s && nat_eq b.0 t.b && nat_eq (e / bucket) t.bucket) 1 0) (stands-none t.a v))
      ∙ taken-after b.0 route entries arrival (onto e b.0 ∷ []) (λ l. stands-push l b.0 e v [])
    where
      none : (x n : ℕ) → x ≡ 0 → x + n ≡ n
      none x n e = omega (arith, e)

-- they are of links of the table, and in buckets up to the horizon
pub within-after : (links horizon bucket a : ℕ) (route : List LinkNo) (entries : List ℕ) → 1 ≤ bucket → a < links → All (λ l. l.0 < links) route → All (λ e. e < horizon) entries → All (IsWithin links (buckets_to bucket horizon)) (turns_after bucket a route entries)
within-after links horizon bucket a route [] least h all early = All-nil (IsWithin links (buckets_to bucket horizon))
within-after links horizon bucket a [] (e ∷ entries) least h all early = All-nil (IsWithin links (buckets_to bucket horizon))
within-after links horizon bucket a (b ∷ route) (e ∷ entries) least h all early =
    let here : b.0 < links = All-head (λ l. l.0 < links) b route all in
    All-cons (IsWithin links (buckets_to bucket horizon)) (timed a b.0 (e / bucket)) (turns_after bucket b.0 route entries)
    (record { first = h; second = here; early = bucket_inside bucket horizon e least (All-head (λ x. x < horizon) e entries early) })
    (within-after links horizon bucket b.0 route entries least here (All-tail (λ l. l.0 < links) b route all) (All-tail (λ x. x < horizon) e entries early))

pub within-along : (links horizon bucket : ℕ) (route : List LinkNo) (entries : List ℕ) → 1 ≤ bucket → All (λ l. l.0 < links) route → All (λ e. e < horizon) entries → All (IsWithin links (buckets_to bucket horizon)) (turns_along bucket route entries)
within-along links horizon bucket route [] least all early = All-nil (IsWithin links (buckets_to bucket horizon))
within-along links horizon bucket [] (e ∷ entries) least all early = All-nil (IsWithin links (buckets_to bucket horizon))
within-along links horizon bucket (a ∷ route) (e ∷ entries) least all early =
    within-after links horizon bucket a.0 route entries least (All-head (λ l. l.0 < links) a route all) (All-tail (λ l. l.0 < links) a route all) (All-tail (λ x. x < horizon) e entries early)

-- the turn at a place, and those after it
along-more : (bucket : ℕ) (route : List LinkNo) (entries : List ℕ) (i : ℕ) (d : LinkNo) → suc i < length entries → length entries ≤ length route
    → turns_along bucket (drop i route) (drop i entries) ≡ timed (get_or route i d).0 (get_or route (suc i) d).0 (get_or entries (suc i) 0 / bucket) ∷ turns_along bucket (drop (suc i) route) (drop (suc i) entries)
along-more bucket route [] i d h w = absurd (omega (arith, h))
along-more bucket [] (e ∷ entries) i d h w = absurd (omega (arith, w))
along-more bucket (x ∷ route) (e ∷ []) i d h w = absurd (omega (arith, h))
along-more bucket (x ∷ []) (e ∷ f ∷ entries) i d h w = absurd (omega (arith, w))
along-more bucket (x ∷ y ∷ route) (e ∷ f ∷ entries) zero d h w = refl
along-more bucket (x ∷ y ∷ route) (e ∷ f ∷ entries) (suc i) d h w = along-more bucket (y ∷ route) (f ∷ entries) i d (omega (arith, h)) (omega (arith, w))

along-next : (bucket : ℕ) (route : List LinkNo) (entries : List ℕ) (i : ℕ) (d : LinkNo) (old new total : List TimedTurn) → suc i < length entries → length entries ≤ length route
    → new ≡ old ++ timed (get_or route i d).0 (get_or route (suc i) d).0 (get_or entries (suc i) 0 / bucket) ∷ [] → old ++ turns_along bucket (drop i route) (drop i entries) ≡ total
    → new ++ turns_along bucket (drop (suc i) route) (drop (suc i) entries) ≡ total
along-next bucket route entries i d old new total h w is had =
    let x : TimedTurn = timed (get_or route i d).0 (get_or route (suc i) d).0 (get_or entries (suc i) 0 / bucket) in
    let rest : List TimedTurn = turns_along bucket (drop (suc i) route) (drop (suc i) entries) in
    ap (λ L. L ++ rest) is ∙ append_assoc old (x ∷ []) rest ∙ ap (λ L. old ++ L) (sym (along-more bucket route entries i d h w)) ∙ had

pub along-step : (bucket : ℕ) (route : List LinkNo) (entries : List ℕ) (i place next : ℕ) (d : LinkNo) (old new total : List TimedTurn) → suc i ≡ place → next ≡ place → place < length entries → length entries ≤ length route
    → new ≡ old ++ timed (get_or route i d).0 (get_or route place d).0 (get_or entries place 0 / bucket) ∷ [] → old ++ turns_along bucket (drop i route) (drop i entries) ≡ total
    → new ++ turns_along bucket (drop next route) (drop next entries) ≡ total
along-step bucket route entries i place next d old new total e f h w is had =
    let here : new ≡ old ++ timed (get_or route i d).0 (get_or route (suc i) d).0 (get_or entries (suc i) 0 / bucket) ∷ [] = subst (λ z. new ≡ old ++ timed (get_or route i d).0 (get_or route z d).0 (get_or entries z 0 / bucket) ∷ []) (sym e) is in
    subst (λ z. new ++ turns_along bucket (drop z route) (drop z entries) ≡ total) (e ∙ sym f)
    (along-next bucket route entries i d old new total (subst (λ z. z < length entries) (sym e) h) w here had)

pub along-end : (bucket : ℕ) (route : List LinkNo) (entries : List ℕ) (i : ℕ) → length entries ≤ suc i → turns_along bucket (drop i route) (drop i entries) ≡ []
along-end bucket route [] zero h = refl
along-end bucket route [] (suc i) h = refl
along-end bucket [] (e ∷ []) zero h = refl
along-end bucket (x ∷ route) (e ∷ []) zero h = refl
along-end bucket route (e ∷ f ∷ entries) zero h = absurd (omega (arith, h))
along-end bucket [] (e ∷ entries) (suc i) h = nothing (drop i entries)
  where
    nothing : (L : List ℕ) → turns_along bucket [] L ≡ []
    nothing [] = refl
    nothing (x ∷ L) = refl
along-end bucket (x ∷ route) (e ∷ entries) (suc i) h = along-end bucket route entries i (omega (arith, h))
