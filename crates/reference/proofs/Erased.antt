-- Where there is a walk there is one that repeats no link, and it takes no longer than so many links can take.
use Rattle.std.proofs.Common.{◌≡◌, ◌⊎◌, inl, inr, ℕ, suc, ◌+◌, ◌*◌, ◌<◌, ◌≤◌, Bool, true, false, List, [], ◌∷◌, length, refl, sym, subst, arith, eqb, mul-le-mul_right, zero-le}
use Rattle.std.specs.Prelude.{◌&&◌, All, IfSome, Option, Some, None, find, nat_eq}
use Rattle.std.specs.List.{AllByRecursion, IsDistinct, list_any}
use Rattle.std.proofs.lemmas.Bool.{cond_both, eqb-true, or_cases, or_parts}
use Rattle.std.proofs.lemmas.List.Elements.{All-head, All-tail}
use Rattle.std.proofs.lemmas.Map.Steps.{length-le_from_distinct_below}
use Rattle.fixed_units.specs.declared.turn.TheConstants.{MOST_PENALTY_STEPS}
use Rattle.net_core.specs.Network.{IsNet, as_turn, free_turn, is_named, link_at, turn, turn_at}
use Rattle.net_core.specs.Rows.{IsTurnInRange}
use Rattle.net_core.specs.declared.rows.NetRows.{NetRows}
use Rattle.net_core.specs.declared.rows.TurnRow.{TurnRow}
use Rattle.dta_model.specs.TimedWalks.{arrival_after, penalty_steps, walk_time}
use Rattle.dta_model.specs.Walks.{IsWalk}
use Rattle.trip_costs.specs.Timings.{Links}
use Rattle.reference.specs.Search.{most_links}
use Rattle.reference.specs.Searched.{AreTimesWithin}
use Rattle.reference.proofs.Runs.{Runs, runs_walk, walk_runs}

-- ---- walks that repeat no link
pub has_not : (l : ℕ) (xs : List ℕ) → list_any (eqb l) xs ≡ false → AllByRecursion (λ y. eqb l y ≡ false) xs
has_not l [] h = tt
has_not l (y ∷ xs) h = let p = or_parts (eqb l y) (list_any (eqb l) xs) h in (p.0, has_not l xs (p.1))

module _ (net : NetRows) (destination : ℕ) where
  has_small : (q l : ℕ) (rest : List ℕ) → list_any (eqb q) (l ∷ rest) ≡ true → Runs net destination l rest → q < length net.links
  has_small q l [] h r = by (or_cases (eqb q l) false h)
    where
      by : (eqb q l ≡ true) ⊎ (false ≡ true) → q < length net.links
      by (inl e) = let same = eqb-true q l e in let small = r.0 in omega arith
      by (inr k) = cc
  has_small q l (b ∷ rest) h r = by (has_small q b rest) (or_cases (eqb q l) (list_any (eqb q) (b ∷ rest)) h)
    where
      by : (list_any (eqb q) (b ∷ rest) ≡ true → Runs net destination b rest → q < length net.links)
          → (eqb q l ≡ true) ⊎ (list_any (eqb q) (b ∷ rest) ≡ true) → q < length net.links
      by further (inl e) = let same = eqb-true q l e in let small = r.0 in omega arith
      by further (inr k) = further k (r.3)

  abbrev RunsOnce : ℕ → List ℕ → Type 0
  RunsOnce l rest = Runs net destination l rest × IsDistinct eqb (l ∷ rest)

  -- from where a link is among others
  cut : (l b : ℕ) (rest : List ℕ) → list_any (eqb l) (b ∷ rest) ≡ true → RunsOnce b rest → (v : List ℕ) × RunsOnce l v
  unfolding IsDistinct
  cut l b [] h r = by (or_cases (eqb l b) false h)
    where
      by : (eqb l b ≡ true) ⊎ (false ≡ true) → (v : List ℕ) × RunsOnce l v
      by (inl e) = ([], subst (λ x. RunsOnce x []) (sym (eqb-true l b e)) r)
      by (inr k) = cc
  cut l b (c ∷ rest) h r = by (cut l c rest) (or_cases (eqb l b) (list_any (eqb l) (c ∷ rest)) h)
    where
      by : (list_any (eqb l) (c ∷ rest) ≡ true → RunsOnce c rest → (v : List ℕ) × RunsOnce l v)
          → (eqb l b ≡ true) ⊎ (list_any (eqb l) (c ∷ rest) ≡ true) → (v : List ℕ) × RunsOnce l v
      by further (inl e) = (c ∷ rest, subst (λ x. RunsOnce x (c ∷ rest)) (sym (eqb-true l b e)) r)
      by further (inr k) = further k (r.0.3, r.1.1)

  erased : (l : ℕ) (rest : List ℕ) → Runs net destination l rest → (v : List ℕ) × RunsOnce l v
  unfolding IsDistinct
  erased l [] r = ([], (r, (tt, tt)))
  erased l (b ∷ rest) r = by (erased b rest (r.3))
    where
      by : (v : List ℕ) × RunsOnce b v → (v : List ℕ) × RunsOnce l v
      by s = step (list_any (eqb l) (b ∷ s.0)) refl
        where
          step : (c : Bool) → list_any (eqb l) (b ∷ s.0) ≡ c → (v : List ℕ) × RunsOnce l v
          step true h = cut l b (s.0) h (s.1)
          step false h = (b ∷ s.0, ((r.0, r.1, r.2, s.1.0), (has_not l (b ∷ s.0) h, s.1.1)))

  few_links : (l : ℕ) (rest : List ℕ) → RunsOnce l rest → length (l ∷ rest) ≤ length net.links
  few_links l rest r = length-le_from_distinct_below (l ∷ rest) (length net.links) (r.1) (λ q h. has_small q l rest h (r.0))

-- ---- times of walks
find_keeps : {X : Type 0} (P : X → Type 0) (t : X → Bool) (xs : List X) → All P xs → IfSome (find t xs) P
find_keeps P t [] all = tt
find_keeps P t (x ∷ xs) all = cond_both (t x) (Some x) (find t xs) (λ o. IfSome o P) (λ _. All-head P x xs all) (λ _. find_keeps P t xs (All-tail P x xs all))

row_small : (o : Option TurnRow) → IfSome o IsTurnInRange → penalty_steps (as_turn o) ≤ MOST_PENALTY_STEPS
row_small None h = zero-le
row_small (Some row) h = h.penalty

turn_small : (net : NetRows) (a b : ℕ) → IsNet net → penalty_steps (turn net a b) ≤ MOST_PENALTY_STEPS
unfolding turn turn_at
turn_small net a b is =
    let row = find (λ way. nat_eq way.a.0 a && nat_eq way.b.0 b) net.turns in
    let listed = row_small row (find_keeps IsTurnInRange (λ way. nat_eq way.a.0 a && nat_eq way.b.0 b) net.turns is.turns.range) in
    let node = (link_at net a).to.0 in
    let named = cond_both (is_named net node) (as_turn row) (Some free_turn) (λ o. penalty_steps o ≤ MOST_PENALTY_STEPS) (λ _. listed) (λ _. zero-le) in
    cond_both (nat_eq (link_at net b).from.0 node) (turn_at net node a b) None (λ o. penalty_steps o ≤ MOST_PENALTY_STEPS) (λ _. named) (λ _. zero-le)

many_more : (n c d : ℕ) → d ≤ c → d + n * c ≤ suc n * c
many_more n c d h = let all : suc n * c ≡ n * c + c = grind arith in omega (arith, all, h)

no_more_links : (n links c : ℕ) → n ≤ links → n * c ≤ links * c
no_more_links n links c h = mul-le-mul_right c h

module _ (most : ℕ) (at : ℕ → ℕ → ℕ) (net : NetRows) (is : IsNet net) (times : AreTimesWithin most at net) (destination : ℕ) where
  -- each link takes a step at least
  slow : (step l : ℕ) (rest : List ℕ) → Runs net destination l rest → step + length (l ∷ rest) ≤ arrival_after at net step l rest
  unfolding arrival_after
  slow step l [] r = let one = times.least l step (r.0) in omega arith
  slow step l (b ∷ rest) r =
      let one = times.least l step (r.0) in
      let later = slow (step + at l step + penalty_steps (turn net l b)) b rest (r.3) in
      omega arith

  -- and no more than the most, and a turn no more than the most penalty
  fast : (step l : ℕ) (rest : List ℕ) → Runs net destination l rest → arrival_after at net step l rest ≤ step + length (l ∷ rest) * (most + MOST_PENALTY_STEPS)
  unfolding arrival_after
  fast step l [] r =
      let one = times.no_more l step (r.0) in
      let all = many_more 0 (most + MOST_PENALTY_STEPS) (at l step) (omega (arith, one)) in
      omega (arith, all)
  fast step l (b ∷ rest) r =
      let one = times.no_more l step (r.0) in
      let way = turn_small net l b is in
      let later = fast (step + at l step + penalty_steps (turn net l b)) b rest (r.3) in
      let all = many_more (length (b ∷ rest)) (most + MOST_PENALTY_STEPS) (at l step + penalty_steps (turn net l b)) (omega (arith, one, way)) in
      omega (arith, later, all)

  module _ (origin start : ℕ) where
    pub as_long : (w : List ℕ) → IsWalk net origin destination w → length w ≤ walk_time at net start w
    as_long [] walk = zero-le
    as_long (l ∷ rest) walk = let s = slow start l rest (walk_runs net destination origin l rest walk).1 in omega arith

    pub short_walk : (w : List ℕ) → IsWalk net origin destination w → (v : List ℕ) × IsWalk net origin destination v × (walk_time at net start v ≤ most_links most (Links at) net)
    short_walk [] walk = absurd (let n = walk.some in omega arith)
    short_walk (l ∷ rest) walk =
        let r = walk_runs net destination origin l rest walk in
        let e = erased net destination l rest (r.1) in
        let f = fast start l (e.0) (e.1.0) in
        let n = few_links net destination l (e.0) (e.1) in
        let all = no_more_links (length (l ∷ e.0)) (length net.links) (most + MOST_PENALTY_STEPS) n in
        (l ∷ e.0, runs_walk net destination origin l (e.0) (r.0) (e.1.0), omega (arith, f, all))
