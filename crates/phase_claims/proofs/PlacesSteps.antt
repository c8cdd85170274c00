-- What each step does to the slots.
use Rattle.std.proofs.Common.{◌≡◌, ℕ, zero, suc, ◌+◌, ◌*◌, ◌<◌, ◌≤◌, min, List, [], ◌∷◌, ◌++◌, length, set, refl, sym, ap, ◌∙◌, subst, arith}
use mathlib.Core.Option.{Option, some, some-ne-none}
use lib.ListN.{get_elem?}
use Rattle.atomic_table.proofs.Lists.{set_here}
use Rattle.atomic_table.specs.Table.{Valid, chain, homes_after}
use Rattle.dta_model.specs.Machine.{left_of}
use Rattle.dta_model.specs.Units.{node_count, phase_end, phase_start, places, posting_part, unit_count}
use Rattle.dta_model.specs.declared.machine.Stage.{Stage}
use Rattle.dta_model.specs.declared.machine.Stage.TheVariants as stage
use Rattle.claim_core.specs.Parts.{moves, stage_before, stage_of}
use Rattle.claim_core.specs.Runs.{among, numbers}
use Rattle.claim_core.specs.Sums.{is_at, times, total}
use Rattle.claim_core.proofs.Holds.{left_by}
use Rattle.claim_core.proofs.Cuts.{below_same, point}
use Rattle.claim_core.proofs.Places.{moved_is_placed}
use Rattle.claim_core.proofs.Runs.{among_in, among_none, among_one, among_two, times_numbers}
use Rattle.claim_core.proofs.Stages.{stage_more}
use Rattle.claim_core.proofs.Sums.{at_self, once_le, total-append, total_at, total_set, total_snoc}
use Rattle.phase_claims.specs.declared.part.Part.{Part}
use Rattle.phase_claims.specs.declared.view.Scope.{Scope}
use Rattle.phase_claims.specs.declared.view.View.{View}
use Rattle.phase_claims.specs.Passes.{HoldsNoUnit}
use Rattle.phase_claims.specs.PlacesHome.{AreHome, brought, carried, has_slot, home_of, part_at, parts_of, taken}
use Rattle.phase_claims.specs.Running.{Running}
use Rattle.phase_claims.specs.Views.{beginning, holds, joined, less_spare, nobody, performs, worked, worked_by, worked_in}
use Rattle.phase_claims.proofs.Counts.{none_both, worked_none}
use Rattle.phase_claims.proofs.Homes.{all_home, apart_of, finishes_homes, opens_homes, risen}
use Rattle.phase_claims.proofs.PlacesFree.{none_other, one_place, only_own, places_once, stage_is}
use Rattle.phase_claims.proofs.Steps.{all_drawn, has_all, holds_all, is_at_one, opens_now, plus, stands}
use Rattle.phase_claims.proofs.Turning.{gives_all, none_left, takes_all, valid_gives, valid_takes}
use Rattle.phase_claims.proofs.Works.{left, left_in, once}

-- slots that are at the same stages
parts_same : {S : Type 0} (part : ℕ → ℕ → S) (ks : List ℕ) (m m' : ℕ → ℕ) → ((slot : ℕ) → 1 ≤ times slot ks → m slot ≡ m' slot) → parts_of part ks m ≡ parts_of part ks m'
parts_same part [] m m' same = refl
parts_same part (x ∷ ks) m m' same =
    ap (λ at. (x, part x at) ∷ parts_of part ks m) (same x (omega (arith, at_self x)))
    ∙ ap (λ xs. (x, part x (m' x)) ∷ xs) (parts_same part ks m m' (λ slot h. same slot (omega (arith, h))))

inside : {A : Type 0} (l : List A) (i : ℕ) (a : A) → get_elem? l i ≡ some a → i < length l
inside [] i a e = absurd (some-ne-none a (sym e))
inside (x ∷ xs) zero a e = omega arith
inside (x ∷ xs) (suc i) a e = let r = inside xs i a e in omega (arith, r)

set_twice : {A : Type 0} (l : List A) (i : ℕ) (a b : A) → set (set l i a) i b ≡ set l i b
set_twice [] i a b = refl
set_twice (x ∷ xs) zero a b = refl
set_twice (x ∷ xs) (suc i) a b = ap (λ l. x ∷ l) (set_twice xs i a b)

-- a pass that holds no unit has no slot
pub none_carried : (k : Scope) (s : Stage) (at : ℕ) → HoldsNoUnit s → carried k s at ≡ []
none_carried k stage.Idle at h = refl
none_carried k (stage.Held a b) at h = refl
none_carried k (stage.Open a m b) at h = absurd (cc)
none_carried k stage.Ended at h = refl

module _ (k : Scope) where
  abbrev N : ℕ
  N = node_count k.plan

  abbrev Q : ℕ
  Q = unit_count k.plan

  abbrev all_slots : ℕ
  all_slots = suc (posting_part k.plan)

  abbrev Has : ℕ → View → ℕ
  Has slot v = has_slot k.plan slot v.stage v.at

  -- views that have the same slots and have worked the same units
  pub homes_same : (homes : List (Option Part)) (views views' : List View) → ((slot : ℕ) → total (Has slot) views' ≡ total (Has slot) views) → ((x : ℕ) → worked_by views' x ≡ worked_by views x) → AreHome k homes views → AreHome k homes views'
  unfolding stage_of
  homes_same homes views views' same done h slot l =
      let at : stage_of k.plan (worked_by views) slot ≡ stage_of k.plan (worked_by views') slot =
      below_same (λ u. moves k.plan slot u * worked_by views u) (λ u. moves k.plan slot u * worked_by views' u) Q (λ u _. ap (λ d. moves k.plan slot u * d) (sym (done u))) in
      h slot l ∙ (λ i. some (home_of (sym (same slot) i) (part_at k slot (at i))))

  -- a view with the same slots, which has worked the same units
  pub homes_set : (homes : List (Option Part)) (views : List View) (by : ℕ) (v v' : View) → get_elem? views by ≡ some v → ((slot : ℕ) → Has slot v' ≡ Has slot v) → ((x : ℕ) → worked x v' ≡ worked x v) → AreHome k homes views → AreHome k homes (set views by v')
  homes_set homes views by v v' e same done h =
      homes_same homes views (set views by v') (λ slot. omega (arith, total_set (Has slot) views by v v' e, same slot)) (λ x. omega (arith, total_set (worked x) views by v v' e, done x)) h

  pub homes_split : (homes : List (Option Part)) (views : List View) (by : ℕ) (v : View) → get_elem? views by ≡ some v → AreHome k homes views → AreHome k homes (set views by (less_spare v) ++ beginning v.scope 0 ∷ [])
  homes_split homes views by v e h =
      let u : View = beginning v.scope 0 in
      homes_same homes views (set views by (less_spare v) ++ u ∷ [])
      (λ slot. omega (arith, total_set (Has slot) views by v (less_spare v) e, total_snoc (Has slot) (set views by (less_spare v)) u))
      (λ x. omega (arith, total_set (worked x) views by v (less_spare v) e, total_snoc (worked x) (set views by (less_spare v)) u)) h

  pub has_none : (slot : ℕ) (s : Stage) (at : ℕ) → HoldsNoUnit s → has_slot k.plan slot s at ≡ 0
  has_none slot stage.Idle at q = refl
  has_none slot (stage.Held a b) at q = refl
  has_none slot (stage.Open a m b) at q = absurd (cc)
  has_none slot stage.Ended at q = refl

  pub homes_join : (homes : List (Option Part)) (views : List View) (by other : ℕ) (v u : View) → get_elem? views by ≡ some v → get_elem? (set views by (joined v u)) other ≡ some u → HoldsNoUnit v.stage → HoldsNoUnit u.stage
      → AreHome k homes views → AreHome k homes (set (set views by (joined v u)) other nobody)
  homes_join homes views by other v u e there hv hu h =
      let v' : View = joined v u in
      let both : HoldsNoUnit v'.stage = none_both v.stage u.stage hv hu in
      homes_same homes views (set (set views by v') other nobody)
      (λ slot. omega (arith, total_set (Has slot) views by v v' e, total_set (Has slot) (set views by v') other u nobody there, has_none slot v.stage v.at hv, has_none slot u.stage u.at hu, has_none slot v'.stage 0 both))
      (λ x. (let all : performs x v' ≡ performs x v + performs x u = total-append (is_at x) v.performed u.performed in
      omega (arith, total_set (worked x) views by v v' e, total_set (worked x) (set views by v') other u nobody there, all, worked_none v.stage v.at x hv, worked_none u.stage u.at x hu, worked_none v'.stage 0 x both))) h

  module _ (w n : ℕ) (views : List View) (r : Running k w n views) (homes : List (Option Part)) (h : AreHome k homes views) (by : ℕ) (v : View) (e : get_elem? views by ≡ some v) where
    -- a unit that the pass holds and has not worked, of the phase
    module _ (c : ℕ) (mine : 1 ≤ left c v) (own : 1 ≤ holds c v) (ic : (phase_start N n ≤ c) × (c < phase_end N n)) where
      not_worked : worked_by views c ≡ 0
      not_worked = omega (arith, mine, total_at (left c) views by v e, once k w n views r c, once_le c (min w (unit_count k.plan)))

      pub now_taken : parts_of (part_at k) (places k.plan c) (λ slot. stage_of k.plan (worked_by views) slot) ≡ taken k c
      now_taken = parts_same (part_at k) (places k.plan c) (stage_of k.plan (worked_by views)) (stage_before k.plan c) (λ slot in_c. stage_is k w n views r c slot not_worked ic in_c)

      pub all_own : (slot : ℕ) → 1 ≤ times slot (places k.plan c) → total (Has slot) views ≡ Has slot v
      all_own slot in_c = only_own k w n views r by c slot v e own ic in_c

      pub now_brought : c < Q → parts_of (part_at k) (places k.plan c) (λ slot. stage_of k.plan (worked_by views) slot + risen Q (moves k.plan) (part_at k) Has worked (λ x. is_at x c) slot) ≡ brought k c
      now_brought drawn = parts_same (part_at k) (places k.plan c)
          (λ slot. stage_of k.plan (worked_by views) slot + risen Q (moves k.plan) (part_at k) Has worked (λ x. is_at x c) slot)
          (λ slot. stage_before k.plan c slot + moves k.plan slot c)
          (λ slot in_c. (let s = stage_is k w n views r c slot not_worked ic in_c in let t = point (moves k.plan slot) c Q drawn in omega (arith, s, t)))

    -- a look that opens
    module _ (a b : ℕ) (is : v.stage ≡ stage.Held a b) (le : phase_start N a ≤ n) where
      abbrev m : ℕ
      m = min b (phase_end N a)

      now : (phase_start N n ≤ a) × (a < m) × (m ≤ phase_end N n)
      now = opens_now k w n views r by a b v e is le

      mine_held : 1 ≤ holds a v
      mine_held = omega (arith, holds_all k w n views r by a b v e is le a, among_in a b a (omega arith) (omega (arith, now.1)))

      mine_left : 1 ≤ left a v
      mine_left = omega (arith, ap (λ s. left_in s v.at a) is, among_in a b a (omega arith) (omega (arith, now.1)))

      in_it : (phase_start N n ≤ a) × (a < phase_end N n)
      in_it = (now.0, omega (arith, now.1, now.2))

      closed : (slot : ℕ) → 1 ≤ times slot (places k.plan a) → total (Has slot) views ≡ 0
      closed slot in_a = all_own a mine_left mine_held in_it slot in_a ∙ ap (λ s. has_slot k.plan slot s v.at) is

      pub opens_valid : Valid homes [] (takes_all (taken k a))
      unfolding stage_of
      opens_valid =
          subst (λ xs. Valid homes [] (takes_all xs)) (now_taken a mine_left mine_held in_it)
          (valid_takes homes [] (parts_of (part_at k) (places k.plan a) (λ slot. stage_of k.plan (worked_by views) slot))
          (apart_of (part_at k) all_slots (places k.plan a) (λ slot. stage_of k.plan (worked_by views) slot) (places_once k a))
          (all_home Q (moves k.plan) (part_at k) Has worked all_slots homes views h (places k.plan a) (places_once k a) closed))

      pub opens_places : (seen looks : ℕ) → AreHome k (homes_after homes [] (takes_all (taken k a))) (set views by (record v { stage = stage.Open a m b; at = a; told = []; seen = seen; looks = looks }))
      unfolding stage_of
      opens_places seen looks =
          let v' : View = record v { stage = stage.Open a m b; at = a; told = []; seen = seen; looks = looks } in
          subst (λ xs. AreHome k (homes_after homes [] (takes_all xs)) (set views by v')) (now_taken a mine_left mine_held in_it)
          (opens_homes Q (moves k.plan) (part_at k) Has worked all_slots by (places k.plan a) homes views v v' h e (places_once k a)
          (λ slot. (let z : has_slot k.plan slot v.stage v.at ≡ 0 = ap (λ s. has_slot k.plan slot s v.at) is in omega (arith, z)))
          (λ x. (let z : worked_in v.stage v.at x ≡ 0 = ap (λ s. worked_in s v.at x) is in omega (arith, z, among_none a x)))
          closed)

    -- where some are open
    module _ (a m b : ℕ) (is : v.stage ≡ stage.Open a m b) where
      order : (a < m) × (m ≤ b) × (phase_start N n ≤ a) × (m ≤ phase_end N n)
      order = stands k w n views r by a m b v e is

      at_one : (a ≤ v.at) × (v.at < m)
      at_one = is_at_one k w n views r by a m b v e is

      left_all : (c : ℕ) → v.at ≤ c → c < b → 1 ≤ left c v
      left_all c lo hi = omega (arith, ap (λ s. left_in s v.at c) is, among_in v.at b c lo hi)

      held_all : (c : ℕ) → v.at ≤ c → c < b → 1 ≤ holds c v
      held_all c lo hi = omega (arith, has_all k w n views r by a m b v e is c, among_in a b c (omega (arith, lo, at_one.0)) hi)

      of_phase : (c : ℕ) → v.at ≤ c → c < m → (phase_start N n ≤ c) × (c < phase_end N n)
      of_phase c lo hi = (omega (arith, lo, at_one.0, order.2), omega (arith, hi, order.3))

      own_slots : (slot : ℕ) → has_slot k.plan slot v.stage v.at ≡ times slot (places k.plan v.at)
      own_slots slot = ap (λ s. has_slot k.plan slot s v.at) is

      here_below : v.at < b
      here_below = omega (arith, at_one.1, order.1)

      pub drawn : v.at < Q
      drawn = omega (arith, at_one.1, all_drawn k w n views r by a m b v e is)

      -- the places of the unit that it is at come home: v' has none, and has worked that unit too
      comes_home : (v' : View) → ((slot : ℕ) → Has slot v' ≡ 0) → ((x : ℕ) → worked x v' ≡ worked x v + is_at x v.at)
          → (xs : List (ℕ × Part)) → xs ≡ brought k v.at → AreHome k (homes_after homes xs (gives_all (length xs))) (set views by v')
      unfolding stage_of
      comes_home v' none_now one_more xs back =
          finishes_homes Q (moves k.plan) (part_at k) Has worked all_slots by (λ x. is_at x v.at) (places k.plan v.at) homes views v v' h e (places_once k v.at)
          (λ slot. omega (arith, own_slots slot, none_now slot))
          one_more
          (λ slot in_c. (let one = one_place all_slots (places k.plan v.at) (places_once k v.at) slot in
          (omega (arith, one, in_c), all_own v.at (left_all v.at (omega arith) here_below) (held_all v.at (omega arith) here_below) (of_phase v.at (omega arith) at_one.1) slot in_c ∙ own_slots slot ∙ omega (arith, one, in_c))))
          (λ slot z. (let p = point (moves k.plan slot) v.at Q drawn in omega (arith, p, z, moved_is_placed k.plan slot v.at)))
          xs
          (back ∙ sym (now_brought v.at (left_all v.at (omega arith) here_below) (held_all v.at (omega arith) here_below) (of_phase v.at (omega arith) at_one.1) drawn))

      more_worked : (x : ℕ) → worked_in v.stage v.at x + is_at x v.at ≡ among a (suc v.at) x
      more_worked x = omega (arith, ap (λ s. worked_in s v.at x) is, among_two a v.at (suc v.at) x at_one.0 (omega arith), among_one v.at x)

      -- its places are at the stages before its phase
      pub stage_now : (slot : ℕ) → 1 ≤ times slot (places k.plan v.at) → stage_of k.plan (worked_by views) slot ≡ stage_before k.plan v.at slot
      stage_now slot in_c =
          let in_it = of_phase v.at (omega arith) at_one.1 in
          stage_is k w n views r v.at slot (not_worked v.at (left_all v.at (omega arith) here_below) (held_all v.at (omega arith) here_below) in_it) in_it in_c

      -- a finish
      pub finish_worked : suc v.at ≡ m → (x : ℕ) → worked x (record v { stage = left_of (stage.Open a m b); told = []; performed = v.performed ++ numbers a m }) ≡ worked x v + is_at x v.at
      finish_worked last x =
          let v' : View = record v { stage = left_of (stage.Open a m b); told = []; performed = v.performed ++ numbers a m } in
          let none : worked_in v'.stage v'.at x ≡ 0 = left_by (λ s. worked_in s v.at x ≡ 0) a m b (λ _. refl) (λ _. refl) in
          omega (arith, none, plus k w n views r by a m b v e is x, more_worked x, ap (λ c. among a c x) last)

      pub finishes_places : suc v.at ≡ m → (xs : List (ℕ × Part)) → xs ≡ brought k v.at → AreHome k (homes_after homes xs (gives_all (length xs))) (set views by (record v { stage = left_of (stage.Open a m b); told = []; performed = v.performed ++ numbers a m }))
      finishes_places last xs back =
          let v' : View = record v { stage = left_of (stage.Open a m b); told = []; performed = v.performed ++ numbers a m } in
          comes_home v' (λ slot. left_by (λ s. has_slot k.plan slot s v.at ≡ 0) a m b (λ _. refl) (λ _. refl))
          (finish_worked last)
          xs back

      -- a turn to the next unit: in two, with a view between that has no place
      module _ (lt : suc v.at < m) (xs : List (ℕ × Part)) (back : xs ≡ brought k v.at) where
        abbrev v1 : View
        v1 = record v { stage = stage.Idle; performed = v.performed ++ numbers a (suc v.at) }

        abbrev v2 : View
        v2 = record v { at = suc v.at; told = [] }

        abbrev homes1 : List (Option Part)
        homes1 = homes_after homes xs (gives_all (length xs))

        pub turn_worked : (x : ℕ) → worked x v2 ≡ worked x v + is_at x v.at
        turn_worked x = (let z : worked_in v.stage (suc v.at) x ≡ among a (suc v.at) x = ap (λ s. worked_in s (suc v.at) x) is in omega (arith, z, more_worked x))

        one_more : (x : ℕ) → worked x v1 ≡ worked x v + is_at x v.at
        one_more x = omega (arith, total-append (is_at x) v.performed (numbers a (suc v.at)), times_numbers a (suc v.at) x (omega (arith, at_one.0)), more_worked x)

        first : AreHome k homes1 (set views by v1)
        first = comes_home v1 (λ slot. refl) one_more xs back

        abbrev next : ℕ
        next = suc v.at

        mine_next : 1 ≤ left next v
        mine_next = left_all next (omega arith) (omega (arith, lt, order.1))

        held_next : 1 ≤ holds next v
        held_next = held_all next (omega arith) (omega (arith, lt, order.1))

        there : get_elem? (set views by v1) by ≡ some v1
        there = set_here views by v1 (inside views by v e)

        -- the next unit's places are with nobody, and their stages are as before
        closed_next : (slot : ℕ) → 1 ≤ times slot (places k.plan next) → total (Has slot) (set views by v1) ≡ 0
        closed_next slot in_next =
            let all = all_own next mine_next held_next (of_phase next (omega arith) lt) slot in_next in
            omega (arith, all, total_set (Has slot) views by v v1 e)

        as_before : (slot : ℕ) → 1 ≤ times slot (places k.plan next) → stage_of k.plan (worked_by (set views by v1)) slot ≡ stage_before k.plan next slot
        unfolding stage_of
        as_before slot in_next =
            let away : times slot (places k.plan v.at) ≡ 0 = none_other k w n views r next v.at slot (of_phase next (omega arith) lt) (of_phase v.at (omega arith) at_one.1) (λ q. (let same : suc v.at ≡ v.at = q in omega (arith, same))) in_next in
            stage_more Q (moves k.plan slot) (worked_by views) (worked_by (set views by v1)) (λ x. is_at x v.at) (λ x. omega (arith, total_set (worked x) views by v v1 e, one_more x))
            ∙ (let p = point (moves k.plan slot) v.at Q drawn in let s = stage_is k w n views r next slot (not_worked next mine_next held_next (of_phase next (omega arith) lt)) (of_phase next (omega arith) lt) in_next in omega (arith, p, s, away, moved_is_placed k.plan slot v.at))

        next_taken : parts_of (part_at k) (places k.plan next) (λ slot. stage_of k.plan (worked_by (set views by v1)) slot) ≡ taken k next
        next_taken = parts_same (part_at k) (places k.plan next) (stage_of k.plan (worked_by (set views by v1))) (stage_before k.plan next) as_before

        pub turns_valid : Valid homes xs (chain (gives_all (length xs)) (takes_all (taken k next)))
        unfolding stage_of
        turns_valid = (
          valid_gives homes xs (length xs),
          subst (λ ys. Valid homes1 ys (takes_all (taken k next))) (sym (none_left xs))
              (subst (λ ys. Valid homes1 [] (takes_all ys)) next_taken
              (valid_takes homes1 [] (parts_of (part_at k) (places k.plan next) (λ slot. stage_of k.plan (worked_by (set views by v1)) slot))
              (apart_of (part_at k) all_slots (places k.plan next) (λ slot. stage_of k.plan (worked_by (set views by v1)) slot) (places_once k next))
              (all_home Q (moves k.plan) (part_at k) Has worked all_slots homes1 (set views by v1) first (places k.plan next) (places_once k next) closed_next))),
        )

        pub turns_places : AreHome k (homes_after homes xs (chain (gives_all (length xs)) (takes_all (taken k next)))) (set views by v2)
        unfolding stage_of
        turns_places =
            subst (λ ys. AreHome k (homes_after homes1 ys (takes_all (taken k next))) (set views by v2)) (sym (none_left xs))
            (subst (λ us. AreHome k (homes_after homes1 [] (takes_all (taken k next))) us) (set_twice views by v1 v2)
            (subst (λ ys. AreHome k (homes_after homes1 [] (takes_all ys)) (set (set views by v1) by v2)) next_taken
            (opens_homes Q (moves k.plan) (part_at k) Has worked all_slots by (places k.plan next) homes1 (set views by v1) v1 v2 first there (places_once k next)
            (λ slot. (let z : has_slot k.plan slot v.stage next ≡ times slot (places k.plan next) = ap (λ s. has_slot k.plan slot s next) is in omega (arith, z)))
            (λ x. (let z : worked_in v.stage next x ≡ among a next x = ap (λ s. worked_in s next x) is in omega (arith, z, one_more x, more_worked x)))
            closed_next)))
