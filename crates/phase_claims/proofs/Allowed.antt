-- What each step of a floor's table owes.
use Rattle.std.proofs.Common.{◌≡◌, ℕ, zero, suc, ◌+◌, ◌-◌, ◌*◌, ◌%◌, ◌^◌, ◌<◌, ◌≤◌, max, min, List, [], ◌∷◌, ◌++◌, length, append-nil, replicate, set, get_or, refl, sym, ap, ◌∙◌, subst, lt_of_not-le, mul-le-mul_right, arith}
use mathlib.Core.Option.{Option, none}
use mathlib.Core.Logic.{dite}
use native.Mathlib.Decide.{dec_le}
use Rattle.atomic_table.specs.Table.{Allows, Joins, Me, Splits, Valid, carried_after, chain, homes_after, keeps, step}
use Rattle.atomic_table.proofs.Lists.{set_again}
use Rattle.dta_model.specs.Machine.{first_in, held_end, left_of, open_end, with_open}
use Rattle.dta_model.specs.Sound.{IsSound}
use Rattle.dta_model.specs.Units.{Gather, node_count, phase_end, phase_start, step_of, step_units, task_of, unit_count}
use Rattle.dta_model.specs.declared.machine.Stage.TheVariants as stage
use Rattle.dta_model.specs.declared.machine.TheConstants.{MOST_CHUNK}
use Rattle.dta_model.specs.declared.plan.Plan.{Plan}
use Rattle.claim_core.specs.Runs.{numbers}
use Rattle.claim_core.proofs.Runs.{among_in, among_none}
use Rattle.claim_core.proofs.Sums.{total_at}
use Rattle.phase_claims.specs.declared.floor.TheConstants.{MOST_PASSES, STILL_WORD}
use Rattle.phase_claims.specs.declared.part.Part.{Part}
use Rattle.phase_claims.specs.declared.view.Scope.{Scope}
use Rattle.phase_claims.specs.declared.view.View.{View}
use Rattle.phase_claims.specs.Passes.{IsHeld, IsOpen, HoldsNoUnit}
use Rattle.phase_claims.specs.PlacesHome.{AreHome, brought, carried, has_slot, taken}
use Rattle.phase_claims.specs.declared.work_told.TheConstants.{FIRST_NODE_WORD}
use Rattle.node_transfer.specs.Rest.{NobodyComes}
use Rattle.phase_claims.specs.Plays.{Draws, Finishes, IsBounded, Looks, LooksAt, Sees, Tells, Turns}
use Rattle.phase_claims.specs.Running.{EarlierArePerformed, Holds, Running, StandsIn}
use Rattle.phase_claims.specs.Told.{AreReached, KeepsRooms, TellsAll}
use Rattle.phase_claims.specs.Views.{at_next, beginning, done_with, ended, first_of_phase, having_open, holding, holds, joined, less_spare, nobody, rights, seeing, telling, worked_in}
use Rattle.phase_claims.proofs.Steps.{alone, begins, draws_none, draws_units, drawn_most, earlier, finished_few, finishes, held_in, holds_all, in_order as in_sequence, joins, opens, own, splits, tells, turns, waits}
use Rattle.phase_claims.proofs.PlacesSteps.{drawn, finish_worked, finishes_places, homes_join, homes_set, homes_split, opens_places, opens_valid, stage_now, turn_worked, turns_places, turns_valid}
use Rattle.phase_claims.proofs.Told.{grown_else, grown_here, nobody_comes, rooms_kept, none_told, reached_join, reached_more, reached_set, reached_split, reached_start, set_far, still_told, tells_more}
use Rattle.phase_claims.proofs.Turning.{gives_all, in_order, none_left, takes_all, valid_gives}

-- a word that is written as it was found
set_found : (l : List ℕ) (i : ℕ) → set l i (get_or l i 0) ≡ l
set_found [] i = refl
set_found (x ∷ xs) zero = refl
set_found (x ∷ xs) (suc i) = ap (λ ys. x ∷ ys) (set_found xs i)

module _ (k : Scope) where
  -- the rule after a step
  kept : (w n : ℕ) (views : List View) → k.passes ≤ MOST_PASSES → unit_count k.plan < 2 ^ 50 → Running k w n views → (o l : List ℕ) → l ≡ 0 ∷ w ∷ n ∷ o → (homes : List (Option Part)) → AreHome k homes views → AreReached k l views → Holds k record { words = l; homes = homes; views = views }
  kept w n views few small r o l is homes h reached = record { few = few; small = small; drawn = w; finished = n; others = o; words = is; running = r; homes = h; reached = reached }

  pub draws_allowed : (slots id many : ℕ) (m : Me Part View) → m.0.stage ≡ stage.Idle → 1 ≤ m.0.weight → 1 ≤ many → many ≤ MOST_CHUNK → Allows (Holds k) slots id m 1 (λ n. (n + many) % 2 ^ 64) (Draws (step slots 1 many 0 none) m)
  draws_allowed slots id many m idle has one most s h long at room =
      let r = h.running in
      let w : ℕ = h.drawn in let n : ℕ = h.finished in
      let found : get_or s.words 1 0 ≡ w = ap (λ l. get_or l 1 0) h.words in
      let scope : m.0.scope ≡ k = (r.each id m.0 at).scope has in
      let count : unit_count m.0.scope.plan ≡ unit_count k.plan = ap (λ (j : Scope). unit_count j.plan) scope in
      let next : (get_or s.words 1 0 + many) % 2 ^ 64 ≡ w + many = ap (λ x. (x + many) % 2 ^ 64) found ∙ omega (arith, drawn_most k w n s.views r, h.few, h.small, most) in
      let words : set s.words 1 ((get_or s.words 1 0 + many) % 2 ^ 64) ≡ 0 ∷ (w + many) ∷ n ∷ h.others = ap (λ x. set s.words 1 x) next ∙ ap (λ l. set l 1 (w + many)) h.words in
      dite (dec_le (unit_count k.plan) w)
      (λ over. (
        ended m.0 many,
        keeps,
        tt,
        kept (w + many) n (set s.views id (ended m.0 many)) h.few h.small (draws_none k w n s.views r id many m.0 at idle has one most over) h.others _ words s.homes
            (homes_set k s.homes s.views id m.0 (ended m.0 many) at (λ slot. sym (ap (λ x. has_slot k.plan slot x m.0.at) idle)) (λ x. (let z : worked_in m.0.stage m.0.at x ≡ 0 = ap (λ s. worked_in s m.0.at x) idle in omega (arith, z))) h.homes)
            (reached_set k s.words _ s.views id m.0 (ended m.0 many) at (grown_else s.words 1 _ (omega arith)) (λ x. (let z : worked_in m.0.stage m.0.at x ≡ 0 = ap (λ s. worked_in s m.0.at x) idle in omega (arith, z))) (still_told k s.words _ m.0 (grown_else s.words 1 _ (omega arith)) (h.reached.passes id m.0 at)) h.reached),
        (refl, record { given = λ l. absurd (omega (arith, l, over, count, found)); over = λ _. refl }),
      ))
      (λ under. let u : w < unit_count k.plan = lt_of_not-le under in (
        holding m.0 w many,
        keeps,
        tt,
        kept (w + many) n (set s.views id (holding m.0 w many)) h.few h.small (draws_units k w n s.views r id many m.0 at idle has one most u) h.others _ words s.homes
            (homes_set k s.homes s.views id m.0 (holding m.0 w many) at (λ slot. sym (ap (λ x. has_slot k.plan slot x m.0.at) idle)) (λ x. (let z : worked_in m.0.stage m.0.at x ≡ 0 = ap (λ s. worked_in s m.0.at x) idle in omega (arith, z))) h.homes)
            (reached_set k s.words _ s.views id m.0 (holding m.0 w many) at (grown_else s.words 1 _ (omega arith)) (λ x. (let z : worked_in m.0.stage m.0.at x ≡ 0 = ap (λ s. worked_in s m.0.at x) idle in omega (arith, z))) (still_told k s.words _ m.0 (grown_else s.words 1 _ (omega arith)) (h.reached.passes id m.0 at)) h.reached),
        (refl, record { given = λ l. ap (λ x. holding m.0 x many) (sym found); over = λ l. absurd (omega (arith, l, u, count, found)) }),
      ))

  pub looks_allowed : (slots id : ℕ) (m : Me Part View) → IsHeld m.0.stage → 1 ≤ m.0.weight → m.1 ≡ carried m.0.scope m.0.stage m.0.at → Allows (Holds k) slots id m 2 (λ n. n) (Looks (step slots 2 0 0 none) m)
  looks_allowed slots id m is has held s h long at room =
      let empty : m.1 ≡ [] = held ∙ ap (λ x. carried m.0.scope x m.0.at) is in
      let r = h.running in
      let a : ℕ = first_in m.0.stage in let b : ℕ = held_end m.0.stage in
      let w : ℕ = h.drawn in let n : ℕ = h.finished in
      let found : n ≡ get_or s.words 2 0 = sym (ap (λ l. get_or l 2 0) h.words) in
      let f = r.each id m.0 at in
      let scope : k ≡ m.0.scope = sym (f.scope has) in
      let words : set s.words 2 (get_or s.words 2 0) ≡ 0 ∷ w ∷ n ∷ h.others = ap (λ x. set s.words 2 x) (sym found) ∙ ap (λ l. set l 2 n) h.words in
      let first : phase_start (node_count k.plan) a ≡ phase_start (node_count m.0.scope.plan) a = ap (λ (j : Scope). phase_start (node_count j.plan) a) scope in
      let told : (v : View) → LooksAt m.0 n v → LooksAt m.0 (get_or s.words 2 0) v = λ v t. subst (λ (x : ℕ). LooksAt m.0 x v) found t in
      let passes : k.passes ≡ m.0.scope.passes = ap (λ (j : Scope). j.passes) scope in
      let mine = own k w n s.views r id m.0 at in
      let whole : rights m.0 ≡ m.0.scope.passes → first_of_phase m.0 ≤ n = λ all. omega (arith, alone k w n s.views r id a b m.0 at is (all ∙ sym passes), first) in
      let moved : (h' : Holds m.0.scope s) × (h'.finished ≡ n) = subst (λ (j : Scope). (h' : Holds j s) × (h'.finished ≡ n)) scope (h, refl) in
      let stands : StandsIn m.0 n = record { state = s; rule = moved.0; by = id; here = at; word = moved.1 } in
      let stop : ℕ = min b (phase_end (node_count k.plan) a) in
      let opened : View = record m.0 { stage = stage.Open a stop b; at = a; told = []; seen = n; looks = m.0.looks + 1 } in
      let same : opened ≡ having_open m.0 n = ap (λ (j : Scope). record m.0 { stage = with_open (node_count j.plan) m.0.stage; at = a; told = []; seen = n; looks = m.0.looks + 1 }) scope in
      let taking = takes_all (taken k a) in
      let before : first_of_phase m.0 ≤ n → EarlierArePerformed (node_count m.0.scope.plan) a s.views = λ le x lt.
      (let le' : phase_start (node_count k.plan) a ≤ n = omega (arith, le, first) in
      let held : 1 ≤ holds a m.0 = omega (arith, holds_all k w n s.views r id a b m.0 at is le' a, among_in a b a (omega arith) (in_sequence k w n s.views r id a b m.0 at is le')) in
      earlier k w n s.views r a (held_in k w n s.views r id a m.0 at held).0 le' x (omega (arith, lt, first))) in
      dite (dec_le (phase_start (node_count k.plan) a) n)
      (λ le. (
        opened,
        taking,
        subst (λ xs. Valid s.homes xs taking) (sym empty) (opens_valid k w n s.views r s.homes h.homes id m.0 at a b is le),
        kept w n (set s.views id opened) h.few h.small (opens k w n s.views r id a b m.0 at is le has) h.others _ words (homes_after s.homes m.1 taking)
            (subst (λ xs. AreHome k (homes_after s.homes xs taking) (set s.views id opened)) (sym empty) (opens_places k w n s.views r s.homes h.homes id m.0 at a b is le n (m.0.looks + 1)))
            (reached_set k s.words _ s.views id m.0 opened at (grown_else s.words 2 _ (omega arith)) (λ x. (let z : worked_in m.0.stage m.0.at x ≡ 0 = ap (λ s. worked_in s m.0.at x) is in omega (arith, z, among_none a x))) (none_told k _ opened refl) h.reached),
        (
          ap (λ xs. carried_after xs taking) empty ∙ in_order [] (taken k a) ∙ append-nil (taken k a) ∙ ap (λ (j : Scope). taken j a) scope,
          told opened record { stands = stands; earlier = before; seen = f.seen; own = mine; alone = whole; opens = λ _. same; waits = λ lt. absurd (omega (arith, lt, le, first)) },
        ),
      ))
      (λ late. (
        seeing m.0 n,
        keeps,
        tt,
        kept w n (set s.views id (seeing m.0 n)) h.few h.small (waits k w n s.views r id m.0 at has) h.others _ words s.homes
            (homes_set k s.homes s.views id m.0 (seeing m.0 n) at (λ slot. refl) (λ x. refl) h.homes)
            (reached_set k s.words _ s.views id m.0 (seeing m.0 n) at (grown_else s.words 2 _ (omega arith)) (λ x. refl) (still_told k s.words _ m.0 (grown_else s.words 2 _ (omega arith)) (h.reached.passes id m.0 at)) h.reached),
        (empty ∙ sym (ap (λ x. carried m.0.scope x m.0.at) is), told (seeing m.0 n) record { stands = stands; earlier = before; seen = f.seen; own = mine; alone = whole; opens = λ le. absurd (late (omega (arith, le, first))); waits = λ _. refl }),
      ))

  -- a load of the word that never changes, at which the places of one unit come home and those of the next are taken
  pub turns_allowed : (slots id : ℕ) (m : Me Part View) → IsOpen m.0.stage → 1 ≤ m.0.weight → suc m.0.at < open_end m.0.stage → m.1 ≡ brought m.0.scope m.0.at → TellsAll m.0.scope.plan m.0.at m.0.told → Allows (Holds k) slots id m STILL_WORD (λ n. n) (Turns (step slots STILL_WORD 0 0 none) m)
  turns_allowed slots id m is has lt back tells s h long at room =
      let r = h.running in
      let a : ℕ = first_in m.0.stage in let stop : ℕ = open_end m.0.stage in let b : ℕ = held_end m.0.stage in
      let w : ℕ = h.drawn in let n : ℕ = h.finished in
      let words : set s.words STILL_WORD (get_or s.words STILL_WORD 0) ≡ 0 ∷ w ∷ n ∷ h.others = set_found s.words STILL_WORD ∙ h.words in
      let scope : m.0.scope ≡ k = (r.each id m.0 at).scope has in
      let home : m.1 ≡ brought k m.0.at = back ∙ ap (λ (j : Scope). brought j m.0.at) scope in
      let next = taken k (suc m.0.at) in
      let act = chain (gives_all (length m.1)) (takes_all next) in (
        at_next m.0,
        act,
        turns_valid k w n s.views r s.homes h.homes id m.0 at a stop b is lt m.1 home,
        kept w n (set s.views id (at_next m.0)) h.few h.small (turns k w n s.views r id a stop b m.0 at is has lt) h.others _ words (homes_after s.homes m.1 act)
            (turns_places k w n s.views r s.homes h.homes id m.0 at a stop b is lt m.1 home)
            (reached_more k s.words _ s.views id m.0 (at_next m.0) at (grown_else s.words STILL_WORD _ (omega arith)) (drawn k w n s.views r s.homes h.homes id m.0 at a stop b is)
            (turn_worked k w n s.views r s.homes h.homes id m.0 at a stop b is lt m.1 home) refl (stage_now k w n s.views r s.homes h.homes id m.0 at a stop b is)
            (subst (λ (j : Scope). TellsAll j.plan m.0.at m.0.told) scope tells) h.reached),
        (ap (λ xs. carried_after xs (takes_all next)) (none_left m.1) ∙ in_order [] next ∙ append-nil next ∙ ap (λ (j : Scope). taken j (suc m.0.at)) (sym scope), refl),
      )

  pub finishes_allowed : (slots id many : ℕ) (m : Me Part View) → IsOpen m.0.stage → 1 ≤ m.0.weight → suc m.0.at ≡ open_end m.0.stage → many ≡ open_end m.0.stage - first_in m.0.stage → m.1 ≡ brought m.0.scope m.0.at → TellsAll m.0.scope.plan m.0.at m.0.told
      → Allows (Holds k) slots id m 2 (λ n. (n + many) % 2 ^ 64) (Finishes (step slots 2 many 0 none) m)
  finishes_allowed slots id many m is has last all back tells s h long at room =
      let r = h.running in
      let a : ℕ = first_in m.0.stage in let stop : ℕ = open_end m.0.stage in let b : ℕ = held_end m.0.stage in
      let w : ℕ = h.drawn in let n : ℕ = h.finished in
      let found : get_or s.words 2 0 ≡ n = ap (λ l. get_or l 2 0) h.words in
      let next : (get_or s.words 2 0 + many) % 2 ^ 64 ≡ n + (stop - a) = ap (λ x. (x + many) % 2 ^ 64) found ∙ omega (arith, all, finished_few k w n s.views r id a stop b m.0 at is, h.small) in
      let words : set s.words 2 ((get_or s.words 2 0 + many) % 2 ^ 64) ≡ 0 ∷ w ∷ (n + (stop - a)) ∷ h.others = ap (λ x. set s.words 2 x) next ∙ ap (λ l. set l 2 (n + (stop - a))) h.words in
      let scope : m.0.scope ≡ k = (r.each id m.0 at).scope has in
      let home : m.1 ≡ brought k m.0.at = back ∙ ap (λ (j : Scope). brought j m.0.at) scope in
      let done : View = record m.0 { stage = left_of (stage.Open a stop b); told = []; performed = m.0.performed ++ numbers a stop } in
      let same : done ≡ done_with m.0 = ap (λ x. record m.0 { stage = left_of x; told = []; performed = m.0.performed ++ numbers a stop }) (sym is) in (
        done,
        gives_all (length m.1),
        valid_gives s.homes m.1 (length m.1),
        kept w (n + (stop - a)) (set s.views id done) h.few h.small (finishes k w n s.views r id a stop b m.0 at is has) h.others _ words (homes_after s.homes m.1 (gives_all (length m.1)))
            (finishes_places k w n s.views r s.homes h.homes id m.0 at a stop b is last m.1 home)
            (reached_more k s.words _ s.views id m.0 done at (grown_else s.words 2 _ (omega arith)) (drawn k w n s.views r s.homes h.homes id m.0 at a stop b is)
            (finish_worked k w n s.views r s.homes h.homes id m.0 at a stop b is last) refl (stage_now k w n s.views r s.homes h.homes id m.0 at a stop b is)
            (subst (λ (j : Scope). TellsAll j.plan m.0.at m.0.told) scope tells) h.reached),
        (none_left m.1, same),
      )

  pub splits_allowed : (id : ℕ) (v : View) → 1 ≤ v.weight → 1 ≤ v.spare → Splits (Holds k) id v (less_spare v) (beginning v.scope 0)
  splits_allowed id v has spare s h at = record { few = h.few; small = h.small; drawn = h.drawn; finished = h.finished; others = h.others; words = h.words; running = splits k h.drawn h.finished s.views h.running id v at has spare; homes = homes_split k s.homes s.views id v at h.homes; reached = reached_split k s.words s.views id v at h.reached }

  pub joins_allowed : (id other : ℕ) (v u : View) → HoldsNoUnit v.stage → HoldsNoUnit u.stage → 1 ≤ v.weight → Joins (Holds k) id v other u (joined v u) nobody
  joins_allowed id other v u hv hu has s h at ne there = record { few = h.few; small = h.small; drawn = h.drawn; finished = h.finished; others = h.others; words = h.words; running = joins k h.drawn h.finished s.views h.running id other v u at ne there hv hu has; homes = homes_join k s.homes s.views id other v u at there hv hu h.homes; reached = reached_join k s.words s.views id other v u at there hv hu h.reached }

  pub bounds_allowed : (slots id : ℕ) (m : Me Part View) → Allows (Holds k) slots id m 0 (λ n. n) (IsBounded (step slots 0 0 0 none) m)
  bounds_allowed slots id m s h long at room =
      let r = h.running in
      let w : ℕ = h.drawn in let n : ℕ = h.finished in
      let words : set s.words 0 (get_or s.words 0 0) ≡ 0 ∷ w ∷ n ∷ h.others = set_found s.words 0 ∙ h.words in (
        m.0,
        keeps,
        tt,
        kept w n (set s.views id m.0) h.few h.small (subst (Running k w n) (sym (set_again s.views id m.0 at)) r) h.others _ words s.homes
            (subst (AreHome k s.homes) (sym (set_again s.views id m.0 at)) h.homes)
            (reached_set k s.words _ s.views id m.0 m.0 at (grown_else s.words 0 _ (omega arith)) (λ x. refl) (still_told k s.words _ m.0 (grown_else s.words 0 _ (omega arith)) (h.reached.passes id m.0 at)) h.reached),
        (refl, omega (arith, total_at rights s.views id m.0 at, r.rights, h.few)),
      )

  -- a look at a node's word, for its gather
  pub sees_allowed : (slots id word : ℕ) (m : Me Part View) → IsOpen m.0.stage → 1 ≤ m.0.weight → IsSound k.plan → FIRST_NODE_WORD ≤ word → Allows (Holds k) slots id m word (λ n. n) (Sees (step slots word 0 0 none) m)
  sees_allowed slots id word m is has sound behind s h long at room =
      let r = h.running in
      let a : ℕ = first_in m.0.stage in let stop : ℕ = open_end m.0.stage in let b : ℕ = held_end m.0.stage in
      let w : ℕ = h.drawn in let n : ℕ = h.finished in
      let words : set s.words word (get_or s.words word 0) ≡ 0 ∷ w ∷ n ∷ h.others = set_found s.words word ∙ h.words in
      let scope : k ≡ m.0.scope = sym ((r.each id m.0 at).scope has) in
      let still : (i : ℕ) → word ≡ FIRST_NODE_WORD + i → task_of (node_count k.plan) m.0.at ≡ Gather i → get_or s.words word 0 ≤ 2 * step_of (node_count k.plan) m.0.at + 1
      → KeepsRooms k.plan i (step_of (node_count k.plan) m.0.at) × NobodyComes k.plan i (step_of (node_count k.plan) m.0.at) = λ i e task few.
      (let here = stage_now k w n s.views r s.homes h.homes id m.0 at a stop b is in
      let low = subst (λ (j : ℕ). get_or s.words j 0 ≤ 2 * step_of (node_count k.plan) m.0.at + 1) e few in
      (rooms_kept k sound s.words s.views h.reached m.0.at i task here low, nobody_comes k sound s.words s.views h.reached m.0.at i task here low)) in (
        m.0,
        keeps,
        tt,
        subst (λ l. Holds k record { words = l; homes = s.homes; views = set s.views id m.0 }) (sym (set_found s.words word))
            (subst (λ us. Holds k record { words = s.words; homes = s.homes; views = us }) (sym (set_again s.views id m.0 at)) h),
        (
          refl,
          subst (λ (j : Scope). (i : ℕ) → word ≡ FIRST_NODE_WORD + i → task_of (node_count j.plan) m.0.at ≡ Gather i → get_or s.words word 0 ≤ 2 * step_of (node_count j.plan) m.0.at + 1
              → KeepsRooms j.plan i (step_of (node_count j.plan) m.0.at) × NobodyComes j.plan i (step_of (node_count j.plan) m.0.at)) scope still,
        ),
      )

  -- the step that tells a node
  pub tells_allowed : (slots id i x : ℕ) (m : Me Part View) → 1 ≤ m.0.weight → i < node_count m.0.scope.plan → 2 * step_of (node_count m.0.scope.plan) m.0.at + 1 < x → Allows (Holds k) slots id m (FIRST_NODE_WORD + i) (λ n. max n x) (Tells (step slots (FIRST_NODE_WORD + i) x 0 none) m)
  tells_allowed slots id i x m has few past s h long at room =
      let r = h.running in
      let w : ℕ = h.drawn in let n : ℕ = h.finished in
      let scope : m.0.scope ≡ k = (r.each id m.0 at).scope has in
      let there : FIRST_NODE_WORD + i < length s.words = (let c = subst (λ (j : Scope). i < node_count j.plan) scope few in omega (arith, c, h.reached.count)) in
      let late = subst (λ (j : Scope). 2 * step_of (node_count j.plan) m.0.at + 1 < x) scope past in
      let word : ℕ = max (get_or s.words (FIRST_NODE_WORD + i) 0) x in
      let words : set s.words (FIRST_NODE_WORD + i) word ≡ 0 ∷ w ∷ n ∷ set h.others (FIRST_NODE_WORD + i - 3) word = ap (λ l. set l (FIRST_NODE_WORD + i) word) h.words ∙ set_far 0 w n h.others (FIRST_NODE_WORD + i) word (omega arith) in (
        telling m.0 i,
        keeps,
        tt,
        kept w n (set s.views id (telling m.0 i)) h.few h.small (tells k w n s.views r id i m.0 at has) (set h.others (FIRST_NODE_WORD + i - 3) word) _ words s.homes
            (homes_set k s.homes s.views id m.0 (telling m.0 i) at (λ slot. refl) (λ x. refl) h.homes)
            (reached_set k s.words _ s.views id m.0 (telling m.0 i) at (grown_here s.words i x there) (λ x. refl) (tells_more k s.words m.0 i x there late (h.reached.passes id m.0 at)) h.reached),
        (refl, λ j e. ap (telling m.0) (let q : i ≡ j = omega (arith, e) in q)),
      )

-- a sound plan has fewer units than a word can count
few_units : (p : Plan) → IsSound p → unit_count p < 2 ^ 50
unfolding unit_count
few_units p sound =
    let n : ℕ = node_count p in
    let few : n ≤ 1000000 = sound.net.nodes.few in
    let most : p.horizon * step_units n ≤ 86400 * step_units n = mul-le-mul_right (step_units n) sound.horizon_most in
    let all : ℕ = p.horizon * step_units n in
    let bound : all ≤ 86400 * (n + n + 1) = most in
    omega arith

-- a new table
pub begins_allowed : (k : Scope) (o : List ℕ) (homes : List (Option Part)) → AreHome k homes (beginning k (k.passes - 1) ∷ []) → FIRST_NODE_WORD + node_count k.plan ≤ length (0 ∷ 0 ∷ 0 ∷ o) → IsSound k.plan → 1 ≤ k.passes → k.passes ≤ MOST_PASSES → Holds k record { words = 0 ∷ 0 ∷ 0 ∷ o; homes = homes; views = beginning k (k.passes - 1) ∷ [] }
begins_allowed k o homes home count sound least most = record { few = most; small = few_units k.plan sound; drawn = 0; finished = 0; others = o; words = refl; running = begins k least; homes = home; reached = reached_start k (0 ∷ 0 ∷ 0 ∷ o) (k.passes - 1) count }

-- words that say nothing yet, and the same behind the first three
abbrev pub zero_words : ℕ → List ℕ
zero_words n = replicate {A = ℕ} n 0

abbrev three_and : ℕ → List ℕ
three_and n = 0 ∷ 0 ∷ 0 ∷ zero_words n

pub length_zeros : (n : ℕ) → length {A = ℕ} (zero_words n) ≡ n
length_zeros zero = refl
length_zeros (suc n) = ap suc (length_zeros n)

zeros : (n : ℕ) → 3 ≤ n → zero_words n ≡ three_and (n - 3)
zeros zero h = absurd (omega (arith, h))
zeros (suc zero) h = absurd (omega (arith, h))
zeros (suc (suc zero)) h = absurd (omega (arith, h))
zeros (suc (suc (suc n))) h = ap three_and (let e : n ≡ suc (suc (suc n)) - 3 = omega arith in e)

pub begins_with : (k : Scope) (words : List ℕ) (homes : List (Option Part)) → words ≡ zero_words (FIRST_NODE_WORD + node_count k.plan) → AreHome k homes (beginning k (k.passes - 1) ∷ []) → IsSound k.plan → 1 ≤ k.passes → k.passes ≤ MOST_PASSES → Holds k record { words = words; homes = homes; views = beginning k (k.passes - 1) ∷ [] }
begins_with k words homes are home sound least most =
    let all : ℕ = FIRST_NODE_WORD + node_count k.plan in
    let is : words ≡ three_and (all - 3) = are ∙ zeros all (omega arith) in
    subst (λ (ws : List ℕ). Holds k record { words = ws; homes = homes; views = beginning k (k.passes - 1) ∷ [] }) (sym is)
    (begins_allowed k (zero_words (all - 3)) homes home (omega (arith, length_zeros (all - 3))) sound least most)
