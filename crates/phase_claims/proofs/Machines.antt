-- The words and the views of a floor are claims of the claim machine.
use Rattle.std.proofs.Common.{◌≡◌, ◌≢◌, ℕ, ◌+◌, ◌-◌, ◌*◌, ◌<◌, ◌≤◌, ◌%◌, min, List, [], ◌∷◌, length, map, set, refl, sym, ap, ◌∙◌, lt_of_not-le, arith}
use mathlib.Core.Logic.{dite}
use mathlib.Core.Option.{some}
use native.Mathlib.Decide.{dec_le}
use lib.ListN.{get_elem?}
use Rattle.atomic_table.specs.Table.{State}
use Rattle.atomic_table.proofs.Lists.{set_else}
use Rattle.dta_model.specs.Machine.{Claims, finished, first_in, holds_unit, open_end}
use Rattle.dta_model.specs.Plans.{ins, outs}
use Rattle.dta_model.specs.Units.{Gather, Posting, Transfer, node_count, phase_end, phase_start, posting_part, step_units, task_of, unit_count}
use Rattle.dta_model.specs.declared.machine.Stage.{Stage}
use Rattle.dta_model.specs.declared.machine.Stage.TheVariants as stage
use Rattle.dta_model.specs.declared.plan.Plan.{Plan}
use Rattle.claim_core.specs.Kinds.{kind_by}
use Rattle.claim_core.specs.Parts.{done_in, moves, stage_of}
use Rattle.claim_core.specs.declared.phase.Phase.{Phase}
use Rattle.claim_core.specs.Runs.{among}
use Rattle.claim_core.specs.Sums.{one_if, total}
use Rattle.claim_core.proofs.Claimed.{open_now}
use Rattle.claim_core.proofs.Counts.{count_is, done_is, drawn_in, held_in, sum_of}
use Rattle.claim_core.proofs.Cuts.{below_same}
use Rattle.claim_core.proofs.ByPlace.{gathers_at, posts_at}
use Rattle.claim_core.proofs.Holds.{held_here}
use Rattle.claim_core.proofs.InPhase.{of_posting}
use Rattle.claim_core.proofs.Parts.{in_task, ins_past, mail_of, moves_is, outs_past, transfers}
use Rattle.claim_core.proofs.Phases.{same_start, same_stop}
use Rattle.claim_core.proofs.Runs.{among_none, is_among}
use Rattle.claim_core.proofs.Sums.{once_le, total_at, total_le, total_set}
use Rattle.phase_claims.specs.declared.part.Part.{Part}
use Rattle.phase_claims.specs.declared.view.Scope.{Scope}
use Rattle.phase_claims.specs.declared.view.View.{View}
use Rattle.phase_claims.specs.Laws.{AreApart, AreClaims, AreOfOnePhase, claims_of}
use Rattle.phase_claims.specs.PlacesHome.{home_of, part_at}
use Rattle.phase_claims.specs.Running.{EarlierArePerformed, FitsStage, Holds, Running}
use Rattle.phase_claims.specs.Views.{held_by, holds, nobody, performed_by, performs, worked, worked_by, worked_in}
use Rattle.phase_claims.proofs.PlacesUnit.{part_writer}

-- two places of a list count together
both_in : (f : View → ℕ) (views : List View) (i j : ℕ) (v u : View) → f nobody ≡ 0 → i ≢ j → get_elem? views i ≡ some v → get_elem? views j ≡ some u → f v + f u ≤ total f views
both_in f views i j v u none differ at_i at_j =
    omega (arith, none, total_set f views i v nobody at_i, total_at f (set views i nobody) j u (set_else views i j nobody (λ e. differ (sym e)) ∙ at_j))

-- the workers hold what the passes hold
held_total : (x : ℕ) (views : List View) → total (λ s. one_if (holds_unit x s)) (map (λ (v : View). v.stage) views) ≡ held_by views x
held_total x [] = refl
held_total x (v ∷ views) = omega (arith, held_here x v.stage, held_total x views)

-- its open units are of the phase in which the number of finished ones stands
open_here : (N n at c : ℕ) (s : Stage) → FitsStage N n s at → 1 ≤ among (first_in s) (open_end s) c → (phase_start N n ≤ c) × (c < phase_end N n)
open_here N n at c stage.Idle f o = absurd (omega (arith, among_none 0 c, o))
open_here N n at c (stage.Held a b) f o = absurd (omega (arith, among_none a c, o))
open_here N n at c (stage.Open a m b) f o = let is = is_among a m c o in (omega (arith, is.0, f.3), omega (arith, is.1, f.4))
open_here N n at c stage.Ended f o = absurd (omega (arith, among_none 0 c, o))

-- a posting is the only unit of its phase
module _ (p : Plan) (u : ℕ) (h : 1 ≤ moves p (posting_part p) u) where
  no_transfer : (i : ℕ) → i < node_count p → in_task p (posting_part p) (Transfer i) ≡ 0
  no_transfer i b = mail_of p i (outs p i) b (length p.net.links) ∙ outs_past p i (length p.net.links) (omega arith)

  no_gather : (i : ℕ) → i < node_count p → in_task p (posting_part p) (Gather i) ≡ 0
  no_gather i b = mail_of p i (ins p i) b (length p.net.links) ∙ ins_past p i (length p.net.links) (omega arith)

  is_posting : task_of (node_count p) u ≡ Posting
  unfolding task_of
  is_posting =
      let N : ℕ = node_count p in
      let r : ℕ = u % step_units N in
      let k : ℕ = posting_part p in
      dite (dec_le (N + N) r)
      (λ last. posts_at N r last)
      (λ low. dite (dec_le N r)
      (λ mid. let under : r < N + N = lt_of_not-le low in
      absurd (omega (arith, moves_is p k u, ap (λ task. in_task p k task) (gathers_at N r mid under), no_gather (r - N) (omega (arith, mid, under)), h)))
      (λ first. let under : r < N = lt_of_not-le first in
      absurd (omega (arith, moves_is p k u, ap (λ task. in_task p k task) (transfers N r under), no_transfer r under, h))))

  alone_in_phase : phase_end (node_count p) u ≡ phase_start (node_count p) u + 1
  alone_in_phase = sym (ap (λ (x : Phase). x.end) (of_posting (node_count p) u (ap kind_by is_posting)))

-- so a pass that is at a later unit of its phase has worked on no posting
no_posting : (p : Plan) (n at u : ℕ) (s : Stage) → FitsStage (node_count p) n s at → 1 ≤ moves p (posting_part p) u → worked_in s at u ≡ 0
no_posting p n at u stage.Idle f h = refl
no_posting p n at u (stage.Held a b) f h = refl
no_posting p n at u (stage.Open a m b) f h = dite (dec_le 1 (among a at u))
    (λ is. let row = is_among a at u is in
    let lo : phase_start (node_count p) n ≤ u = omega (arith, row.0, f.3) in
    let hi : u < phase_end (node_count p) n = omega (arith, row.1, f.1, f.4) in
    absurd (omega (arith, alone_in_phase p u h, same_start (node_count p) n u lo hi, same_stop (node_count p) n u lo hi, row.1, f.1, f.3, f.4, row.0)))
    (λ out. let z : among a at u < 1 = lt_of_not-le out in omega (arith, z))
no_posting p n at u stage.Ended f h = refl

module _ (k : Scope) (w n : ℕ) (views : List View) (r : Running k w n views) where
  abbrev N : ℕ
  N = node_count k.plan

  abbrev s : Claims
  s = claims_of w views

  held_are : (x : ℕ) → held_in s x ≡ held_by views x
  held_are x = count_is (holds_unit x) s.stages ∙ held_total x views

  once : (x : ℕ) → performed_by views x + held_by views x ≤ 1
  once x = omega (arith, r.claimed.once x, once_le x (min w (unit_count k.plan)))

  performed_is : (x : ℕ) → done_in k.plan s x ≡ performed_by views x
  performed_is x = omega (arith, done_is k.plan s x, held_are x, r.claimed.once x)

  count_of : finished k.plan s ≡ n
  count_of = sum_of k.plan s ∙ below_same (done_in k.plan s) (performed_by views) (drawn_in k.plan s) (λ x _. performed_is x) ∙ sym r.claimed.sum

  pub earlier : (c : ℕ) → 1 ≤ held_by views c → phase_start (node_count k.plan) c ≤ n → EarlierArePerformed (node_count k.plan) c views
  earlier c held le x lt =
      let now = open_now N (min w (unit_count k.plan)) n (performed_by views) (held_by views) r.claimed c held le in
      let same : phase_start N c ≡ phase_start N n = same_start N n c now.0 now.1 in
      omega (arith, once x, r.claimed.before x (omega (arith, lt, same)))

  apart : (i j : ℕ) (v u : View) → i ≢ j → get_elem? views i ≡ some v → get_elem? views j ≡ some u → AreApart v u
  apart i j v u differ at_i at_j c mine =
      omega (arith, mine, both_in (holds c) views i j v u (among_none 0 c) differ at_i at_j, once c)

  phases : (i j : ℕ) (v u : View) → get_elem? views i ≡ some v → get_elem? views j ≡ some u → AreOfOnePhase (node_count k.plan) v u
  phases i j v u at_i at_j c d mine other =
      let a = open_here N n v.at c v.stage (r.each i v at_i).stage mine in
      let b = open_here N n u.at d u.stage (r.each j u at_j).stage other in
      same_start N n c a.0 a.1 ∙ sym (same_start N n d b.0 b.1)

  posted_is : (u : ℕ) → moves k.plan (posting_part k.plan) u * worked_by views u ≡ moves k.plan (posting_part k.plan) u * performed_by views u
  posted_is u =
      let m : ℕ = moves k.plan (posting_part k.plan) u in
      dite (dec_le 1 m)
      (λ is. let none = λ (i : ℕ) (v : View) (e : get_elem? views i ≡ some v). no_posting k.plan n v.at u v.stage (r.each i v e).stage is in
      let up = total_le (worked u) (performs u) views (λ i v e. omega (arith, none i v e)) in
      let down = total_le (performs u) (worked u) views (λ i v e. omega arith) in
      ap (λ d. m * d) (omega (arith, up, down)))
      (λ out. let z : m ≡ 0 = (let low : m < 1 = lt_of_not-le out in omega (arith, low)) in ap (λ d. d * worked_by views u) z ∙ (let none : 0 * worked_by views u ≡ 0 * performed_by views u = omega arith in none) ∙ ap (λ d. d * performed_by views u) (sym z))

  pub postings : stage_of k.plan (worked_by views) (posting_part k.plan) ≡ stage_of k.plan (performed_by views) (posting_part k.plan)
  unfolding stage_of
  postings = below_same (λ u. moves k.plan (posting_part k.plan) u * worked_by views u) (λ u. moves k.plan (posting_part k.plan) u * performed_by views u) (unit_count k.plan) (λ u _. posted_is u)

pub claims : (k : Scope) (st : State Part View) (h : Holds k st) → AreClaims k st h
claims k st h = record {
  performed = performed_is k h.drawn h.finished st.views h.running;
  counted = count_of k h.drawn h.finished st.views h.running;
  once = once k h.drawn h.finished st.views h.running;
  apart = apart k h.drawn h.finished st.views h.running;
  phases = phases k h.drawn h.finished st.views h.running;
  earlier = earlier k h.drawn h.finished st.views h.running;
  writer = λ none.
      let at : ℕ = stage_of k.plan (performed_by st.views) (posting_part k.plan) in
      h.homes (posting_part k.plan) (omega arith)
      ∙ ap (λ x. some (home_of x (part_at k (posting_part k.plan) (stage_of k.plan (worked_by st.views) (posting_part k.plan))))) none
      ∙ ap (λ x. some (some (part_at k (posting_part k.plan) x))) (postings k h.drawn h.finished st.views h.running)
      ∙ ap (λ x. some (some x)) (part_writer k at);
}
