-- The last state of a floor, where all passes were joined into one that holds no unit.
use Rattle.std.proofs.Common.{◌≡◌, ◌≢◌, ℕ, zero, suc, ◌-◌, ◌*◌, ◌<◌, ◌≤◌, true, false, min, List, length, set, refl, sym, ap, ◌∙◌, subst, arith}
use mathlib.Core.Option.{some, some-injective}
use lib.ListN.{get_elem?}
use Rattle.atomic_table.specs.Table.{State}
use Rattle.atomic_table.proofs.Lists.{set_else}
use Rattle.dta_model.specs.Units.{node_count, posting_part, step_units, unit_count}
use Rattle.dta_model.specs.declared.plan.Plan.{Plan}
use Rattle.cell_stages.specs.Contents.{away, cell_at, cell_before}
use Rattle.cell_stages.proofs.TwoStages.{steps_have_two_stages}
use Rattle.claim_core.specs.Parts.{moves, stage_of}
use Rattle.claim_core.specs.Sums.{below, once_below, total}
use Rattle.claim_core.proofs.Cuts.{below_same}
use Rattle.claim_core.proofs.Parts.{at_place, of_whole_steps, step_cell, step_posting}
use Rattle.claim_core.proofs.Sums.{once_here, total_at, total_only, total_set}
use Rattle.phase_claims.specs.declared.part.Part.{Part}
use Rattle.phase_claims.specs.declared.part.Part.TheVariants.{Cell, Writer}
use Rattle.phase_claims.specs.declared.view.Scope.{Scope}
use Rattle.phase_claims.specs.declared.view.View.{View}
use Rattle.phase_claims.specs.Passes.{HoldsNoUnit}
use Rattle.monitors.specs.Posted.{Known}
use Rattle.dta_model.specs.Loading.{journeys_of}
use Rattle.dta_model.specs.declared.loaded.Journey.{Journey}
use Rattle.dta_model.specs.declared.machine.Stage.{Stage}
use Rattle.dta_model.specs.declared.machine.Stage.TheVariants as stage
use Rattle.phase_claims.specs.PlacesClosed.{AreLast, HasWriter}
use Rattle.phase_claims.specs.PlacesEnd.{IsClosed, IsEarly}
use Rattle.phase_claims.specs.PlacesHome.{has_slot, home_of, part_at, posted_in}
use Rattle.phase_claims.specs.Running.{FitsPast, Holds, Running}
use Rattle.phase_claims.specs.Views.{held_by, holds, nobody, performed_by, performed_count, performs, rights, worked, worked_by}
use Rattle.phase_claims.proofs.Counts.{holds_none, worked_none}
use Rattle.phase_claims.proofs.PlacesPosted.{same_writer}
use Rattle.phase_claims.proofs.PlacesSteps.{has_none}
use Rattle.phase_claims.proofs.PlacesUnit.{part_cell, part_writer}

below_one : (m : ℕ) → below m (λ x. 1) ≡ m
below_one zero = refl
below_one (suc m) = omega (arith, below_one m)

module _ (k : Scope) (s : State Part View) (h : Holds k s) (id : ℕ) (v : View) (at : get_elem? s.views id ≡ some v) (all : rights v ≡ k.passes) (free : HoldsNoUnit v.stage) where
  abbrev Q : ℕ
  Q = unit_count k.plan

  abbrev g : ℕ
  g = min h.drawn Q

  abbrev r : Running k h.drawn h.finished s.views
  r = h.running

  others : (j : ℕ) (u : View) → j ≢ id → get_elem? s.views j ≡ some u → u ≡ nobody
  others j u ne a =
      (r.each j u a).empty (let t = total_set rights s.views j u nobody a in let own = total_at rights (set s.views j nobody) id v (set_else s.views j id nobody (λ q. ne (sym q)) ∙ at) in
      omega (arith, t, own, r.rights, all))

  own_total : (f : View → ℕ) → f nobody ≡ 0 → total f s.views ≡ f v
  own_total f z = total_only f s.views id v at (λ j u ne a. ap f (others j u ne a) ∙ z)

  own_performed : (x : ℕ) → performed_by s.views x ≡ performs x v
  own_performed x = own_total (performs x) refl

  none_held : (x : ℕ) → held_by s.views x ≡ 0
  none_held x = own_total (holds x) (holds_none stage.Idle refl x) ∙ holds_none v.stage free x

  done_is : (x : ℕ) → performed_by s.views x ≡ once_below x g
  done_is x = omega (arith, r.claimed.once x, none_held x)

  pub finished_is : h.finished ≡ performed_count v
  finished_is = r.performed ∙ own_total performed_count refl

  finished_all : h.finished ≡ g
  finished_all = r.claimed.sum ∙ below_same (performed_by s.views) (λ x. 1) g (λ x l. done_is x ∙ once_here x g l) ∙ below_one g

  -- a pass that has ended finds all finished
  pub ended_whole : v.stage ≡ stage.Ended → Q ≤ h.finished
  ended_whole e =
      let past : 1 ≤ v.past = (subst (λ (x : Stage). FitsPast x v.weight v.past) e (r.each id v at).past).0 in
      let sum : total (λ u. u.past) s.views ≡ v.past = own_total (λ u. u.past) refl in
      omega (arith, finished_all, r.past, past, sum)

  -- where all units are finished
  module _ (whole : Q ≤ h.finished) where
    pub each_once : (x : ℕ) → performs x v ≡ once_below x Q
    each_once x = let same : g ≡ Q = omega (arith, finished_all, whole) in sym (own_performed x) ∙ done_is x ∙ ap (λ b. once_below x b) same

    all_worked : (x : ℕ) → worked_by s.views x ≡ once_below x Q
    all_worked x = own_total (worked x) refl ∙ (let none = worked_none v.stage v.at x free in omega (arith, none, each_once x))

    last_stage : (slot : ℕ) → stage_of k.plan (worked_by s.views) slot ≡ k.plan.horizon * below (step_units (node_count k.plan)) (at_place k.plan slot)
    unfolding stage_of unit_count
    last_stage slot =
        below_same (λ u. moves k.plan slot u * worked_by s.views u) (moves k.plan slot) Q
        (λ u l. ap (λ d. moves k.plan slot u * d) (all_worked u ∙ once_here u Q l) ∙ omega arith)
        ∙ of_whole_steps k.plan slot k.plan.horizon

    home : (slot : ℕ) → slot < suc (posting_part k.plan) → get_elem? s.homes slot ≡ some (some (part_at k slot (k.plan.horizon * below (step_units (node_count k.plan)) (at_place k.plan slot))))
    home slot l =
        let none : total (λ u. has_slot k.plan slot u.stage u.at) s.views ≡ 0 = own_total (λ u. has_slot k.plan slot u.stage u.at) refl ∙ has_none k slot v.stage v.at free in
        h.homes slot l ∙ (λ i. some (home_of (none i) (part_at k slot (last_stage slot i))))

    module _ (parts : List Part) (values : (slot : ℕ) (y : Part) → get_elem? s.homes slot ≡ some (some y) → get_elem? parts slot ≡ some y) where
      pub last_cell : (n : ℕ) → n < node_count k.plan → get_elem? parts n ≡ some (Cell (cell_before k.plan n k.plan.horizon away away))
      last_cell n l =
          let two : k.plan.horizon * below (step_units (node_count k.plan)) (at_place k.plan n) ≡ 2 * k.plan.horizon = ap (λ x. k.plan.horizon * x) (step_cell k.plan n l) ∙ omega arith in
          values n (part_at k n (k.plan.horizon * below (step_units (node_count k.plan)) (at_place k.plan n))) (home n (omega (arith, l)))
          ∙ ap (λ x. some x) (part_cell k n (k.plan.horizon * below (step_units (node_count k.plan)) (at_place k.plan n)) l ∙ ap (λ x. Cell (cell_at k.plan n x)) two ∙ ap (λ x. Cell x) ((steps_have_two_stages k.plan k.plan.horizon).0.cell n))

      pub last_writer : get_elem? parts (posting_part k.plan) ≡ some (Writer (record { board = k.board; list = posted_in k.plan k.plan.horizon }))
      last_writer =
          let slot : ℕ = posting_part k.plan in
          let one : k.plan.horizon * below (step_units (node_count k.plan)) (at_place k.plan slot) ≡ k.plan.horizon = ap (λ x. k.plan.horizon * x) (step_posting k.plan) ∙ omega arith in
          values slot (part_at k slot (k.plan.horizon * below (step_units (node_count k.plan)) (at_place k.plan slot))) (home slot (omega arith))
          ∙ ap (λ x. some x) (part_writer k (k.plan.horizon * below (step_units (node_count k.plan)) (at_place k.plan slot)) ∙ ap (λ x. Writer (record { board = k.board; list = posted_in k.plan x })) one)

-- where a floor is closed: q is the plan that the code has, k the scope that the table was told, k' that of the
-- floor, v' the view of the pass
module _ (k k' : Scope) (q : Plan) (same : k ≡ k') (plan : q ≡ k.plan) (s : State Part View) (h : Holds k s) (id : ℕ) (v v' : View) (same_view : v ≡ v') (at : get_elem? s.views id ≡ some v) (all' : rights v' ≡ k'.passes) (free' : HoldsNoUnit v'.stage)
    (ws : List ℕ) (words : s.words ≡ ws) (f : ℕ) (found : get_elem? ws 2 ≡ some f) where
  all_here : rights v ≡ k.passes
  all_here = ap rights same_view ∙ all' ∙ sym (ap (λ (j : Scope). j.passes) same)

  free_here : HoldsNoUnit v.stage
  free_here = subst (λ (u : View). HoldsNoUnit u.stage) (sym same_view) free'

  found_is : f ≡ h.finished
  found_is = some-injective f h.finished (sym found ∙ ap (λ xs. get_elem? xs 2) (sym words) ∙ ap (λ xs. get_elem? xs 2) h.words)

  quota_here : unit_count k.plan ≡ unit_count k'.plan
  quota_here = ap (λ (j : Scope). unit_count j.plan) same

  module _ (count : ℕ) (counts : count ≡ unit_count k.plan) where
    pub is_early : f < count → IsEarly k' v' (record { finished = f })
    is_early l = record {
      finished = found_is ∙ finished_is k s h id v at all_here free_here ∙ ap performed_count same_view;
      fewer = omega (arith, l, counts, quota_here);
    }

    pub not_ended : f < count → v'.stage ≡ stage.Ended → false ≡ true
    not_ended l e = absurd (omega (arith, l, counts, found_is, ended_whole k s h id v at all_here free_here (ap (λ (u : View). u.stage) same_view ∙ e)))

    module _ (enough : count ≤ f) (parts : List Part) (values : (slot : ℕ) (y : Part) → get_elem? s.homes slot ≡ some (some y) → get_elem? parts slot ≡ some y) where
      whole_here : unit_count k.plan ≤ h.finished
      whole_here = omega (arith, enough, counts, found_is)

      pub cells_last : AreLast q parts
      cells_last = subst (λ (x : Plan). AreLast x parts) (sym plan) (last_cell k s h id v at all_here free_here whole_here parts values)

      writer_last : get_elem? parts (posting_part q) ≡ some (Writer (record { board = k.board; list = posted_in k.plan k.plan.horizon }))
      writer_last = ap (λ (x : Plan). get_elem? parts (posting_part x)) plan ∙ last_writer k s h id v at all_here free_here whole_here parts values

      pub writer_there : HasWriter (posting_part q) parts
      writer_there = (record { board = k.board; list = posted_in k.plan k.plan.horizon }, writer_last)

      pub closes : (journeys : List Journey) → journeys ≡ journeys_of q → (w : Known) → get_elem? parts (posting_part q) ≡ some (Writer w) → (units passes left vehicles : ℕ) → units ≡ unit_count k.plan → passes ≡ k.passes → left ≡ v.spare → vehicles ≡ length q.trips
          → IsClosed k' v' journeys w (record { units = units; passes = passes - left; vehicles = vehicles })
      closes journeys ej w ew units passes left vehicles eu ep el ev =
          let is : w ≡ record { board = k.board; list = posted_in k.plan k.plan.horizon } = same_writer w _ (some-injective (Writer w) _ (sym ew ∙ writer_last)) in
          record {
            performed = λ x. ap (performs x) (sym same_view) ∙ each_once k s h id v at all_here free_here whole_here x ∙ ap (λ b. once_below x b) quota_here;
            loaded = ej ∙ ap (λ (x : Plan). journeys_of x) plan ∙ ap (λ (j : Scope). journeys_of j.plan) same;
            board = ap (λ (x : Known). x.board) is ∙ ap (λ (j : Scope). j.board) same;
            posted = ap (λ (x : Known). x.list) is ∙ ap (λ (j : Scope). posted_in j.plan j.plan.horizon) same;
            units = eu ∙ quota_here;
            passes = (let a = all_here in let w = ap (λ (u : View). u.weight) same_view in omega (arith, ep, el, a, w));
            vehicles = ev ∙ ap (λ (x : Plan). length x.trips) plan ∙ ap (λ (j : Scope). length j.plan.trips) same;
          }
