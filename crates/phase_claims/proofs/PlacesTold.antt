-- A half of a node's step, on the places that a seat has for it: what it takes, brings and tells.
use Rattle.std.proofs.Common.{◌≡◌, ℕ, ◌+◌, ◌<◌, ◌⊎◌, List, refl, sym, ap, ◌∙◌, subst, arith, Some}
use Rattle.dta_model.specs.Sound.{IsSound}
use Rattle.dta_model.specs.Units.{node_count, step_of, task_of, unit_count}
use Rattle.dta_model.specs.declared.plan.Plan.{Plan}
use Rattle.cell_stages.specs.Contents.{away}
use Rattle.node_transfer.specs.Halves.{IsHalf, leaving_cell, left_mail, links_of, taken_mail, taking_cell}
use Rattle.node_transfer.specs.Rest.{IsIdle}
use Rattle.node_transfer.specs.declared.half.Half.{Half}
use Rattle.node_transfer.specs.declared.half.HalfStep.{HalfStep}
use Rattle.claim_core.specs.Kinds.{half_by}
use Rattle.claim_core.proofs.Working.{half_node, half_step}
use Rattle.phase_claims.specs.Noted.{Rests}
use Rattle.phase_claims.specs.declared.part.Part.{Part}
use Rattle.phase_claims.specs.declared.view.Scope.{Scope}
use Rattle.phase_claims.specs.declared.view.View.{View}
use Rattle.phase_claims.specs.declared.work_told.TheConstants.{FIRST_NODE_WORD}
use Rattle.phase_claims.specs.PlacesHeld.{node_places}
use Rattle.phase_claims.specs.PlacesHome.{brought, taken}
use Rattle.phase_claims.specs.Told.{AreAmong, TellsAll}
use Rattle.phase_claims.proofs.PlacesRound.{places_stay}
use Rattle.phase_claims.proofs.PlacesUnit.{half_brought, half_carried}
use Rattle.phase_claims.proofs.Told.{half_tells, step_is}

-- q is the plan that the code has, k the scope that the table was told, and k' that of the floor
module _ (k k' : Scope) (v : View) (q : Plan) (own : k ≡ k') (scope : v.scope ≡ k') (plan : q ≡ k.plan) (sound_here : IsSound k.plan) (few : v.at < unit_count v.scope.plan)
    (h : HalfStep) (is_half : half_by (step_of (node_count v.scope.plan) v.at) (task_of (node_count v.scope.plan) v.at) ≡ Some h) where
  here : k ≡ v.scope
  here = own ∙ sym scope

  pub same : q ≡ v.scope.plan
  same = plan ∙ ap (λ (j : Scope). j.plan) here

  sound : IsSound v.scope.plan
  sound = subst (λ (j : Scope). IsSound j.plan) here sound_here

  node_there : h.node.0 < node_count v.scope.plan
  node_there = (half_node v.scope.plan sound v.at (node_count v.scope.plan) few refl h is_half).node

  pub node_inside : (words : ℕ) → words ≡ FIRST_NODE_WORD + node_count k.plan → FIRST_NODE_WORD + h.node.0 < words
  node_inside words are = let nodes = ap (λ (j : Scope). node_count j.plan) here in omega (arith, are, node_there, nodes)

  pub half_may : IsHalf v.scope.plan h
  half_may = half_step v.scope.plan sound v.at (node_count v.scope.plan) few refl h is_half

  pub half_may_here : IsHalf q h
  half_may_here = subst (λ (x : Plan). IsHalf x h) (sym same) half_may

  pub step_now : h.step ≡ step_of (node_count q) v.at
  step_now = step_is v.scope.plan sound v.at v.told h few is_half ∙ ap (λ (x : Plan). step_of (node_count x) v.at) (sym same)

  pub half_has : (xs : List (ℕ × Part)) → xs ≡ taken v.scope v.at → xs ≡ node_places v.scope.plan h.node.0 (taking_cell v.scope.plan h away) (taken_mail v.scope.plan h) (links_of v.scope.plan h)
  half_has xs e = e ∙ half_carried v.scope sound v.at few h is_half

  pub half_has_here : (xs : List (ℕ × Part)) → xs ≡ taken v.scope v.at → xs ≡ node_places q h.node.0 (taking_cell q h away) (taken_mail q h) (links_of q h)
  half_has_here xs e = half_has xs e ∙ ap (λ (x : Plan). node_places x h.node.0 (taking_cell x h away) (taken_mail x h) (links_of x h)) (sym same)

  module _ (w : View) (only : w ≡ record v { told = w.told }) where
    pub half_brings : (xs : List (ℕ × Part)) → xs ≡ node_places q h.node.0 (leaving_cell q h away) (left_mail q h) (links_of q h) → xs ≡ brought w.scope w.at
    half_brings xs e =
        subst (λ (u : View). xs ≡ brought u.scope u.at) (sym only)
        (e ∙ ap (λ (x : Plan). node_places x h.node.0 (leaving_cell x h away) (left_mail x h) (links_of x h)) same ∙ sym (half_brought v.scope sound v.at few h is_half))

    pub rest_brings : Rests v.scope.plan h → (xs : List (ℕ × Part)) → xs ≡ taken v.scope v.at → xs ≡ brought w.scope w.at
    rest_brings rests xs e =
        subst (λ (u : View). xs ≡ brought u.scope u.at) (sym only)
        (half_has xs e ∙ sym (places_stay v.scope.plan h rests.stays) ∙ sym (half_brought v.scope sound v.at few h is_half))

    pub half_told : (h.half ≡ Half.Transfer → IsIdle v.scope.plan h.node.0 h.step ⊎ AreAmong v.scope.plan h.node.0 h.step w.told) → TellsAll w.scope.plan w.at w.told
    half_told tells = subst (λ (u : View). TellsAll u.scope.plan u.at u.told) (sym only) (half_tells v.scope.plan sound v.at w.told h few is_half tells)
