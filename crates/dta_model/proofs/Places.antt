-- The moves of a node are of vehicles that stand at it, and lead to its out-links.
use Rattle.std.specs.List.{list_any}
use Rattle.std.specs.Prelude.{All, nat_eq}
use Rattle.std.proofs.Common.{◌≡◌, ℕ, ◌+◌, Bool, true, false, cond, ◌||◌, List, [], ◌∷◌, ◌++◌, refl, ap, sym, ◌∙◌, subst, Option, Some, None, ◌⊎◌, inl, inr}
use Rattle.std.proofs.lemmas.Bool.{eqb-true, and_parts, cases_Bool, not-true, or_parts}
use Rattle.std.proofs.lemmas.List.Elements.{All-head, All-tail, All-push, All-nil, All-weaker}
use Rattle.std.proofs.Math.Dec.{eqb}
use Rattle.dta_model.specs.declared.plan.Plan.{Plan}
use Rattle.dta_model.specs.NodeMoves.{is_first, may_move, may_turn, node_moves, turn_test, waits_for}
use Rattle.dta_model.specs.Plans.{first_link, link_at}
use Rattle.dta_model.specs.Trace.{Arrived, Move, Onto, Target, has_moved, is_link, is_of, last_move, leads_to}
use Rattle.net_core.specs.Network.{turn, turn_at}
use Rattle.net_core.specs.declared.rows.Turn.{Turn}
use Rattle.dta_model.proofs.Pushes.{last_move-still, has_moved-append}
use Rattle.dta_model.proofs.Standing.{in-queue, no-last}
use Rattle.dta_model.proofs.NextMoves.{OfHead, OfWaiting, Kind, head, waiting, next_cases, moves-keep}

abbrev pub node_to : Plan → Target → Option ℕ
node_to p (Onto l) = Some (link_at p l).to.0
node_to p Arrived = None

abbrev pub node_first : Plan → Option ℕ → Option ℕ
node_first p None = None
node_first p (Some b) = Some (link_at p b).from.0

abbrev pub node_by : Plan → Option Move → Option ℕ → Option ℕ
node_by p None first = node_first p first
node_by p (Some m) first = node_to p m.target

-- the node that a vehicle moves at next: the end of its link, or the beginning of its first one
unfoldable pub node_of : Plan → List Move → ℕ → Option ℕ
node_of p T v = node_by p (last_move v T) (first_link p v)

-- who moves in a list is the vehicle of one of its moves
pub of_mover : (P : ℕ → Type 0) (v : ℕ) (M : List Move) → All (λ m. P m.vehicle) M → has_moved v M ≡ true → P v
unfolding has_moved
of_mover P v [] all h = cc
of_mover P v (m ∷ M) all h = mover_step (eqb m.vehicle v) refl h (of_mover P v M (All-tail (λ m. P m.vehicle) m M all))
  where
    mover_step : (b : Bool) → b ≡ eqb m.vehicle v → (b || list_any (is_of v) M) ≡ true → (list_any (is_of v) M ≡ true → P v) → P v
    mover_step true r e ih = subst P (eqb-true m.vehicle v (sym r)) (All-head (λ m. P m.vehicle) m M all)
    mover_step false r e ih = ih e

pub to_link : (p : Plan) (l : ℕ) (x : Target) → is_link l x ≡ true → node_to p x ≡ Some (link_at p l).to.0
to_link p l (Onto b) h = rw (eqb-true b l h) refl
to_link p l Arrived h = cc

is_onto : (l : ℕ) (x : Target) (b : ℕ) → x ≡ Onto b → is_link l x ≡ true → l ≡ b
is_onto l x b e h = let r : is_link l (Onto b) ≡ true = subst (λ y. is_link l y ≡ true) e h in sym (eqb-true b l r)

module _ (p : Plan) (n t : ℕ) (T0 : List Move) where
  -- of one move: who makes it, and where it may lead
  pub record AtNode (m : Move) : Type 0 where
    pub stood : node_of p T0 m.vehicle ≡ Some n
    pub leads : (l : ℕ) → leads_to l m ≡ true → (link_at p l).from.0 ≡ n

  turn_from : (M : List Move) (ready l b : ℕ) → may_turn p n t T0 M ready l b ≡ true → (link_at p b).from.0 ≡ (link_at p l).to.0
  unfolding may_turn turn
  turn_from M ready l b h =
      eqb-true (link_at p b).from.0 (link_at p l).to.0
      (from_step (nat_eq (link_at p b).from.0 (link_at p l).to.0) (turn_at p.net (link_at p l).to.0 l b) h)
    where
      from_step : (c : Bool) (o : Option Turn) → turn_test p n t T0 M ready l b (cond c o None) ≡ true → c ≡ true
      from_step true o e = refl
      from_step false o e = cc

  move_from : (M : List Move) (l ready : ℕ) (x : Target) (k : ℕ) → may_move p n t T0 M l ready x ≡ true → is_link k x ≡ true → (link_at p k).from.0 ≡ (link_at p l).to.0
  unfolding may_move
  move_from M l ready Arrived k h e = cc
  move_from M l ready (Onto b) k h e =
      let parts = and_parts _ _ h in
      subst (λ j. (link_at p j).from.0 ≡ (link_at p l).to.0) (eqb-true b k e) (turn_from M ready l b parts.1)

  still_at : (M : List Move) (v : ℕ) (x : Move) (l : ℕ) → last_move v (T0 ++ M) ≡ Some x → leads_to l x ≡ true → has_moved v M ≡ false → node_of p T0 v ≡ Some (link_at p l).to.0
  unfolding node_of
  still_at M v x l e h still =
      let before : last_move v T0 ≡ Some x = sym (last_move-still v M T0 still) ∙ e in
      ap (λ o. node_by p o (first_link p v)) before ∙ to_link p l x.target h

  stood_all : (M : List Move) → All AtNode M → All (λ m. node_of p T0 m.vehicle ≡ Some n) M
  stood_all M all = All-weaker AtNode (λ m. node_of p T0 m.vehicle ≡ Some n) (λ x a. a.stood) M all

  head_at : (M : List Move) (l : ℕ) (m : Move) → All AtNode M → nat_eq (link_at p l).to.0 n ≡ true → OfHead p n t T0 M l m → AtNode m
  head_at M l m all into h =
      let here : (link_at p l).to.0 ≡ n = eqb-true (link_at p l).to.0 n into in
      let x = in-queue l (T0 ++ M) 0 m.vehicle h.first in
      record {
        stood = stood_step (cases_Bool (has_moved m.vehicle M)) here (x.0) (x.1) (x.2);
        leads = λ k e. move_from M l (h.entry.step + (link_at p l).free) m.target k h.may e ∙ here;
      }
    where
      stood_step : (has_moved m.vehicle M ≡ true) ⊎ (has_moved m.vehicle M ≡ false) → (link_at p l).to.0 ≡ n → (x : Move) → last_move m.vehicle (T0 ++ M) ≡ Some x → leads_to l x ≡ true → node_of p T0 m.vehicle ≡ Some n
      stood_step (inl moved) here x e f = of_mover (λ v. node_of p T0 v ≡ Some n) m.vehicle M (stood_all M all) moved
      stood_step (inr still) here x e f = still_at M m.vehicle x l e f still ∙ ap (λ k. Some k) here

  pub first_at : (v b : ℕ) → is_first b (first_link p v) ≡ true → last_move v T0 ≡ None → node_of p T0 v ≡ Some (link_at p b).from.0
  unfolding node_of
  first_at v b h none = rw none (first_step (first_link p v) h)
    where
      first_step : (o : Option ℕ) → is_first b o ≡ true → node_first p o ≡ Some (link_at p b).from.0
      first_step None e = cc
      first_step (Some l) e = rw (eqb-true l b e) refl

  waiting_at : (M : List Move) (b : ℕ) (m : Move) → nat_eq (link_at p b).from.0 n ≡ true → OfWaiting p n t T0 M b m → AtNode m
  unfolding waits_for
  waiting_at M b m out h =
      let here : (link_at p b).from.0 ≡ n = eqb-true (link_at p b).from.0 n out in
      let parts = and_parts _ _ h.waits in
      let more = and_parts _ _ parts.0 in
      let still : has_moved m.vehicle (T0 ++ M) ≡ false = not-true _ parts.1 in
      let early : has_moved m.vehicle T0 ≡ false = (or_parts (has_moved m.vehicle T0) (has_moved m.vehicle M) (sym (has_moved-append m.vehicle T0 M) ∙ still)).0 in
      record {
        stood = first_at m.vehicle b more.0 (no-last m.vehicle T0 early) ∙ ap (λ k. Some k) here;
        leads = λ l e. subst (λ k. (link_at p k).from.0 ≡ n) (sym (is_onto l m.target b h.goes e)) here;
      }

  pub kind_at : (M : List Move) (m : Move) → All AtNode M → Kind p n t T0 M m → AtNode m
  kind_at M m all (head l into h) = head_at M l m all into h
  kind_at M m all (waiting b out h) = waiting_at M b m out h

  pub at-node : All AtNode (node_moves p n t T0)
  at-node = moves-keep p n t T0 (λ M. All AtNode M) (λ M m all e. All-push AtNode M m all (kind_at M m all (next_cases p n t T0 M m e))) (All-nil AtNode)
