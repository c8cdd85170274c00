-- What is true of those who leave links: how many they are, and by which moves.
use Rattle.std.specs.List.{flat_map, list_any, range_with_len}
use Rattle.std.specs.Prelude.{count_by, filter, nat_lt, All, ⊤}
use Rattle.std.proofs.Common.{◌≡◌, ◌≢◌, ℕ, zero, suc, ◌+◌, ◌-◌, ◌<◌, Bool, true, false, cond, ◌||◌, not, List, [], ◌∷◌, ◌++◌, length, refl, ap, sym, ◌∙◌, arith, Option, Some, None, ◌⊎◌, inl, inr}
use Rattle.std.proofs.lemmas.Bool.{and_parts, false_from_ne_true}
use Rattle.std.proofs.lemmas.Bool.Decides.{eqb_tells, nat_tests}
use Rattle.std.proofs.lemmas.List.Elements.{All-append, All-cons, All-head, All-nil, All-tail, All-weaker}
use Rattle.std.proofs.lemmas.List.Sums.{sum_by-cons}
use Rattle.std.proofs.lemmas.Option.{same_Some}
use Rattle.std.proofs.Math.Dec.{eqb}
use Rattle.dta_model.specs.Leavings.{EntriesAddUp, LinksAreLeftAtTheirEnds, OneStepIsSpatial, StepsAreBelow}
use Rattle.dta_model.specs.Loading.{after_step, step_moves, trace_after}
use Rattle.dta_model.specs.NodeMoves.{node_moves}
use Rattle.dta_model.specs.Plans.{all_nodes, first_link, link_at}
use Rattle.dta_model.specs.Room.{entered_by, leavings, left_below, wave_of}
use Rattle.dta_model.specs.Trace.{Move, last_move, leads_there, queue_of, stands_on}
use Rattle.dta_model.specs.declared.plan.Plan.{Plan}
use Rattle.dta_model.proofs.AnyOrder.{nodes-apart}
use Rattle.dta_model.proofs.Flat.{filter-flat, flat_one}
use Rattle.dta_model.proofs.Fuel.{one-step}
use Rattle.dta_model.proofs.Journeys.{steps_below}
use Rattle.dta_model.proofs.Leavings.{adds_all, adds_none, leavings-append, stands_on-other}
use Rattle.dta_model.proofs.NoMoves.{filter_nothing}
use Rattle.dta_model.proofs.Places.{AtNode, at-node, node_by, node_of, to_link}
use Rattle.dta_model.proofs.Queues.{absent, distinct, vehicles}
use Rattle.dta_model.proofs.Same.{Apart}
use Rattle.dta_model.proofs.Steady.{IsSteady, steady_of}

pub steps_are_below : StepsAreBelow
steps_are_below p t = steps_below p t

pub entries_add_up : EntriesAddUp
entries_add_up p t l = adds_all l (trace_after p t) [] (adds_none l)

-- leavings are some of the moves
pub leavings-all : (P : Move → Type 0) (l : ℕ) (M T : List Move) → All P M → All P (leavings l T M)
unfolding leavings
leavings-all P l [] T all = All-nil P
leavings-all P l (m ∷ M) T all = some_step (stands_on l T m.vehicle) (leavings-all P l M (T ++ m ∷ []) (All-tail P m M all))
  where
    some_step : (b : Bool) → All P (leavings l (T ++ m ∷ []) M) → All P (cond b (m ∷ leavings l (T ++ m ∷ []) M) (leavings l (T ++ m ∷ []) M))
    some_step true rest = All-cons P m (leavings l (T ++ m ∷ []) M) (All-head P m M all) rest
    some_step false rest = rest

pub count_every : (q : Move → Bool) (L : List Move) → All (λ m. q m ≡ true) L → count_by q L ≡ length L
count_every q [] all = refl
count_every q (m ∷ L) all =
    sum_by-cons (λ y. cond (q y) 1 0) m L ∙ rw (All-head (λ y. q y ≡ true) m L all, count_every q L (All-tail (λ y. q y ≡ true) m L all)) (omega arith)

pub one_step_is_spatial : OneStepIsSpatial
one_step_is_spatial p t l wave one =
    let T = trace_after p t in
    let early : All (λ m. nat_lt m.step t ≡ true) (leavings l [] T) = leavings-all (λ m. nat_lt m.step t ≡ true) l T [] (All-weaker (λ m. m.step < t) (λ m. nat_lt m.step t ≡ true) (λ m h. grind (arith, nat_tests)) T (steps_below p t)) in
    let gone : left_below (suc t - wave_of p l) T l ≡ length (leavings l [] T) = ap (λ k. left_below (suc t - k) T l) one ∙ ap (λ k. left_below k T l) (one_less t) ∙ count_every (λ m. nat_lt m.step t) (leavings l [] T) early in
    let entries = entries_add_up p t l in
    ap (λ k. Some k) (rest_of (link_at p l).storage (left_below (suc t - wave_of p l) T l) (entered_by T l) (length (queue_of l T)) (length (leavings l [] T)) gone entries)
  where
    one_less : (t : ℕ) → suc t - 1 ≡ t
    one_less t = omega arith

    rest_of : (s b e q g : ℕ) → b ≡ g → e ≡ q + g → s + b - e ≡ s - q
    rest_of s b e q g h k = omega (arith, h, k)

-- ---- the moves by which a link is left in a step
-- moves of which no two are of one vehicle
abbrev EachOnce : List Move → Type 0
EachOnce [] = ⊤
EachOnce (m ∷ M) = All (λ x. m.vehicle ≢ x.vehicle) M × EachOnce M

filter_alike : (f g : Move → Bool) (M : List Move) → All (λ m. f m ≡ g m) M → filter f M ≡ filter g M
filter_alike f g [] all = refl
filter_alike f g (m ∷ M) all = rw (All-head (λ x. f x ≡ g x) m M all, filter_alike f g M (All-tail (λ x. f x ≡ g x) m M all)) refl

-- the leavings among them are those of the vehicles on the link at the start
once_left : (l : ℕ) (M T : List Move) → EachOnce M → leavings l T M ≡ filter (λ m. stands_on l T m.vehicle) M
unfolding leavings
once_left l [] T once = refl
once_left l (m ∷ M) T once =
    let rest : leavings l (T ++ m ∷ []) M ≡ filter (λ x. stands_on l T x.vehicle) M =
    once_left l M (T ++ m ∷ []) once.1
    ∙ filter_alike (λ x. stands_on l (T ++ m ∷ []) x.vehicle) (λ x. stands_on l T x.vehicle) M (All-weaker (λ x. m.vehicle ≢ x.vehicle) (λ x. stands_on l (T ++ m ∷ []) x.vehicle ≡ stands_on l T x.vehicle) (λ x other. stands_on-other l T m x.vehicle other) M once.0) in
    ap (λ L. cond (stands_on l T m.vehicle) (m ∷ L) L) rest

others_of : (v : ℕ) (M : List Move) → absent v (vehicles M) ≡ true → All (λ x. v ≢ x.vehicle) M
others_of v [] a = All-nil (λ x. v ≢ x.vehicle)
others_of v (m ∷ M) a = other_step (eqb_tells m.vehicle v) a (others_of v M)
  where
    other_step : ((eqb m.vehicle v ≡ true) × (m.vehicle ≡ v)) ⊎ ((eqb m.vehicle v ≡ false) × (m.vehicle ≢ v)) → not (eqb m.vehicle v || list_any (λ y. eqb y v) (vehicles M)) ≡ true → (absent v (vehicles M) ≡ true → All (λ x. v ≢ x.vehicle) M) → All (λ x. v ≢ x.vehicle) (m ∷ M)
    other_step (inl (s, same)) e ih = let f : false ≡ true = sym (ap (λ b. not (b || list_any (λ y. eqb y v) (vehicles M))) s) ∙ e in cc
    other_step (inr (s, other)) e ih = All-cons (λ x. v ≢ x.vehicle) m M (λ q. other (sym q)) (ih (sym (ap (λ b. not (b || list_any (λ y. eqb y v) (vehicles M))) s) ∙ e))

once_of : (M : List Move) → distinct (vehicles M) ≡ true → EachOnce M
once_of [] d = tt
once_of (m ∷ M) d = let parts = and_parts (absent m.vehicle (vehicles M)) (distinct (vehicles M)) d in (others_of m.vehicle M parts.0, once_of M parts.1)

once_append : (A B : List Move) → EachOnce A → EachOnce B → All (λ b. All (λ a. a.vehicle ≢ b.vehicle) A) B → EachOnce (A ++ B)
once_append [] B once more apart = more
once_append (a ∷ A) B once more apart = (
  All-append (λ x. a.vehicle ≢ x.vehicle) A B once.0 (All-weaker (λ b. All (λ x. x.vehicle ≢ b.vehicle) (a ∷ A)) (λ b. a.vehicle ≢ b.vehicle) (λ b h. All-head (λ x. x.vehicle ≢ b.vehicle) a A h) B apart),
  once_append A B once.1 more (All-weaker (λ b. All (λ x. x.vehicle ≢ b.vehicle) (a ∷ A)) (λ b. All (λ x. x.vehicle ≢ b.vehicle) A) (λ b h. All-tail (λ x. x.vehicle ≢ b.vehicle) a A h) B apart),
)

module _ (p : Plan) (sound : IsSteady p) (t : ℕ) (T : List Move) where
  node_once : (n : ℕ) → EachOnce (node_moves p n t T)
  node_once n = once_of (node_moves p n t T) (one-step p sound n t T).each

  -- the moves of the nodes from one on are of other vehicles than those of a node before
  later_apart : (a k from : ℕ) → a < from → All (λ b. All (λ x. x.vehicle ≢ b.vehicle) (node_moves p a t T)) (flat_map (λ n. node_moves p n t T) (range_with_len from k))
  later_apart a zero from h = All-nil (λ b. All (λ x. x.vehicle ≢ b.vehicle) (node_moves p a t T))
  later_apart a (suc k) from h =
      All-append (λ b. All (λ x. x.vehicle ≢ b.vehicle) (node_moves p a t T)) (node_moves p from t T) (flat_map (λ n. node_moves p n t T) (range_with_len (from + 1) k))
      (All-weaker (λ b. All (λ x. Apart x b) (node_moves p a t T)) (λ b. All (λ x. x.vehicle ≢ b.vehicle) (node_moves p a t T))
      (λ b all. All-weaker (λ x. Apart x b) (λ x. x.vehicle ≢ b.vehicle) (λ x h. h.others) (node_moves p a t T) all)
      (node_moves p from t T) (nodes-apart p t T a from (less_differs a from h)))
      (later_apart a k (from + 1) (omega (arith, h)))
    where
      less_differs : (a b : ℕ) → a < b → a ≢ b
      less_differs a b l e = absurd (omega (arith, l, e))

  nodes_once : (k from : ℕ) → EachOnce (flat_map (λ n. node_moves p n t T) (range_with_len from k))
  nodes_once zero from = tt
  nodes_once (suc k) from = once_append (node_moves p from t T) (flat_map (λ n. node_moves p n t T) (range_with_len (from + 1) k)) (node_once from) (nodes_once k (from + 1)) (later_apart from k (from + 1) (omega arith))

  -- who stands on a link moves at its end
  stands_at : (l v : ℕ) → stands_on l T v ≡ true → node_of p T v ≡ Some (link_at p l).to.0
  unfolding stands_on node_of
  stands_at l v h = stands_step (last_move v T) h
    where
      stands_step : (o : Option Move) → leads_there l o ≡ true → node_by p o (first_link p v) ≡ Some (link_at p l).to.0
      stands_step None e = cc
      stands_step (Some x) e = to_link p l x.target e

  -- another node moves nobody who stands on the link
  none_leave : (l n : ℕ) → n ≢ (link_at p l).to.0 → filter (λ m. stands_on l T m.vehicle) (node_moves p n t T) ≡ []
  none_leave l n other =
      filter_nothing (λ m. stands_on l T m.vehicle) (node_moves p n t T)
      (All-weaker (AtNode p n t T) (λ m. stands_on l T m.vehicle ≡ false) (λ m a. false_from_ne_true (stands_on l T m.vehicle) (λ e. other (same_Some n (link_at p l).to.0 (sym a.stood ∙ stands_at l m.vehicle e)))) (node_moves p n t T) (at-node p n t T))

  by_node : (l : ℕ) → l < length p.net.links → filter (λ m. stands_on l T m.vehicle) (step_moves p t T (all_nodes p)) ≡ filter (λ m. stands_on l T m.vehicle) (node_moves p (link_at p l).to.0 t T)
  by_node l h =
      let within = (sound.ends l h).1 in
      filter-flat (λ m. stands_on l T m.vehicle) (λ n. node_moves p n t T) (all_nodes p)
      ∙ flat_one (λ n. filter (λ m. stands_on l T m.vehicle) (node_moves p n t T)) (length p.net.nodes) 0 (link_at p l).to.0 (omega arith) (omega (arith, within)) (none_leave l)

  pub node_left : (l n : ℕ) → leavings l [] (T ++ node_moves p n t T) ≡ leavings l [] T ++ filter (λ m. stands_on l T m.vehicle) (node_moves p n t T)
  node_left l n = leavings-append l T [] (node_moves p n t T) ∙ ap (λ L. leavings l [] T ++ L) (once_left l (node_moves p n t T) T (node_once n))

  pub step_left : (l : ℕ) → l < length p.net.links → leavings l [] (T ++ step_moves p t T (all_nodes p)) ≡ leavings l [] T ++ filter (λ m. stands_on l T m.vehicle) (node_moves p (link_at p l).to.0 t T)
  step_left l h =
      leavings-append l T [] (step_moves p t T (all_nodes p))
      ∙ ap (λ L. leavings l [] T ++ L) (once_left l (step_moves p t T (all_nodes p)) T (nodes_once (length p.net.nodes) 0) ∙ by_node l h)

pub links_are_left_at_their_ends : LinksAreLeftAtTheirEnds
unfolding trace_after after_step
links_are_left_at_their_ends p sound t l h = record {
  node = node_left p (steady_of p sound) t (trace_after p t) l (link_at p l).to.0;
  step = step_left p (steady_of p sound) t (trace_after p t) l h;
}
