-- The pass over one in-link is the moves that its heads give.
use Rattle.std.specs.Prelude.{filter, slice_get, nat_le, All}
use Rattle.std.proofs.Common.{◌≡◌, ℕ, zero, suc, ◌+◌, ◌≤◌, Bool, true, false, cond, not, List, [], ◌∷◌, ◌++◌, length, map, refl, ap, sym, ◌∙◌, subst, arith, append_assoc, append-nil, Option, Some, None, drop}
use Rattle.std.proofs.lemmas.List.Elements.{All-push, All-nil, All-cons}
use Rattle.dta_model.specs.NodeMoves.{grow, head_move, leave_move, may_move, where_true}
use Rattle.dta_model.specs.Loading.{is_onto}
use Rattle.cell_stages.specs.OnePass.{drained}
use Rattle.dta_model.specs.Plans.{departure_of, link_at, outs}
use Rattle.dta_model.specs.Riders.{RiderState, rider_at, riders, moved}
use Rattle.dta_model.specs.Sound.{IsSound}
use Rattle.cell_stages.specs.Stages.{arrived_before, arrive_by, staying, waiting_for}
use Rattle.dta_model.specs.Trace.{Move, Target, Onto, Arrived, has_moved, next_target, queue_of, stands_on, target_at}
use Rattle.cell_stages.specs.Transfers.{line_move}
use Rattle.dta_model.specs.declared.plan.Plan.{Plan}
use Rattle.cell_stages.proofs.Gathering.{kept_at}
use Rattle.cell_stages.proofs.Lines.{heads_of_lines}
use Rattle.dta_model.proofs.Queues.{queue-distinct}
use Rattle.cell_stages.specs.Contents.{kept_turns}
use Rattle.node_transfer.specs.Inside.Pass.{Work, passed, head_action, place_of}
use Rattle.cell_stages.specs.declared.out_link.OutLink.{OutLink}
use Rattle.cell_stages.specs.declared.exit.Exit.{Exit}
use Rattle.node_transfer.specs.declared.step.pass.HeadAction.TheVariants.{Stays, Arrives, Enters}
use Rattle.node_transfer.proofs.OfMail.Parts.{outs-once}
use Rattle.node_transfer.proofs.OfStep.Facts.{OnLink, on-link}
use Rattle.node_transfer.proofs.OfStep.Mid.{T, line_mid, exit_mid, out_mid, arrived_mid, waiting_mid}
use Rattle.node_transfer.proofs.OfStep.Movers.{distinct_filter, first_leaves, staying_push, staying-same, unmoved_one, waits-unmoved, clash, batch-push, arrive-push}
use Rattle.node_transfer.proofs.OfStep.OneMove.{outs-arrival, outs-entry, exit-arrival, exit-entry}
use Rattle.node_transfer.proofs.OfStep.Passes.{passed-none, passed-stays, passed-arrives, passed-enters}
use Rattle.node_transfer.proofs.OfStep.HeadActions.{head_action-head}

pub first_map : {X Y : Type 0} (f : X → Y) (xs : List X) (o : Option X) → slice_get xs 0 ≡ o → slice_get (map f xs) 0 ≡ elim o as (λ _. Option Y) [ None ↦ None | Some x ↦ Some (f x) ]
first_map f [] None h = refl
first_map f [] (Some x) h = cc
first_map f (x ∷ xs) None h = cc
first_map f (x ∷ xs) (Some y) h = let same : x ≡ y = cc in ap (λ z. Some (f z)) same

pub map_drop : {X Y : Type 0} (f : X → Y) (xs : List X) → map f (drop 1 xs) ≡ drop 1 (map f xs)
map_drop f [] = refl
map_drop f (x ∷ xs) = refl

pub not_true : (c : Bool) → not c ≡ true → c ≡ false
not_true true h = cc
not_true false h = refl

pub pass_same : (step : ℕ) (a a' : List RiderState) (b b' : Exit) (c c' : List OutLink) (d d' : List RiderState) → a ≡ a' → b ≡ b' → c ≡ c' → d ≡ d' → passed step a b c d ≡ passed step a' b' c' d'
pass_same step a a' b b' c c' d d' e f g h = ap (λ x. passed step x b c d) e ∙ ap (λ x. passed step a' x c d) f ∙ ap (λ x. passed step a' b' x d) g ∙ ap (λ x. passed step a' b' c' x) h

module _ (p : Plan) (sound : IsSound p) (n t l : ℕ) (to : (link_at p l).to.0 ≡ n) where
  abbrev pub pass_of : List Move → Work
  pass_of M = passed t (line_mid p n t M l) (exit_mid p n t M l) (map (out_mid p n t M) (outs p n)) (arrived_mid p n t M)

  abbrev pub work_of : List Move → Work
  work_of M = record { line = line_mid p n t M l; exit = exit_mid p n t M l; outs = map (out_mid p n t M) (outs p n); arrived = arrived_mid p n t M }

  -- the head gives no move, and the pass ends; or it gives one, and the pass goes on after it
  pub data HeadStep (M : List Move) : Type 0 where
    stuck-head : head_move p n t (T p n t) M l ≡ None → pass_of M ≡ work_of M → HeadStep M
    free-head : (m : Move) → head_move p n t (T p n t) M l ≡ Some m → m.step ≡ t → stands_on l (T p n t) m.vehicle ≡ true
        → staying (M ++ m ∷ []) (queue_of l (T p n t)) ≡ drop 1 (staying M (queue_of l (T p n t))) → pass_of M ≡ pass_of (M ++ m ∷ []) → HeadStep M

  module _ (M : List Move) (v : ℕ) (first : slice_get (staying M (queue_of l (T p n t))) 0 ≡ Some v) (new : has_moved v M ≡ false) (F : OnLink p n t l v) where
    abbrev m0 : Move
    m0 = record { step = t; vehicle = v; target = next_target p (T p n t) v }

    leaves : staying (M ++ m0 ∷ []) (queue_of l (T p n t)) ≡ drop 1 (staying M (queue_of l (T p n t)))
    leaves = staying_push M m0 (queue_of l (T p n t)) ∙ first_leaves (staying M (queue_of l (T p n t))) v (distinct_filter (λ u. not (has_moved u M)) (queue_of l (T p n t)) (queue-distinct l (T p n t))) first

    line-drops : drop 1 (line_mid p n t M l) ≡ line_mid p n t (M ++ m0 ∷ []) l
    line-drops = sym (ap (λ Q. riders p (T p n t) Q) leaves ∙ map_drop (rider_at p (T p n t)) (staying M (queue_of l (T p n t))))

    waits : (b : ℕ) → waiting_mid p n t (M ++ m0 ∷ []) b ≡ waiting_mid p n t M b
    waits b =
        ap (λ S. record { later = riders p (T p n t) (filter (λ u. nat_le (suc t) (departure_of p u)) S); due = riders p (T p n t) (filter (λ u. nat_le (departure_of p u) t) S) })
        (staying-same M (m0 ∷ []) (waiting_for p b (T p n t)) (λ i u e. unmoved_one m0 u (λ s. clash (has_moved v (T p n t)) F.started (subst (λ w. has_moved w (T p n t) ≡ false) s (waits-unmoved p n t b i u e).1))))

    first-rider : slice_get (line_mid p n t M l) 0 ≡ Some (rider_at p (T p n t) v)
    first-rider = first_map (rider_at p (T p n t)) (staying M (queue_of l (T p n t))) (Some v) first

    goes-out : next_target p (T p n t) v ≡ Arrived → head_action t (exit_mid p n t M l) (map (out_mid p n t M) (outs p n)) (rider_at p (T p n t) v) ≡ Arrives → pass_of M ≡ pass_of (M ++ m0 ∷ [])
    goes-out e w =
        passed-arrives t (line_mid p n t M l) (exit_mid p n t M l) (map (out_mid p n t M) (outs p n)) (arrived_mid p n t M) (rider_at p (T p n t) v) first-rider w
        ∙ pass_same t _ _ _ _ _ _ _ _ line-drops (exit-arrival p n t M m0 l F.stood e) (sym (outs-arrival p n t M m0 (batch-push p n t M m0 new F.only refl refl) waits (outs p n) e))
        (append_assoc (arrived_before p n t) (arrive_by p (T p n t) M) (moved (rider_at p (T p n t) v) t ∷ [])
        ∙ ap (λ A. arrived_before p n t ++ A) (sym (arrive-push p n t M m0 new F.only refl refl ∙ ap (λ x. arrive_by p (T p n t) M ++ cond (not (is_onto x)) (moved (rider_at p (T p n t) v) t ∷ []) []) e)))

    goes-on : (b : ℕ) → next_target p (T p n t) v ≡ Onto b → head_action t (exit_mid p n t M l) (map (out_mid p n t M) (outs p n)) (rider_at p (T p n t) v) ≡ Enters (place_of b (outs p n)) (place_of b (kept_turns p n l)) → pass_of M ≡ pass_of (M ++ m0 ∷ [])
    goes-on b e w =
        passed-enters t (line_mid p n t M l) (exit_mid p n t M l) (map (out_mid p n t M) (outs p n)) (arrived_mid p n t M) (rider_at p (T p n t) v) (place_of b (outs p n)) (place_of b (kept_turns p n l)) first-rider w
        ∙ pass_same t _ _ _ _ _ _ _ _ line-drops (exit-entry p n t M m0 l F.stood b (distinct_filter _ (outs p n) (outs-once p n)) e) (outs-entry p n t M m0 (batch-push p n t M m0 new F.only refl refl) waits (outs p n) b (outs-once p n) e)
        (ap (λ A. arrived_before p n t ++ A) (sym (arrive-push p n t M m0 new F.only refl refl ∙ ap (λ x. arrive_by p (T p n t) M ++ cond (not (is_onto x)) (moved (rider_at p (T p n t) v) t ∷ []) []) e ∙ append-nil (arrive_by p (T p n t) M))))

    stays-put : head_action t (exit_mid p n t M l) (map (out_mid p n t M) (outs p n)) (rider_at p (T p n t) v) ≡ Stays → pass_of M ≡ work_of M
    stays-put w = passed-stays t (line_mid p n t M l) (exit_mid p n t M l) (map (out_mid p n t M) (outs p n)) (arrived_mid p n t M) (rider_at p (T p n t) v) first-rider w

    head-is : All (λ m. m.step ≡ t) M → head_move p n t (T p n t) M l ≡ where_true (may_move p n t (T p n t) M l (F.entry.step + (link_at p l).free) (next_target p (T p n t) v)) m0
    unfolding line_move leave_move
    head-is now =
        heads_of_lines p sound n t (T p n t) M now l ∙ ap (λ o. line_move p n t (T p n t) M l o) first
        ∙ ap (λ o. leave_move p n t (T p n t) M l v o (next_target p (T p n t) v)) F.came

    head-step-of : All (λ m. m.step ≡ t) M → HeadStep M
    head-step-of now = by_next (slice_get (rider_at p (T p n t) v).ahead 0) refl
      where
        by_test : (o : Option ℕ) (x : Target) (c : Bool) → next_target p (T p n t) v ≡ x → may_move p n t (T p n t) M l (F.entry.step + (link_at p l).free) x ≡ c
            → (c ≡ true → pass_of M ≡ pass_of (M ++ m0 ∷ [])) → (c ≡ false → pass_of M ≡ work_of M) → HeadStep M
        by_test o x true e q go stay = free-head m0 (head-is now ∙ ap (λ y. where_true (may_move p n t (T p n t) M l (F.entry.step + (link_at p l).free) y) m0) e ∙ ap (λ d. where_true d m0) q) refl F.stood leaves (go refl)
        by_test o x false e q go stay = stuck-head (head-is now ∙ ap (λ y. where_true (may_move p n t (T p n t) M l (F.entry.step + (link_at p l).free) y) m0) e ∙ ap (λ d. where_true d m0) q) (stay refl)

        by_next : (o : Option ℕ) → slice_get (rider_at p (T p n t) v).ahead 0 ≡ o → HeadStep M
        by_next None q =
            let w = head_action-head p n t M l v F.entry.step None F.last q (λ b h. F.allowed b (q ∙ h)) in
            let e : next_target p (T p n t) v ≡ Arrived = F.next ∙ ap (λ y. target_at y) q in
            by_test None Arrived (may_move p n t (T p n t) M l (F.entry.step + (link_at p l).free) Arrived) e refl
            (λ c. goes-out e (w ∙ ap (λ d. cond d Arrives Stays) c)) (λ c. stays-put (w ∙ ap (λ d. cond d Arrives Stays) c))
        by_next (Some b) q =
            let w = head_action-head p n t M l v F.entry.step (Some b) F.last q (λ x h. F.allowed x (q ∙ h)) in
            let e : next_target p (T p n t) v ≡ Onto b = F.next ∙ ap (λ y. target_at y) q in
            by_test (Some b) (Onto b) (may_move p n t (T p n t) M l (F.entry.step + (link_at p l).free) (Onto b)) e refl
            (λ c. goes-on b e (w ∙ ap (λ d. cond d (Enters (place_of b (outs p n)) (place_of b (kept_turns p n l))) Stays) c)) (λ c. stays-put (w ∙ ap (λ d. cond d (Enters (place_of b (outs p n)) (place_of b (kept_turns p n l))) Stays) c))

  nobody : (M : List Move) → line_move p n t (T p n t) M l None ≡ None
  unfolding line_move
  nobody M = refl

  head-step : (M : List Move) → All (λ m. m.step ≡ t) M → HeadStep M
  head-step M now = by_first (slice_get (staying M (queue_of l (T p n t))) 0) refl
    where
      by_first : (o : Option ℕ) → slice_get (staying M (queue_of l (T p n t))) 0 ≡ o → HeadStep M
      by_first None e =
          stuck-head (heads_of_lines p sound n t (T p n t) M now l ∙ ap (λ o. line_move p n t (T p n t) M l o) e ∙ nobody M)
          (passed-none t (line_mid p n t M l) (exit_mid p n t M l) (map (out_mid p n t M) (outs p n)) (arrived_mid p n t M) (first_map (rider_at p (T p n t)) (staying M (queue_of l (T p n t))) None e))
      by_first (Some v) e =
          let k = kept_at (λ w. not (has_moved w M)) (queue_of l (T p n t)) 0 v e in
          head-step-of M v e (not_true (has_moved v M) k.0) (on-link p sound n t l to (k.1.0) v (k.1.1)) now

  -- what the pass over the link leads to
  pub record PassesTo (M M' : List Move) : Type 0 where
    pub more : List Move
    pub is : M' ≡ M ++ more
    pub now : All (λ m. m.step ≡ t) more
    pub own : All (λ m. stands_on l (T p n t) m.vehicle ≡ true) more
    pub result : pass_of M ≡ work_of M'

  pub drains : (fuel : ℕ) (M : List Move) → All (λ m. m.step ≡ t) M → length (staying M (queue_of l (T p n t))) ≤ fuel → PassesTo M (drained (λ N. head_move p n t (T p n t) N l) fuel M)
  unfolding drained
  drains zero M now few = ended (staying M (queue_of l (T p n t))) refl few
    where
      ended : (S : List ℕ) → staying M (queue_of l (T p n t)) ≡ S → length S ≤ 0 → PassesTo M M
      ended [] e h = record {
        more = [];
        is = sym (append-nil M);
        now = All-nil _;
        own = All-nil _;
        result = passed-none t (line_mid p n t M l) (exit_mid p n t M l) (map (out_mid p n t M) (outs p n)) (arrived_mid p n t M) (first_map (rider_at p (T p n t)) (staying M (queue_of l (T p n t))) None (ap (λ S. slice_get S 0) e));
      }
      ended (x ∷ S) e h = absurd (omega (arith, h))
  drains (suc fuel) M now few = by_step (head-step M now) (λ m s e. drains fuel (M ++ m ∷ []) (All-push (λ x. x.step ≡ t) M m now s) (shorter m e))
    where
      shorter : (m : Move) → staying (M ++ m ∷ []) (queue_of l (T p n t)) ≡ drop 1 (staying M (queue_of l (T p n t))) → length (staying (M ++ m ∷ []) (queue_of l (T p n t))) ≤ fuel
      shorter m e = subst (λ S. length S ≤ fuel) (sym e) (one_less (staying M (queue_of l (T p n t))) few)
        where
          one_less : (S : List ℕ) → length S ≤ suc fuel → length (drop 1 S) ≤ fuel
          one_less [] h = omega arith
          one_less (x ∷ S) h = omega (arith, h)

      by_step : HeadStep M → ((m : Move) → m.step ≡ t → staying (M ++ m ∷ []) (queue_of l (T p n t)) ≡ drop 1 (staying M (queue_of l (T p n t))) → PassesTo (M ++ m ∷ []) (drained (λ N. head_move p n t (T p n t) N l) fuel (M ++ m ∷ [])))
          → PassesTo M (grow (drained (λ N. head_move p n t (T p n t) N l) fuel) M (head_move p n t (T p n t) M l))
      by_step (stuck-head e r) ih = subst (λ o. PassesTo M (grow (drained (λ N. head_move p n t (T p n t) N l) fuel) M o)) (sym e) (record { more = []; is = sym (append-nil M); now = All-nil _; own = All-nil _; result = r })
      by_step (free-head m e s stood drops r) ih =
          let rest = ih m s drops in
          subst (λ o. PassesTo M (grow (drained (λ N. head_move p n t (T p n t) N l) fuel) M o)) (sym e)
          (record {
            more = m ∷ rest.more;
            is = rest.is ∙ append_assoc M (m ∷ []) rest.more;
            now = All-cons (λ x. x.step ≡ t) m rest.more s rest.now;
            own = All-cons (λ x. stands_on l (T p n t) x.vehicle ≡ true) m rest.more stood rest.own;
            result = r ∙ rest.result;
          })
