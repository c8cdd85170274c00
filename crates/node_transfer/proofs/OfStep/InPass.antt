-- The pass over a node's in-links is the moves that they give one after another.
use Rattle.node_transfer.proofs.OfStep.ByKey.{both_true}
use Rattle.std.specs.List.{list_any}
use Rattle.std.specs.Prelude.{slice_get, ◌≢◌, All, count_by}
use Rattle.std.proofs.Common.{◌≡◌, ℕ, zero, suc, ◌<◌, ◌≤◌, Bool, true, false, cond, not, List, [], ◌∷◌, ◌++◌, length, map, refl, ap, sym, ◌∙◌, subst, arith, append_assoc, append-nil, Option, Some, None, take, drop, get_or}
use Rattle.std.proofs.lemmas.Bool.{eqb-false, ne_eqb}
use Rattle.std.proofs.lemmas.List.{drop-map, map-append, take-append-drop}
use Rattle.std.proofs.lemmas.List.Elements.{All-nil, All-cons, All-append, All-drop, All-head, All-tail, All-take, All-weaker}
use Rattle.std.proofs.lemmas.List.Sums.{sum_by-cons}
use Rattle.std.proofs.Math.Dec.{eqb}
use Rattle.dta_model.specs.NodeMoves.{head_move, left, rotated}
use Rattle.cell_stages.specs.OnePass.{drained, pass_links}
use Rattle.dta_model.specs.Plans.{link_at, outs, vehicle_count}
use Rattle.dta_model.specs.Riders.{riders}
use Rattle.dta_model.specs.Sound.{IsSound}
use Rattle.cell_stages.specs.Stages.{line_before, staying}
use Rattle.dta_model.specs.Trace.{Move, leads_there, last_move, has_moved, queue_of, stands_on}
use Rattle.dta_model.specs.declared.plan.Plan.{Plan}
use Rattle.dta_model.proofs.Fuel.{Lawful, trace-lawful, distinct_below, has_moved-if}
use Rattle.cell_stages.proofs.Gathering.{kept_at}
use Rattle.dta_model.proofs.Places.{of_mover}
use Rattle.dta_model.proofs.Queues.{absent, distinct, queue-distinct, leads_once}
use Rattle.dta_model.proofs.Standing.{in-queue}
use Rattle.node_transfer.specs.Inside.Cells.{passed_link, passed_links, passed_front, passed_rotated, link_after, put_first, joined_behind}
use Rattle.cell_stages.specs.Contents.{in_link, exit_of, left_before, away}
use Rattle.node_transfer.specs.Exits.{opened_exit}
use Rattle.cell_stages.specs.declared.in_link.InLink.{InLink}
use Rattle.node_transfer.proofs.OfStep.ByKey.{head_parts}
use Rattle.node_transfer.proofs.OfStep.Facts.{on-link}
use Rattle.node_transfer.proofs.OfStep.LinkPass.{drains, pass_of, work_of, pass_same}
use Rattle.node_transfer.proofs.OfStep.Meters.{exit-opens, exit-closes}
use Rattle.node_transfer.proofs.OfStep.Mid.{T, line_mid, left_mid, exit_mid, out_mid, arrived_mid, in_done}
use Rattle.node_transfer.proofs.OfStep.Movers.{distinct_filter, staying-same, clash}

pub staying-none : (Q : List ℕ) → staying [] Q ≡ Q
unfolding has_moved
staying-none [] = refl
staying-none (x ∷ Q) = ap (λ L. x ∷ L) (staying-none Q)

pub all_from : (P : ℕ → Type 0) (xs : List ℕ) → ((i v : ℕ) → slice_get xs i ≡ Some v → P v) → All P xs
all_from P [] h = All-nil P
all_from P (x ∷ xs) h = All-cons P x xs (h 0 x refl) (all_from P xs (λ i v e. h (suc i) v e))

abbrev one_if : Bool → ℕ
one_if b = cond b 1 0

count_none : (q : Move → Bool) (M : List Move) → All (λ m. q m ≡ false) M → count_by q M ≡ 0
count_none q [] a = refl
count_none q (m ∷ M) a =
    let c = sum_by-cons (λ x. cond (q x) 1 0) m M in
    let here : one_if (q m) ≡ 0 = rw (All-head (λ x. q x ≡ false) m M a) refl in
    let rest : count_by q M ≡ 0 = count_none q M (All-tail (λ x. q x ≡ false) m M a) in
    omega (arith, c, here, rest)

pub not_of : (b : Bool) → (b ≡ true → ⊥) → b ≡ false
not_of true h = absurd (h refl)
not_of false h = refl

-- who isn't among absent numbers
pub absent_all : (l : ℕ) (ls : List ℕ) → absent l ls ≡ true → All (λ k. l ≢ k) ls
absent_all l [] a = All-nil (λ k. l ≢ k)
absent_all l (k ∷ ls) a =
    let parts = head_parts (eqb k l) (list_any (λ y. eqb y l) ls) a in
    All-cons (λ j. l ≢ j) k ls (λ e. eqb-false k l parts.0 (sym e)) (absent_all l ls parts.1)

-- no vehicle of these moves stands on link k at the start of the step
abbrev pub Untouched : Plan → ℕ → ℕ → List Move → ℕ → Type 0
Untouched p n t M k = All (λ m. stands_on k (T p n t) m.vehicle ≡ false) M

stands_once : (p : Plan) (n t l k v : ℕ) → l ≢ k → stands_on l (T p n t) v ≡ true → stands_on k (T p n t) v ≡ false
unfolding stands_on
stands_once p n t l k v other h = by_last (last_move v (T p n t)) h
  where
    by_last : (o : Option Move) → leads_there l o ≡ true → leads_there k o ≡ false
    by_last None e = refl
    by_last (Some m) e = leads_once l k m e other

module _ (p : Plan) (sound : IsSound p) (n t : ℕ) where
  untouched-still : (l : ℕ) → (link_at p l).to.0 ≡ n → (M : List Move) → Untouched p n t M l → (i u : ℕ) → slice_get (queue_of l (T p n t)) i ≡ Some u → has_moved u M ≡ false
  untouched-still l to M none i u e =
      not_of (has_moved u M) (λ h. clash (stands_on l (T p n t) u) ((on-link p sound n t l to i u e).stood) (of_mover (λ w. stands_on l (T p n t) w ≡ false) u M none h))

  pub few-on : (l : ℕ) (M : List Move) → length (staying M (queue_of l (T p n t))) ≤ vehicle_count p
  few-on l M =
      distinct_below (vehicle_count p) (staying M (queue_of l (T p n t))) (distinct_filter (λ v. not (has_moved v M)) (queue_of l (T p n t)) (queue-distinct l (T p n t)))
      (all_from (λ v. v < vehicle_count p) (staying M (queue_of l (T p n t)))
      (λ i v e. let k = kept_at (λ w. not (has_moved w M)) (queue_of l (T p n t)) i v e in
      let x = in-queue l (T p n t) (k.1.0) v (k.1.1) in
      of_mover (λ w. w < vehicle_count p) v (T p n t) (All-weaker (Lawful p t) (λ m. m.vehicle < vehicle_count p) (λ m a. a.below) (T p n t) (trace-lawful p t)) (has_moved-if v (T p n t) (x.0) (x.1))))

  -- an in-link whose turn has passed stays as it is
  pub done-stays : (l : ℕ) → (link_at p l).to.0 ≡ n → (M R : List Move) → Untouched p n t R l → in_done p n t (M ++ R) l ≡ in_done p n t M l
  done-stays l to M R none = ap (λ S. record (in_done p n t M l) { line = riders p (T p n t) S; left = left_mid p n t (riders p (T p n t) S) l }) (staying-same M R (queue_of l (T p n t)) (untouched-still l to R none))

  abbrev pub in_before : ℕ → InLink
  in_before l = in_link p n (line_before p t) (left_before p t) away l

  line-before : (l : ℕ) → (link_at p l).to.0 ≡ n → (M : List Move) → Untouched p n t M l → line_before p t l ≡ line_mid p n t M l
  unfolding line_before
  line-before l to M none = ap (λ S. riders p (T p n t) S) (sym (staying-same [] M (queue_of l (T p n t)) (untouched-still l to M none) ∙ staying-none (queue_of l (T p n t))))

  none-left : (l : ℕ) (M : List Move) → Untouched p n t M l → left p n t (T p n t) M l ≡ 0
  unfolding left
  none-left l M none = count_none (λ m. stands_on l (T p n t) m.vehicle) M none

  give : ℕ → List Move → Option Move
  give l M = head_move p n t (T p n t) M l

  -- one in-link
  link-passes : (l : ℕ) → (to : (link_at p l).to.0 ≡ n) → (M M' : List Move) → Untouched p n t M l → (pass_of p sound n t l to M ≡ work_of p sound n t l to M')
      → passed_link t (in_before l) (map (out_mid p n t M) (outs p n)) (arrived_mid p n t M) ≡ record { link = in_done p n t M' l; outs = map (out_mid p n t M') (outs p n); arrived = arrived_mid p n t M' }
  link-passes l to M M' none r =
      ap (λ w. link_after (in_before l) w)
      (pass_same t (line_before p t l) (line_mid p n t M l) (opened_exit t (exit_of p n l)) (exit_mid p n t M l) (map (out_mid p n t M) (outs p n)) (map (out_mid p n t M) (outs p n)) (arrived_mid p n t M) (arrived_mid p n t M) (line-before l to M none) (exit-opens p n t M l (none-left l M none)) refl refl ∙ r)
      ∙ ap (λ g. record { link = record (in_before l) { line = line_mid p n t M' l; left = left_mid p n t (line_mid p n t M' l) l; exit = g }; outs = map (out_mid p n t M') (outs p n); arrived = arrived_mid p n t M' }) (exit-closes p n t M' l)

  -- several in-links
  pub record InsPass (M : List Move) (ls : List ℕ) (M' : List Move) : Type 0 where
    pub more : List Move
    pub is : M' ≡ M ++ more
    pub now : All (λ m. m.step ≡ t) M'
    pub others : (k : ℕ) → absent k ls ≡ true → Untouched p n t more k
    pub result : passed_links t (map in_before ls) (map (out_mid p n t M) (outs p n)) (arrived_mid p n t M) ≡ record { ins = map (in_done p n t M') ls; outs = map (out_mid p n t M') (outs p n); arrived = arrived_mid p n t M' }

  pub ins-pass : (ls : List ℕ) → All (λ l. (link_at p l).to.0 ≡ n) ls → distinct ls ≡ true → (M : List Move) → All (λ m. m.step ≡ t) M → All (λ k. Untouched p n t M k) ls
      → InsPass M ls (pass_links (vehicle_count p) (λ l N. head_move p n t (T p n t) N l) ls M)
  unfolding pass_links passed_links
  ins-pass [] to d M now none = record { more = []; is = sym (append-nil M); now = now; others = λ k a. All-nil _; result = refl }
  ins-pass (l ∷ ls) to d M now none =
      let here = All-head (λ k. (link_at p k).to.0 ≡ n) l ls to in
      let parts = both_true (absent l ls) (distinct ls) d in
      let D = drains p sound n t l here (vehicle_count p) M now (few-on l M) in
      let M1 = drained (λ N. head_move p n t (T p n t) N l) (vehicle_count p) M in
      let now1 : All (λ m. m.step ≡ t) M1 = subst (λ L. All (λ m. m.step ≡ t) L) (sym D.is) (All-append (λ m. m.step ≡ t) M D.more now D.now) in
      let apart : All (λ k. Untouched p n t D.more k) ls = All-weaker (λ k. l ≢ k) (λ k. Untouched p n t D.more k) (λ k other. All-weaker (λ m. stands_on l (T p n t) m.vehicle ≡ true) (λ m. stands_on k (T p n t) m.vehicle ≡ false) (λ m s. stands_once p n t l k m.vehicle other s) D.more D.own) ls (absent_all l ls parts.0) in
      let none1 : All (λ k. Untouched p n t M1 k) ls = (λ k d lt. subst (λ L. Untouched p n t L (get_or ls k d)) (sym D.is) (All-append (λ m. stands_on (get_or ls k d) (T p n t) m.vehicle ≡ false) M D.more (All-tail (λ k. Untouched p n t M k) l ls none k d lt) (apart k d lt))) in
      let rest = ins-pass ls (All-tail (λ k. (link_at p k).to.0 ≡ n) l ls to) parts.1 M1 now1 none1 in
      let stays : in_done p n t M1 l ≡ in_done p n t (pass_links (vehicle_count p) (λ k N. head_move p n t (T p n t) N k) ls M1) l = sym (ap (λ L. in_done p n t L l) rest.is ∙ done-stays l here M1 rest.more (rest.others l parts.0)) in
      record {
        more = D.more ++ rest.more;
        is = rest.is ∙ ap (λ L. L ++ rest.more) D.is ∙ append_assoc M D.more rest.more;
        now = rest.now;
        others = λ k a. let away_from = head_parts (eqb l k) (list_any (λ y. eqb y k) ls) a in
            All-append (λ m. stands_on k (T p n t) m.vehicle ≡ false) D.more rest.more (All-weaker (λ m. stands_on l (T p n t) m.vehicle ≡ true) (λ m. stands_on k (T p n t) m.vehicle ≡ false) (λ m s. stands_once p n t l k m.vehicle (eqb-false l k away_from.0) s) D.more D.own) (rest.others k away_from.1);
        result =
            ap (λ w. put_first w.link (passed_links t (map in_before ls) w.outs w.arrived)) (link-passes l here M M1 (All-head (λ k. Untouched p n t M k) l ls none) D.result)
            ∙ ap (λ w. put_first (in_done p n t M1 l) w) rest.result
            ∙ ap (λ x. record { ins = x ∷ map (in_done p n t (pass_links (vehicle_count p) (λ k N. head_move p n t (T p n t) N k) ls M1)) ls; outs = map (out_mid p n t (pass_links (vehicle_count p) (λ k N. head_move p n t (T p n t) N k) ls M1)) (outs p n); arrived = arrived_mid p n t (pass_links (vehicle_count p) (λ k N. head_move p n t (T p n t) N k) ls M1) }) stays;
      }

  pass_links-append : (most : ℕ) (give : ℕ → List Move → Option Move) (ks ls : List ℕ) (M : List Move) → pass_links most give (ks ++ ls) M ≡ pass_links most give ls (pass_links most give ks M)
  unfolding pass_links
  pass_links-append most give [] ls M = refl
  pass_links-append most give (k ∷ ks) ls M = pass_links-append most give ks ls (drained (give k) most M)

  map_take : {X Y : Type 0} (f : X → Y) (k : ℕ) (xs : List X) → take k (map f xs) ≡ map f (take k xs)
  map_take f zero xs = refl
  map_take f (suc k) [] = refl
  map_take f (suc k) (x ∷ xs) = ap (λ ys. f x ∷ ys) (map_take f k xs)

  pub map_all : {Y : Type 0} (P : ℕ → Type 0) (f g : ℕ → Y) (xs : List ℕ) → All P xs → ((x : ℕ) → P x → f x ≡ g x) → map f xs ≡ map g xs
  map_all P f g [] all h = refl
  map_all P f g (x ∷ xs) all h = rw (h x (All-head P x xs all), map_all P f g xs (All-tail P x xs all) h) refl

  absent-append : (x : ℕ) (xs ys : List ℕ) → absent x (xs ++ ys) ≡ true → (absent x xs ≡ true) × (absent x ys ≡ true)
  absent-append x [] ys a = (refl, a)
  absent-append x (z ∷ xs) ys a =
      let parts = head_parts (eqb z x) (list_any (λ y. eqb y x) (xs ++ ys)) a in
      let rest = absent-append x xs ys parts.1 in
      (rw parts.0 rest.0, rest.1)

  -- two parts of a list without repeats
  record Apart (xs ys : List ℕ) : Type 0 where
    left_alone : distinct xs ≡ true
    right_alone : distinct ys ≡ true
    left_of : All (λ x. absent x ys ≡ true) xs
    right_of : All (λ y. absent y xs ≡ true) ys

  absent_cons : (x y : ℕ) (xs : List ℕ) → y ≢ x → absent y xs ≡ true → absent y (x ∷ xs) ≡ true
  absent_cons x y xs other a = let e : eqb x y ≡ false = ne_eqb x y (λ s. other (sym s)) in rw e a

  apart : (xs ys : List ℕ) → distinct (xs ++ ys) ≡ true → Apart xs ys
  apart [] ys d = record { left_alone = refl; right_alone = d; left_of = All-nil _; right_of = λ k e lt. refl }
  apart (x ∷ xs) ys d =
      let parts = both_true (absent x (xs ++ ys)) (distinct (xs ++ ys)) d in
      let both = absent-append x xs ys parts.0 in
      let rest = apart xs ys parts.1 in
      record {
        left_alone = rw (both.0, rest.left_alone) refl;
        right_alone = rest.right_alone;
        left_of = All-cons (λ x. absent x ys ≡ true) x xs both.1 rest.left_of;
        right_of = λ k e lt. absent_cons x (get_or ys k e) xs (λ s. absent_all x ys both.1 k e lt (sym s)) (rest.right_of k e lt);
      }

  abbrev pub passes : List ℕ → List Move → List Move
  passes ls M = pass_links (vehicle_count p) (λ l N. head_move p n t (T p n t) N l) ls M

  -- the in-links from a place on, and then those before it
  pub record RotatedPass (ls : List ℕ) (k : ℕ) (M' : List Move) : Type 0 where
    pub now : All (λ m. m.step ≡ t) M'
    pub result : passed_rotated t k (map in_before ls) (map (out_mid p n t []) (outs p n)) (arrived_mid p n t []) ≡ record { ins = map (in_done p n t M') ls; outs = map (out_mid p n t M') (outs p n); arrived = arrived_mid p n t M' }

  pub rotated-pass : (ls : List ℕ) (k : ℕ) → All (λ l. (link_at p l).to.0 ≡ n) ls → distinct ls ≡ true → RotatedPass ls k (passes (rotated k ls) [])
  rotated-pass ls k to d =
      let F = take k ls in
      let B = drop k ls in
      let ap_ = apart F B (subst (λ xs. distinct xs ≡ true) (sym (take-append-drop k ls)) d) in
      let back = ins-pass B (All-drop (λ l. (link_at p l).to.0 ≡ n) k ls to) ap_.right_alone [] (All-nil _) (λ i d lt. All-nil _) in
      let M1 = passes B [] in
      let front = ins-pass F (All-take (λ l. (link_at p l).to.0 ≡ n) k ls to) ap_.left_alone M1 back.now (All-weaker (λ x. absent x B ≡ true) (λ x. Untouched p n t M1 x) (λ x a. subst (λ L. Untouched p n t L x) (sym back.is) (back.others x a)) F ap_.left_of) in
      let M2 = passes F M1 in
      let e : passes (rotated k ls) [] ≡ M2 = pass_links-append (vehicle_count p) (λ l N. head_move p n t (T p n t) N l) B F [] in
      let kept : map (in_done p n t M1) B ≡ map (in_done p n t M2) B = map_all (λ l. ((link_at p l).to.0 ≡ n) × (absent l F ≡ true)) (in_done p n t M1) (in_done p n t M2) B (λ i d lt. (All-drop (λ l. (link_at p l).to.0 ≡ n) k ls to i d lt, ap_.right_of i d lt)) (λ l h. sym (ap (λ L. in_done p n t L l) front.is ∙ done-stays l h.0 M1 front.more (front.others l h.1))) in
      subst (λ M. RotatedPass ls k M) (sym e)
      (record {
        now = front.now;
        result =
            ap (λ xs. passed_front t xs (passed_links t (drop k (map in_before ls)) (map (out_mid p n t []) (outs p n)) (arrived_mid p n t []))) (map_take in_before k ls)
            ∙ ap (λ xs. passed_front t (map in_before F) (passed_links t xs (map (out_mid p n t []) (outs p n)) (arrived_mid p n t []))) (drop-map in_before k ls)
            ∙ ap (λ w. passed_front t (map in_before F) w) back.result
            ∙ ap (λ w. joined_behind (record { ins = map (in_done p n t M1) B; outs = map (out_mid p n t M1) (outs p n); arrived = arrived_mid p n t M1 }) w) front.result
            ∙ ap (λ xs. record { ins = xs; outs = map (out_mid p n t M2) (outs p n); arrived = arrived_mid p n t M2 }) (ap (λ xs. map (in_done p n t M2) F ++ xs) kept ∙ sym (map-append (in_done p n t M2) F B) ∙ ap (λ xs. map (in_done p n t M2) xs) (take-append-drop k ls));
      })
