-- Traces that tell the same: the moves of each vehicle, the queue of each link, and how many entered
-- and left it.
use Rattle.std.specs.Prelude.{filter, ◌≢◌, All, count_by}
use Rattle.std.proofs.Common.{◌≡◌, ℕ, ◌+◌, Bool, true, false, cond, not, List, [], ◌∷◌, ◌++◌, refl, ap, sym, ◌∙◌, subst, append_assoc, append-nil, ◌⊎◌, inl, inr}
use Rattle.std.proofs.lemmas.Bool.{ne_eqb}
use Rattle.std.proofs.lemmas.Bool.Decides.{eqb_tells}
use Rattle.std.proofs.lemmas.List.Elements.{filter-append, All-head, All-tail}
use Rattle.std.proofs.Math.Dec.{eqb}
use Rattle.dta_model.specs.Room.{entered_by, leavings}
use Rattle.dta_model.specs.Trace.{Move, last_move, leads_there, leads_to, moves_of, queue_of, stands_on}
use Rattle.dta_model.proofs.Leavings.{entered-push, entered-swap, passing-push, passing-swap}
use Rattle.dta_model.proofs.Queues.{without, queue-push}
use Rattle.dta_model.proofs.Pushes.{last_move-own, last_move-other, moves_of-append}

pub record Same (T U : List Move) : Type 0 where
  pub moves : (v : ℕ) → moves_of v T ≡ moves_of v U
  pub last : (v : ℕ) → last_move v T ≡ last_move v U
  pub queues : (l : ℕ) → queue_of l T ≡ queue_of l U
  pub entered : (l : ℕ) → entered_by T l ≡ entered_by U l
  pub left : (q : Move → Bool) (l : ℕ) → count_by q (leavings l [] T) ≡ count_by q (leavings l [] U)

pub Same-refl : (T : List Move) → Same T T
Same-refl T = record { moves = λ v. refl; last = λ v. refl; queues = λ l. refl; entered = λ l. refl; left = λ q l. refl }

pub Same-back : {T U : List Move} → Same T U → Same U T
Same-back a = record { moves = λ v. sym (a.moves v); last = λ v. sym (a.last v); queues = λ l. sym (a.queues l); entered = λ l. sym (a.entered l); left = λ q l. sym (a.left q l) }

pub Same-trans : (T U W : List Move) → Same T U → Same U W → Same T W
Same-trans T U W a b = record { moves = λ v. a.moves v ∙ b.moves v; last = λ v. a.last v ∙ b.last v; queues = λ l. a.queues l ∙ b.queues l; entered = λ l. a.entered l ∙ b.entered l; left = λ q l. a.left q l ∙ b.left q l }

pub Same-of : (T U T' U' : List Move) → T ≡ T' → U ≡ U' → Same T' U' → Same T U
Same-of T U T' U' a b s = rw (a, b) s

last-push : (T U : List Move) (m : Move) (v : ℕ) → last_move v T ≡ last_move v U → ((eqb m.vehicle v ≡ true) × (m.vehicle ≡ v)) ⊎ ((eqb m.vehicle v ≡ false) × (m.vehicle ≢ v)) → last_move v (T ++ m ∷ []) ≡ last_move v (U ++ m ∷ [])
last-push T U m v e (inl (test, same)) = subst (λ w. last_move w (T ++ m ∷ []) ≡ last_move w (U ++ m ∷ [])) same (last_move-own T m ∙ sym (last_move-own U m))
last-push T U m v e (inr (test, other)) = last_move-other T m v other ∙ e ∙ sym (last_move-other U m v other)

stands-alike : (l v : ℕ) (T U : List Move) → last_move v T ≡ last_move v U → stands_on l T v ≡ stands_on l U v
unfolding stands_on
stands-alike l v T U e = ap (λ o. leads_there l o) e

-- one more move on both
pub Same-push : (T U : List Move) (m : Move) → Same T U → Same (T ++ m ∷ []) (U ++ m ∷ [])
Same-push T U m s = record {
  moves = λ v. moves_of-append v T (m ∷ []) ∙ ap (λ L. L ++ moves_of v (m ∷ [])) (s.moves v) ∙ sym (moves_of-append v U (m ∷ []));
  last = λ v. last-push T U m v (s.last v) (eqb_tells m.vehicle v);
  queues = λ l. queue-push l T m ∙ ap (λ Q. without m.vehicle Q ++ cond (leads_to l m) (m.vehicle ∷ []) []) (s.queues l) ∙ sym (queue-push l U m);
  entered = λ l. entered-push l T m ∙ ap (λ n. n + count_by (leads_to l) (m ∷ [])) (s.entered l) ∙ sym (entered-push l U m);
  left = λ q l. passing-push q l T m ∙ ap (λ n. n + count_by q (cond (stands_on l T m.vehicle) (m ∷ []) [])) (s.left q l) ∙ ap (λ c. count_by q (leavings l [] U) + count_by q (cond c (m ∷ []) [])) (stands-alike l m.vehicle T U (s.last m.vehicle)) ∙ sym (passing-push q l U m);
}

-- the same moves on both
pub Same-append : (A T U : List Move) → Same T U → Same (T ++ A) (U ++ A)
Same-append [] T U s = Same-of (T ++ []) (U ++ []) T U (append-nil T) (append-nil U) s
Same-append (m ∷ A) T U s =
    Same-of (T ++ m ∷ A) (U ++ m ∷ A) ((T ++ m ∷ []) ++ A) ((U ++ m ∷ []) ++ A) (sym (append_assoc T (m ∷ []) A)) (sym (append_assoc U (m ∷ []) A)) (Same-append A (T ++ m ∷ []) (U ++ m ∷ []) (Same-push T U m s))

-- two moves of different vehicles that don't lead to one link
pub record Apart (a b : Move) : Type 0 where
  pub others : a.vehicle ≢ b.vehicle
  pub ways : (l : ℕ) → leads_to l a ≡ true → leads_to l b ≡ false

filter_comm : (p q : ℕ → Bool) (xs : List ℕ) → filter p (filter q xs) ≡ filter q (filter p xs)
filter_comm p q [] = refl
filter_comm p q (x ∷ xs) = comm_step (p x) (q x) refl refl (filter_comm p q xs)
  where
    comm_step : (b c : Bool) → b ≡ p x → c ≡ q x → filter p (filter q xs) ≡ filter q (filter p xs) → filter p (cond c (x ∷ filter q xs) (filter q xs)) ≡ filter q (cond b (x ∷ filter p xs) (filter p xs))
    comm_step true true e f h = rw (← e, ← f) (ap (λ ys. x ∷ ys) h)
    comm_step true false e f h = rw (← f) h
    comm_step false true e f h = rw (← e) h
    comm_step false false e f h = h

without_one : (v w : ℕ) (b : Bool) → w ≢ v → without v (cond b (w ∷ []) []) ≡ cond b (w ∷ []) []
without_one v w true n = rw (ne_eqb w v n) refl
without_one v w false n = refl

ends_swap : (Q X Y : List ℕ) (b c : Bool) → (b ≡ true → c ≡ false) → (Q ++ cond b X []) ++ cond c Y [] ≡ (Q ++ cond c Y []) ++ cond b X []
ends_swap Q X Y true true h = let e = h refl in cc
ends_swap Q X Y true false h = append-nil (Q ++ X) ∙ ap (λ L. L ++ X) (sym (append-nil Q))
ends_swap Q X Y false true h = ap (λ L. L ++ Y) (append-nil Q) ∙ sym (append-nil (Q ++ Y))
ends_swap Q X Y false false h = refl

two_pushed : (l : ℕ) (T : List Move) (a b : Move) → a.vehicle ≢ b.vehicle → queue_of l ((T ++ a ∷ []) ++ b ∷ []) ≡ (without b.vehicle (without a.vehicle (queue_of l T)) ++ cond (leads_to l a) (a.vehicle ∷ []) []) ++ cond (leads_to l b) (b.vehicle ∷ []) []
two_pushed l T a b n =
    queue-push l (T ++ a ∷ []) b ∙ ap (λ Q. without b.vehicle Q ++ cond (leads_to l b) (b.vehicle ∷ []) []) (queue-push l T a)
    ∙ ap (λ Q. Q ++ cond (leads_to l b) (b.vehicle ∷ []) []) (filter-append (λ x. not (eqb x b.vehicle)) (without a.vehicle (queue_of l T)) (cond (leads_to l a) (a.vehicle ∷ []) []) ∙ ap (λ Q. without b.vehicle (without a.vehicle (queue_of l T)) ++ Q) (without_one b.vehicle a.vehicle (leads_to l a) n))

last-swap : (T : List Move) (a b : Move) → a.vehicle ≢ b.vehicle → (v : ℕ) → ((eqb a.vehicle v ≡ true) × (a.vehicle ≡ v)) ⊎ ((eqb a.vehicle v ≡ false) × (a.vehicle ≢ v)) → ((eqb b.vehicle v ≡ true) × (b.vehicle ≡ v)) ⊎ ((eqb b.vehicle v ≡ false) × (b.vehicle ≢ v))
    → last_move v ((T ++ a ∷ []) ++ b ∷ []) ≡ last_move v ((T ++ b ∷ []) ++ a ∷ [])
last-swap T a b n v (inl (s, x)) (inl (r, y)) = absurd (n (x ∙ sym y))
last-swap T a b n v (inl (s, x)) (inr (r, y)) = last_move-other (T ++ a ∷ []) b v y ∙ subst (λ w. last_move w (T ++ a ∷ []) ≡ last_move w ((T ++ b ∷ []) ++ a ∷ [])) x (last_move-own T a ∙ sym (last_move-own (T ++ b ∷ []) a))
last-swap T a b n v (inr (s, x)) (inl (r, y)) = subst (λ w. last_move w ((T ++ a ∷ []) ++ b ∷ []) ≡ last_move w (T ++ b ∷ [])) y (last_move-own (T ++ a ∷ []) b ∙ sym (last_move-own T b)) ∙ sym (last_move-other (T ++ b ∷ []) a v x)
last-swap T a b n v (inr (s, x)) (inr (r, y)) = last_move-other (T ++ a ∷ []) b v y ∙ last_move-other T a v x ∙ sym (last_move-other T b v y) ∙ sym (last_move-other (T ++ b ∷ []) a v x)

none_of : (v : ℕ) (m : Move) → eqb m.vehicle v ≡ false → moves_of v (m ∷ []) ≡ []
unfolding moves_of
none_of v m e = rw e refl

moves-swap : (T : List Move) (a b : Move) → a.vehicle ≢ b.vehicle → (v : ℕ) → moves_of v ((T ++ a ∷ []) ++ b ∷ []) ≡ moves_of v ((T ++ b ∷ []) ++ a ∷ [])
moves-swap T a b n v =
    moves_of-append v (T ++ a ∷ []) (b ∷ []) ∙ ap (λ L. L ++ moves_of v (b ∷ [])) (moves_of-append v T (a ∷ [])) ∙ both (eqb_tells a.vehicle v) (eqb_tells b.vehicle v) ∙ sym (ap (λ L. L ++ moves_of v (a ∷ [])) (moves_of-append v T (b ∷ []))) ∙ sym (moves_of-append v (T ++ b ∷ []) (a ∷ []))
  where
    both : ((eqb a.vehicle v ≡ true) × (a.vehicle ≡ v)) ⊎ ((eqb a.vehicle v ≡ false) × (a.vehicle ≢ v)) → ((eqb b.vehicle v ≡ true) × (b.vehicle ≡ v)) ⊎ ((eqb b.vehicle v ≡ false) × (b.vehicle ≢ v))
        → (moves_of v T ++ moves_of v (a ∷ [])) ++ moves_of v (b ∷ []) ≡ (moves_of v T ++ moves_of v (b ∷ [])) ++ moves_of v (a ∷ [])
    both (inl (s, x)) (inl (r, y)) = absurd (n (x ∙ sym y))
    both (inr (s, x)) r = rw (none_of v a s) (rw (append-nil (moves_of v T), append-nil (moves_of v T ++ moves_of v (b ∷ []))) refl)
    both s (inr (r, y)) = rw (none_of v b r) (rw (append-nil (moves_of v T), append-nil (moves_of v T ++ moves_of v (a ∷ []))) refl)

-- two such moves in either order
pub Same-swap : (T : List Move) (a b : Move) → Apart a b → Same ((T ++ a ∷ []) ++ b ∷ []) ((T ++ b ∷ []) ++ a ∷ [])
Same-swap T a b apart = record {
  moves = moves-swap T a b apart.others;
  last = λ v. last-swap T a b apart.others v (eqb_tells a.vehicle v) (eqb_tells b.vehicle v);
  queues = λ l.
      two_pushed l T a b apart.others ∙ ap (λ Q. (Q ++ cond (leads_to l a) (a.vehicle ∷ []) []) ++ cond (leads_to l b) (b.vehicle ∷ []) []) (filter_comm _ _ (queue_of l T))
      ∙ ends_swap _ (a.vehicle ∷ []) (b.vehicle ∷ []) (leads_to l a) (leads_to l b) (apart.ways l) ∙ sym (two_pushed l T b a (λ e. apart.others (sym e)));
  entered = λ l. entered-swap l T a b;
  left = λ q l. passing-swap q l T a b apart.others;
}

-- a move passes a list of moves
pub Same-pass : (A T : List Move) (b : Move) → All (λ a. Apart a b) A → Same ((T ++ A) ++ b ∷ []) ((T ++ b ∷ []) ++ A)
Same-pass [] T b apart = Same-of ((T ++ []) ++ b ∷ []) ((T ++ b ∷ []) ++ []) (T ++ b ∷ []) (T ++ b ∷ []) (ap (λ L. L ++ b ∷ []) (append-nil T)) (append-nil (T ++ b ∷ [])) (Same-refl (T ++ b ∷ []))
Same-pass (a ∷ A) T b apart =
    Same-of ((T ++ a ∷ A) ++ b ∷ []) ((T ++ b ∷ []) ++ a ∷ A) (((T ++ a ∷ []) ++ A) ++ b ∷ []) (((T ++ b ∷ []) ++ a ∷ []) ++ A) (ap (λ L. L ++ b ∷ []) (sym (append_assoc T (a ∷ []) A))) (sym (append_assoc (T ++ b ∷ []) (a ∷ []) A))
    (Same-trans (((T ++ a ∷ []) ++ A) ++ b ∷ []) (((T ++ a ∷ []) ++ b ∷ []) ++ A) (((T ++ b ∷ []) ++ a ∷ []) ++ A)
    (Same-pass A (T ++ a ∷ []) b (All-tail (λ x. Apart x b) a A apart))
    (Same-append A ((T ++ a ∷ []) ++ b ∷ []) ((T ++ b ∷ []) ++ a ∷ []) (Same-swap T a b (All-head (λ x. Apart x b) a A apart))))

-- two lists of moves in either order
pub Same-blocks : (B A T : List Move) → All (λ b. All (λ a. Apart a b) A) B → Same ((T ++ A) ++ B) ((T ++ B) ++ A)
Same-blocks [] A T apart = Same-of ((T ++ A) ++ []) ((T ++ []) ++ A) (T ++ A) (T ++ A) (append-nil (T ++ A)) (ap (λ L. L ++ A) (append-nil T)) (Same-refl (T ++ A))
Same-blocks (b ∷ B) A T apart =
    Same-of ((T ++ A) ++ b ∷ B) ((T ++ b ∷ B) ++ A) (((T ++ A) ++ b ∷ []) ++ B) (((T ++ b ∷ []) ++ B) ++ A) (sym (append_assoc (T ++ A) (b ∷ []) B)) (ap (λ L. L ++ A) (sym (append_assoc T (b ∷ []) B)))
    (Same-trans (((T ++ A) ++ b ∷ []) ++ B) (((T ++ b ∷ []) ++ A) ++ B) (((T ++ b ∷ []) ++ B) ++ A)
    (Same-append B ((T ++ A) ++ b ∷ []) ((T ++ b ∷ []) ++ A) (Same-pass A T b (All-head (λ y. All (λ a. Apart a y) A) b B apart)))
    (Same-blocks B A (T ++ b ∷ []) (All-tail (λ y. All (λ a. Apart a y) A) b B apart)))
