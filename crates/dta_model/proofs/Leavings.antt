-- The moves by which vehicles leave a link, along a trace.
use Rattle.std.specs.Prelude.{filter, find, count_by}
use Rattle.std.proofs.Common.{◌≡◌, ◌≢◌, ℕ, ◌+◌, Bool, true, false, cond, List, [], ◌∷◌, ◌++◌, length, refl, ap, sym, ◌∙◌, subst, arith, append_assoc, append-nil, Some, ◌⊎◌, inl, inr}
use Rattle.std.proofs.lemmas.Bool.{and_parts}
use Rattle.std.proofs.lemmas.Bool.Decides.{eqb_tells}
use Rattle.std.proofs.lemmas.List.{length-append}
use Rattle.std.proofs.lemmas.List.Sums.{sum_by-append, sum_by-cons}
use Rattle.std.proofs.Math.Dec.{eqb}
use Rattle.dta_model.specs.Room.{entered_by, leavings}
use Rattle.dta_model.specs.Trace.{Move, is_of, last_move, last_moves, leads_there, leads_to, queue_of, stands_on}
use Rattle.dta_model.proofs.Pushes.{last_move-other}
use Rattle.dta_model.proofs.Queues.{absent, absent-filter, distinct, last_moves-distinct, queue-push, vehicles, without, without-absent}

-- the leavings of a list of moves in two parts
pub leavings-append : (l : ℕ) (A T B : List Move) → leavings l T (A ++ B) ≡ leavings l T A ++ leavings l (T ++ A) B
unfolding leavings
leavings-append l [] T B = ap (λ L. leavings l L B) (sym (append-nil T))
leavings-append l (m ∷ A) T B =
    split (stands_on l T m.vehicle) (leavings l (T ++ m ∷ []) (A ++ B)) (leavings l (T ++ m ∷ []) A) (leavings l (T ++ m ∷ A) B)
    (leavings-append l A (T ++ m ∷ []) B ∙ ap (λ L. leavings l (T ++ m ∷ []) A ++ leavings l L B) (append_assoc T (m ∷ []) A))
  where
    split : (c : Bool) (X Y Z : List Move) → X ≡ Y ++ Z → cond c (m ∷ X) X ≡ cond c (m ∷ Y) Y ++ Z
    split true X Y Z e = ap (λ L. m ∷ L) e
    split false X Y Z e = e

pub leavings-push : (l : ℕ) (T : List Move) (m : Move) → leavings l [] (T ++ m ∷ []) ≡ leavings l [] T ++ cond (stands_on l T m.vehicle) (m ∷ []) []
unfolding leavings
leavings-push l T m = leavings-append l T [] (m ∷ [])

-- how many of them pass a test
pub passing-push : (q : Move → Bool) (l : ℕ) (T : List Move) (m : Move) → count_by q (leavings l [] (T ++ m ∷ [])) ≡ count_by q (leavings l [] T) + count_by q (cond (stands_on l T m.vehicle) (m ∷ []) [])
passing-push q l T m = ap (λ L. count_by q L) (leavings-push l T m) ∙ sum_by-append (λ x. cond (q x) 1 0) (leavings l [] T) (cond (stands_on l T m.vehicle) (m ∷ []) [])

-- a move of another vehicle leaves a vehicle where it is
pub stands_on-other : (l : ℕ) (T : List Move) (m : Move) (v : ℕ) → m.vehicle ≢ v → stands_on l (T ++ m ∷ []) v ≡ stands_on l T v
unfolding stands_on
stands_on-other l T m v n = ap (λ o. leads_there l o) (last_move-other T m v n)

-- two moves of different vehicles leave the same links in either order
pub passing-swap : (q : Move → Bool) (l : ℕ) (T : List Move) (a b : Move) → a.vehicle ≢ b.vehicle → count_by q (leavings l [] ((T ++ a ∷ []) ++ b ∷ [])) ≡ count_by q (leavings l [] ((T ++ b ∷ []) ++ a ∷ []))
passing-swap q l T a b n =
    let one = passing-push q l T a in
    let two = passing-push q l (T ++ a ∷ []) b in
    let three = passing-push q l T b in
    let four = passing-push q l (T ++ b ∷ []) a in
    let five : count_by q (cond (stands_on l (T ++ a ∷ []) b.vehicle) (b ∷ []) []) ≡ count_by q (cond (stands_on l T b.vehicle) (b ∷ []) []) = ap (λ c. count_by q (cond c (b ∷ []) [])) (stands_on-other l T a b.vehicle n) in
    let six : count_by q (cond (stands_on l (T ++ b ∷ []) a.vehicle) (a ∷ []) []) ≡ count_by q (cond (stands_on l T a.vehicle) (a ∷ []) []) = ap (λ c. count_by q (cond c (a ∷ []) [])) (stands_on-other l T b a.vehicle (λ e. n (sym e))) in
    omega (arith, one, two, three, four, five, six)

-- the entries of a trace with one more move
pub entered-push : (l : ℕ) (T : List Move) (m : Move) → count_by (leads_to l) (T ++ m ∷ []) ≡ count_by (leads_to l) T + count_by (leads_to l) (m ∷ [])
entered-push l T m = sum_by-append (λ x. cond (leads_to l x) 1 0) T (m ∷ [])

pub entered-swap : (l : ℕ) (T : List Move) (a b : Move) → count_by (leads_to l) ((T ++ a ∷ []) ++ b ∷ []) ≡ count_by (leads_to l) ((T ++ b ∷ []) ++ a ∷ [])
entered-swap l T a b =
    let one = entered-push l T a in
    let two = entered-push l (T ++ a ∷ []) b in
    let three = entered-push l T b in
    let four = entered-push l (T ++ b ∷ []) a in
    omega (arith, one, two, three, four)

-- ---- who entered a link is on it or has left it
abbrev one_if : Bool → ℕ
one_if b = cond b 1 0

-- a queue without a vehicle, and that vehicle, if it stands there
queue_left : (l v : ℕ) (L : List Move) → distinct (vehicles L) ≡ true → length (without v (vehicles (filter (leads_to l) L))) + one_if (leads_there l (find (is_of v) L)) ≡ length (vehicles (filter (leads_to l) L))
queue_left l v [] d = omega arith
queue_left l v (m ∷ L) d =
    let parts = and_parts (absent m.vehicle (vehicles L)) (distinct (vehicles L)) d in
    left_step (eqb_tells m.vehicle v) (leads_to l m) refl parts.0 (queue_left l v L parts.1)
  where
    left_step : ((eqb m.vehicle v ≡ true) × (m.vehicle ≡ v)) ⊎ ((eqb m.vehicle v ≡ false) × (m.vehicle ≢ v)) → (b : Bool) → b ≡ leads_to l m → absent m.vehicle (vehicles L) ≡ true
        → length (without v (vehicles (filter (leads_to l) L))) + one_if (leads_there l (find (is_of v) L)) ≡ length (vehicles (filter (leads_to l) L))
        → length (without v (vehicles (cond b (m ∷ filter (leads_to l) L) (filter (leads_to l) L)))) + one_if (leads_there l (cond (eqb m.vehicle v) (Some m) (find (is_of v) L))) ≡ length (vehicles (cond b (m ∷ filter (leads_to l) L) (filter (leads_to l) L)))
    left_step (inl (s, same)) true r a ih =
        let rest = without-absent v (vehicles (filter (leads_to l) L)) (absent-filter (leads_to l) v L (subst (λ w. absent w (vehicles L) ≡ true) same a)) in
        rw (s, ← r, rest) (omega arith)
    left_step (inl (s, same)) false r a ih =
        let rest = without-absent v (vehicles (filter (leads_to l) L)) (absent-filter (leads_to l) v L (subst (λ w. absent w (vehicles L) ≡ true) same a)) in
        rw (s, ← r, rest) (omega arith)
    left_step (inr (s, other)) true r a ih = rw s (omega (arith, ih))
    left_step (inr (s, other)) false r a ih = rw s ih

queue_less : (l : ℕ) (T : List Move) (v : ℕ) → length (without v (queue_of l T)) + one_if (stands_on l T v) ≡ length (queue_of l T)
unfolding queue_of stands_on last_move
queue_less l T v = queue_left l v (last_moves T) (last_moves-distinct T)

abbrev pub AddsUp : ℕ → List Move → Type 0
AddsUp l T = entered_by T l ≡ length (queue_of l T) + length (leavings l [] T)

adds_push : (l : ℕ) (T : List Move) (m : Move) → AddsUp l T → AddsUp l (T ++ m ∷ [])
adds_push l T m so_far =
    let less = queue_less l T m.vehicle in
    let queue = ap (λ Q. length Q) (queue-push l T m) ∙ length-append (without m.vehicle (queue_of l T)) (cond (leads_to l m) (m.vehicle ∷ []) []) in
    let gone = ap (λ L. length L) (leavings-push l T m) ∙ length-append (leavings l [] T) (cond (stands_on l T m.vehicle) (m ∷ []) []) in
    let entries = entered-push l T m in
    let one = length_one m.vehicle (leads_to l m) in
    let other = length_one m (stands_on l T m.vehicle) in
    let in_it = count_one (leads_to l) m in
    omega (arith, so_far, less, queue, gone, entries, one, other, in_it)
  where
    length_one : {X : Type 0} (x : X) (b : Bool) → length (cond b (x ∷ []) []) ≡ one_if b
    length_one x true = refl
    length_one x false = refl

    count_one : (q : Move → Bool) (x : Move) → count_by q (x ∷ []) ≡ one_if (q x)
    count_one q x = sum_by-cons (λ y. cond (q y) 1 0) x [] ∙ omega arith

pub adds_all : (l : ℕ) (M U : List Move) → AddsUp l U → AddsUp l (U ++ M)
adds_all l [] U e = subst (AddsUp l) (sym (append-nil U)) e
adds_all l (m ∷ M) U e = subst (AddsUp l) (append_assoc U (m ∷ []) M) (adds_all l M (U ++ m ∷ []) (adds_push l U m e))

pub adds_none : (l : ℕ) → AddsUp l []
unfolding queue_of leavings last_moves
adds_none l = refl
