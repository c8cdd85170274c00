-- What one more move changes of a vehicle, and what it leaves.
use Rattle.std.specs.List.{list_any}
use Rattle.std.specs.Prelude.{filter, find}
use Rattle.std.proofs.Common.{◌≡◌, ℕ, Bool, true, false, cond, ◌||◌, not, List, [], ◌∷◌, ◌++◌, length, refl, ap, sym, ◌∙◌, append_assoc, append-nil, Option, Some, None}
use Rattle.std.specs.Option.{option_or}
use Rattle.std.proofs.lemmas.Bool.{or_parts, eqb-true, eqb-false, eq-eqb, ne_eqb}
use Rattle.std.proofs.lemmas.List.Folds.{list_any-append, find-append}
use Rattle.std.proofs.lemmas.List.Elements.{filter-append}
use Rattle.std.proofs.lemmas.List.Sums.{length-filter}
use Rattle.std.proofs.Math.Dec.{eqb}
use Rattle.dta_model.specs.Trace.{Move, has_moved, is_of, last_move, last_moves, moves_made, moves_of}
use Rattle.dta_model.proofs.Queues.{last_moves-push}

find_none : (p : Move → Bool) (L : List Move) → find p (filter (λ x. not (p x)) L) ≡ None
find_none p [] = refl
find_none p (x ∷ L) = none_step (p x) refl (find_none p L)
  where
    none_step : (b : Bool) → b ≡ p x → find p (filter (λ y. not (p y)) L) ≡ None → find p (cond (not b) (x ∷ filter (λ y. not (p y)) L) (filter (λ y. not (p y)) L)) ≡ None
    none_step true r h = h
    none_step false r h = rw (← r) h

find_same : (p q : Move → Bool) → ((x : Move) → p x ≡ true → q x ≡ true) → (L : List Move) → find p (filter q L) ≡ find p L
find_same p q w [] = refl
find_same p q w (x ∷ L) = same_step (p x) (q x) refl (w x) (find_same p q w L)
  where
    same_step : (b c : Bool) → b ≡ p x → (b ≡ true → c ≡ true) → find p (filter q L) ≡ find p L → find p (cond c (x ∷ filter q L) (filter q L)) ≡ cond b (Some x) (find p L)
    same_step true c r h e = rw (h refl) (rw (← r) refl)
    same_step false true r h e = rw (← r) e
    same_step false false r h e = e

or_none : (o : Option Move) → option_or o None ≡ o
or_none None = refl
or_none (Some x) = refl

-- the last move of the vehicle that moved, and of the others
pub last_move-own : (T : List Move) (m : Move) → last_move m.vehicle (T ++ m ∷ []) ≡ Some m
unfolding last_move
last_move-own T m =
    rw (last_moves-push, find-append (is_of m.vehicle) (filter (λ x. not (is_of m.vehicle x)) (last_moves T)) (m ∷ []), find_none (is_of m.vehicle) (last_moves T), eq-eqb m.vehicle m.vehicle refl) refl

pub last_move-other : (T : List Move) (m : Move) (v : ℕ) → (m.vehicle ≡ v → ⊥) → last_move v (T ++ m ∷ []) ≡ last_move v T
unfolding last_move
last_move-other T m v n =
    rw (last_moves-push, find-append (is_of v) (filter (λ x. not (is_of m.vehicle x)) (last_moves T)) (m ∷ []), ne_eqb m.vehicle v n) (or_none _ ∙ find_same (is_of v) (λ x. not (is_of m.vehicle x)) (λ x e. kept x e) (last_moves T))
  where
    kept : (x : Move) → is_of v x ≡ true → not (is_of m.vehicle x) ≡ true
    kept x e = rw (ne_eqb x.vehicle m.vehicle (λ s. n (sym s ∙ eqb-true x.vehicle v e))) refl

-- a vehicle's moves
pub moves_of-append : (v : ℕ) (T N : List Move) → moves_of v (T ++ N) ≡ moves_of v T ++ moves_of v N
unfolding moves_of
moves_of-append v T N = filter-append (is_of v) T N

pub moves_made_is : (v : ℕ) (T : List Move) → moves_made v T ≡ length (moves_of v T)
unfolding moves_of moves_made
moves_made_is v T = sym (length-filter (is_of v) T)

any_step : (p : Move → Bool) (x : Move) (T : List Move) (b : Bool) → list_any p T ≡ list_any (λ _. true) (filter p T) → (b || list_any p T) ≡ list_any (λ _. true) (cond b (x ∷ filter p T) (filter p T))
any_step p x T true e = refl
any_step p x T false e = e

any_filter : (p : Move → Bool) (T : List Move) → list_any p T ≡ list_any (λ _. true) (filter p T)
any_filter p [] = refl
any_filter p (x ∷ T) = any_step p x T (p x) (any_filter p T)

pub has_moved_is : (v : ℕ) (T : List Move) → has_moved v T ≡ list_any (λ _. true) (moves_of v T)
unfolding moves_of has_moved
has_moved_is v T = any_filter (is_of v) T

pub has_moved-append : (v : ℕ) (T N : List Move) → has_moved v (T ++ N) ≡ (has_moved v T || has_moved v N)
unfolding has_moved
has_moved-append v T N = list_any-append (is_of v) T N

-- a vehicle that doesn't move stays where it was
pub last_move-still : (v : ℕ) (M T : List Move) → has_moved v M ≡ false → last_move v (T ++ M) ≡ last_move v T
unfolding has_moved
last_move-still v [] T h = ap (λ L. last_move v L) (append-nil T)
last_move-still v (m ∷ M) T h =
    let both = or_parts (eqb m.vehicle v) (list_any (is_of v) M) h in
    ap (λ L. last_move v L) (sym (append_assoc T (m ∷ []) M)) ∙ last_move-still v M (T ++ m ∷ []) both.1 ∙ last_move-other T m v (eqb-false m.vehicle v both.0)
