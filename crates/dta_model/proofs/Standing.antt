-- Who stands in a queue, and where a vehicle is.
use Rattle.std.specs.List.{list_any}
use Rattle.std.specs.Prelude.{filter, find, slice_get}
use Rattle.std.proofs.Common.{◌≡◌, ℕ, zero, suc, Bool, true, false, cond, ◌||◌, not, List, [], ◌∷◌, refl, sym, ◌∙◌, subst, Some, None}
use Rattle.std.proofs.lemmas.Bool.{eq-eqb, ne_eqb, and_parts}
use Rattle.std.proofs.Math.Dec.{eqb}
use Rattle.dta_model.specs.Trace.{Move, has_moved, is_of, last_move, last_moves, leads_to, queue_of}
use Rattle.dta_model.proofs.Queues.{vehicles, absent, distinct, last_moves-distinct, absent-filter, absent-last}
use Rattle.std.proofs.lemmas.Option.{same_Some}

-- a vehicle of a filtered list is in the list
pub present : (xs : List ℕ) (i v : ℕ) → slice_get xs i ≡ Some v → absent v xs ≡ false
present [] i v h = cc
present (x ∷ xs) zero v h = rw (eq-eqb x v (same_Some x v h)) refl
present (x ∷ xs) (suc i) v h = present_step (eqb x v) (list_any (λ y. eqb y v) xs) (present xs i v h)
  where
    present_step : (b c : Bool) → not c ≡ false → not (b || c) ≡ false
    present_step true c e = refl
    present_step false c e = e

not_first : (p : Move → Bool) (x : Move) (L : List Move) (i v : ℕ) → absent x.vehicle (vehicles L) ≡ true → slice_get (vehicles (filter p L)) i ≡ Some v → eqb x.vehicle v ≡ false
not_first p x L i v a h =
    ne_eqb x.vehicle v (λ same. clash (subst (λ w. absent w (vehicles (filter p L)) ≡ true) same (absent-filter p x.vehicle L a)) (present (vehicles (filter p L)) i v h))
  where
    clash : absent v (vehicles (filter p L)) ≡ true → absent v (vehicles (filter p L)) ≡ false → ⊥
    clash t f = let e : true ≡ false = sym t ∙ f in cc

-- whose vehicle stands in a filtered list, that move passes
abbrev Stands : (Move → Bool) → ℕ → List Move → Type 0
Stands p v L = (x : Move) × (find (is_of v) L ≡ Some x) × (p x ≡ true)

stands_step : (p : Move → Bool) (x : Move) (L : List Move) (v : ℕ) (b : Bool) (i : ℕ) → b ≡ p x → absent x.vehicle (vehicles L) ≡ true → ((j : ℕ) → slice_get (vehicles (filter p L)) j ≡ Some v → Stands p v L)
    → slice_get (vehicles (cond b (x ∷ filter p L) (filter p L))) i ≡ Some v → Stands p v (x ∷ L)
stands_step p x L v true zero r a ih h = (x, rw (eq-eqb x.vehicle v (same_Some _ _ h)) refl, sym r)
stands_step p x L v true (suc i) r a ih h = let y = ih i h in (y.0, rw (not_first p x L i v a h) (y.1), y.2)
stands_step p x L v false i r a ih h = let y = ih i h in (y.0, rw (not_first p x L i v a h) (y.1), y.2)

stands : (p : Move → Bool) (L : List Move) (i v : ℕ) → distinct (vehicles L) ≡ true → slice_get (vehicles (filter p L)) i ≡ Some v → Stands p v L
stands p [] i v d h = cc
stands p (x ∷ L) i v d h =
    let parts = and_parts (absent x.vehicle (vehicles L)) (distinct (vehicles L)) d in
    stands_step p x L v (p x) i refl (parts.0) (λ j. stands p L j v (parts.1)) h

-- whose vehicle is in a queue, its last move led there
pub in-queue : (l : ℕ) (T : List Move) (i v : ℕ) → slice_get (queue_of l T) i ≡ Some v → (x : Move) × (last_move v T ≡ Some x) × (leads_to l x ≡ true)
unfolding queue_of last_move
in-queue l T i v h = stands (leads_to l) (last_moves T) i v (last_moves-distinct T) h

pub find_absent : (v : ℕ) (L : List Move) → absent v (vehicles L) ≡ true → find (is_of v) L ≡ None
find_absent v [] h = refl
find_absent v (x ∷ L) h = find_absent_step (eqb x.vehicle v) refl h (find_absent v L)
  where
    find_absent_step : (b : Bool) → b ≡ eqb x.vehicle v → not (b || list_any (λ y. eqb y v) (vehicles L)) ≡ true → (absent v (vehicles L) ≡ true → find (is_of v) L ≡ None) → cond b (Some x) (find (is_of v) L) ≡ None
    find_absent_step true r h f = cc
    find_absent_step false r h f = f h

pub no-last : (v : ℕ) (T : List Move) → has_moved v T ≡ false → last_move v T ≡ None
unfolding last_move
no-last v T h = find_absent v (last_moves T) (absent-last v T h)
