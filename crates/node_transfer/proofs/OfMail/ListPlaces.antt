-- Places in lists of numbers without repeats.
use Rattle.std.specs.List.{list_any}
use Rattle.std.specs.Prelude.{nat_eq, slice_get}
use Rattle.std.proofs.Common.{◌≡◌, ℕ, zero, suc, ◌+◌, ◌<◌, ◌≤◌, Bool, true, false, ◌&&◌, ◌||◌, not, List, [], ◌∷◌, length, refl, ap, sym, ◌∙◌, arith, Some, get_or, take, add-one}
use Rattle.std.proofs.lemmas.Bool.{eq-eqb, eqb-true, ne_eqb}
use Rattle.std.proofs.Math.Dec.{eqb}
use Rattle.net_core.specs.Network.{as_links}
use Rattle.net_core.specs.declared.rows.LinkNo.{LinkNo}
use Rattle.dta_model.proofs.Queues.{absent, distinct}
use Rattle.node_transfer.specs.Exchange.{is_among}
use Rattle.node_transfer.specs.Inside.Pass.{place_of}

-- a number that is absent stands nowhere
absent-get : (x b j : ℕ) (xs : List ℕ) → absent x xs ≡ true → slice_get xs j ≡ Some b → eqb x b ≡ false
absent-get x b j [] a e = cc
absent-get x b zero (y ∷ xs) a e = ne_eqb x b (λ same. clash (eqb y x) (eq-eqb y x (some_nat y b e ∙ sym same)) a)
  where
    some_nat : (a b : ℕ) → Some a ≡ Some b → a ≡ b
    some_nat a b h = cc

    clash : (c : Bool) → c ≡ true → not (c || list_any (λ z. eqb z x) xs) ≡ true → ⊥
    clash true q h = cc
    clash false q h = cc
absent-get x b (suc j) (y ∷ xs) a e = absent-get x b j xs (rest_of (eqb y x) a) e
  where
    rest_of : (c : Bool) → not (c || list_any (λ z. eqb z x) xs) ≡ true → absent x xs ≡ true
    rest_of true h = cc
    rest_of false h = h

alone : (c d : Bool) → (c && d) ≡ true → (c ≡ true) × (d ≡ true)
alone true d h = (refl, h)
alone false d h = cc

-- the place of a number is where it stands
pub place-is : (xs : List ℕ) (j b : ℕ) → distinct xs ≡ true → slice_get xs j ≡ Some b → place_of b xs ≡ j
unfolding place_of
place-is [] j b d e = cc
place-is (x ∷ xs) zero b d e = rw (eq-eqb x b (some_nat x b e)) refl
  where
    some_nat : (a b : ℕ) → Some a ≡ Some b → a ≡ b
    some_nat a b h = cc
place-is (x ∷ xs) (suc j) b d e =
    let parts = alone (absent x xs) (distinct xs) d in
    rw (absent-get x b j xs parts.0 e) (ap (λ k. k + 1) (place-is xs j b parts.1 e) ∙ add-one j)

-- one among others stands at a place
pub among-place : (xs : List ℕ) (l : ℕ) → is_among xs l ≡ true → (j : ℕ) × (slice_get xs j ≡ Some l)
among-place [] l h = cc
among-place (x ∷ xs) l h = by_test (nat_eq x l) refl h (λ q. among-place xs l q)
  where
    by_test : (c : Bool) → nat_eq x l ≡ c → (c || is_among xs l) ≡ true → (is_among xs l ≡ true → (j : ℕ) × (slice_get xs j ≡ Some l)) → (j : ℕ) × (slice_get (x ∷ xs) j ≡ Some l)
    by_test true e h later = (0, ap (λ y. Some y) (eqb-true x l e))
    by_test false e h later = let rest = later h in (suc (rest.0), rest.1)

-- it isn't among those before it
pub not-before : (xs : List ℕ) (j b : ℕ) → distinct xs ≡ true → slice_get xs j ≡ Some b → is_among (take j xs) b ≡ false
not-before [] j b d e = cc
not-before (x ∷ xs) zero b d e = refl
not-before (x ∷ xs) (suc j) b d e =
    let parts = alone (absent x xs) (distinct xs) d in
    rw (absent-get x b j xs parts.0 e) (not-before xs j b parts.1 e)

-- one more number
pub among-next : (xs : List ℕ) (j b l : ℕ) → slice_get xs j ≡ Some b → is_among (take (suc j) xs) l ≡ (nat_eq b l || is_among (take j xs) l)
among-next [] j b l e = cc
among-next (x ∷ xs) zero b l e = ap (λ y. nat_eq y l || false) (some_nat x b e)
  where
    some_nat : (a b : ℕ) → Some a ≡ Some b → a ≡ b
    some_nat a b h = cc
among-next (x ∷ xs) (suc j) b l e = ap (λ c. nat_eq x l || c) (among-next xs j b l e) ∙ swapped (nat_eq x l) (nat_eq b l) (is_among (take j xs) l)
  where
    swapped : (a b c : Bool) → (a || (b || c)) ≡ (b || (a || c))
    swapped true true c = refl
    swapped true false c = refl
    swapped false b c = refl

pub take-all : (xs : List ℕ) (j : ℕ) → length xs ≤ j → take j xs ≡ xs
take-all [] zero h = refl
take-all [] (suc j) h = refl
take-all (x ∷ xs) zero h = absurd (omega (arith, h))
take-all (x ∷ xs) (suc j) h = ap (λ ys. x ∷ ys) (take-all xs j (omega (arith, h)))

-- a link at a place, as a number
pub link-here : (xs : List ℕ) (ls : List LinkNo) (j : ℕ) (d : LinkNo) → ls ≡ as_links xs → j < length ls → slice_get xs j ≡ Some (get_or ls j d).0
link-here xs ls j d e h = rw e (of_list xs j (rw (← e) h))
  where
    of_list : (xs : List ℕ) (j : ℕ) → j < length (as_links xs) → slice_get xs j ≡ Some (get_or (as_links xs) j d).0
    of_list [] j h = absurd (omega (arith, h))
    of_list (x ∷ xs) zero h = refl
    of_list (x ∷ xs) (suc j) h = of_list xs j (omega (arith, h))

pub links-count : (xs : List ℕ) → length (as_links xs) ≡ length xs
links-count [] = refl
links-count (x ∷ xs) = ap suc (links-count xs)
