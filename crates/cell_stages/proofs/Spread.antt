-- Lists spread over the links and nodes of a network.
use Rattle.std.specs.List.{flat_map}
use Rattle.std.specs.Prelude.{filter, is_some, nat_eq}
use Rattle.std.proofs.Common.{◌≡◌, ℕ, ◌<◌, Bool, true, false, cond, List, [], ◌∷◌, ◌++◌, refl, ap, sym, ◌∙◌, arith, append-nil, Option, Some, None}
use Rattle.std.proofs.lemmas.Bool.{eq-eqb, ne_eqb}
use Rattle.std.proofs.Math.Dec.{eqb}
use Rattle.net_core.specs.Network.{numbers_below}
use Rattle.dta_model.specs.NodeMoves.{is_first}
use Rattle.dta_model.proofs.Flat.{flat_one}

pub flat_nothing : {A X : Type 0} (g : A → List X) (xs : List A) → ((x : A) → g x ≡ []) → flat_map g xs ≡ []
flat_nothing g [] h = refl
flat_nothing g (x ∷ xs) h = rw (h x) (flat_nothing g xs h)

pub flat_same : {A X : Type 0} (g h : A → List X) (xs : List A) → ((x : A) → g x ≡ h x) → flat_map g xs ≡ flat_map h xs
flat_same g h [] e = refl
flat_same g h (x ∷ xs) e = rw (e x, flat_same g h xs e) refl

pub flat-filter : {X : Type 0} (test : ℕ → Bool) (g : ℕ → List X) (xs : List ℕ) → flat_map g (filter test xs) ≡ flat_map (λ x. cond (test x) (g x) []) xs
flat-filter test g [] = refl
flat-filter {X} test g (x ∷ xs) = test_step (test x) (flat-filter test g xs)
  where
    test_step : (b : Bool) → flat_map g (filter test xs) ≡ flat_map (λ y. cond (test y) (g y) []) xs → flat_map g (cond b (x ∷ filter test xs) (filter test xs)) ≡ cond b (g x) [] ++ flat_map (λ y. cond (test y) (g y) []) xs
    test_step true ih = ap (λ L. g x ++ L) ih
    test_step false ih = ih

-- where two of three families of lists are empty
front_empty : {X : Type 0} (xs ys : List X) → xs ++ ys ≡ [] → (xs ≡ []) × (ys ≡ [])
front_empty [] ys e = (refl, e)
front_empty (x ∷ xs) ys e = cc

pub only_first : {A X : Type 0} (f g h : A → List X) (xs : List A) → flat_map g xs ≡ [] → flat_map h xs ≡ [] → flat_map (λ x. f x ++ (g x ++ h x)) xs ≡ flat_map f xs
only_first f g h [] a b = refl
only_first f g h (x ∷ xs) a b =
    let p = front_empty (g x) (flat_map g xs) a in
    let q = front_empty (h x) (flat_map h xs) b in
    rw (p.0, q.0, append-nil (f x), only_first f g h xs p.1 q.1) refl

pub only_second : {A X : Type 0} (f g h : A → List X) (xs : List A) → flat_map f xs ≡ [] → flat_map h xs ≡ [] → flat_map (λ x. f x ++ (g x ++ h x)) xs ≡ flat_map g xs
only_second f g h [] a b = refl
only_second f g h (x ∷ xs) a b =
    let p = front_empty (f x) (flat_map f xs) a in
    let q = front_empty (h x) (flat_map h xs) b in
    rw (p.0, q.0, append-nil (g x), only_second f g h xs p.1 q.1) refl

pub only_third : {A X : Type 0} (f g h : A → List X) (xs : List A) → flat_map f xs ≡ [] → flat_map g xs ≡ [] → flat_map (λ x. f x ++ (g x ++ h x)) xs ≡ flat_map h xs
only_third f g h [] a b = refl
only_third f g h (x ∷ xs) a b =
    let p = front_empty (f x) (flat_map f xs) a in
    let q = front_empty (g x) (flat_map g xs) b in
    rw (p.0, q.0, only_third f g h xs p.1 q.1) refl

pub only_later : {A X : Type 0} (g h : A → List X) (xs : List A) → flat_map g xs ≡ [] → flat_map (λ x. g x ++ h x) xs ≡ flat_map h xs
only_later g h [] a = refl
only_later g h (x ∷ xs) a = let p = front_empty (g x) (flat_map g xs) a in rw (p.0, only_later g h xs p.1) refl

nothing_twice : {X : Type 0} (b : Bool) → ◌≡◌ {A = List X} (cond b [] []) []
nothing_twice true = refl
nothing_twice false = refl

-- what lies on one link lies at one node
pub spread : {X : Type 0} (ends : ℕ → ℕ) (links nodes : ℕ) (R : List X) (o : Option ℕ) → ((l : ℕ) → o ≡ Some l → (l < links) × (ends l < nodes))
    → flat_map (λ n. flat_map (λ l. cond (nat_eq (ends l) n) (cond (is_first l o) R []) []) (numbers_below links)) (numbers_below nodes) ≡ cond (is_some o) R []
spread ends links nodes R None h = flat_nothing _ (numbers_below nodes) (λ n. flat_nothing _ (numbers_below links) (λ l. nothing_twice (nat_eq (ends l) n)))
spread {X} ends links nodes R (Some k) h =
    flat_same _ (λ n. cond (nat_eq (ends k) n) R []) (numbers_below nodes) inner
    ∙ flat_one (λ n. cond (nat_eq (ends k) n) R []) nodes 0 (ends k) (omega arith) (let b = (h k refl).1 in omega (arith, b)) (λ n other. rw (ne_eqb (ends k) n (λ e. other (sym e))) refl)
    ∙ rw (eq-eqb (ends k) (ends k) refl) refl
  where
    inner : (n : ℕ) → flat_map (λ l. cond (nat_eq (ends l) n) (cond (nat_eq k l) R []) []) (numbers_below links) ≡ cond (nat_eq (ends k) n) R []
    inner n =
        flat_one (λ l. cond (nat_eq (ends l) n) (cond (nat_eq k l) R []) []) links 0 k (omega arith) (let b = (h k refl).0 in omega (arith, b))
        (λ l other. rw (ne_eqb k l (λ e. other (sym e))) (nothing_twice (nat_eq (ends l) n)))
        ∙ rw (eq-eqb k k refl) refl
