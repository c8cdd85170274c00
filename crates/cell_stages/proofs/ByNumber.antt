-- Riders told apart by their numbers.
use Rattle.std.specs.List.{list_any}
use Rattle.std.specs.Prelude.{All, filter, nat_eq}
use Rattle.std.proofs.Common.{◌≡◌, ℕ, ◌<◌, ◌≤◌, Bool, true, false, cond, ◌||◌, not, List, [], ◌∷◌, length, map, refl, sym, ◌∙◌, arith}
use Rattle.std.proofs.lemmas.Bool.{eq-eqb}
use Rattle.std.proofs.lemmas.List.{length-map}
use Rattle.std.proofs.lemmas.List.Elements.{All-cons, All-from_get_or, All-get_or, All-head, All-map, All-nil, All-tail}
use Rattle.std.proofs.Math.Dec.{eqb}
use Rattle.std.proofs.Math.ListN.{get_or}
use Rattle.dta_model.specs.Riders.{RiderState}
use Rattle.dta_model.proofs.Fuel.{distinct_below}
use Rattle.dta_model.proofs.Queues.{absent, distinct}

-- those of one number
abbrev pub numbered : ℕ → List RiderState → List RiderState
numbered v all = filter (λ r. nat_eq r.number v) all

-- what is true of each that passes a test
all_passing : (P : RiderState → Type 0) (f : RiderState → Bool) (xs : List RiderState) → All P (filter f xs) → All (λ r. f r ≡ true → P r) xs
all_passing P f [] all = All-nil (λ r. f r ≡ true → P r)
all_passing P f (x ∷ xs) all = pass_step (f x) refl all (all_passing P f xs)
  where
    clash : f x ≡ true → f x ≡ false → ⊥
    clash t e = let c : true ≡ false = sym t ∙ e in cc

    pass_step : (b : Bool) → b ≡ f x → All P (cond b (x ∷ filter f xs) (filter f xs)) → (All P (filter f xs) → All (λ r. f r ≡ true → P r) xs) → All (λ r. f r ≡ true → P r) (x ∷ xs)
    pass_step true r all ih = All-cons (λ y. f y ≡ true → P y) x xs (λ t. All-head P x (filter f xs) all) (ih (All-tail P x (filter f xs) all))
    pass_step false r all ih = All-cons (λ y. f y ≡ true → P y) x xs (λ t. absurd (clash t (sym r))) (ih all)

-- what is true of those of each number, by the number
pub all_numbered : (P : ℕ → RiderState → Type 0) (all : List RiderState) → ((v : ℕ) → All (P v) (numbered v all)) → RiderState → All (λ r. P r.number r) all
all_numbered P all each d =
    All-from_get_or (λ r. P r.number r) all d
    (λ i h. let r = get_or all i d in All-get_or (λ x. nat_eq x.number r.number ≡ true → P r.number x) all i d h (all_passing (P r.number) (λ x. nat_eq x.number r.number) all (each r.number)) (eq-eqb r.number r.number refl))

-- riders of which no two have one number, and whose numbers are below n, are n at most
once_absent : (v : ℕ) (all : List RiderState) → length (numbered v all) ≤ 0 → absent v (map (λ r. r.number) all) ≡ true
once_absent v [] h = refl
once_absent v (r ∷ all) h = absent_step (eqb r.number v) h (once_absent v all)
  where
    absent_step : (b : Bool) → length (cond b (r ∷ numbered v all) (numbered v all)) ≤ 0 → (length (numbered v all) ≤ 0 → absent v (map (λ x. x.number) all) ≡ true) → not (b || list_any (λ y. eqb y v) (map (λ x. x.number) all)) ≡ true
    absent_step true k ih = absurd (omega (arith, k))
    absent_step false k ih = ih k

once_distinct : (all : List RiderState) → ((v : ℕ) → length (numbered v all) ≤ 1) → distinct (map (λ r. r.number) all) ≡ true
once_distinct [] h = refl
once_distinct (r ∷ all) h = rw (once_absent r.number all (own_step (eqb r.number r.number) (eq-eqb r.number r.number refl) (h r.number))) (once_distinct all (λ v. fewer v (eqb r.number v) (h v)))
  where
    own_step : (b : Bool) → b ≡ true → length (cond b (r ∷ numbered r.number all) (numbered r.number all)) ≤ 1 → length (numbered r.number all) ≤ 0
    own_step true e k = omega (arith, k)
    own_step false e k = cc

    fewer : (v : ℕ) (b : Bool) → length (cond b (r ∷ numbered v all) (numbered v all)) ≤ 1 → length (numbered v all) ≤ 1
    fewer v true k = omega (arith, k)
    fewer v false k = k

pub few_numbered : (n : ℕ) (all : List RiderState) → ((v : ℕ) → length (numbered v all) ≤ 1) → All (λ r. r.number < n) all → length all ≤ n
few_numbered n all once below =
    let few = distinct_below n (map (λ r. r.number) all) (once_distinct all once) (All-map (λ v. v < n) (λ r. r.number) all below) in
    let same = length-map all (λ r. r.number) in
    omega (arith, few, same)
