-- Trips that are put in order and numbered.
use Rattle.std.proofs.Common.{◌≡◌, ℕ, suc, ◌+◌, ◌<◌, ◌≤◌, List, [], ◌∷◌, ◌++◌, length, get_or, set, take, drop, All, arith, refl, ap, sym, ◌∙◌, append_assoc, append-nil}
use Rattle.std.specs.List.Sorted.{IsNonDecreasingBy, IsPermutation, IsStableByKey}
use Rattle.std.specs.Ordering.{nat_cmp}
use Rattle.std.proofs.Math.Seq.{drop-cons, set-append_seam}
use Rattle.std.proofs.lemmas.List.{take_more, take_all, drop_all, length-take-le}
use Rattle.dta_model.specs.declared.trip.Trip.{Trip}
use Rattle.vehicle_release.specs.Unnumbered.{by_departure, renumbered}
use Rattle.vehicle_release.proofs.OrderFacts.{sorted_by_steps}

-- ---- the order
pub ordered : (steps : ℕ) (xs ys : List Trip) → All (λ trip. trip.departure < steps) xs
    → IsPermutation xs ys
    → IsNonDecreasingBy (λ trip. trip.departure) ys
    → IsStableByKey (λ trip. trip.departure) nat_cmp xs ys → ys ≡ by_departure steps xs
unfolding by_departure
ordered steps xs ys early same up stable =
    sorted_by_steps (λ trip. trip.departure) (λ step. record { number = 0; origin = 0; destination = 0; departure = step }) (λ step. refl) steps xs ys early same up stable

-- ---- the numbers
renumbered-append : (from : ℕ) (xs : List Trip) (trip : Trip)
    → renumbered from (xs ++ trip ∷ []) ≡ renumbered from xs ++ record trip { number = from + length xs } ∷ []
renumbered-append from [] trip = let same : from ≡ from + 0 = omega arith in ap (λ n. record trip { number = n } ∷ []) same
renumbered-append from (x ∷ xs) trip =
    let same : from + 1 + length xs ≡ from + suc (length xs) = omega arith in
    ap (λ l. record x { number = from } ∷ l) (renumbered-append (from + 1) xs trip ∙ ap (λ n. renumbered (from + 1) xs ++ record trip { number = n } ∷ []) same)

pub length-renumbered : (from : ℕ) (xs : List Trip) → length (renumbered from xs) ≡ length xs
length-renumbered from [] = refl
length-renumbered from (x ∷ xs) = ap suc (length-renumbered (from + 1) xs)

seam-read : (front rest : List Trip) (x d : Trip) → get_or (front ++ x ∷ rest) (length front) d ≡ x
seam-read [] rest x d = refl
seam-read (y ∷ front) rest x d = seam-read front rest x d

-- the element at the seam of two lists gets a number
seam-numbered : (front rest : List Trip) (x d : Trip) (place : ℕ) → place ≡ length front
    → set (front ++ x ∷ rest) place (record (get_or (front ++ x ∷ rest) place d) { number = place }) ≡ front ++ record x { number = place } ∷ rest
seam-numbered front rest x d place long =
    (λ i. set (front ++ x ∷ rest) (long i) (record (get_or (front ++ x ∷ rest) (long i) d) { number = place }))
    ∙ ap (λ y. set (front ++ x ∷ rest) (length front) (record y { number = place })) (seam-read front rest x d)
    ∙ set-append_seam front x rest (record x { number = place })

-- one more is numbered
pub numbered_more : (old now : List Trip) (place : ℕ) (d : Trip) → place < length old
    → now ≡ renumbered 0 (take place old) ++ drop place old
    → set now place (record (get_or now place d) { number = place }) ≡ renumbered 0 (take (place + 1) old) ++ drop (place + 1) old
numbered_more old now place d inside so_far =
    let front = renumbered 0 (take place old) in
    let x = get_or old place d in
    let low : place ≤ length old = omega arith in
    let long : length (take place old) ≡ place = length-take-le place old low in
    let cut : now ≡ front ++ x ∷ drop (suc place) old = so_far
    ∙ ap (λ l. front ++ l) (drop-cons old place d inside) in
    let zero_on : 0 + length (take place old) ≡ place = omega arith in
    let next : suc place ≡ place + 1 = omega arith in
    let whole : renumbered 0 (take (place + 1) old) ≡ front ++ record x { number = place } ∷ [] =
    ap (λ l. renumbered 0 l) (take_more old place d inside) ∙ renumbered-append 0 (take place old) x
    ∙ ap (λ n. front ++ record x { number = n } ∷ []) zero_on in
    (λ i. set (cut i) place (record (get_or (cut i) place d) { number = place }))
    ∙ seam-numbered front (drop (suc place) old) x d place (sym (length-renumbered 0 (take place old) ∙ long))
    ∙ sym (append_assoc front (record x { number = place } ∷ []) (drop (suc place) old))
    ∙ (λ i. sym whole i ++ drop (next i) old)

-- all are numbered
pub numbered_all : (old now : List Trip) (place : ℕ)
    → now ≡ renumbered 0 (take place old) ++ drop place old → length old ≤ place
    → now ≡ renumbered 0 old
numbered_all old now place so_far past =
    so_far ∙ (λ i. renumbered 0 (take_all place old past i) ++ drop_all place old past i)
    ∙ append-nil (renumbered 0 old)

-- what is lent to be numbered comes back whole
pub lent : (n : ℕ) (ys now zs : List Trip) → n ≡ length ys → now ≡ ys → zs ≡ renumbered 0 now
    → take n (zs ++ drop (length zs) ys) ≡ renumbered 0 ys
lent n ys now zs long is numbered_is =
    let whole : zs ≡ renumbered 0 ys = numbered_is ∙ ap (renumbered 0) is in
    let same : length zs ≡ length ys = ap length whole ∙ length-renumbered 0 ys in
    let none : drop (length zs) ys ≡ [] = drop_all (length zs) ys (omega arith) in
    ap (λ l. take n (zs ++ l)) none ∙ ap (take n) (append-nil zs) ∙ take_all n zs (omega arith) ∙ whole

pub ruleset numbering = (numbered_more, numbered_all)
