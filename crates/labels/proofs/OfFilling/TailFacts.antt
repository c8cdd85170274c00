-- Tails of zones, one after another, and of the first of them.
use Rattle.std.proofs.Common.{◌≡◌, ◌⊎◌, inl, inr, ℕ, ◌+◌, ◌<◌, ◌≤◌, List, [], ◌∷◌, ◌++◌, length, map, take, drop, ap, sym, ◌∙◌, subst, arith, get_or}
use Rattle.std.proofs.lemmas.Bool.{cases_lt}
use Rattle.std.proofs.lemmas.Grind.{common_steps}
use Rattle.std.proofs.lemmas.List.{drop-map, get_or-drop, get_or-take, get_or_append_left, get_or-append-add, length-drop, length-map, length-take-le, take-map}
use Rattle.net_core.specs.declared.rows.ZoneNo.{ZoneNo}
use Rattle.labels.specs.Filling.Labels.{far}
use Rattle.labels.specs.Filling.FreeFlow.{AreSettled}
use Rattle.labels.specs.Filling.Tails.{AreTails, IsTail}
use Rattle.labels.specs.ToZone.{zone_numbers}
use Rattle.labels.specs.declared.states.router.Router.{Router}
use Rattle.labels.proofs.OfReading.GroupFacts.{number_of}

-- a tail whose walks are within a number is one whose walks are within a greater
tail_more : (free : List ℕ) (r : Router) (zone most more : ℕ) (tail : List ℕ) → most ≤ more → IsTail free r zone most tail → IsTail free r zone more tail
tail_more free r zone most more tail grows is = record { as_many = is.as_many; settled = is.settled; near = λ s h b. (let n = is.near s h b in omega (arith, n, grows)) }

-- the tails of the zones so far
pub record AreTailsTo (free : List ℕ) (r : Router) (most : ℕ) (tails : List (List ℕ)) (zones : List ℕ) (count : ℕ) : Type 0 where
  pub as_many : length tails ≡ count
  pub each : (j : ℕ) → j < length tails → IsTail free r (get_or zones j 0) most (get_or tails j [])

-- one more tail
pub AreTailsTo_more : (free : List ℕ) (r : Router) (most more : ℕ) (old new : List (List ℕ)) (zs : List ZoneNo) (n : ℕ) (tail : List ℕ) (d : ZoneNo) → n < length zs → most ≤ more → new ≡ old ++ tail ∷ []
    → length tail ≡ length r.zones.items → AreSettled free r (get_or zs n d).0 tail → ((s : ℕ) → s < length tail → get_or tail s 0 < far → get_or tail s 0 ≤ more)
    → AreTailsTo free r most old (zone_numbers zs) n → AreTailsTo free r more new (zone_numbers zs) (n + 1)
AreTailsTo_more free r most more old new zs n tail d small grows grown many settled near was = record { as_many = total; each = λ j h. by j h (cases_lt j n) }
  where
    total : length new ≡ n + 1
    total = let m = was.as_many in grind (arith, common_steps)

    by : (j : ℕ) → j < length new → (j < n) ⊎ (n ≤ j) → IsTail free r (get_or (zone_numbers zs) j 0) more (get_or new j [])
    by j h (inl less) =
        let before : j < length old = omega (arith, less, was.as_many) in
        let stands : get_or new j [] ≡ get_or old j [] = ap (λ xs. get_or xs j []) grown ∙ get_or_append_left old (tail ∷ []) [] j before in
        subst (λ x. IsTail free r (get_or (zone_numbers zs) j 0) more x) (sym stands) (tail_more free r (get_or (zone_numbers zs) j 0) most more (get_or old j []) grows (was.each j before))
    by j h (inr above) =
        let here : j ≡ length old + 0 = omega (arith, above, h, total, was.as_many) in
        let stands : get_or new j [] ≡ tail = ap (λ xs. get_or xs j []) grown ∙ ap (λ k. get_or (old ++ tail ∷ []) k []) here ∙ get_or-append-add old (tail ∷ []) 0 [] in
        let number : get_or (zone_numbers zs) j 0 ≡ (get_or zs n d).0 = ap (λ k. get_or (zone_numbers zs) k 0) (here ∙ omega (arith, was.as_many)) ∙ number_of zs n d small in
        subst (λ x. IsTail free r (get_or (zone_numbers zs) j 0) more x) (sym stands) (subst (λ z. IsTail free r z more tail) (sym number) (record { as_many = many; settled = settled; near = near }))

pub numbers_many : (zones : List ZoneNo) → length zones ≡ length (zone_numbers zones)
numbers_many zones = sym (length-map zones (λ z. z.0))

-- the numbers of a range of zones
pub range_many : (zones : List ZoneNo) (a n : ℕ) → a + n ≤ length zones
    → length (zone_numbers (take n (drop a zones))) ≡ n
range_many zones a n within =
    let m = length-drop a zones in
    length-map (take n (drop a zones)) (λ z. z.0) ∙ length-take-le n (drop a zones) (omega (arith, m, within))

pub range_number : (zones : List ZoneNo) (a n j : ℕ) → j < n
    → get_or (zone_numbers (take n (drop a zones))) j 0 ≡ get_or (zone_numbers zones) (a + j) 0
range_number zones a n j small =
    ap (λ zs. get_or zs j 0) (sym (take-map (λ z. z.0) n (drop a zones)) ∙ ap (λ zs. take n zs) (sym (drop-map (λ z. z.0) a zones)))
    ∙ get_or-take n (drop a (zone_numbers zones)) j 0 small ∙ get_or-drop a (zone_numbers zones) j 0

-- the tails of a range of zones
pub AreTails_range : {X : Type 0} (f : X → List ℕ) (free : List ℕ) (r : Router) (most : ℕ) (rows : List X)
    (zones : List ZoneNo) (a n : ℕ) → a + n ≤ length zones → AreTails free r most (map f rows) (zone_numbers zones)
    → AreTails free r most (map f (take n (drop a rows))) (zone_numbers (take n (drop a zones)))
AreTails_range f free r most rows zones a n within are =
    subst (λ xs. AreTails free r most xs (zone_numbers (take n (drop a zones))))
    (ap (λ xs. take n xs) (drop-map f a rows) ∙ take-map f n (drop a rows))
    (record { as_many = many ∙ sym (range_many zones a n within); each = each })
  where
    tails : List (List ℕ)
    tails = map f rows

    all : length tails ≡ length zones
    all = are.as_many ∙ sym (numbers_many zones)

    many : length (take n (drop a tails)) ≡ n
    many =
        let m = length-drop a tails in
        length-take-le n (drop a tails) (omega (arith, all, m, within))

    each : (j : ℕ) → j < length (take n (drop a tails))
        → IsTail free r (get_or (zone_numbers (take n (drop a zones))) j 0) most (get_or (take n (drop a tails)) j [])
    each j h =
        let inside : j < n = omega (arith, h, many) in
        let tail = get_or-take n (drop a tails) j [] inside ∙ get_or-drop a tails j [] in
        let zone = range_number zones a n j inside in
        subst (λ x. IsTail free r (get_or (zone_numbers (take n (drop a zones))) j 0) most x) (sym tail)
        (subst (λ z. IsTail free r z most (get_or tails (a + j) [])) (sym zone) (are.each (a + j) (omega (arith, inside, all, within))))

-- a whole list that was lent comes back
pub whole_lent : {X : Type 0} (new old : List X) (n : ℕ) → length new ≡ length old → n ≡ length old → take n (new ++ drop (length new) old) ≡ new
whole_lent new old n same is = grind (arith, common_steps)
