-- The places of a grid and its links: their numbers, and that they stand inside.
use Rattle.std.proofs.Common.{◌≡◌, ℕ, zero, suc, ◌+◌, ◌-◌, ◌*◌, ◌<◌, ◌≤◌, Bool, true, false, List, [], ◌∷◌, ◌++◌, length, length-append, map, flat_map, All, Option, None, Some, refl, sym, ap, ◌∙◌, arith, nat_lt, lt-ltb, le-ltb, suc-mul, add-mul, mul-le-mul, mul-le-mul_right, mul-suc}
use Rattle.std.specs.Prelude.{if◌then◌else◌}
use Rattle.std.specs.List.{range_with_len}
use Rattle.std.proofs.lemmas.Bool.{ltb-true}
use Rattle.std.proofs.lemmas.List.{length-map, map-append}
use Rattle.std.proofs.lemmas.Grind.{flat_map-append}
use Rattle.std.proofs.lemmas.List.Elements.{All-nil, All-cons, All-append}
use Rattle.std.proofs.lemmas.List.FromFn.{length-range_with_len}
use Rattle.grid_maker.specs.declared.links.Direction.{Direction}
use Rattle.grid_maker.specs.declared.links.Direction.TheVariants.{Right, Down, Left, Up}
use Rattle.grid_maker.specs.declared.links.GridLink.{GridLink}
use Rattle.grid_maker.specs.declared.places.Place.{Place}
use Rattle.grid_maker.specs.Links.{link_to, links, links_from}
use Rattle.grid_maker.specs.Places.{is_at, node_id, places, places_of_row, zone_id}

-- ---- the nodes count from 1

range-append : (a m n : ℕ) → range_with_len a (m + n) ≡ range_with_len a m ++ range_with_len (a + m) n
range-append a zero n = let e : a ≡ a + 0 = omega arith in let f : 0 + n ≡ n = omega arith in rw f (ap (λ b. range_with_len b n) e)
range-append a (suc m) n =
    let e : suc m + n ≡ suc (m + n) = omega arith in
    let f : a + 1 + m ≡ a + suc m = omega arith in
    rw e (ap (λ l. a ∷ l) (range-append (a + 1) m n ∙ ap (λ b. range_with_len (a + 1) m ++ range_with_len b n) f))

row-ids : (n row a m : ℕ) → map (node_id n) (map (λ column. record { row = row; column = column }) (range_with_len a m)) ≡ range_with_len (row * n + a + 1) m
row-ids n row a zero = refl
row-ids n row a (suc m) =
    let e : row * n + (a + 1) + 1 ≡ row * n + a + 1 + 1 = omega arith in
    ap (λ l. (row * n + a + 1) ∷ l) (row-ids n row (a + 1) m ∙ ap (λ b. range_with_len b m) e)

rows-ids : (n a m : ℕ) → map (node_id n) (flat_map (places_of_row n) (range_with_len a m)) ≡ range_with_len (a * n + 1) (m * n)
rows-ids n a zero = let e : 0 * n ≡ 0 = omega arith in rw e refl
rows-ids n a (suc m) =
    let e : (a + 1) * n + 1 ≡ a * n + 1 + n = omega (arith, add-mul a 1 n) in
    let f : suc m * n ≡ n + m * n = omega (arith, suc-mul m n) in
    let g : a * n + 0 + 1 ≡ a * n + 1 = omega arith in
    rw (map-append (node_id n) (places_of_row n a) (flat_map (places_of_row n) (range_with_len (a + 1) m)), row-ids n a 0 n, rows-ids n (a + 1) m, e, f, g)
    (sym (range-append (a * n + 1) n (m * n)))

pub place-ids : (n : ℕ) → map (node_id n) (places n) ≡ range_with_len 1 (n * n)
unfolding places
place-ids n = let e : 0 * n + 1 ≡ 1 = omega arith in rows-ids n 0 n ∙ ap (λ b. range_with_len b (n * n)) e

pub place-count : (n : ℕ) → length (places n) ≡ n * n
place-count n = sym (length-map (places n) (node_id n)) ∙ ap length (place-ids n) ∙ length-range_with_len 1 (n * n)

-- ---- each place stands inside

abbrev pub IsInside : ℕ → Place → Type 0
IsInside n place = (place.row < n) × (place.column < n)

-- its node has a number below n times n
pub inside-below : (n : ℕ) (place : Place) → IsInside n place → place.row * n + place.column < n * n
inside-below n place h =
    let e : (place.row + 1) * n ≤ n * n = mul-le-mul_right n (omega (arith, h.0)) in
    let f : (place.row + 1) * n ≡ place.row * n + 1 * n = add-mul place.row 1 n in
    let g = h.1 in omega arith

row-inside : (n row a m : ℕ) → row < n → a + m ≤ n
    → All (IsInside n) (map (λ column. record { row = row; column = column }) (range_with_len a m))
row-inside n row a zero r le = All-nil (IsInside n)
row-inside n row a (suc m) r le =
    All-cons (IsInside n) (record { row = row; column = a }) (map (λ column. record { row = row; column = column }) (range_with_len (a + 1) m))
    (r, omega arith) (row-inside n row (a + 1) m r (omega arith))

module _ {A X : Type 0} (P : A → Type 0) (Q : X → Type 0) (f : X → List A) (each : (x : X) → Q x → All P (f x)) where
  pub all-flat : (xs : List X) → All Q xs → All P (flat_map f xs)
  all-flat [] h = All-nil P
  all-flat (x ∷ xs) h = All-append P (f x) (flat_map f xs) (each x (h 0 x (omega arith))) (all-flat xs (λ k d l. h (suc k) d (omega arith)))

pub below : (a m n : ℕ) → a + m ≤ n → All (λ k. k < n) (range_with_len a m)
below a zero n h = All-nil (λ k. k < n)
below a (suc m) n h = All-cons (λ k. k < n) a (range_with_len (a + 1) m) (omega arith) (below (a + 1) m n (omega arith))

pub places-inside : (n : ℕ) → All (IsInside n) (places n)
unfolding places
places-inside n =
    all-flat (IsInside n) (λ row. row < n) (places_of_row n) (λ row r. row-inside n row 0 n r (omega arith)) (range_with_len 0 n) (below 0 n n (omega arith))

-- ---- and so do the two ends of each link

pub record IsGridLink (n : ℕ) (link : GridLink) : Type 0 where
  pub from : IsInside n link.from
  pub to : IsInside n link.to

module _ (n : ℕ) (place : Place) (h : IsInside n place) where
  to-next : (direction : Direction) (b : Bool) (next : Place) → (b ≡ true → IsInside n next)
      → All (IsGridLink n) (link_to place direction (if b then Some next else None))
  to-next direction true next k =
      All-cons (IsGridLink n) (record { from = place; direction = direction; to = next }) [] (record { from = h; to = k refl }) (All-nil (IsGridLink n))
  to-next direction false next k = All-nil (IsGridLink n)

  links-inside-from : All (IsGridLink n) (links_from n place)
  links-inside-from =
      let row = h.0 in
      let column = h.1 in
      All-append (IsGridLink n) _ _ (to-next Right (nat_lt (place.column + 1) n) _ (λ e. (row, ltb-true _ n e)))
      (All-append (IsGridLink n) _ _ (to-next Down (nat_lt (place.row + 1) n) _ (λ e. (ltb-true _ n e, column)))
      (All-append (IsGridLink n) _ _ (to-next Left (nat_lt 0 place.column) _ (λ e. (row, omega arith)))
      (All-append (IsGridLink n) _ _ (to-next Up (nat_lt 0 place.row) _ (λ e. (omega arith, column)))
      (All-nil (IsGridLink n)))))

pub links-inside : (n : ℕ) → All (IsGridLink n) (links n)
unfolding links
links-inside n = all-flat (IsGridLink n) (IsInside n) (links_from n) (links-inside-from n) (places n) (places-inside n)

-- ---- how many links there are

pub length-flat : {A X : Type 0} (f : X → List A) (most : ℕ) (xs : List X) → All (λ x. length (f x) ≤ most) xs → length (flat_map f xs) ≤ most * length xs
length-flat f most [] h = omega arith
length-flat f most (x ∷ xs) h =
    let one = h 0 x (omega arith) in
    let rest = length-flat f most xs (λ k d l. h (suc k) d (omega arith)) in
    omega (arith, length-append (f x) (flat_map f xs), mul-suc most (length xs))

-- a neighbour that is there counts
abbrev count : Bool → ℕ
count true = 1
count false = 0

length-link_to : (place : Place) (direction : Direction) (b : Bool) (next : Place) → length (link_to place direction (if b then Some next else None)) ≡ count b
length-link_to place direction true next = omega arith
length-link_to place direction false next = omega arith

-- the next of some numbers is below n where it is not the last
count-next : (n a m : ℕ) → a + suc m ≡ n → count (nat_lt (a + 1) n) + (m - 1) ≡ m
count-next n a zero e = rw (le-ltb (a + 1) n (omega arith)) (omega arith)
count-next n a (suc m) e = rw (lt-ltb (a + 1) n (omega arith)) (omega arith)

count-before : (a : ℕ) → 0 < a → count (nat_lt 0 a) ≡ 1
count-before a h = rw (lt-ltb 0 a h) refl

module _ (n : ℕ) where
  -- the links up and down that begin at a place of a row
  abbrev across : ℕ → ℕ
  across row = count (nat_lt (row + 1) n) + count (nat_lt 0 row)

  length-links_from : (row column : ℕ) → length (links_from n (record { row = row; column = column }))
      ≡ count (nat_lt (column + 1) n) + count (nat_lt 0 column) + across row
  length-links_from row column =
      let place : Place = record { row = row; column = column } in
      let right = length-link_to place Right (nat_lt (column + 1) n) (record { row = row; column = column + 1 }) in
      let down = length-link_to place Down (nat_lt (row + 1) n) (record { row = row + 1; column = column }) in
      let left = length-link_to place Left (nat_lt 0 column) (record { row = row; column = column - 1 }) in
      let up = length-link_to place Up (nat_lt 0 row) (record { row = row - 1; column = column }) in
      simp length-append (omega arith)

  row-rest : (row a m : ℕ) → 0 < a → a + m ≡ n
      → length (flat_map (links_from n) (map (λ column. record { row = row; column = column }) (range_with_len a m))) ≡ (m - 1) + m + m * across row
  row-rest row a zero h e = omega arith
  row-rest row a (suc m) h e =
      let rest = row-rest row (a + 1) m (omega arith) (omega arith) in
      omega (
        arith,
        length-append (links_from n (record { row = row; column = a })) (flat_map (links_from n) (map (λ column. record { row = row; column = column }) (range_with_len (a + 1) m))),
        length-links_from row a,
        count-next n a m e,
        count-before a h,
        suc-mul m (across row),
      )

row-length : (k row : ℕ) → 0 < k → length (flat_map (links_from (suc k)) (places_of_row (suc k) row)) ≡ k + k + suc k * across (suc k) row
row-length k row h =
    let rest = row-rest (suc k) row 1 k (omega arith) (omega arith) in
    omega (
      arith,
      length-append (links_from (suc k) (record { row = row; column = 0 })) (flat_map (links_from (suc k)) (map (λ column. record { row = row; column = column }) (range_with_len 1 k))),
      length-links_from (suc k) row 0,
      count-next (suc k) 0 k (omega arith),
      suc-mul k (across (suc k) row),
    )

-- a row, and the rows after it
rows-more : (k c q m s : ℕ) → c + q ≡ s → k + k + suc k * c + (m * (k + k) + suc k * (q + m)) ≡ suc m * (k + k) + suc k * (s + m)
rows-more k c q m s e = omega (arith, ap (λ z. suc k * z) e)

rows-rest : (k a m : ℕ) → 0 < k → 0 < a → a + m ≡ suc k
    → length (flat_map (links_from (suc k)) (flat_map (places_of_row (suc k)) (range_with_len a m))) ≡ m * (k + k) + suc k * ((m - 1) + m)
rows-rest k a zero h g e = omega arith
rows-rest k a (suc m) h g e =
    let row = row-length k a h in
    let rest = rows-rest k (a + 1) m h (omega arith) (omega arith) in
    let both : across (suc k) a + (m - 1) ≡ m + 1 = omega (arith, count-next (suc k) a m e, count-before a g) in
    rw (flat_map-append (links_from (suc k)) (places_of_row (suc k) a) (flat_map (places_of_row (suc k)) (range_with_len (a + 1) m)), length-append, row, rest, rows-more k (across (suc k) a) (m - 1) m (m + 1) both)
    (ap (λ z. suc m * (k + k) + suc k * z) (omega arith))

pub link-count : (n : ℕ) → length (links n) ≡ 4 * (n * (n - 1))
unfolding links places
link-count zero = refl
link-count (suc zero) = refl
link-count (suc (suc j)) =
    let row = row-length (suc j) 0 (omega arith) in
    let rest = rows-rest (suc j) 1 (suc j) (omega arith) (omega arith) (omega arith) in
    let first : across (suc (suc j)) 0 ≡ 1 = omega (arith, count-next (suc (suc j)) 0 (suc j) (omega arith)) in
    let less : suc j - 1 ≡ j = omega arith in
    let side : suc (suc j) - 1 ≡ suc j = omega arith in
    rw (flat_map-append (links_from (suc (suc j))) (places_of_row (suc (suc j)) 0) (flat_map (places_of_row (suc (suc j))) (range_with_len 1 (suc j))), length-append, row, rest, first, less, side)
    (omega arith)

-- the greatest grid has 14160 links
pub few-links : (n : ℕ) → n ≤ 60 → length (links n) ≤ 14160
few-links n h =
    let most : n * (n - 1) ≤ 60 * 59 = (let less : n - 1 ≤ 59 = omega arith in mul-le-mul h less) in
    omega (arith, link-count n)

-- ---- zones

-- the zones of a grid are four
pub one-of-four : (P : Option ℕ → Type 0) → P None → P (Some 1) → P (Some 2) → P (Some 3) → P (Some 4) → (n : ℕ) (place : Place) → P (zone_id n place)
one-of-four P none one two three four n place =
    by (is_at place 0 0) (is_at place 0 (n - 1)) (is_at place (n - 1) 0) (is_at place (n - 1) (n - 1))
  where
    by : (a b c d : Bool) → P (if a then Some 1 else if b then Some 2 else if c then Some 3 else if d then Some 4 else None)
    by true b c d = one
    by false true c d = two
    by false false true d = three
    by false false false true = four
    by false false false false = none
