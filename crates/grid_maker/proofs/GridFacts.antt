-- Lists that grow by one number, one place or one link.
use Rattle.std.proofs.Common.{◌≡◌, ℕ, zero, suc, ◌+◌, ◌-◌, ◌<◌, ◌≤◌, List, [], ◌∷◌, ◌++◌, length, take, get_or, map, refl, sym, ap, ◌∙◌, append_assoc, length-take, arith}
use Rattle.std.specs.List.{flat_map, range_with_len}
use Rattle.std.proofs.lemmas.List.{take_more, append-nil}
use Rattle.std.proofs.lemmas.List.FromFn.{map-range_with_len_more}
use Rattle.std.proofs.lemmas.Grind.{flat_map-append}
use Rattle.net_core.proofs.Numbers.{numbers_grow}
use Rattle.grid_maker.specs.declared.links.GridLink.{GridLink}
use Rattle.grid_maker.specs.Grid.{link_line, link_lines}
use Rattle.grid_maker.specs.Places.{places_of_row}

range-more : (a n : ℕ) → range_with_len a (n + 1) ≡ range_with_len a n ++ (a + n) ∷ []
range-more a n = let e : n + 1 ≡ suc n = omega arith in rw e (numbers_grow a n (a + n) refl)

-- and what it adds
pub flat_map-range-more : {X : Type 0} (f : ℕ → List X) (a n : ℕ) → flat_map f (range_with_len a (n + 1)) ≡ flat_map f (range_with_len a n) ++ f (a + n)
flat_map-range-more f a n = rw (range-more a n, flat_map-append f (range_with_len a n) ((a + n) ∷ []), append-nil (f (a + n))) refl

-- up to a number
pub flat_map-up-to : {X : Type 0} (f : ℕ → List X) (a d : ℕ) → a ≤ d → flat_map f (range_with_len a (d + 1 - a)) ≡ flat_map f (range_with_len a (d - a)) ++ f d
flat_map-up-to f a d h =
    let e : d + 1 - a ≡ d - a + 1 = omega (arith, h) in
    let g : a + (d - a) ≡ d = omega (arith, h) in
    rw (e, flat_map-range-more f a (d - a), g) refl

-- one element more
pub flat_map-take-more : {A X : Type 0} (f : A → List X) (xs : List A) (i : ℕ) (d : A) → i < length xs
    → flat_map f (take (i + 1) xs) ≡ flat_map f (take i xs) ++ f (get_or xs i d)
flat_map-take-more f xs i d h = rw (take_more xs i d h, flat_map-append f (take i xs) (get_or xs i d ∷ []), append-nil (f (get_or xs i d))) refl

-- one place more of a row
pub places_of_row-more : (row n : ℕ) → places_of_row (n + 1) row ≡ places_of_row n row ++ record { row = row; column = n } ∷ []
places_of_row-more row n = map-range_with_len_more (λ column. record { row = row; column = column }) 0 n n (omega arith)

-- no link
pub link_lines-none : (n first : ℕ) → link_lines n first [] ≡ []
unfolding link_lines
link_lines-none n first = refl

-- one link more
link_lines-more : (n first : ℕ) (xs : List GridLink) (x : GridLink) → link_lines n first (xs ++ x ∷ []) ≡ link_lines n first xs ++ link_line n (first + length xs) x
unfolding link_lines
link_lines-more n first [] x = append-nil (link_line n first x) ∙ ap (λ k. link_line n k x) (omega arith)
link_lines-more n first (y ∷ xs) x =
    let e : first + 1 + length xs ≡ first + suc (length xs) = omega arith in
    ap (λ t. link_line n first y ++ t) (link_lines-more n (first + 1) xs x ∙ ap (λ k. link_lines n (first + 1) xs ++ link_line n k x) e)
    ∙ sym (append_assoc (link_line n first y) (link_lines n (first + 1) xs) (link_line n (first + suc (length xs)) x))

pub link_lines-take-more : (n : ℕ) (all : List GridLink) (i : ℕ) (d : GridLink) → i < length all
    → link_lines n 1 (take (i + 1) all) ≡ link_lines n 1 (take i all) ++ link_line n (i + 1) (get_or all i d)
link_lines-take-more n all i d h =
    let number : 1 + length (take i all) ≡ i + 1 = simp (length-take) (omega (arith, h)) in
    rw (take_more all i d h, link_lines-more n 1 (take i all) (get_or all i d), number) refl

-- pieces in a row
pub ruleset pieces = (append_assoc, append-nil)

-- a list that grows in a loop
pub ruleset counts = (append_assoc, append-nil, places_of_row-more, flat_map-range-more, flat_map-up-to, flat_map-take-more, link_lines-none, link_lines-take-more)
