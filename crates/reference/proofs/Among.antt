-- What a list has, and what lists that are made of it have.
use Rattle.std.proofs.Common.{◌≡◌, ◌⊎◌, inl, inr, ℕ, zero, suc, ◌+◌, ◌<◌, ◌≤◌, Bool, true, false, cond, List, [], ◌∷◌, ◌++◌, map, refl, ap, sym, subst, arith}
use Rattle.std.specs.Prelude.{filter}
use Rattle.std.specs.List.{flat_map, range_with_len}
use Rattle.std.proofs.lemmas.Bool.{cases_order}

abbrev pub Among : {X : Type 0} → X → List X → Type 0
Among x [] = ⊥
Among x (y ∷ ys) = (y ≡ x) ⊎ Among x ys

module _ {X : Type 0} where
  pub among_left : (x : X) (xs ys : List X) → Among x xs → Among x (xs ++ ys)
  among_left x (y ∷ xs) ys (inl e) = inl e
  among_left x (y ∷ xs) ys (inr t) = inr (among_left x xs ys t)
  among_left x [] ys h = absurd h

  pub among_right : (x : X) (xs ys : List X) → Among x ys → Among x (xs ++ ys)
  among_right x [] ys h = h
  among_right x (y ∷ xs) ys h = inr (among_right x xs ys h)

  pub among_either : (x : X) (xs ys : List X) → Among x (xs ++ ys) → Among x xs ⊎ Among x ys
  among_either x [] ys h = inr h
  among_either x (y ∷ xs) ys (inl e) = inl (inl e)
  among_either x (y ∷ xs) ys (inr t) = by (among_either x xs ys t)
    where
      by : Among x xs ⊎ Among x ys → Among x (y ∷ xs) ⊎ Among x ys
      by (inl h) = inl (inr h)
      by (inr h) = inr h

  pub among_filter : (p : X → Bool) (x : X) (xs : List X) → Among x xs → p x ≡ true → Among x (filter p xs)
  among_filter p x [] h t = h
  among_filter p x (y ∷ xs) (inl e) t = rw (subst (λ z. p z ≡ true) (sym e) t) (inl e)
  among_filter p x (y ∷ xs) (inr h) t = by (p y) (among_filter p x xs h t)
    where
      by : (b : Bool) → Among x (filter p xs) → Among x (cond b (y ∷ filter p xs) (filter p xs))
      by true k = inr k
      by false k = k

  pub filter_among : (p : X → Bool) (x : X) (xs : List X) → Among x (filter p xs) → Among x xs × (p x ≡ true)
  filter_among p x [] h = absurd h
  filter_among p x (y ∷ xs) h = by (p y) refl (filter_among p x xs) h
    where
      by : (b : Bool) → p y ≡ b → (Among x (filter p xs) → Among x xs × (p x ≡ true)) → Among x (cond b (y ∷ filter p xs) (filter p xs)) → Among x (y ∷ xs) × (p x ≡ true)
      by true t further (inl e) = (inl e, subst (λ z. p z ≡ true) e t)
      by true t further (inr k) = (inr (further k).0, (further k).1)
      by false t further k = (inr (further k).0, (further k).1)

module _ {X Y : Type 0} where
  pub among_map : (f : X → Y) (x : X) (xs : List X) → Among x xs → Among (f x) (map f xs)
  among_map f x [] h = absurd h
  among_map f x (y ∷ xs) (inl e) = inl (ap f e)
  among_map f x (y ∷ xs) (inr h) = inr (among_map f x xs h)

  pub map_among : (f : X → Y) (y : Y) (xs : List X) → Among y (map f xs) → (x : X) × Among x xs × (f x ≡ y)
  map_among f y [] h = absurd h
  map_among f y (x ∷ xs) (inl e) = (x, inl refl, e)
  map_among f y (x ∷ xs) (inr h) = let r = map_among f y xs h in (r.0, inr (r.1), r.2)

  pub among_flat_map : (f : X → List Y) (x : X) (y : Y) (xs : List X) → Among x xs → Among y (f x) → Among y (flat_map f xs)
  among_flat_map f x y [] h k = absurd h
  among_flat_map f x y (z ∷ xs) (inl e) k = among_left y (f z) (flat_map f xs) (subst (λ u. Among y (f u)) (sym e) k)
  among_flat_map f x y (z ∷ xs) (inr h) k = among_right y (f z) (flat_map f xs) (among_flat_map f x y xs h k)

  pub flat_map_among : (f : X → List Y) (y : Y) (xs : List X) → Among y (flat_map f xs) → (x : X) × Among x xs × Among y (f x)
  flat_map_among f y [] h = absurd h
  flat_map_among f y (x ∷ xs) h = by (flat_map_among f y xs) (among_either y (f x) (flat_map f xs) h)
    where
      by : (Among y (flat_map f xs) → (x : X) × Among x xs × Among y (f x)) → Among y (f x) ⊎ Among y (flat_map f xs) → (u : X) × Among u (x ∷ xs) × Among y (f u)
      by further (inl k) = (x, inl refl, k)
      by further (inr k) = let r = further k in (r.0, inr (r.1), r.2)

pub among_range : (x a n : ℕ) → a ≤ x → x < a + n → Among x (range_with_len a n)
among_range x a zero low high = absurd (omega arith)
among_range x a (suc n) low high = by (cases_order a x) (among_range x (a + 1) n)
  where
    by : (a ≡ x) ⊎ ((a < x) ⊎ (x < a)) → (a + 1 ≤ x → x < a + 1 + n → Among x (range_with_len (a + 1) n)) → Among x (range_with_len a (suc n))
    by (inl e) further = inl e
    by (inr (inl k)) further = inr (further (omega arith) (omega arith))
    by (inr (inr k)) further = absurd (omega arith)

pub range_among : (x a n : ℕ) → Among x (range_with_len a n) → x < a + n
range_among x a zero h = absurd h
range_among x a (suc n) (inl e) = omega arith
range_among x a (suc n) (inr h) = let k = range_among x (a + 1) n h in omega arith
