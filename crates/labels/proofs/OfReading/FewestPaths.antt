-- The links to each place of a list that grows.
use Rattle.std.proofs.Common.{◌≡◌, ◌⊎◌, inl, inr, ℕ, zero, suc, ◌+◌, ◌≤◌, ◌<◌, List, [], ◌∷◌, ◌++◌, length, refl, ap, sym, ◌∙◌, subst, arith, get_or, Some}
use Rattle.std.specs.Prelude.{slice_get}
use Rattle.std.proofs.lemmas.List.{length-append, get_or_append_left}
use Rattle.labels.specs.Reading.Fewest.{paths_after, path_to}
use Rattle.labels.specs.declared.reading.reached.Reached.{Reached}
use Rattle.labels.proofs.Basics.{some_same}

past_end : (xs : List (List ℕ)) (i : ℕ) → length xs ≤ i → get_or xs i [] ≡ []
past_end [] i h = refl
past_end (x ∷ xs) zero h = absurd (omega arith)
past_end (x ∷ xs) (suc i) h = past_end xs i (omega arith)

at_seam : (xs : List (List ℕ)) (p : List ℕ) (i : ℕ) → i ≡ length xs → get_or (xs ++ p ∷ []) i [] ≡ p
at_seam [] p i h = rw h refl
at_seam (x ∷ xs) p zero h = absurd (omega arith)
at_seam (x ∷ xs) p (suc i) h = at_seam xs p i (omega arith)

more_by_one : (xs : List (List ℕ)) (p : List ℕ) → length (xs ++ p ∷ []) ≡ length xs + 1
more_by_one xs p = length-append xs (p ∷ [])

-- the links that come after the one that r enters at
abbrev next_path : List (List ℕ) → Reached → List ℕ
next_path known r = get_or known r.before [] ++ r.link ∷ []

paths_length : (known : List (List ℕ)) (xs : List Reached) → length (paths_after known xs) ≡ length known + length xs
paths_length known [] = omega arith
paths_length known (r ∷ xs) = let ih = paths_length (known ++ next_path known r ∷ []) xs in omega (arith, ih, more_by_one known (next_path known r))

paths_kept : (known : List (List ℕ)) (xs : List Reached) (i : ℕ) → i < length known → get_or (paths_after known xs) i [] ≡ get_or known i []
paths_kept known [] i h = refl
paths_kept known (r ∷ xs) i h = paths_kept (known ++ next_path known r ∷ []) xs i (omega (arith, more_by_one known (next_path known r))) ∙ get_or_append_left known (next_path known r ∷ []) [] i h

paths_append : (known : List (List ℕ)) (xs ys : List Reached) → paths_after known (xs ++ ys) ≡ paths_after (paths_after known xs) ys
paths_append known [] ys = refl
paths_append known (r ∷ xs) ys = paths_append (known ++ next_path known r ∷ []) xs ys

path_at : (known : List (List ℕ)) (xs : List Reached) (i p : ℕ) (r : Reached) → p ≡ length known + i → slice_get xs i ≡ Some r → r.before < p → get_or (paths_after known xs) p [] ≡ get_or (paths_after known xs) r.before [] ++ r.link ∷ []
path_at known [] i p r at h low = absurd (cc)
path_at known (x ∷ xs) zero p r at h low =
    let same : x ≡ r = some_same x r h in
    let one = more_by_one known (next_path known r) in
    subst (λ y. get_or (paths_after (known ++ next_path known y ∷ []) xs) p [] ≡ get_or (paths_after (known ++ next_path known y ∷ []) xs) r.before [] ++ r.link ∷ []) (sym same)
    (paths_kept (known ++ next_path known r ∷ []) xs p (omega (arith, one)) ∙ at_seam known (next_path known r) p (omega arith)
    ∙ ap (λ q. q ++ r.link ∷ []) (sym (paths_kept (known ++ next_path known r ∷ []) xs r.before (omega (arith, one)) ∙ get_or_append_left known (next_path known r ∷ []) [] r.before (omega arith))))
path_at known (x ∷ xs) (suc i) p r at h low = path_at (known ++ next_path known x ∷ []) xs i p r (omega (arith, more_by_one known (next_path known x))) h low

path_alone : (known : List (List ℕ)) (xs : List Reached) (i p : ℕ) (r : Reached) → p ≡ length known + i → slice_get xs i ≡ Some r → p ≤ r.before → get_or (paths_after known xs) p [] ≡ r.link ∷ []
path_alone known [] i p r at h low = absurd (cc)
path_alone known (x ∷ xs) zero p r at h low =
    let same : x ≡ r = some_same x r h in
    let one = more_by_one known (next_path known r) in
    subst (λ y. get_or (paths_after (known ++ next_path known y ∷ []) xs) p [] ≡ r.link ∷ []) (sym same)
    (paths_kept (known ++ next_path known r ∷ []) xs p (omega (arith, one)) ∙ at_seam known (next_path known r) p (omega arith)
    ∙ ap (λ q. q ++ r.link ∷ []) (past_end known r.before (omega arith)))
path_alone known (x ∷ xs) (suc i) p r at h low = path_alone (known ++ next_path known x ∷ []) xs i p r (omega (arith, more_by_one known (next_path known x))) h low

-- the links to a place are those to the place before it and its own
pub path_more : (xs : List Reached) (i : ℕ) (r : Reached) → slice_get xs i ≡ Some r → r.before < i → path_to xs i ≡ path_to xs r.before ++ r.link ∷ []
path_more xs i r h low = path_at [] xs i i r (omega arith) h low

pub path_first : (xs : List Reached) (i : ℕ) (r : Reached) → slice_get xs i ≡ Some r → i ≤ r.before → path_to xs i ≡ r.link ∷ []
path_first xs i r h low = path_alone [] xs i i r (omega arith) h low

-- they stay where the list grows
pub path_kept : (xs ys : List Reached) (i : ℕ) → i < length xs → path_to (xs ++ ys) i ≡ path_to xs i
path_kept xs ys i h =
    ap (λ ps. get_or ps i []) (paths_append [] xs ys)
    ∙ paths_kept (paths_after [] xs) ys i (let n = paths_length [] xs in omega (arith, n))

pub get_kept : (xs ys : List Reached) (i : ℕ) (r : Reached) → slice_get xs i ≡ Some r → slice_get (xs ++ ys) i ≡ Some r
get_kept [] ys i r h = absurd (cc)
get_kept (x ∷ xs) ys zero r h = h
get_kept (x ∷ xs) ys (suc i) r h = get_kept xs ys i r h

pub get_within : (xs ys : List Reached) (i : ℕ) → i < length xs → slice_get (xs ++ ys) i ≡ slice_get xs i
get_within [] ys i h = absurd (omega arith)
get_within (x ∷ xs) ys zero h = refl
get_within (x ∷ xs) ys (suc i) h = get_within xs ys i (omega arith)

pub get_last : (xs : List Reached) (y : Reached) → slice_get (xs ++ y ∷ []) (length xs) ≡ Some y
get_last [] y = refl
get_last (x ∷ xs) y = get_last xs y

-- what is there is at a place before the last, or the last
pub old_or_last : (xs : List Reached) (y : Reached) (i : ℕ) (r : Reached) → slice_get (xs ++ y ∷ []) i ≡ Some r → ((i < length xs) × (slice_get xs i ≡ Some r)) ⊎ ((i ≡ length xs) × (r ≡ y))
old_or_last [] y zero r h = inr (refl, sym (some_same y r h))
old_or_last [] y (suc i) r h = absurd (cc)
old_or_last (x ∷ xs) y zero r h = inl (omega arith, h)
old_or_last (x ∷ xs) y (suc i) r h = one_more (old_or_last xs y i r h)
  where
    one_more : ((i < length xs) × (slice_get xs i ≡ Some r)) ⊎ ((i ≡ length xs) × (r ≡ y)) → ((suc i < suc (length xs)) × (slice_get xs i ≡ Some r)) ⊎ ((suc i ≡ suc (length xs)) × (r ≡ y))
    one_more (inl a) = inl (omega (arith, a.0), a.1)
    one_more (inr a) = inr (omega (arith, a.0), a.1)

pub get_some : (xs : List Reached) (i : ℕ) → i < length xs → (q : Reached) × (slice_get xs i ≡ Some q)
get_some [] i h = absurd (omega arith)
get_some (x ∷ xs) zero h = (x, refl)
get_some (x ∷ xs) (suc i) h = get_some xs i (omega arith)
