-- The links back from a place of a list.
use Rattle.std.proofs.Common.{◌≡◌, ℕ, ◌≤◌, ◌<◌, List, [], ◌∷◌, ◌++◌, reverse, refl, ap, sym, ◌∙◌, Some, append_assoc}
use Rattle.std.specs.Prelude.{slice_get}
use Rattle.std.proofs.lemmas.List.{map-append, reverse-append}
use Rattle.net_core.specs.declared.rows.LinkNo.{LinkNo}
use Rattle.dta_model.specs.Plans.{link_numbers}
use Rattle.labels.specs.Reading.Fewest.{path_to}
use Rattle.labels.specs.declared.reading.reached.Reached.{Reached}
use Rattle.labels.proofs.OfReading.FewestPaths.{path_more, path_first}

numbers_of : (old new : List LinkNo) (l : ℕ) → new ≡ old ++ record { 0 = l } ∷ [] → reverse (link_numbers new) ≡ l ∷ reverse (link_numbers old)
numbers_of old new l h = ap (λ ls. reverse (link_numbers ls)) h ∙ ap (λ ns. reverse ns) (map-append (λ n. n.0) old (record { 0 = l } ∷ [])) ∙ reverse-append (link_numbers old) (l ∷ [])

one_back : (x : LinkNo) (xs : List LinkNo) → reverse (x ∷ xs) ≡ reverse xs ++ x ∷ []
one_back x xs = reverse-append (x ∷ []) xs

numbers_back : (xs : List LinkNo) → link_numbers (reverse xs) ≡ reverse (link_numbers xs)
numbers_back [] = refl
numbers_back (x ∷ xs) =
    ap (λ ls. link_numbers ls) (one_back x xs) ∙ map-append (λ n. n.0) (reverse xs) (x ∷ []) ∙ ap (λ ns. ns ++ x.0 ∷ []) (numbers_back xs) ∙ sym (reverse-append (x.0 ∷ []) (link_numbers xs))

-- one link more on the way back, and the last
pub back_more : (xs : List Reached) (place back : ℕ) (old new : List LinkNo) (q : Reached) → slice_get xs back ≡ Some q → q.before < back → new ≡ old ++ record { 0 = q.link } ∷ [] → path_to xs place ≡ path_to xs back ++ reverse (link_numbers old)
    → path_to xs place ≡ path_to xs q.before ++ reverse (link_numbers new)
back_more xs place back old new q e low h was =
    was ∙ ap (λ p. p ++ reverse (link_numbers old)) (path_more xs back q e low) ∙ append_assoc (path_to xs q.before) (q.link ∷ []) (reverse (link_numbers old)) ∙ ap (λ ns. path_to xs q.before ++ ns) (sym (numbers_of old new q.link h))

pub back_end : (xs : List Reached) (place back : ℕ) (old new turned : List LinkNo) (q : Reached) → slice_get xs back ≡ Some q → back ≤ q.before → new ≡ old ++ record { 0 = q.link } ∷ [] → turned ≡ reverse new → path_to xs place ≡ path_to xs back ++ reverse (link_numbers old)
    → link_numbers turned ≡ path_to xs place
back_end xs place back old new turned q e low h is was =
    ap (λ ls. link_numbers ls) is ∙ numbers_back new ∙ numbers_of old new q.link h ∙ sym (was ∙ ap (λ p. p ++ reverse (link_numbers old)) (path_first xs back q e low))
