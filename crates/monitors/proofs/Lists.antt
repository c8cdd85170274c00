-- Lists of posted states: their beginnings, their last, and that steps rise.
use Rattle.std.proofs.Common.{arith, ◌≡◌, ◌<◌, ◌≤◌, ℕ, suc, List, [], ◌∷◌, ◌++◌}
use Rattle.std.proofs.Common.{inl, inr, ⊎_elim, length, refl, sym, ap, ◌∙◌, subst, append_assoc}
use Rattle.std.proofs.lemmas.Grind.{common_steps}
use Rattle.std.specs.List.{slice_index_or}
use Rattle.std.proofs.lemmas.List.Quantifiers.{all_pairs_push}
use Rattle.dta_model.specs.declared.eight.Eight.{Eight}
use Rattle.monitors.specs.Words.{words_of, eight_of}
use Rattle.monitors.specs.Posted.{last_of, zeros, IsPrefix, OneIsPrefix, IsLater, StepsRise}

pub IsPrefix-same : (xs : List Eight) → IsPrefix xs xs
IsPrefix-same xs = ([], grind (arith, common_steps))

pub IsPrefix-nothing : (xs : List Eight) → IsPrefix [] xs
IsPrefix-nothing xs = (xs, refl)

pub IsPrefix-more : (xs ys zs : List Eight) → IsPrefix xs ys → IsPrefix xs (ys ++ zs)
IsPrefix-more xs ys zs b = (b.0 ++ zs, ap (λ l. l ++ zs) b.1 ∙ append_assoc xs b.0 zs)

pub last_of-push : (xs : List Eight) (x : Eight) → last_of (xs ++ x ∷ []) ≡ x
last_of-push [] x = refl
last_of-push (y ∷ []) x = refl
last_of-push (y ∷ z ∷ xs) x = last_of-push (z ∷ xs) x

pub StepsRise-push : (xs : List Eight) (x : Eight)
    → StepsRise xs → IsLater x xs → StepsRise (xs ++ x ∷ [])
StepsRise-push xs x rise later =
    all_pairs_push (λ before after. before.steps < after.steps) xs x rise later

-- the last of a list that isn't empty is the one at its end
last_of-cons : (x : Eight) (xs : List Eight) (d : Eight)
    → last_of (x ∷ xs) ≡ slice_index_or (x ∷ xs) (length xs) d
last_of-cons x [] d = refl
last_of-cons x (y ∷ xs) d = last_of-cons y xs d

-- the last of a list has no fewer steps than its first
last_after_first : (x : Eight) (xs : List Eight)
    → StepsRise (x ∷ xs) → x.steps ≤ (last_of (x ∷ xs)).steps
last_after_first x [] rise = omega arith
last_after_first x (y ∷ xs) rise =
    let last = length (y ∷ xs) in
    let before = rise 0 last zeros (omega arith) (omega arith) in
    subst
    (λ (l : Eight). x.steps ≤ l.steps)
    (sym (last_of-cons x (y ∷ xs) zeros))
    (omega arith)

StepsRise-tail : (x : Eight) (xs : List Eight) → StepsRise (x ∷ xs) → StepsRise xs
StepsRise-tail x xs rise i j d below within = rise (suc i) (suc j) d (omega arith) (omega arith)

-- a beginning ends with no more steps than the whole
pub last_of-append : (xs ys : List Eight)
    → StepsRise (xs ++ ys) → (last_of xs).steps ≤ (last_of (xs ++ ys)).steps
last_of-append [] ys rise = omega arith
last_of-append (x ∷ []) ys rise = last_after_first x ys rise
last_of-append (x ∷ y ∷ xs) ys rise =
    last_of-append (y ∷ xs) ys (StepsRise-tail x (y ∷ xs ++ ys) rise)

pub last_of-prefix : (xs ys : List Eight)
    → IsPrefix xs ys → StepsRise ys → (last_of xs).steps ≤ (last_of ys).steps
last_of-prefix xs ys b rise =
    subst
    (λ (l : List Eight). (last_of xs).steps ≤ (last_of l).steps)
    (sym b.1)
    (last_of-append xs b.0 (subst StepsRise b.1 rise))

-- a state that the words of a list's last say has no fewer steps than the last of its beginning
pub onward : (e : Eight) (xs ys : List Eight) (words : List ℕ)
    → e ≡ eight_of words → words ≡ words_of (last_of ys) → IsPrefix xs ys → StepsRise ys
    → (last_of xs).steps ≤ e.steps
onward e xs ys words says is front rise =
    subst (λ (k : Eight). (last_of xs).steps ≤ k.steps)
    (sym (says ∙ ap eight_of is))
    (last_of-prefix xs ys front rise)

IsPrefix-cons : (x y : Eight) (xs ys : List Eight)
    → x ≡ y → IsPrefix xs ys → IsPrefix (x ∷ xs) (y ∷ ys)
IsPrefix-cons x y xs ys same b =
    (b.0, ap (λ l. y ∷ l) b.1 ∙ ap (λ h. h ∷ (xs ++ b.0)) (sym same))

OneIsPrefix-append : (xs ys a b : List Eight) → xs ++ a ≡ ys ++ b → OneIsPrefix xs ys
OneIsPrefix-append [] ys a b e = inl (IsPrefix-nothing ys)
OneIsPrefix-append (x ∷ xs) [] a b e = inr (IsPrefix-nothing (x ∷ xs))
OneIsPrefix-append (x ∷ xs) (y ∷ ys) a b e =
    let head : x ≡ y = cc e in
    let tail : xs ++ a ≡ ys ++ b = cc e in
    ⊎_elim
    (λ (p : IsPrefix xs ys). inl (IsPrefix-cons x y xs ys head p))
    (λ (p : IsPrefix ys xs). inr (IsPrefix-cons y x ys xs (sym head) p))
    (OneIsPrefix-append xs ys a b tail)

-- of two beginnings of one list one begins with the other
pub one_is_prefix : (xs ys zs : List Eight) → IsPrefix xs zs → IsPrefix ys zs → OneIsPrefix xs ys
one_is_prefix xs ys zs p q = OneIsPrefix-append xs ys p.0 q.0 (sym p.1 ∙ q.1)
