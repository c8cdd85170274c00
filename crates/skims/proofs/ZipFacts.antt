-- Lists whose items stand one to one.
use Rattle.std.proofs.Common.{◌≡◌, ℕ, zero, suc, ◌+◌, ◌<◌, List, [], ◌∷◌, ◌++◌, length, refl, ap, sym, subst, arith, get_or, take}
use Rattle.std.proofs.lemmas.List.{take_more}
use Rattle.std.specs.List.{AllZip}

pub zip-append : {A B : Type 0} (R : A → B → Type 0) (xs others : List A) (ys more : List B)
    → AllZip R xs ys → AllZip R others more → AllZip R (xs ++ others) (ys ++ more)
zip-append R [] others [] more h k = k
zip-append R [] others (y ∷ ys) more h k = absurd h
zip-append R (x ∷ xs) others [] more h k = absurd h
zip-append R (x ∷ xs) others (y ∷ ys) more h k = (h.0, zip-append R xs others ys more h.1 k)

pub zip-length : {A B : Type 0} (R : A → B → Type 0) (xs : List A) (ys : List B)
    → AllZip R xs ys → length ys ≡ length xs
zip-length R [] [] h = refl
zip-length R [] (y ∷ ys) h = absurd h
zip-length R (x ∷ xs) [] h = absurd h
zip-length R (x ∷ xs) (y ∷ ys) h = ap (λ n. suc n) (zip-length R xs ys h.1)

-- the items at one place
pub zip-at : {A B : Type 0} (R : A → B → Type 0) (xs : List A) (ys : List B) (k : ℕ) (d : A) (e : B)
    → AllZip R xs ys → k < length xs → R (get_or xs k d) (get_or ys k e)
zip-at R [] ys k d e h l = absurd (omega (arith, l))
zip-at R (x ∷ xs) [] k d e h l = absurd h
zip-at R (x ∷ xs) (y ∷ ys) zero d e h l = h.0
zip-at R (x ∷ xs) (y ∷ ys) (suc k) d e h l = zip-at R xs ys k d e h.1 (omega (arith, l))

-- one more of the first
pub zip-more : {A B : Type 0} (R : A → B → Type 0) (xs : List A) (ys : List B) (k : ℕ) (d : A) (y : B)
    → k < length xs → AllZip R (take k xs) ys → R (get_or xs k d) y
    → AllZip R (take (k + 1) xs) (ys ++ y ∷ [])
zip-more R xs ys k d y l h r =
    subst (λ zs. AllZip R zs (ys ++ y ∷ [])) (sym (take_more xs k d l))
    (zip-append R (take k xs) (get_or xs k d ∷ []) ys (y ∷ []) h (r, tt))
