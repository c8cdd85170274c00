-- Lists that grow by an item for each of some others.
use Rattle.std.proofs.Common.{◌≡◌, ℕ, ◌+◌, ◌<◌, List, [], ◌∷◌, ◌++◌, length, ap, sym, subst, ◌∙◌, get_or, take, append_assoc}
use Rattle.std.specs.Prelude.{map}
use Rattle.std.specs.List.{flat_map}
use Rattle.std.proofs.lemmas.List.{append-nil, map-append, take_more}
use Rattle.std.proofs.lemmas.List.Concat.{flat_map-append}
use Rattle.skims.specs.Growing.{Adds}
use Rattle.skims.proofs.ZipFacts.{zip-append}

pub adds-one : {A B : Type 0} (R : A → B → Type 0) (x : A) (y : B) (old new : List B) → R x y
    → new ≡ old ++ y ∷ [] → Adds R (x ∷ []) old new
adds-one R x y old new r e = record { more = y ∷ []; each = (r, tt); grown = e }

pub adds-then : {A B : Type 0} (R : A → B → Type 0) (xs others : List A) (old now new : List B)
    → Adds R xs old now → Adds R others now new → Adds R (xs ++ others) old new
adds-then R xs others old now new p q = record {
  more = p.more ++ q.more;
  each = zip-append R xs others p.more q.more p.each q.each;
  grown = q.grown ∙ ap (λ n. n ++ q.more) p.grown ∙ append_assoc old p.more q.more;
}

-- ---- lists of one more of the first
map-more : {A B : Type 0} (f : A → B) (xs : List A) (k : ℕ) (d : A) → k < length xs
    → map f (take (k + 1) xs) ≡ map f (take k xs) ++ f (get_or xs k d) ∷ []
map-more f xs k d l =
    ap (λ zs. map f zs) (take_more xs k d l) ∙ map-append f (take k xs) (get_or xs k d ∷ [])

flat-more : {A B : Type 0} (f : A → List B) (xs : List A) (k : ℕ) (d : A) → k < length xs
    → flat_map f (take (k + 1) xs) ≡ flat_map f (take k xs) ++ f (get_or xs k d)
flat-more f xs k d l =
    ap (λ zs. flat_map f zs) (take_more xs k d l)
    ∙ flat_map-append f (take k xs) (get_or xs k d ∷ [])
    ∙ ap (λ zs. flat_map f (take k xs) ++ zs) (append-nil (f (get_or xs k d)))

pub adds-map : {X A B : Type 0} (R : A → B → Type 0) (f : X → A) (xs : List X) (k : ℕ) (d : X)
    (y : B) (old now new : List B) → k < length xs → Adds R (map f (take k xs)) old now
    → R (f (get_or xs k d)) y → new ≡ now ++ y ∷ [] → Adds R (map f (take (k + 1) xs)) old new
adds-map R f xs k d y old now new l p r e =
    subst (λ zs. Adds R zs old new) (sym (map-more f xs k d l))
    (adds-then R (map f (take k xs)) (f (get_or xs k d) ∷ []) old now new p
    (adds-one R (f (get_or xs k d)) y now new r e))

pub adds-flat : {X A B : Type 0} (R : A → B → Type 0) (f : X → List A) (xs : List X) (k : ℕ) (d : X)
    (old now new : List B) → k < length xs → Adds R (flat_map f (take k xs)) old now
    → Adds R (f (get_or xs k d)) now new → Adds R (flat_map f (take (k + 1) xs)) old new
adds-flat R f xs k d old now new l p q =
    subst (λ zs. Adds R zs old new) (sym (flat-more f xs k d l))
    (adds-then R (flat_map f (take k xs)) (f (get_or xs k d)) old now new p q)
