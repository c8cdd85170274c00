-- Lists of links by how many there are, and those of one length by the first number that differs.
use Rattle.std.proofs.Common.{◌≡◌, inl, inr, ℕ, ◌≤◌, ◌<◌, Bool, true, false, List, [], ◌∷◌, ◌++◌, length, refl, ◌∙◌, arith}
use Rattle.std.specs.Prelude.{nat_lt, nat_eq, ◌&&◌, ◌||◌}
use Rattle.std.proofs.lemmas.Bool.Decides.{nat_tests}
use Rattle.std.proofs.lemmas.List.{length-append}
use Rattle.labels.specs.Reading.Paths.{lex_le}
use Rattle.labels.specs.Reading.Fewest.{Before, StrictlyBefore}

pub lex_refl : (xs : List ℕ) → lex_le xs xs ≡ true
lex_refl [] = refl
lex_refl (x ∷ xs) = let h = lex_refl xs in grind (arith, nat_tests)

step_trans : (x y z : ℕ) (a b c : Bool) → (nat_lt x y || (nat_eq x y && a)) ≡ true → (nat_lt y z || (nat_eq y z && b)) ≡ true → (a ≡ true → b ≡ true → c ≡ true) → (nat_lt x z || (nat_eq x z && c)) ≡ true
step_trans x y z a b c h k ih = grind (arith, nat_tests)

pub lex_trans : (xs ys zs : List ℕ) → lex_le xs ys ≡ true → lex_le ys zs ≡ true → lex_le xs zs ≡ true
lex_trans [] ys zs h k = refl
lex_trans (x ∷ xs) [] zs h k = absurd (cc)
lex_trans (x ∷ xs) (y ∷ ys) [] h k = absurd (cc)
lex_trans (x ∷ xs) (y ∷ ys) (z ∷ zs) h k = step_trans x y z (lex_le xs ys) (lex_le ys zs) (lex_le xs zs) h k (lex_trans xs ys zs)

step_total : (x y : ℕ) (a b : Bool) → (nat_lt y x || (nat_eq y x && a)) ≡ false → (a ≡ false → b ≡ true) → (nat_lt x y || (nat_eq x y && b)) ≡ true
step_total x y a b h ih = grind (arith, nat_tests)

pub lex_total : (xs ys : List ℕ) → lex_le ys xs ≡ false → lex_le xs ys ≡ true
lex_total [] ys h = refl
lex_total (x ∷ xs) [] h = absurd (cc)
lex_total (x ∷ xs) (y ∷ ys) h = step_total x y (lex_le ys xs) (lex_le xs ys) h (lex_total xs ys)

step_same : (x y : ℕ) (a b : Bool) → (nat_lt x y || (nat_eq x y && a)) ≡ true → (a ≡ true → b ≡ true) → (nat_lt x y || (nat_eq x y && b)) ≡ true
step_same x y a b h ih = grind (arith, nat_tests)

pub lex_append : (xs ys more : List ℕ) → length xs ≡ length ys → lex_le xs ys ≡ true → lex_le (xs ++ more) (ys ++ more) ≡ true
lex_append [] [] more same h = lex_refl more
lex_append [] (y ∷ ys) more same h = absurd (omega arith)
lex_append (x ∷ xs) [] more same h = absurd (omega arith)
lex_append (x ∷ xs) (y ∷ ys) more same h = step_same x y (lex_le xs ys) (lex_le (xs ++ more) (ys ++ more)) h (lex_append xs ys more (omega arith))

step_strict : (x y : ℕ) (a b : Bool) → (nat_lt y x || (nat_eq y x && a)) ≡ false → (a ≡ false → b ≡ false) → (nat_lt y x || (nat_eq y x && b)) ≡ false
step_strict x y a b h ih = grind (arith, nat_tests)

pub lex_further : (xs ys some more : List ℕ) → length xs ≡ length ys → lex_le ys xs ≡ false → lex_le (ys ++ more) (xs ++ some) ≡ false
lex_further [] [] some more same h = absurd (cc)
lex_further [] (y ∷ ys) some more same h = absurd (omega arith)
lex_further (x ∷ xs) [] some more same h = absurd (omega arith)
lex_further (x ∷ xs) (y ∷ ys) some more same h = step_strict x y (lex_le ys xs) (lex_le (ys ++ more) (xs ++ some)) h (lex_further xs ys some more (omega arith))

step_number : (x : ℕ) (a : Bool) → a ≡ false → (nat_lt x x || (nat_eq x x && a)) ≡ false
step_number x a h = grind (arith, nat_tests)

pub lex_number : (xs : List ℕ) (a b : ℕ) → a < b → lex_le (xs ++ b ∷ []) (xs ++ a ∷ []) ≡ false
lex_number [] a b h = grind (arith, nat_tests)
lex_number (x ∷ xs) a b h = step_number x (lex_le (xs ++ b ∷ []) (xs ++ a ∷ [])) (lex_number xs a b h)

not_both : (a : Bool) → a ≡ true → a ≡ false → ⊥
not_both a h k = cc

pub lex_strict_trans : (xs ys zs : List ℕ) → lex_le ys xs ≡ false → lex_le zs ys ≡ false → lex_le zs xs ≡ false
lex_strict_trans xs ys zs h k = by (lex_le zs xs) refl
  where
    by : (b : Bool) → lex_le zs xs ≡ b → b ≡ false
    by false e = refl
    by true e = absurd (not_both (lex_le zs ys) (lex_trans zs xs ys e (lex_total xs ys h)) k)

pub before_refl : (P : List ℕ) → Before P P
before_refl P = inr (refl, lex_refl P)

pub before_trans : (P Q R : List ℕ) → Before P Q → Before Q R → Before P R
before_trans P Q R (inl a) (inl b) = inl (omega arith)
before_trans P Q R (inl a) (inr b) = inl (omega (arith, b.0))
before_trans P Q R (inr a) (inl b) = inl (omega (arith, a.0))
before_trans P Q R (inr a) (inr b) = inr (a.0 ∙ b.0, lex_trans P Q R (a.1) (b.1))

pub before_append : (P Q more : List ℕ) → Before P Q → Before (P ++ more) (Q ++ more)
before_append P Q more (inl a) = inl (omega (arith, length-append P more, length-append Q more))
before_append P Q more (inr a) = inr (omega (arith, a.0, length-append P more, length-append Q more), lex_append P Q more (a.0) (a.1))

pub before_length : (P Q : List ℕ) → Before P Q → length P ≤ length Q
before_length P Q (inl a) = omega arith
before_length P Q (inr a) = omega (arith, a.0)

pub strictly_before : (P Q : List ℕ) → StrictlyBefore P Q → Before P Q
strictly_before P Q (inl a) = inl a
strictly_before P Q (inr a) = inr (a.0, lex_total P Q (a.1))

pub strictly_trans : (P Q R : List ℕ) → StrictlyBefore P Q → StrictlyBefore Q R → StrictlyBefore P R
strictly_trans P Q R (inl a) (inl b) = inl (omega arith)
strictly_trans P Q R (inl a) (inr b) = inl (omega (arith, b.0))
strictly_trans P Q R (inr a) (inl b) = inl (omega (arith, a.0))
strictly_trans P Q R (inr a) (inr b) = inr (a.0 ∙ b.0, lex_strict_trans P Q R (a.1) (b.1))

pub strictly_further : (P Q : List ℕ) (a b : ℕ) → StrictlyBefore P Q → StrictlyBefore (P ++ a ∷ []) (Q ++ b ∷ [])
strictly_further P Q a b (inl h) = inl (omega (arith, length-append P (a ∷ []), length-append Q (b ∷ [])))
strictly_further P Q a b (inr h) = inr (omega (arith, h.0, length-append P (a ∷ []), length-append Q (b ∷ [])), lex_further P Q (a ∷ []) (b ∷ []) (h.0) (h.1))

pub strictly_number : (P : List ℕ) (a b : ℕ) → a < b → StrictlyBefore (P ++ a ∷ []) (P ++ b ∷ [])
strictly_number P a b h = inr (omega (arith, length-append P (a ∷ []), length-append P (b ∷ [])), lex_number P a b h)
