-- What stands before and after the first byte that passes a test.
use Rattle.std.proofs.Common.{◌≡◌, ℕ, suc, ◌+◌, ◌++◌, List, [], ◌∷◌, refl, Bool, true, false, cond, Some, None, arith, ap, ◌∙◌, sym}
use Rattle.std.specs.Prelude.{is_some, position}
use Rattle.std.specs.List.{list_all, before_first, after_first, position_or_len}
use Rattle.fixed_units.specs.Quantity.{is_digit}
use Rattle.fixed_units.proofs.Numbers.{and-first, and-second}

pub before_first-here : (p : ℕ → Bool) (x : ℕ) (xs : List ℕ) → p x ≡ true → before_first p (x ∷ xs) ≡ []
before_first-here p x xs h = rw h refl

pub before_first-later : (p : ℕ → Bool) (x : ℕ) (xs : List ℕ) → p x ≡ false → before_first p (x ∷ xs) ≡ x ∷ before_first p xs
before_first-later p x xs h =
    let e : 1 + position_or_len p xs ≡ suc (position_or_len p xs) = omega arith in
    rw (h, e) refl

pub after_first-here : (p : ℕ → Bool) (x : ℕ) (xs : List ℕ) → p x ≡ true → after_first p (x ∷ xs) ≡ xs
after_first-here p x xs h = rw h refl

pub after_first-later : (p : ℕ → Bool) (x : ℕ) (xs : List ℕ) → p x ≡ false → after_first p (x ∷ xs) ≡ after_first p xs
after_first-later p x xs h =
    let e : 1 + position_or_len p xs + 1 ≡ suc (position_or_len p xs + 1) = omega arith in
    rw (h, e) refl

some-where : (b : Bool) (k : ℕ) → is_some (cond b (Some k) None) ≡ b
some-where true k = refl
some-where false k = refl

pub passes-here : (p : ℕ → Bool) (x : ℕ) (xs : List ℕ) → p x ≡ true → is_some (position p (x ∷ xs)) ≡ true
passes-here p x xs h = some-where _ _ ∙ rw h (grind arith)

pub passes-later : (p : ℕ → Bool) (x : ℕ) (xs : List ℕ) → p x ≡ false → is_some (position p (x ∷ xs)) ≡ is_some (position p xs)
passes-later p x xs h = some-where _ _ ∙ rw h (grind arith) ∙ sym (some-where _ _)

-- no digit passes the test
abbrev pub PassesNoDigit : (ℕ → Bool) → Type 0
PassesNoDigit p = (b : ℕ) → is_digit b ≡ true → p b ≡ false

pub before_first-digits : (p : ℕ → Bool) → PassesNoDigit p → (ds rest : List ℕ) → list_all is_digit ds ≡ true
    → before_first p (ds ++ rest) ≡ ds ++ before_first p rest
before_first-digits p apart [] rest h = refl
before_first-digits p apart (d ∷ ds) rest h =
    before_first-later p d (ds ++ rest) (apart d (and-first (is_digit d) _ h))
    ∙ ap (λ (t : List ℕ). d ∷ t) (before_first-digits p apart ds rest (and-second (is_digit d) _ h))

pub after_first-digits : (p : ℕ → Bool) → PassesNoDigit p → (ds rest : List ℕ) → list_all is_digit ds ≡ true
    → after_first p (ds ++ rest) ≡ after_first p rest
after_first-digits p apart [] rest h = refl
after_first-digits p apart (d ∷ ds) rest h =
    after_first-later p d (ds ++ rest) (apart d (and-first (is_digit d) _ h))
    ∙ after_first-digits p apart ds rest (and-second (is_digit d) _ h)

pub passes-digits : (p : ℕ → Bool) → PassesNoDigit p → (ds rest : List ℕ) → list_all is_digit ds ≡ true
    → is_some (position p (ds ++ rest)) ≡ is_some (position p rest)
passes-digits p apart [] rest h = refl
passes-digits p apart (d ∷ ds) rest h =
    passes-later p d (ds ++ rest) (apart d (and-first (is_digit d) _ h))
    ∙ passes-digits p apart ds rest (and-second (is_digit d) _ h)
