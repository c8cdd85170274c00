-- What dropping blanks does at an end.
use Rattle.std.proofs.Common.{◌≡◌, ℕ, List, [], ◌∷◌, ◌++◌, refl, true, false, ◌∙◌, ap, sym, length, arith, reverse}
use Rattle.std.proofs.lemmas.List.{reverse-append, reverse-reverse}
use Rattle.row_reader.specs.Trimmed.{is_blank, drop_blanks}

pub drop_blanks-nil : drop_blanks [] ≡ []
unfolding drop_blanks
drop_blanks-nil = refl

pub drop_blanks-blank : (b : ℕ) (rest : List ℕ) → is_blank b ≡ true → drop_blanks (b ∷ rest) ≡ drop_blanks rest
unfolding drop_blanks
drop_blanks-blank b rest h = rw h refl

pub drop_blanks-other : (b : ℕ) (rest : List ℕ) → is_blank b ≡ false → drop_blanks (b ∷ rest) ≡ b ∷ rest
unfolding drop_blanks
drop_blanks-other b rest h = rw h refl

-- the bytes before the blanks at the end
pub drop_last-blank : (xs : List ℕ) (b : ℕ) → is_blank b ≡ true → reverse (drop_blanks (reverse (xs ++ b ∷ []))) ≡ reverse (drop_blanks (reverse xs))
drop_last-blank xs b h = rw (reverse-append xs (b ∷ []), drop_blanks-blank b (reverse xs) h) refl

pub drop_last-other : (xs : List ℕ) (b : ℕ) → is_blank b ≡ false → reverse (drop_blanks (reverse (xs ++ b ∷ []))) ≡ xs ++ b ∷ []
drop_last-other xs b h = rw (reverse-append xs (b ∷ []), drop_blanks-other b (reverse xs) h) (ap reverse (sym (reverse-append xs (b ∷ []))) ∙ reverse-reverse (xs ++ b ∷ []))

pub drop_last-nil : reverse (drop_blanks (reverse [])) ≡ []
drop_last-nil = rw drop_blanks-nil refl

pub drop_blanks-empty : (xs : List ℕ) → length xs ≡ 0 → xs ≡ drop_blanks xs
drop_blanks-empty [] h = sym drop_blanks-nil
drop_blanks-empty (x ∷ xs) h = absurd (omega arith)

pub drop_last-empty : (xs : List ℕ) → length xs ≡ 0 → xs ≡ reverse (drop_blanks (reverse xs))
drop_last-empty [] h = sym drop_last-nil
drop_last-empty (x ∷ xs) h = absurd (omega arith)

pub ruleset blanks = (drop_blanks-blank, drop_blanks-other, drop_last-blank, drop_last-other, drop_blanks-empty, drop_last-empty)
