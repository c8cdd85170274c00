-- The grammar of a quantity and its reading are one.
use Rattle.std.proofs.Common.{◌≡◌, ℕ, ◌++◌, ◌<◌, ◌≤◌, List, [], ◌∷◌, length, get_or, refl, Bool, true, false, Some, arith, ap, ◌∙◌, sym, inl, inr, append_assoc}
use Rattle.std.specs.Prelude.{◌&&◌, ◌||◌, not, ◌==◌, nat_le, if◌then◌else◌}
use Rattle.std.specs.List.{list_all, position_or_len}
use Rattle.std.proofs.lemmas.List.{append-nil}
use Rattle.std.proofs.lemmas.List.Folds.{list_all-append}
use Rattle.std.proofs.lemmas.List.Sums.{split_at_first, passes_at_first}
use Rattle.fixed_units.specs.declared.exponent.Tens.{Tens}
use Rattle.fixed_units.specs.declared.quantity.TheConstants.{MOST_BYTES}
use Rattle.fixed_units.specs.Quantity.{is_digit, is_point, is_exponent_mark, are_digits, are_few_digits, is_exponent, number, has_minus, unsigned, mantissa, has_exponent, exponent, digits_of, has_point, whole_part, fraction_part, is_unsigned_quantity}
use Rattle.fixed_units.specs.Reading.{IsSplit, begins_with, end_of}
use Rattle.fixed_units.specs.Spelling.{Sign, no_sign, plus, minus, sign_text, is_minus, Exponent, no_exponent, power, exponent_text, power_up, power_down, IsExponent, Spelling, text_of, IsSpelling, SpellingsAreRead, QuantitiesAreSpelled}
use Rattle.fixed_units.proofs.Numbers.{and-first, and-second}
use Rattle.fixed_units.proofs.Splits.{quantity-split, read-value}
use Rattle.fixed_units.proofs.Parts.{before_first-None, whole_part-None, fraction_part-None, missing, found}

no-sign : (text : List ℕ) → begins_with is_digit text ≡ true → (has_minus text ≡ false) × (unsigned text ≡ text)
no-sign [] h = (refl, refl)
no-sign (x ∷ text) h = (grind arith, grind arith)

point-is : (x : ℕ) → is_point x ≡ true → x ≡ 46
point-is x h = grind arith

-- a text with its point between its parts
point-between : (text : List ℕ) → has_point text ≡ true → text ≡ whole_part text ++ (46 ∷ fraction_part text)
point-between text h =
    let place : position_or_len is_point text < length text = found is_point text h in
    let point : get_or text (position_or_len is_point text) 0 ≡ 46 = point-is _ (passes_at_first is_point text 0 place) in
    split_at_first is_point text 0 place ∙ ap (λ (x : ℕ). whole_part text ++ (x ∷ fraction_part text)) point

-- a sign before a text that begins with none
sign-before : (sign : Sign) (text : List ℕ) → (has_minus text ≡ false) × (unsigned text ≡ text)
    → (has_minus (sign_text sign ++ text) ≡ is_minus sign) × (unsigned (sign_text sign ++ text) ≡ text)
sign-before no_sign text h = h
sign-before plus text h = (refl, refl)
sign-before minus text h = (refl, refl)

digits-first : (text : List ℕ) → are_digits text ≡ true → begins_with is_digit text ≡ true
digits-first [] h = absurd cc
digits-first (x ∷ text) h = and-first (is_digit x) (list_all is_digit text) (and-second (not (length (x ∷ text) == 0)) _ h)

mark-is_no-digit : (x : ℕ) → is_exponent_mark x ≡ true → (is_digit x ≡ false) × (is_point x ≡ false)
mark-is_no-digit x h = (grind arith, grind arith)

-- what an exponent's text begins with
exponent-first : (e : Exponent) → IsExponent e → (begins_with is_digit (exponent_text e) ≡ false) × (begins_with is_point (exponent_text e) ≡ false)
exponent-first no_exponent h = (refl, refl)
exponent-first (power mark sign digits) h = mark-is_no-digit mark h.0

exponent-end : (e : Exponent) → IsExponent e → end_of (exponent_text e) ≡ Some (record { up = power_up e; down = power_down e })
exponent-end no_exponent h = refl
exponent-end (power mark sign digits) h =
    let signs = sign-before sign digits (no-sign digits (digits-first digits (and-first _ _ h.1))) in
    let order : is_exponent (sign_text sign ++ digits) ≡ true = ap (λ (t : List ℕ). are_few_digits t) signs.1 ∙ h.1 in
    end-of mark (sign_text sign ++ digits) (is_minus sign) (number digits) h.0 order signs.0 (ap (λ (t : List ℕ). number t) signs.1)
  where
    end-of : (mark : ℕ) (text : List ℕ) (m : Bool) (n : ℕ) → is_exponent_mark mark ≡ true → is_exponent text ≡ true → has_minus text ≡ m → number (unsigned text) ≡ n
        → end_of (mark ∷ text) ≡ Some (record { up = if m then 0 else n; down = if m then n else 0 })
    end-of mark text m n a b c d = rw (a, b, c, d) refl

spelled-split : (w f e : List ℕ) (point : Bool) → list_all is_digit w ≡ true → list_all is_digit f ≡ true
    → (begins_with is_digit e ≡ false) × (begins_with is_point e ≡ false) → (point ≡ false → f ≡ [])
    → IsSplit (w ++ ((if point then 46 ∷ f else []) ++ e)) w f e
spelled-split w f e true h k first pointed = record { whole_digits = h; fraction_digits = k; no_digit = first.0; joined = inl refl }
spelled-split w f e false h k first pointed =
    record { whole_digits = h; fraction_digits = k; no_digit = first.0; joined = inr (refl, pointed refl, first.1) }

-- digits around a point begin with no sign
no-sign-first : (w f e : List ℕ) (point : Bool) → list_all is_digit w ≡ true → 0 < length (w ++ f) → (point ≡ false → f ≡ [])
    → (has_minus (w ++ ((if point then 46 ∷ f else []) ++ e)) ≡ false)
    × (unsigned (w ++ ((if point then 46 ∷ f else []) ++ e)) ≡ w ++ ((if point then 46 ∷ f else []) ++ e))
no-sign-first (x ∷ w) f e point h some pointed =
    no-sign (x ∷ (w ++ ((if point then 46 ∷ f else []) ++ e))) (and-first (is_digit x) (list_all is_digit w) h)
no-sign-first [] f e true h some pointed = (refl, refl)
no-sign-first [] f e false h some pointed =
    let none : length f ≡ 0 = ap (λ (t : List ℕ). length t) (pointed refl) in absurd (omega arith)

nat_le-true : (k n : ℕ) → k ≤ n → nat_le k n ≡ true
nat_le-true k n h = grind arith

not-none : (n : ℕ) → 0 < n → not (n == 0) ≡ true
not-none n h = grind arith

pub spellings-are-read : SpellingsAreRead
spellings-are-read s h short =
    let e = exponent_text s.last in
    let u : List ℕ = s.whole ++ ((if s.point then 46 ∷ s.fraction else []) ++ exponent_text s.last) in
    let split : IsSplit u s.whole s.fraction (exponent_text s.last)
    = spelled-split s.whole s.fraction (exponent_text s.last) s.point h.whole_digits h.fraction_digits (exponent-first s.last h.in_order) h.pointed in
    let signs = sign-before s.sign u (no-sign-first s.whole s.fraction (exponent_text s.last) s.point h.whole_digits h.some_digit h.pointed) in
    let tens : Tens = record { up = power_up s.last; down = power_down s.last } in
    let read = quantity-split u s.whole s.fraction (exponent_text s.last) tens split (exponent-end s.last h.in_order) in
    read-value (length (text_of s)) (has_minus (text_of s)) (is_minus s.sign) (unsigned (text_of s)) u _ _
    (nat_le-true _ MOST_BYTES short) signs.0 signs.1 (read.0 ∙ not-none _ h.some_digit) read.1 read.2

is-43 : (x : ℕ) → (x == 43) ≡ true → x ≡ 43
is-43 x h = grind arith

pub is-45 : (x : ℕ) → (x == 45) ≡ true → x ≡ 45
is-45 x h = grind arith

-- a text is its sign and what stands after it
signed : (text : List ℕ) → (g : Sign) × (sign_text g ++ unsigned text ≡ text)
signed [] = (no_sign, refl)
signed (x ∷ text) =
    elim (x == 43) as (λ b. (x == 43) ≡ b → (g : Sign) × (sign_text g ++ (if b || x == 45 then text else (x ∷ text)) ≡ x ∷ text)) [
      | true ↦ λ e. (plus, ap (λ (y : ℕ). y ∷ text) (sym (is-43 x e)))
      | false ↦ λ _. elim (x == 45) as (λ b. (x == 45) ≡ b → (g : Sign) × (sign_text g ++ (if b then text else (x ∷ text)) ≡ x ∷ text))
          [ true ↦ λ e. (minus, ap (λ (y : ℕ). y ∷ text) (sym (is-45 x e))) | false ↦ λ _. (no_sign, refl) ] refl
    ] refl

-- a text is its mantissa and its exponent
ended : (u : List ℕ) → (not (has_exponent u) || is_exponent (exponent u)) ≡ true
    → (e : Exponent) × IsExponent e × (mantissa u ++ exponent_text e ≡ u)
ended u h =
    elim (has_exponent u) as (λ b. has_exponent u ≡ b → (e : Exponent) × IsExponent e × (mantissa u ++ exponent_text e ≡ u)) [
      | true ↦ λ there.
          let place : position_or_len is_exponent_mark u < length u = found is_exponent_mark u there in
          let order : is_exponent (exponent u) ≡ true = ap (λ (b : Bool). not b || is_exponent (exponent u)) (sym there) ∙ h in
          let tail = signed (exponent u) in
          let mark : ℕ = get_or u (position_or_len is_exponent_mark u) 0 in (
            power (get_or u (position_or_len is_exponent_mark u) 0) tail.0 (unsigned (exponent u)),
            (passes_at_first is_exponent_mark u 0 place, order),
            ap (λ (t : List ℕ). mantissa u ++ (get_or u (position_or_len is_exponent_mark u) 0 ∷ t)) tail.1 ∙ sym (split_at_first is_exponent_mark u 0 place),
          )
      | false ↦ λ none. (no_exponent, tt, append-nil (mantissa u) ∙ before_first-None is_exponent_mark u (missing is_exponent_mark u none))
    ] refl

-- a text is its whole part, its point and its fraction
pointed-text : (m : List ℕ) → whole_part m ++ (if has_point m then 46 ∷ fraction_part m else []) ≡ m
pointed-text m =
    elim (has_point m) as (λ b. has_point m ≡ b → whole_part m ++ (if b then 46 ∷ fraction_part m else []) ≡ m) [
      | true ↦ λ e. sym (point-between m e)
      | false ↦ λ e. append-nil (whole_part m) ∙ whole_part-None m (missing is_point m e)
    ] refl

pub not-none-length : (n : ℕ) → not (n == 0) ≡ true → 0 < n
not-none-length n h = grind arith

pub quantities-are-spelled : QuantitiesAreSpelled
quantities-are-spelled text h =
    let u : List ℕ = unsigned text in
    let m : List ℕ = mantissa (unsigned text) in
    let form : is_unsigned_quantity (unsigned text) ≡ true = and-second (nat_le (length text) MOST_BYTES) _ h in
    let digits : are_digits (digits_of (unsigned text)) ≡ true = and-first _ _ form in
    let order : (not (has_exponent (unsigned text)) || is_exponent (exponent (unsigned text))) ≡ true
    = and-second (are_digits (digits_of (unsigned text))) _ form in
    let all : (list_all is_digit (whole_part m) && list_all is_digit (fraction_part m)) ≡ true
    = sym (list_all-append is_digit (whole_part m) (fraction_part m)) ∙ and-second (not (length (digits_of (unsigned text)) == 0)) _ digits in
    let front = signed text in
    let back = ended (unsigned text) order in
    let s : Spelling = record { sign = front.0; whole = whole_part m; point = has_point m; fraction = fraction_part m; last = back.0 } in
    let spelling : IsSpelling s = record {
      whole_digits = and-first _ _ all;
      fraction_digits = and-second (list_all is_digit (whole_part m)) _ all;
      some_digit = not-none-length _ (and-first _ _ digits);
      pointed = λ e. fraction_part-None m (missing is_point m e);
      in_order = back.1;
    } in
    let joined : whole_part m ++ ((if has_point m then 46 ∷ fraction_part m else []) ++ exponent_text back.0) ≡ u
    = sym (append_assoc (whole_part m) (if has_point m then 46 ∷ fraction_part m else []) (exponent_text back.0))
    ∙ ap (λ (t : List ℕ). t ++ exponent_text back.0) (pointed-text m) ∙ back.2 in
    (s, spelling, ap (λ (t : List ℕ). sign_text front.0 ++ t) joined ∙ front.1)
