-- What a text that was split into digits and a rest spells.
use Rattle.std.proofs.Common.{◌≡◌, ℕ, suc, ◌+◌, ◌*◌, ◌^◌, ◌++◌, List, [], ◌∷◌, length, refl, Bool, true, false, Some, None, Err, arith, ap, ◌∙◌, sym, subst, append_assoc, inl, inr}
use Rattle.std.specs.Prelude.{◌&&◌, ◌||◌, not, ◌==◌, nat_le, if◌then◌else◌}
use Rattle.std.specs.List.{list_all, before_first}
use Rattle.std.proofs.lemmas.List.{append-nil}
use Rattle.std.proofs.lemmas.List.Folds.{list_all-append}
use Rattle.fixed_units.specs.declared.fault.NumberFault.TheVariants.{NotNumber}
use Rattle.fixed_units.specs.declared.quantity.TheConstants.{MOST_BYTES}
use Rattle.fixed_units.specs.declared.exponent.Tens.{Tens}
use Rattle.fixed_units.specs.Quantity.{is_digit, is_point, is_exponent_mark, is_exponent, are_digits, number, tens_up, tens_down, mantissa, exponent, has_exponent, whole_part, fraction_part, digits_of, has_point, is_identifier, is_unsigned_quantity, numerator, denominator, thousandths, are_zeros}
use Rattle.fixed_units.specs.Reading.{IsSplit, begins_with, end_of, is_identifier_end}
use Rattle.fixed_units.proofs.Firsts.{PassesNoDigit, before_first-here, before_first-later, after_first-here, after_first-later, passes-here, passes-later, before_first-digits, after_first-digits, passes-digits}
use Rattle.fixed_units.proofs.Numbers.{and-first}

point-no_digit : PassesNoDigit is_point
point-no_digit b h = grind arith

mark-no_digit : PassesNoDigit is_exponent_mark
mark-no_digit b h = grind arith

suc-is_not-zero : (n : ℕ) → (suc n == 0) ≡ false
suc-is_not-zero n = grind arith

-- digits and a rest that begins with no digit are all digits where there is no rest
pub list_all-joined : (ds rest : List ℕ) → list_all is_digit ds ≡ true → begins_with is_digit rest ≡ false
    → list_all is_digit (ds ++ rest) ≡ (length rest == 0)
list_all-joined ds [] h k = list_all-append is_digit ds [] ∙ rw h refl
list_all-joined ds (x ∷ rest) h k = list_all-append is_digit ds (x ∷ rest) ∙ rw (h, k) (sym (suc-is_not-zero (length rest)))

-- digits and no rest
pub joined-whole : (text ds rest : List ℕ) → text ≡ ds ++ rest → length rest ≡ 0 → text ≡ ds
joined-whole text ds [] e h = e ∙ append-nil ds
joined-whole text ds (x ∷ rest) e h = absurd (omega arith)

not-all-digits : (ds rest : List ℕ) (x : ℕ) → is_digit x ≡ false → list_all is_digit (ds ++ (x ∷ rest)) ≡ false
not-all-digits [] rest x h = rw h refl
not-all-digits (d ∷ ds) rest x h =
    let more : list_all is_digit (ds ++ (x ∷ rest)) ≡ false = not-all-digits ds rest x h in
    elim (is_digit d) as (λ b. (b && list_all is_digit (ds ++ (x ∷ rest))) ≡ false) [ true ↦ more | false ↦ refl ]

-- ---- identifiers

at-a-point : (ds rest : List ℕ) (x : ℕ) → list_all is_digit ds ≡ true → is_point x ≡ true
    → is_identifier (ds ++ (x ∷ rest)) ≡ (not (length ds == 0) && are_zeros rest)
at-a-point ds rest x h e =
    let whole : whole_part (ds ++ (x ∷ rest)) ≡ ds
    = before_first-digits is_point point-no_digit ds (x ∷ rest) h ∙ ap (λ (t : List ℕ). ds ++ t) (before_first-here is_point x rest e) ∙ append-nil ds in
    let point : has_point (ds ++ (x ∷ rest)) ≡ true = passes-digits is_point point-no_digit ds (x ∷ rest) h ∙ passes-here is_point x rest e in
    let fraction : fraction_part (ds ++ (x ∷ rest)) ≡ rest = after_first-digits is_point point-no_digit ds (x ∷ rest) h ∙ after_first-here is_point x rest e in
    rw (whole, point, fraction, h) (grind arith)

no-point : (ds rest : List ℕ) (x : ℕ) → list_all is_digit ds ≡ true → is_digit x ≡ false → is_point x ≡ false
    → is_identifier (ds ++ (x ∷ rest)) ≡ (not (length ds == 0) && false)
no-point ds rest x h k e =
    let whole : whole_part (ds ++ (x ∷ rest)) ≡ ds ++ (x ∷ before_first is_point rest)
    = before_first-digits is_point point-no_digit ds (x ∷ rest) h ∙ ap (λ (t : List ℕ). ds ++ t) (before_first-later is_point x rest e) in
    let none : list_all is_digit (ds ++ (x ∷ before_first is_point rest)) ≡ false = not-all-digits ds (before_first is_point rest) x k in
    rw (whole, none) (grind arith)

pub is_identifier-joined : (ds rest : List ℕ) → list_all is_digit ds ≡ true → begins_with is_digit rest ≡ false
    → is_identifier (ds ++ rest) ≡ (not (length ds == 0) && is_identifier_end rest)
is_identifier-joined ds [] h k =
    let whole : whole_part (ds ++ []) ≡ ds = before_first-digits is_point point-no_digit ds [] h ∙ append-nil ds in
    let point : has_point (ds ++ []) ≡ false = passes-digits is_point point-no_digit ds [] h in
    rw (whole, point, h) (grind arith)
is_identifier-joined ds (x ∷ rest) h k =
    elim (is_point x) as (λ b. is_point x ≡ b → is_identifier (ds ++ (x ∷ rest)) ≡ (not (length ds == 0) && (b && are_zeros rest)))
    [ true ↦ λ e. at-a-point ds rest x h e | false ↦ λ e. no-point ds rest x h k e ] refl

pub whole_part-joined : (ds rest : List ℕ) → list_all is_digit ds ≡ true → is_identifier_end rest ≡ true → whole_part (ds ++ rest) ≡ ds
whole_part-joined ds [] h k = before_first-digits is_point point-no_digit ds [] h ∙ append-nil ds
whole_part-joined ds (x ∷ rest) h k =
    let here : before_first is_point (x ∷ rest) ≡ [] = before_first-here is_point x rest (and-first (is_point x) _ k) in
    before_first-digits is_point point-no_digit ds (x ∷ rest) h ∙ ap (λ (t : List ℕ). ds ++ t) here ∙ append-nil ds

-- ---- quantities

-- The parts of a text, whichever its form: E and P stand for what comes before the first exponent mark and point.

mantissa-joined : (ds rest : List ℕ) → list_all is_digit ds ≡ true → mantissa (ds ++ rest) ≡ ds ++ mantissa rest
mantissa-joined ds rest h = before_first-digits is_exponent_mark mark-no_digit ds rest h

mantissa-pointed : (w f rest : List ℕ) → list_all is_digit w ≡ true → list_all is_digit f ≡ true
    → mantissa (w ++ (46 ∷ (f ++ rest))) ≡ w ++ (46 ∷ (f ++ mantissa rest))
mantissa-pointed w f rest h k =
    mantissa-joined w (46 ∷ (f ++ rest)) h
    ∙ ap (λ (t : List ℕ). w ++ t) (before_first-later is_exponent_mark 46 (f ++ rest) refl ∙ ap (λ (t : List ℕ). 46 ∷ t) (mantissa-joined f rest k))

-- what follows the mantissa is that of the rest
pub has_exponent-split : (u w f rest : List ℕ) → IsSplit u w f rest → has_exponent u ≡ has_exponent rest
has_exponent-split u w f rest s = elim s.joined [
  | inl e ↦ rw e (passes-digits is_exponent_mark mark-no_digit w (46 ∷ (f ++ rest)) s.whole_digits
      ∙ passes-later is_exponent_mark 46 (f ++ rest) refl ∙ passes-digits is_exponent_mark mark-no_digit f rest s.fraction_digits)
  | inr e ↦ rw e.0 (passes-digits is_exponent_mark mark-no_digit w rest s.whole_digits)
]

pub exponent-split : (u w f rest : List ℕ) → IsSplit u w f rest → exponent u ≡ exponent rest
exponent-split u w f rest s = elim s.joined [
  | inl e ↦ rw e (after_first-digits is_exponent_mark mark-no_digit w (46 ∷ (f ++ rest)) s.whole_digits
      ∙ after_first-later is_exponent_mark 46 (f ++ rest) refl ∙ after_first-digits is_exponent_mark mark-no_digit f rest s.fraction_digits)
  | inr e ↦ rw e.0 (after_first-digits is_exponent_mark mark-no_digit w rest s.whole_digits)
]

whole_part-at : (w rest : List ℕ) → list_all is_digit w ≡ true → whole_part (w ++ (46 ∷ rest)) ≡ w
whole_part-at w rest h = before_first-digits is_point point-no_digit w (46 ∷ rest) h ∙ append-nil w

fraction_part-at : (w rest : List ℕ) → list_all is_digit w ≡ true → fraction_part (w ++ (46 ∷ rest)) ≡ rest
fraction_part-at w rest h = after_first-digits is_point point-no_digit w (46 ∷ rest) h

-- where the rest adds nothing to the mantissa, the parts are the digits
pub whole_part-split : (u w f rest : List ℕ) → IsSplit u w f rest → mantissa rest ≡ [] → whole_part (mantissa u) ≡ w
whole_part-split u w f rest s m = elim s.joined [
  | inl e ↦ rw (e, mantissa-pointed w f rest s.whole_digits s.fraction_digits) (whole_part-at w (f ++ mantissa rest) s.whole_digits)
  | inr e ↦ rw (e.0, mantissa-joined w rest s.whole_digits, m) (before_first-digits is_point point-no_digit w [] s.whole_digits ∙ append-nil w)
]

pub fraction_part-split : (u w f rest : List ℕ) → IsSplit u w f rest → mantissa rest ≡ [] → fraction_part (mantissa u) ≡ f
fraction_part-split u w f rest s m = elim s.joined [
  | inl e ↦ rw (e, mantissa-pointed w f rest s.whole_digits s.fraction_digits) (fraction_part-at w (f ++ mantissa rest) s.whole_digits ∙ rw m (append-nil f))
  | inr e ↦ rw (e.0, mantissa-joined w rest s.whole_digits, m, e.1) (after_first-digits is_point point-no_digit w [] s.whole_digits)
]

mantissa-junk : (x : ℕ) (rest : List ℕ) → is_exponent_mark x ≡ false → mantissa (x ∷ rest) ≡ x ∷ mantissa rest
mantissa-junk x rest m = before_first-later is_exponent_mark x rest m

pointed-junk : (u w f rest : List ℕ) (x : ℕ) → IsSplit u w f (x ∷ rest) → is_exponent_mark x ≡ false → u ≡ w ++ (46 ∷ (f ++ (x ∷ rest)))
    → list_all is_digit (digits_of u) ≡ false
pointed-junk u w f rest x s m e =
    let whole : whole_part (mantissa u) ≡ w
    = rw (e, mantissa-pointed w f (x ∷ rest) s.whole_digits s.fraction_digits) (whole_part-at w (f ++ mantissa (x ∷ rest)) s.whole_digits) in
    let fraction : fraction_part (mantissa u) ≡ f ++ (x ∷ mantissa rest)
    = rw (e, mantissa-pointed w f (x ∷ rest) s.whole_digits s.fraction_digits)
    (fraction_part-at w (f ++ mantissa (x ∷ rest)) s.whole_digits ∙ ap (λ (t : List ℕ). f ++ t) (mantissa-junk x rest m)) in
    let digits : digits_of u ≡ (w ++ f) ++ (x ∷ mantissa rest)
    = ap (λ (t : List ℕ). t ++ fraction_part (mantissa u)) whole ∙ ap (λ (t : List ℕ). w ++ t) fraction ∙ sym (append_assoc w f (x ∷ mantissa rest)) in
    ap (λ (t : List ℕ). list_all is_digit t) digits ∙ not-all-digits (w ++ f) (mantissa rest) x s.no_digit

pointless-junk : (u w rest : List ℕ) (x : ℕ) → list_all is_digit w ≡ true → is_digit x ≡ false → is_exponent_mark x ≡ false → is_point x ≡ false
    → u ≡ w ++ (x ∷ rest) → list_all is_digit (digits_of u) ≡ false
pointless-junk u w rest x h k m p e =
    let parts : mantissa u ≡ w ++ (x ∷ mantissa rest)
    = ap (λ (t : List ℕ). mantissa t) e ∙ mantissa-joined w (x ∷ rest) h ∙ ap (λ (t : List ℕ). w ++ t) (mantissa-junk x rest m) in
    let whole : whole_part (mantissa u) ≡ w ++ (x ∷ whole_part (mantissa rest))
    = ap (λ (t : List ℕ). whole_part t) parts ∙ before_first-digits is_point point-no_digit w (x ∷ mantissa rest) h
    ∙ ap (λ (t : List ℕ). w ++ t) (before_first-later is_point x (mantissa rest) p) in
    list_all-append is_digit (whole_part (mantissa u)) (fraction_part (mantissa u))
    ∙ ap (λ (b : Bool). b && list_all is_digit (fraction_part (mantissa u)))
    (ap (λ (t : List ℕ). list_all is_digit t) whole ∙ not-all-digits w (whole_part (mantissa rest)) x k)

-- and otherwise they are not all digits
pub digits_of-junk : (u w f rest : List ℕ) (x : ℕ) → IsSplit u w f (x ∷ rest) → is_exponent_mark x ≡ false → list_all is_digit (digits_of u) ≡ false
digits_of-junk u w f rest x s m = elim s.joined [
  | inl e ↦ pointed-junk u w f rest x s m e
  | inr e ↦ pointless-junk u w rest x s.whole_digits s.no_digit m e.2 e.0
]

-- the end of a quantity adds nothing to its mantissa, and its exponent is in order
record IsEnd (rest : List ℕ) (tens : Tens) : Type 0 where
  alone : mantissa rest ≡ []
  in_order : (not (has_exponent rest) || is_exponent (exponent rest)) ≡ true
  up : tens.up ≡ tens_up (exponent rest)
  down : tens.down ≡ tens_down (exponent rest)

end-marked : (x : ℕ) (text : List ℕ) → is_exponent_mark x ≡ true → is_exponent text ≡ true → IsEnd (x ∷ text) (record { up = tens_up text; down = tens_down text })
end-marked x text m e =
    let last : exponent (x ∷ text) ≡ text = after_first-here is_exponent_mark x text m in
    let there : has_exponent (x ∷ text) ≡ true = passes-here is_exponent_mark x text m in
    record {
      alone = before_first-here is_exponent_mark x text m;
      in_order = rw (there, last, e) refl;
      up = ap (λ (t : List ℕ). tens_up t) (sym last);
      down = ap (λ (t : List ℕ). tens_down t) (sym last);
    }

end-none : IsEnd [] (record { up = 0; down = 0 })
unfolding number
end-none = record { alone = refl; in_order = refl; up = refl; down = refl }

some-of : (m e : Bool) (t tens : Tens) → (if m then (if e then Some t else None) else None) ≡ Some tens → (m ≡ true) × (e ≡ true) × (t ≡ tens)
some-of true true t tens h = (refl, refl, cc)
some-of true false t tens h = absurd cc
some-of false e t tens h = absurd cc

none-of : (m e : Bool) (t : Tens) → (if m then (if e then Some t else None) else None) ≡ None → m ≡ true → e ≡ false
none-of true true t h k = absurd cc
none-of true false t h k = refl
none-of false e t h k = absurd cc

IsEnd-from_end_of : (rest : List ℕ) (tens : Tens) → end_of rest ≡ Some tens → IsEnd rest tens
IsEnd-from_end_of [] tens e =
    let none : Tens = record { up = 0; down = 0 } in
    let same : none ≡ tens = cc in
    subst (λ (t : Tens). IsEnd [] t) same end-none
IsEnd-from_end_of (x ∷ text) tens e =
    let parts = some-of (is_exponent_mark x) (is_exponent text) (record { up = tens_up text; down = tens_down text }) tens e in
    subst (λ (t : Tens). IsEnd (x ∷ text) t) parts.2 (end-marked x text parts.0 parts.1)

pub and-false : (b : Bool) → (b && false) ≡ false
and-false true = refl
and-false false = refl

junk : (text : List ℕ) (b : Bool) → list_all is_digit text ≡ false → (are_digits text && b) ≡ false
junk text b h = rw (h, and-false) refl

pub quantity-no_end : (u w f rest : List ℕ) → IsSplit u w f rest → end_of rest ≡ None → is_unsigned_quantity u ≡ false
quantity-no_end u w f [] s e = absurd cc
quantity-no_end u w f (x ∷ text) s e =
    elim (is_exponent_mark x) as (λ m. is_exponent_mark x ≡ m → is_unsigned_quantity u ≡ false) [
      | true ↦ λ m.
          let there : has_exponent u ≡ true = has_exponent-split u w f (x ∷ text) s ∙ passes-here is_exponent_mark x text m in
          let last : exponent u ≡ text = exponent-split u w f (x ∷ text) s ∙ after_first-here is_exponent_mark x text m in
          let wrong : is_exponent text ≡ false = none-of (is_exponent_mark x) (is_exponent text) (record { up = tens_up text; down = tens_down text }) e m in
          ap (λ (b : Bool). are_digits (digits_of u) && (not b || is_exponent (exponent u))) there
          ∙ ap (λ (t : List ℕ). are_digits (digits_of u) && is_exponent t) last
          ∙ ap (λ (b : Bool). are_digits (digits_of u) && b) wrong ∙ and-false (are_digits (digits_of u))
      | false ↦ λ m. junk (digits_of u) (not (has_exponent u) || is_exponent (exponent u)) (digits_of-junk u w f text x s m)
    ] refl

-- what a text spells that was split before its end
pub quantity-split : (u w f rest : List ℕ) (tens : Tens) → IsSplit u w f rest → end_of rest ≡ Some tens
    → (is_unsigned_quantity u ≡ not (length (w ++ f) == 0)) × (numerator u ≡ number (w ++ f) * 10 ^ tens.up) × (denominator u ≡ 10 ^ (length f + tens.down))
quantity-split u w f rest tens s e =
    let ends : IsEnd rest tens = IsEnd-from_end_of rest tens e in
    let whole : whole_part (mantissa u) ≡ w = whole_part-split u w f rest s ends.alone in
    let fraction : fraction_part (mantissa u) ≡ f = fraction_part-split u w f rest s ends.alone in
    let digits : digits_of u ≡ w ++ f = ap (λ (t : List ℕ). t ++ fraction_part (mantissa u)) whole ∙ ap (λ (t : List ℕ). w ++ t) fraction in
    let there : has_exponent u ≡ has_exponent rest = has_exponent-split u w f rest s in
    let last : exponent u ≡ exponent rest = exponent-split u w f rest s in
    let all : list_all is_digit (w ++ f) ≡ true = list_all-append is_digit w f ∙ ap (λ (b : Bool). b && list_all is_digit f) s.whole_digits ∙ s.fraction_digits in (
      form (digits_of u) (w ++ f) (has_exponent u) (has_exponent rest) (exponent u) (exponent rest) digits there last all ends.in_order,
      rw (digits, last, ends.up) refl,
      rw (fraction, last, ends.down) refl,
    )
  where
    form : (d d' : List ℕ) (h h' : Bool) (x x' : List ℕ) → d ≡ d' → h ≡ h' → x ≡ x' → list_all is_digit d' ≡ true → (not h' || is_exponent x') ≡ true
        → (are_digits d && (not h || is_exponent x)) ≡ not (length d' == 0)
    form d d' h h' x x' p q r a b = rw (p, q, r, a, b) (grind arith)

-- the value of a quantity, from its parts
pub read-value : (k : ℕ) (minus minus' : Bool) (v u : List ℕ) (over under : ℕ) → nat_le k MOST_BYTES ≡ true → minus ≡ minus' → v ≡ u
    → is_unsigned_quantity u ≡ true → numerator u ≡ over → denominator u ≡ under
    → (if nat_le k MOST_BYTES && is_unsigned_quantity v then thousandths minus (numerator v) (denominator v) else Err NotNumber) ≡ thousandths minus' over under
read-value k minus minus' v u over under fits sign same form a b = rw (fits, sign, same, form, a, b) refl

pub ruleset splits = (list_all-joined, is_identifier-joined, whole_part-joined, quantity-no_end)
