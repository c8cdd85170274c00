use Rattle.std.proofs.Common.{◌≡◌, ◌<◌, ◌++◌, true, false, length, arith, sym, ◌∙◌, length-append, ◌⊎◌, inl, inr}
use Rattle.std.specs.Prelude.{◌==◌}
use Rattle.fixed_units.specs.Quantity.{number}
use Rattle.fixed_units.proofs.Scales.{value-below, value-above}
use Rattle.fixed_units.proofs.Splits.{quantity-split}
use Rattle.fixed_units.proofs.quantity.unsigned_quantity.Goals as goal
use Rattle.fixed_units.proofs.quantity.unsigned_quantity.Goals.{else-minus-via-then-minus+else-not-is_zero, else-minus-via-else-minus}

pub returns-then-not-is_zero : goal.returns-then-not-is_zero
returns-then-not-is_zero c =
    let w = c.read_decimal-decimal.result.whole.now in
    let f = c.read_decimal-decimal.result.fraction.now in
    let read = quantity-split _ w f _ c.in-Some.tens c.read_decimal-decimal.ensures.split (sym c.in-Some.ensures.value) in
    let len : 0 < length (w ++ f) = rw (length-append w f) (omega arith) in
    let some : (number (w ++ f) == 0) ≡ false
    = sym (c.is_zero.ensures _ c.read_decimal-decimal.ensures.leading) ∙ c.if-not-is_zero.true in
    value-below _ _ _ _ _ _ _ read.0 len read.1 c.if-minus.true some

pub returns : goal.returns
returns c =
    let w = c.read_decimal-decimal.result.whole.now in
    let f = c.read_decimal-decimal.result.fraction.now in
    let read = quantity-split _ w f _ c.in-Some.tens c.read_decimal-decimal.ensures.split (sym c.in-Some.ensures.value) in
    let len : 0 < length (w ++ f) = rw (length-append w f) (omega arith) in
    let sign : (c.args.minus ≡ false) ⊎ ((number (w ++ f) == 0) ≡ true)
    = elim c.else-minus.branch [
      | else-minus-via-then-minus+else-not-is_zero b ↦
          inr (sym (b.is_zero.ensures _ c.read_decimal-decimal.ensures.leading) ∙ b.if-not-is_zero.false)
      | else-minus-via-else-minus b ↦ inl b.if-minus.false
    ] in
    c.scaled.ensures _ c.read_decimal-decimal.ensures.leading ∙ value-above _ _ _ _ _ _ _ _ read.0 len read.1 read.2 sign
