-- The numbers of fields that were accepted are in range.
use Rattle.std.proofs.Common.{◌≡◌, ◌≤◌, ◌<◌, ◌*◌, ◌+◌, ℕ, Bool, true, false, List, [], ◌∷◌, ◌++◌, length, map, refl, ap₂, sym, ◌∙◌, subst}
use Rattle.std.proofs.Common.{arith, inl, inr, min, max, nat_eq, ◌&&◌, mul-le-mul}
use Rattle.std.specs.Prelude.{Option, None, Some, Result, Ok, Err, IfSome, is_some, position}
use Rattle.std.specs.Cmp.{IsEquivalence, nat_eq_equiv}
use Rattle.std.specs.List.{IsDistinct}
use Rattle.std.proofs.lemmas.Bool.{and_parts, cases_lt}
use Rattle.std.proofs.lemmas.Grind.{div_ceil_times}
use Rattle.std.proofs.lemmas.List.{map_push}
use Rattle.std.proofs.lemmas.Map.Keys.{IsDistinct-push}
use Rattle.fixed_units.specs.Quantity.{milli_of}
use Rattle.fixed_units.specs.declared.quantity.TheConstants.{MOST_THOUSANDTHS}
use Rattle.fixed_units.specs.declared.turn.TheConstants.{MOST_PENALTY, MOST_PENALTY_STEPS}
use Rattle.fixed_units.specs.Units.{penalty_steps_of}
use Rattle.row_reader.specs.Fields.{numbered, option_of, optional_quantity, quantity_or}
use Rattle.row_reader.specs.declared.faults.Column.{Column}
use Rattle.row_reader.specs.declared.faults.Complaint.{Complaint}
use Rattle.demand.proofs.DemandFacts.{milli-below, numbered-ok}
use Rattle.net_core.specs.Ids.{pair_eq}
use Rattle.net_core.proofs.IdsFacts.{is_some-position}
use Rattle.row_reader.proofs.Kept.{same_Ok}

-- ---- numbers

pub quantity_or-below : (default : ℕ) (what : Column) (text : List ℕ) (n : ℕ) → default ≤ MOST_THOUSANDTHS → quantity_or default what text ≡ Ok n → n ≤ MOST_THOUSANDTHS
unfolding quantity_or
quantity_or-below default what text n small e = elim (nat_eq (length text) 0) as (λ b. nat_eq (length text) 0 ≡ b → n ≤ MOST_THOUSANDTHS) [
  | true ↦ λ none. subst (λ k. k ≤ MOST_THOUSANDTHS) (same_Ok default n (rw none at e)) small
  | false ↦ λ some. milli-below text n (numbered-ok what (milli_of text) n (rw some at e))
] refl

option_of-below : (what : Column) (r : Result ℕ Complaint) (o : Option ℕ) → ((n : ℕ) → r ≡ Ok n → n ≤ MOST_THOUSANDTHS) → option_of r ≡ Ok o → IfSome o (λ n. n ≤ MOST_THOUSANDTHS)
option_of-below what (Ok n) o below e = subst (λ o. IfSome o (λ n. n ≤ MOST_THOUSANDTHS)) (same_Ok (Some n) o e) (below n refl)
option_of-below what (Err c) o below e = absurd cc

pub optional-below : (what : Column) (text : List ℕ) (o : Option ℕ) → optional_quantity what text ≡ Ok o → IfSome o (λ n. n ≤ MOST_THOUSANDTHS)
unfolding optional_quantity
optional-below what text o e = elim (nat_eq (length text) 0) as (λ b. nat_eq (length text) 0 ≡ b → IfSome o (λ n. n ≤ MOST_THOUSANDTHS)) [
  | true ↦ λ none. subst (λ o. IfSome o (λ n. n ≤ MOST_THOUSANDTHS)) (same_Ok None o (rw none at e)) tt
  | false ↦ λ some. option_of-below what (numbered what (milli_of text)) o (λ n k. milli-below text n (numbered-ok what (milli_of text) n k)) (rw some at e)
] refl

-- ---- steps, vehicles and rates

pub stored : (most vehicles : ℕ) → 1 ≤ most → (1 ≤ min most (max 1 vehicles)) × (min most (max 1 vehicles) ≤ most)
stored most vehicles some = (omega arith, omega arith)

pub rate-below : (capacity factor : ℕ) → capacity ≤ 1000000000000 → factor ≤ 100000 → capacity * factor ≤ 100000000000000000
rate-below capacity factor few small = mul-le-mul few small

steps-below : (d steps penalty : ℕ) → penalty ≤ MOST_PENALTY → 1000 ≤ d → steps * d < penalty + d → steps ≤ MOST_PENALTY_STEPS
steps-below d steps penalty few least below = elim (cases_lt MOST_PENALTY_STEPS steps) [
  | inl more ↦ absurd (let k : 36001 * d ≤ steps * d = mul-le-mul more (omega arith) in omega arith)
  | inr h ↦ h
]

pub penalty-below : (penalty delta : ℕ) → penalty ≤ MOST_PENALTY → 1 ≤ delta → penalty_steps_of penalty delta ≤ MOST_PENALTY_STEPS
penalty-below penalty delta few some =
    let least : 1000 ≤ 1000 * delta = omega arith in
    steps-below (1000 * delta) (penalty_steps_of penalty delta) penalty few least (div_ceil_times penalty (1000 * delta) (omega arith)).1

-- ---- identifiers that differ

pub pair_eq_equiv : IsEquivalence pair_eq
pair_eq_equiv = record {
  refl = λ x. ap₂ ◌&&◌ (nat_eq_equiv.refl x.0) (nat_eq_equiv.refl x.1);
  symm = λ x y. ap₂ ◌&&◌ (nat_eq_equiv.symm x.0 y.0) (nat_eq_equiv.symm x.1 y.1);
  congr = λ x y z e.
      let parts = and_parts _ _ e in
      ap₂ ◌&&◌ (nat_eq_equiv.congr x.0 y.0 z.0 parts.0) (nat_eq_equiv.congr x.1 y.1 z.1 parts.1);
}

-- one more row whose key no row before has
pub fresh : {K R : Type 0} {eq : K → K → Bool} → IsEquivalence eq → (key : R → K) (before : List R) (row : R) → IsDistinct eq (map key before)
    → is_some (position (eq (key row)) (map key before)) ≡ false → IsDistinct eq (map key (before ++ row ∷ []))
fresh {eq = eq} laws key before row distinct new =
    subst (IsDistinct eq) (sym (map_push key before row))
    (IsDistinct-push laws (map key before) (key row) distinct (sym (is_some-position (eq (key row)) (map key before)) ∙ new))
