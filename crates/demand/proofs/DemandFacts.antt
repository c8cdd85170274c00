-- The rows of a demand table are in range.
use Rattle.std.proofs.Common.{◌≡◌, ℕ, zero, suc, ◌+◌, ◌-◌, ◌*◌, ◌/◌, ◌<◌, ◌≤◌, true, false, List, [], ◌∷◌, ◌++◌, length, length-append, refl, ap, ◌∙◌, subst, arith, nat_eq, nat_le, ◌&&◌}
use Rattle.std.specs.Prelude.{Result, Ok, Err}
use Rattle.std.specs.List.{range_with_len}
use Rattle.std.proofs.lemmas.Bool.{and_parts, leb-true}
use Rattle.std.proofs.lemmas.List.{map_push}
use Rattle.std.proofs.lemmas.List.Elements.{All-nil, All-push}
use Rattle.desk_io.specs.declared.desk.Table.TheVariants as table
use Rattle.fixed_units.specs.Quantity.{is_quantity, milli_of, numerator, denominator, unsigned}
use Rattle.fixed_units.specs.Quantity.{within as within_limit}
use Rattle.fixed_units.specs.declared.fault.NumberFault.{NumberFault}
use Rattle.fixed_units.specs.declared.quantity.TheConstants.{MOST_THOUSANDTHS}
use Rattle.row_reader.specs.Columns.{text}
use Rattle.row_reader.specs.Fields.{identifier, numbered, quantity, within}
use Rattle.row_reader.specs.Records.{Record}
use Rattle.row_reader.specs.Rows.{FieldsView}
use Rattle.row_reader.specs.declared.faults.Column.{Column}
use Rattle.row_reader.specs.declared.faults.Column.TheVariants as column
use Rattle.row_reader.proofs.Kept.{chosen, kept, next_ok, otherwise, same_Ok}
use Rattle.dta_model.specs.Release.{HaveWindows}
use Rattle.dta_model.specs.declared.trip.DemandCell.{DemandCell}
use Rattle.demand.specs.DemandRows.{AreDemandCells, demand_cell_of, demand_columns, demand_verdict, step_or}
use Rattle.demand.specs.declared.demand_rows.TheConstants.{MOST_DEMAND_CELLS}

-- ---- numbers

pub within-limit : (limit value n : ℕ) → within_limit limit value ≡ Ok n → n ≤ limit
within-limit limit value n e =
    let is = chosen (nat_le value limit) (Ok value) _ n e in
    subst (λ k. k ≤ limit) (same_Ok value n is.1) (leb-true value limit is.0)

pub milli-below : (text : List ℕ) (n : ℕ) → milli_of text ≡ Ok n → n ≤ MOST_THOUSANDTHS
milli-below text n e =
    let form = chosen (is_quantity text) _ _ n e in
    let sign = otherwise _ _ _ n form.1 in
    within-limit MOST_THOUSANDTHS (1000 * numerator (unsigned text) / denominator (unsigned text)) n sign.1

pub numbered-ok : (what : Column) (r : Result ℕ NumberFault) (n : ℕ) → numbered what r ≡ Ok n → r ≡ Ok n
numbered-ok what (Ok k) n e = ap Ok (same_Ok k n e)
numbered-ok what (Err fault) n e = absurd cc

pub quantity-below : (what : Column) (text : List ℕ) (n : ℕ) → quantity what text ≡ Ok n → n ≤ MOST_THOUSANDTHS
unfolding quantity
quantity-below what text n e = milli-below text n (numbered-ok what (milli_of text) n (otherwise _ _ _ n e).1)

pub within-high : (what : Column) (low high n k : ℕ) → within what low high n ≡ Ok k → k ≤ high
within-high what low high n k e =
    let is = chosen (nat_le low n && nat_le n high) (Ok n) _ k e in
    subst (λ k. k ≤ high) (same_Ok n k is.1) (leb-true n high (and_parts _ _ is.0).1)

within-low : (what : Column) (low high n k : ℕ) → within what low high n ≡ Ok k → low ≤ k
within-low what low high n k e =
    let is = chosen (nat_le low n && nat_le n high) (Ok n) _ k e in
    subst (λ k. low ≤ k) (same_Ok n k is.1) (leb-true low n (and_parts _ _ is.0).0)

-- a step that was read, or the one in its place, lies within the bounds
step-within : (default : ℕ) (what : Column) (low high : ℕ) (text : List ℕ) (step : ℕ) → low ≤ default → default ≤ high
    → step_or default what low high text ≡ Ok step → (low ≤ step) × (step ≤ high)
unfolding step_or
step-within default what low high text step least most e = elim (nat_eq (length text) 0) as (λ b. nat_eq (length text) 0 ≡ b → (low ≤ step) × (step ≤ high)) [
  | true ↦ λ none. subst (λ k. (low ≤ k) × (k ≤ high)) (same_Ok default step (rw none at e)) (least, most)
  | false ↦ λ some. next_ok (identifier what text) (within what low high) step (rw some at e) (λ n _ is.
      (within-low what low high n step is, within-high what low high n step is))
] refl

-- ---- demand cells

one-number-more : (n a b : ℕ) → a + n ≡ b → range_with_len a n ++ b ∷ [] ≡ range_with_len a (suc n)
one-number-more zero a b e = let same : a ≡ b = omega arith in rw same refl
one-number-more (suc n) a b e = ap (λ l. a ∷ l) (one-number-more n (a + 1) b (omega arith))

one-cell-more : (period : ℕ) (cells : List DemandCell) (cell : DemandCell) → AreDemandCells period cells → length cells < MOST_DEMAND_CELLS → cell.line ≡ length cells + 2
    → cell.volume ≤ MOST_THOUSANDTHS → cell.from < cell.to → cell.to ≤ period → AreDemandCells period (cells ++ cell ∷ [])
one-cell-more period cells cell are room line volume some within =
    let more : length (cells ++ cell ∷ []) ≡ suc (length cells) = omega (arith, length-append cells (cell ∷ [])) in
    let below : 2 + length cells ≡ cell.line = omega arith in
    record {
      few = omega arith;
      volumes = All-push (λ c. c.volume ≤ MOST_THOUSANDTHS) cells cell are.volumes volume;
      lines = rw more (map_push (λ (c : DemandCell). c.line) cells cell ∙ ap (λ l. l ++ cell.line ∷ []) are.lines
          ∙ one-number-more (length cells) 2 cell.line below);
      windows = record {
        some = All-push (λ c. c.from < c.to) cells cell are.windows.some some;
        within = All-push (λ c. c.to ≤ period) cells cell are.windows.within within;
      };
    }

cell-more : (period : ℕ) → 1 ≤ period → (before : List DemandCell) (r : FieldsView) (cell : DemandCell) → demand_cell_of period before r ≡ Ok cell
    → length before < MOST_DEMAND_CELLS → AreDemandCells period before → AreDemandCells period (before ++ cell ∷ [])
unfolding demand_cell_of
cell-more period lasts before r cell e room are =
    next_ok (identifier column.OZoneId (text r column.OZoneId)) _ cell e (λ origin _ e1.
    next_ok (identifier column.DZoneId (text r column.DZoneId)) _ cell e1 (λ destination _ e2.
    next_ok (quantity column.Volume (text r column.Volume)) _ cell e2 (λ volume volume-is e3.
    next_ok (step_or 0 column.FromStep 0 (period - 1) (text r column.FromStep)) _ cell e3 (λ from from-is e4.
    next_ok (step_or period column.ToStep (from + 1) period (text r column.ToStep)) _ cell e4 (λ to to-is e5.
    let begun = step-within 0 column.FromStep 0 (period - 1) (text r column.FromStep) from (omega arith) (omega arith) from-is in
    let past = begun.1 in
    let ended = step-within period column.ToStep (from + 1) period (text r column.ToStep) to (omega (arith, past, lasts)) (omega arith) to-is in
    let some = ended.0 in
    subst (λ (c : DemandCell). AreDemandCells period (before ++ c ∷ [])) (same_Ok _ _ e5)
    (one-cell-more period before (record { line = length before + 2; origin = origin; destination = destination; volume = volume; from = from; to = to }) are room refl
    (quantity-below column.Volume (text r column.Volume) volume volume-is) (omega (arith, some)) ended.1))))))

pub no-windows : (period : ℕ) → HaveWindows period []
no-windows period = record { some = All-nil _; within = All-nil _ }

pub no-cells : (period : ℕ) → AreDemandCells period []
no-cells period = record { few = omega arith; volumes = All-nil _; lines = refl; windows = no-windows period }

pub are-cells : (period : ℕ) → 1 ≤ period → (all : List Record) (cells : List DemandCell) → demand_verdict period all ≡ Ok cells → AreDemandCells period cells
are-cells period lasts all cells e = kept (AreDemandCells period) table.Demand MOST_DEMAND_CELLS demand_columns (demand_cell_of period) (cell-more period lasts) all cells e (no-cells period)
