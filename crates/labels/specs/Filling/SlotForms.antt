-- The label of a slot in each form, and what tables of slots tell.
use Rattle.std.specs.Prelude.{ℕ, slice_index}
use Rattle.labels.specs.Filling.Labels.{in_slot, rest_in}
use Rattle.labels.specs.Filling.Tails.{widened}
use Rattle.labels.specs.declared.filling.eight.Eight.{Eight}
use Rattle.labels.specs.declared.filling.four.Four.{Four}
use Rattle.labels.specs.declared.filling.one.One.{One}
use Rattle.labels.specs.declared.filling.table_forms.SlotTable.{SlotTable}

-- the label of a slot of eight, of four, and of one
abbrev pub eight_slot : Eight → ℕ → ℕ
eight_slot x j = slice_index x.labels j

abbrev pub four_slot : Four → ℕ → ℕ
four_slot x j = slice_index x.labels j

abbrev pub one_slot : One → ℕ → ℕ
one_slot x j = x.label

-- what is left by a table, in one of its slots
abbrev pub left_in : {S : Type 0} → (S → ℕ → ℕ) → ℕ → SlotTable S → ℕ → ℕ → ℕ → ℕ
left_in slot beyond table j s e = widened beyond
    (rest_in table.states table.horizon (in_slot slot table.labels.items j) s e)
