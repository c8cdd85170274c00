-- What is left to each zone of a group, in 16 bits, in 32 or in 64.
use Rattle.std.specs.Prelude.{ℕ, map, length, get_or}
use Rattle.labels.specs.Filling.Labels.{far}
use Rattle.labels.specs.Filling.SlotForms.{eight_slot, four_slot, left_in, one_slot}
use Rattle.labels.specs.declared.filling.no_walk.TheConstants.{SHORT_FAR, NARROW_FAR}
use Rattle.labels.specs.declared.filling.one.One.{One}
use Rattle.labels.specs.declared.filling.table_forms.SlotTable.{SlotTable}
use Rattle.labels.specs.declared.filling.label_table.LabelTable.{LabelTable}
use Rattle.labels.specs.declared.filling.label_table.LabelTable.TheVariants as table

-- how many states there are
abbrev pub states_in : LabelTable → ℕ
states_in (table.Short slots) = slots.states
states_in (table.Narrow slots) = slots.states
states_in (table.Wide tables) = tables.states

-- how many zones have a place
abbrev pub places : LabelTable → ℕ
places (table.Short slots) = 8
places (table.Narrow slots) = 4
places (table.Wide tables) = length tables.zones.items

-- what is left to the zone of a table of its own
abbrev pub left_alone : SlotTable One → ℕ → ℕ → ℕ
left_alone table = left_in one_slot far table 0

-- what is left from a state at a step to the zone at a place
abbrev pub rests : LabelTable → ℕ → ℕ → ℕ → ℕ
rests (table.Short slots) place = left_in eight_slot SHORT_FAR slots place
rests (table.Narrow slots) place = left_in four_slot NARROW_FAR slots place
rests (table.Wide tables) place =
    get_or (map left_alone tables.zones.items) place (λ s e. far)
