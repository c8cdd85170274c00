-- Where the tables of a command are read: at the desk, or for a demonstration of its grid.
use Rattle.std.specs.Prelude.{ℕ, ◌≡◌, Bool, List, [], unwrap_or}
use Rattle.desk_io.specs.declared.desk.Table.{Table}
use Rattle.desk_io.specs.Desk.{Left, left_of}
use Rattle.desk_io.specs.MemDesk.{all_left}
use Rattle.desk_io.specs.State.{DeskState}
use Rattle.grid_maker.specs.Grid.{node_text, link_text, demand_text}
use Rattle.dta_words.specs.declared.command.Command.{Command}
use Rattle.dta_words.specs.declared.command.Command.TheVariants as command
use Rattle.jobs.specs.Inputs.{tables_of}

-- what is left of the tables, and how many reads failed
pub record ReadState : Type 0 where
  pub left : Left
  pub read_faults : ℕ

abbrev pub reads_at : DeskState → ReadState
reads_at desk = record { left = desk.left; read_faults = desk.read_faults }

-- the tables of a grid, which has no movement table
abbrev pub grid_left : ℕ → Left
grid_left n = all_left (node_text n) (link_text n) [] (demand_text n)

-- the tables of a command were read as far as this says: those of the desk. A demonstration reads
-- those of its grid, of which no read fails, and nothing of the desk
abbrev pub Reading :
    Command → (ReadState → ReadState → Type 0) → ReadState → ReadState → Type 0
Reading (command.Demo n) Part before after =
    (after ≡ before) × (rest : Left)
    × Part (record { left = grid_left n; read_faults = 0 })
    (record { left = rest; read_faults = 0 })
Reading c Part before after = Part before after

-- the tables that are read at the desk
abbrev pub read_tables : Command → (start : Bool) → List Table
read_tables (command.Demo n) start = []
read_tables c start = tables_of c start

-- the texts of the tables, where those of the desk are these
abbrev pub texts_for : Command → (Table → List ℕ) → Table → List ℕ
texts_for (command.Demo n) texts = λ t. unwrap_or (left_of t (grid_left n)) []
texts_for c texts = texts
