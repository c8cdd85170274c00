-- The names of the files.
use Rattle.std.specs.Prelude.{ℕ, List, [], codes, Option, None, Some}
use Rattle.desk_io.specs.declared.desk.Table.{Table}
use Rattle.desk_io.specs.declared.desk.Table.TheVariants.{Node, Link, Movement, Demand}
use Rattle.desk_io.specs.declared.desk.Table.TheVariants.{Start, Times}
use Rattle.desk_io.specs.declared.desk.Output.{Output}
use Rattle.desk_io.specs.declared.desk.Output.TheVariants.{Agent, LinkTime, OriginWait, Gap}
use Rattle.desk_io.specs.declared.desk.Output.TheVariants.{Report, Watch, Skim, Counts, Sweep}

-- the file of a table
abbrev pub table_file : Table → List ℕ
table_file Node = codes "node.csv"
table_file Link = codes "link.csv"
table_file Movement = codes "movement.csv"
table_file Demand = codes "demand.csv"
table_file Start = codes "start.csv"
table_file Times = codes "times.csv"

-- the file of an output: Report and Watch have streams
abbrev pub output_name : Output → List ℕ
output_name Agent = codes "agent.csv"
output_name LinkTime = codes "link_performance.csv"
output_name OriginWait = codes "origin_wait.csv"
output_name Gap = codes "gap.csv"
output_name Report = []
output_name Watch = []
output_name Skim = codes "skim.csv"
output_name Counts = codes "counts.csv"
output_name Sweep = codes "sweep.txt"

-- an output that goes to a file
abbrev pub output_file : Output → Option (List ℕ)
output_file Report = None
output_file Watch = None
output_file output = Some (output_name output)
