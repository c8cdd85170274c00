-- Small worked cases of what is asked, of tables that rows tell, of walks over them, of times
-- tables that are read, and of the texts of a skim.
use Rattle.std.specs.Prelude.{◌≡◌, ℕ, List, [], ◌∷◌, ◌++◌, None, Some, Result, Ok, Err, codes, refl}
use Rattle.std.specs.Fmt.{digits}
use Rattle.desk_io.specs.declared.desk.Table.TheVariants as table
use Rattle.row_reader.specs.Records.{records}
use Rattle.row_reader.specs.declared.faults.Code.{Code}
use Rattle.row_reader.specs.declared.faults.Code.TheVariants as code
use Rattle.row_reader.specs.declared.faults.Column.{Column}
use Rattle.row_reader.specs.declared.faults.Column.TheVariants as column
use Rattle.row_reader.specs.declared.faults.TableFault.{TableFault}
use Rattle.net_core.specs.Examples.{link, node}
use Rattle.net_core.specs.Network.{zones, turn, turn_at, is_named}
use Rattle.net_core.specs.Rows.{link_in}
use Rattle.net_core.specs.declared.rows.NetRows.{NetRows}
use Rattle.dta_model.specs.LinkTimes.{time_at}
use Rattle.dta_model.specs.TimedWalks.{arrival_after, walk_time}
use Rattle.skims.specs.GivenTimes.{table_given}
use Rattle.skims.specs.OnLiterals.{times_on_literals}
use Rattle.skims.specs.Questions.{Question, questions}
use Rattle.skims.specs.Texts.{entry_line, skim_header, skim_report_lines, skim_report_text}
use Rattle.skims.specs.Texts.{skim_text}
use Rattle.skims.specs.TimesTable.{times_verdict, wanted_after}
use Rattle.skims.specs.declared.skim_entry.SkimEntry.{SkimEntry}
use Rattle.skims.specs.declared.time_rows.TimeRow.{TimeRow}
use Rattle.skims.specs.declared.times_table.TheConstants.{MOST_TIME_ROWS, MOST_TRAVEL_STEPS}

abbrev ask : ℕ → ℕ → ℕ → Question
ask o d start = record { origin = o; destination = d; start = start }

-- ---- two zones and two starts
two_zones :
    questions (1 ∷ 3 ∷ []) (0 ∷ 55 ∷ [])
    ≡ ask 1 3 0 ∷ ask 1 3 55 ∷ ask 3 1 0 ∷ ask 3 1 55 ∷ []
two_zones = refl

-- by first appearance, not by value; a start that is given twice is asked for twice
by_appearance :
    questions (7 ∷ 5 ∷ 6 ∷ []) (9 ∷ [])
    ≡ ask 7 5 9 ∷ ask 7 6 9 ∷ ask 5 7 9 ∷ ask 5 6 9 ∷ ask 6 7 9 ∷ ask 6 5 9 ∷ []
by_appearance = refl

start_twice :
    questions (1 ∷ 3 ∷ []) (4 ∷ 4 ∷ [])
    ≡ ask 1 3 4 ∷ ask 1 3 4 ∷ ask 3 1 4 ∷ ask 3 1 4 ∷ []
start_twice = refl

one_zone_alone : questions (1 ∷ []) (0 ∷ 55 ∷ []) ≡ []
one_zone_alone = refl

no_starts : questions (1 ∷ 3 ∷ []) [] ≡ []
no_starts = refl

-- ---- two links in a line, with buckets of 50 steps up to step 60
abbrev in_a_line : NetRows
in_a_line = record {
  nodes = node 1 (Some 1) ∷ node 2 None ∷ node 3 (Some 3) ∷ [];
  links = link 10 0 1 ∷ link 20 1 2 ∷ [];
  turns = [];
  link_windows = [];
  turn_windows = [];
}

abbrev row : ℕ → ℕ → TimeRow
row entered travel = record { entered = entered; travel = travel }

-- free flow, and where the second link takes nobody: the first takes 45 steps up to step 50
abbrev free_flow : List TimeRow
free_flow = row 3 10 ∷ row 0 10 ∷ row 3 10 ∷ row 0 10 ∷ []

abbrev without_capacity : List TimeRow
without_capacity = row 3 45 ∷ row 0 10 ∷ row 0 10 ∷ row 0 10 ∷ []

given : table_given in_a_line 50 60 without_capacity ≡ record {
  bucket = 50;
  horizon = 60;
  free = 10 ∷ 10 ∷ [];
  times = 45 ∷ 10 ∷ 10 ∷ 10 ∷ [];
  entered = 0 ∷ 0 ∷ 0 ∷ 0 ∷ [];
}
given = refl

zones_in_a_line : zones in_a_line.nodes ≡ 1 ∷ 3 ∷ []
unfolding zones
zones_in_a_line = refl

-- the time of the one walk from zone 1 to zone 3
abbrev steps_in : List TimeRow → ℕ → ℕ
steps_in rows start =
    walk_time (time_at (table_given in_a_line 50 60 rows)) in_a_line start (0 ∷ 1 ∷ [])

in_free_flow : (steps_in free_flow 0 ≡ 20) × (steps_in free_flow 55 ≡ 20)
unfolding arrival_after time_at turn turn_at is_named link_in
in_free_flow = (refl, refl)

past_the_queue : (steps_in without_capacity 0 ≡ 55) × (steps_in without_capacity 50 ≡ 20)
unfolding arrival_after time_at turn turn_at is_named link_in
past_the_queue = (refl, refl)

-- ---- what rows have to tell: the second link's last bucket is cut short by the horizon, and
-- there is no fifth row
fourth_row : wanted_after in_a_line 50 60 3
    ≡ Some (record { link = 20; from = 50; to = 60; free = 10 })
fourth_row = refl

no_fifth_row : wanted_after in_a_line 50 60 4 ≡ None
no_fifth_row = refl

-- ---- times tables, of their lines below the header
abbrev header : List ℕ
header = codes "link_id,from_step,to_step,entered,travel_steps,free_steps\n"

abbrev told : List ℕ → Result (List TimeRow) TableFault
told lines = times_verdict in_a_line 50 60 (records (header ++ lines))

-- a table that has this fault
refused : ℕ → Code → Column → Result (List TimeRow) TableFault
refused line why what =
    Err (record { table = table.Times; line = line; code = why; column = what })

abbrev first_link : List ℕ
first_link = codes "10,0,50,3,10,10\n10,50,60,0,10,10\n"

whole_table : told (first_link ++ codes "20,0,50,3,10,10\n20,50,60,0,10,10\n") ≡ Ok free_flow
unfolding times_on_literals
whole_table = refl

-- a row of another link, of another bucket, or with other free-flow steps; columns are looked at
-- from the first on
wrong_link : told (codes "20,0,50,3,10,10\n") ≡ refused 2 code.E13 column.LinkId
unfolding times_on_literals refused
wrong_link = refl

wrong_first_step : told (codes "10,50,60,3,0,1\n") ≡ refused 2 code.E13 column.FromStep
unfolding times_on_literals refused
wrong_first_step = refl

wrong_last_step : told (codes "10,0,60,3,10,10\n") ≡ refused 2 code.E13 column.ToStep
unfolding times_on_literals refused
wrong_last_step = refl

wrong_free_steps : told (codes "10,0,50,3,10,11\n") ≡ refused 2 code.E13 column.FreeSteps
unfolding times_on_literals refused
wrong_free_steps = refl

-- with a horizon of 61 the second bucket ends at 61
other_horizon : times_verdict in_a_line 50 61 (records (header ++ first_link))
    ≡ refused 3 code.E13 column.ToStep
unfolding times_on_literals refused
other_horizon = refl

-- no link has the identifier, or the field tells none
unknown_link : told (codes "30,0,50,3,10,10\n") ≡ refused 2 code.E8 column.LinkId
unfolding times_on_literals refused
unknown_link = refl

no_identifier : told (codes ",0,50,3,10,10\n") ≡ refused 2 code.E3 column.LinkId
unfolding times_on_literals refused
no_identifier = refl

-- a link takes one step at least
no_steps : told (codes "10,0,50,3,0,10\n") ≡ refused 2 code.E5 column.TravelSteps
unfolding times_on_literals refused
no_steps = refl

too_many_steps : told (codes "10,0,50,3,4294967296,10\n") ≡ refused 2 code.E5 column.TravelSteps
unfolding times_on_literals refused
too_many_steps = refl

-- one row too many: what is wrong with its identifier comes first
one_row_more : told (first_link ++ codes "20,0,50,3,10,10\n20,50,60,0,10,10\n20,100,150,0,10,10\n")
    ≡ refused 6 code.E13 column.LinkId
unfolding times_on_literals refused
one_row_more = refl

one_row_more_of_no_link :
    told (first_link ++ codes "20,0,50,3,10,10\n20,50,60,0,10,10\n30,0,50,0,10,10\n")
    ≡ refused 6 code.E8 column.LinkId
unfolding times_on_literals refused
one_row_more_of_no_link = refl

-- missing rows are told at the line after the last record
one_row_missing : told (first_link ++ codes "20,0,50,3,10,10\n")
    ≡ refused 5 code.E13 column.NoColumn
unfolding times_on_literals refused
one_row_missing = refl

header_alone : told [] ≡ refused 2 code.E13 column.NoColumn
unfolding times_on_literals refused
header_alone = refl

-- a table of no records lacks its first column
no_table : times_verdict in_a_line 50 60 [] ≡ refused 1 code.E1 column.LinkId
unfolding times_on_literals refused
no_table = refl

most_rows : MOST_TIME_ROWS ≡ 67108864
most_rows = refl

most_steps : MOST_TRAVEL_STEPS ≡ 4294967295
most_steps = refl

-- ---- the texts of a skim: one pair of zones has a walk, and the other has none
abbrev two_entries : List SkimEntry
two_entries =
    record { origin = 1; destination = 3; start = 0; least = Some 20 }
    ∷ record { origin = 3; destination = 1; start = 0; least = None } ∷ []

skim_of_two : skim_text two_entries
    ≡ codes "o_zone_id,d_zone_id,start_step,least_steps\n1,3,0,20\n3,1,0,\n"
unfolding digits skim_text skim_header entry_line
skim_of_two = refl

report_of_two : skim_report_text in_a_line two_entries
    ≡ codes "nodes 3\nlinks 2\nzones 2\nentries 2\n"
unfolding digits zones skim_report_lines
report_of_two = refl
