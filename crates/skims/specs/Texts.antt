-- The texts of a skim, as functions of what they tell. Numbers are decimal, nothing is quoted, and
-- each line ends with a line feed.
use Rattle.std.specs.Prelude.{ℕ, List, [], ◌∷◌, ◌++◌, length, Option, None, Some, codes}
use Rattle.std.specs.Prelude.{decimal}
use Rattle.std.specs.List.{flat_map}
use Rattle.desk_io.specs.declared.desk.Output.TheVariants as output
use Rattle.pending_text.specs.Outs.{OutText, text_to}
use Rattle.net_core.specs.Network.{zones}
use Rattle.net_core.specs.declared.rows.NetRows.{NetRows}
use Rattle.skims.specs.declared.skim_entry.SkimEntry.{SkimEntry}

-- least steps, or nothing where there is no walk
abbrev pub least_or_nothing : Option ℕ → List ℕ
least_or_nothing None = []
least_or_nothing (Some steps) = decimal steps

-- the line of an entry: its zones, its start, and its least steps
unfoldable pub entry_line : SkimEntry → List ℕ
entry_line entry =
    decimal entry.origin ++ codes "," ++ decimal entry.destination ++ codes ","
    ++ decimal entry.start ++ codes "," ++ least_or_nothing entry.least ++ codes "\n"

unfoldable pub skim_header : List ℕ
skim_header = codes "o_zone_id,d_zone_id,start_step,least_steps\n"

-- Skim: its header, and a line for each entry in order
unfoldable pub skim_text : List SkimEntry → List ℕ
skim_text entries = skim_header ++ flat_map entry_line entries

-- Report: the numbers of nodes, links, zones and entries
unfoldable pub skim_report_lines : ℕ → ℕ → ℕ → ℕ → List ℕ
skim_report_lines nodes links zones entries =
    codes "nodes " ++ decimal nodes ++ codes "\nlinks " ++ decimal links ++ codes "\nzones "
    ++ decimal zones ++ codes "\nentries " ++ decimal entries ++ codes "\n"

abbrev pub skim_report_text : NetRows → List SkimEntry → List ℕ
skim_report_text net entries =
    skim_report_lines (length net.nodes) (length net.links) (length (zones net.nodes))
    (length entries)

-- both, Skim first
abbrev pub skim_texts : NetRows → List SkimEntry → List OutText
skim_texts net entries =
    text_to output.Skim (skim_text entries)
    ∷ text_to output.Report (skim_report_text net entries) ∷ []
