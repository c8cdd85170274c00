-- The text of counts. Numbers are decimal, nothing is quoted, and each line ends with a line feed.
use Rattle.std.specs.Prelude.{ℕ, ◌+◌, ◌*◌, min, List, ◌++◌, codes, decimal}
use Rattle.std.specs.List.{flat_map}
use Rattle.net_core.specs.Network.{link_at}
use Rattle.net_core.specs.declared.rows.NetRows.{NetRows}
use Rattle.counts.specs.declared.through_counts.ThroughCount.{ThroughCount}
use Rattle.counts.specs.declared.turn_counts.TurnCount.{TurnCount}

-- the line of a turn count, in buckets of so many steps up to a horizon: the identifiers of its
-- links, the bucket's first step, the step after its last one, and the count
unfoldable pub turn_line : NetRows → ℕ → ℕ → TurnCount → List ℕ
turn_line net bucket horizon c =
    codes "turn," ++ decimal (link_at net c.a.0).id ++ codes ","
    ++ decimal (link_at net c.b.0).id ++ codes "," ++ decimal (c.bucket * bucket) ++ codes ","
    ++ decimal (min ((c.bucket + 1) * bucket) horizon) ++ codes "," ++ decimal c.vehicles
    ++ codes "\n"

-- the line of a through count: the identifiers of its zones, all steps up to the horizon, and the
-- count
unfoldable pub through_line : ℕ → ThroughCount → List ℕ
through_line horizon c =
    codes "through," ++ decimal c.origin ++ codes "," ++ decimal c.destination ++ codes ",0,"
    ++ decimal horizon ++ codes "," ++ decimal c.vehicles ++ codes "\n"

-- the lines of turn counts, and of through counts
unfoldable pub turn_lines : NetRows → ℕ → ℕ → List TurnCount → List ℕ
turn_lines net bucket horizon turns = flat_map (turn_line net bucket horizon) turns

unfoldable pub through_lines : ℕ → List ThroughCount → List ℕ
through_lines horizon through = flat_map (through_line horizon) through

unfoldable pub counts_header : List ℕ
counts_header = codes "kind,first,second,from_step,to_step,vehicles\n"

-- Counts: its header, a line for each turn count, and then one for each through count
unfoldable pub counts_text : NetRows → List TurnCount → List ThroughCount → ℕ → ℕ → List ℕ
counts_text net turns through bucket horizon =
    counts_header ++ turn_lines net bucket horizon turns ++ through_lines horizon through
