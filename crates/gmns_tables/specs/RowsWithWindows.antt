-- The rows of a table with the windows of each.
use Rattle.std.specs.Prelude.{◌≡◌, List, [], ◌∷◌, map, All, None}
use Rattle.net_core.specs.Rates.{AreLinkWindows, AreWindows}
use Rattle.net_core.specs.Ids.{place_of, place_of_pair}
use Rattle.net_core.specs.Rows.{AreLinks, AreTurns, IsLinkInRange, IsTurnInRange, link_ids}
use Rattle.net_core.specs.Rows.{turn_pairs}
use Rattle.net_core.specs.declared.rates.Window.{Window}
use Rattle.net_core.specs.declared.rows.LinkRow.{LinkRow}
use Rattle.net_core.specs.declared.rows.TurnRow.{TurnRow}
use Rattle.gmns_tables.specs.declared.with_windows.WithWindows.{WithWindows}

-- the rows, without their windows
abbrev pub rows_of : {R : Type 0} → List (WithWindows R) → List R
rows_of items = map (λ item. item.row) items

-- the windows of each row
abbrev pub windows_of : {R : Type 0} → List (WithWindows R) → List (List Window)
windows_of items = map (λ item. item.windows) items

-- rows, each with its windows
abbrev pub with_windows : {R : Type 0} → List R → List (List Window) → List (WithWindows R)
with_windows [] windows = []
with_windows (row ∷ rows) [] = []
with_windows (row ∷ rows) (ws ∷ windows) =
    record { row = row; windows = ws } ∷ with_windows rows windows

-- links of a table, and the windows of each
pub record AreLinkRows (links : List (WithWindows LinkRow)) : Type 0 where
  pub rows : AreLinks (rows_of links)
  pub windows : All AreLinkWindows (windows_of links)

-- turns of a table, and the windows of each
pub record AreTurnRows (turns : List (WithWindows TurnRow)) : Type 0 where
  pub rows : AreTurns (rows_of turns)
  pub windows : All AreWindows (windows_of turns)

-- a link that may come after these, and its windows
pub record IsNextLink (links : List (WithWindows LinkRow)) (link : WithWindows LinkRow) : Type 0
  where
    pub new : place_of (link_ids (rows_of links)) link.row.id ≡ None
    pub range : IsLinkInRange link.row
    pub windows : AreLinkWindows link.windows

-- a turn that may come after these, and its windows
pub record IsNextTurn (turns : List (WithWindows TurnRow)) (turn : WithWindows TurnRow) : Type 0
  where
    pub new : place_of_pair (turn_pairs (rows_of turns)) turn.row.a.0 turn.row.b.0 ≡ None
    pub range : IsTurnInRange turn.row
    pub windows : AreWindows turn.windows
