-- The places of a grid of n rows and n columns, both counted from 0, and the nodes that stand
-- there.
use Rattle.std.specs.Prelude.{ℕ, ◌+◌, ◌-◌, ◌*◌, ◌&&◌, ◌==◌, Bool, List, map, Option, None, Some}
use Rattle.std.specs.Prelude.{if◌then◌else◌}
use Rattle.std.specs.List.{flat_map, range_with_len}
use Rattle.grid_maker.specs.declared.places.Place.{Place}

-- the rows of a grid, and the columns of one
abbrev pub numbers_below : ℕ → List ℕ
numbers_below n = range_with_len 0 n

-- the places of one row, column by column
abbrev pub places_of_row : ℕ → ℕ → List Place
places_of_row n row = map (λ column. record { row = row; column = column }) (numbers_below n)

-- all places, row by row: the order of the nodes' identifiers
unfoldable pub places : ℕ → List Place
places n = flat_map (places_of_row n) (numbers_below n)

-- the identifier of the node at a place
abbrev pub node_id : ℕ → Place → ℕ
node_id n place = place.row * n + place.column + 1

-- a place stands in this row and this column
abbrev pub is_at : Place → ℕ → ℕ → Bool
is_at place row column = place.row == row && place.column == column

-- the zone of the node at a place: each corner has one, and no other place
abbrev pub zone_id : ℕ → Place → Option ℕ
zone_id n place =
    if is_at place 0 0 then Some 1
    else if is_at place 0 (n - 1) then Some 2
    else if is_at place (n - 1) 0 then Some 3
    else if is_at place (n - 1) (n - 1) then Some 4
    else None
