-- The links of a grid: from each node one to each of its neighbours.
use Rattle.std.specs.Prelude.{ℕ, ◌+◌, ◌-◌, ◌*◌, ◌%◌, nat_lt, List, [], ◌∷◌, Option, None, Some}
use Rattle.std.specs.Prelude.{if◌then◌else◌}
use Rattle.std.specs.List.{flat_map}
use Rattle.grid_maker.specs.declared.links.Direction.{Direction}
use Rattle.grid_maker.specs.declared.links.Direction.TheVariants.{Right, Down, Left, Up}
use Rattle.grid_maker.specs.declared.links.GridLink.{GridLink}
use Rattle.grid_maker.specs.declared.places.Place.{Place}
use Rattle.grid_maker.specs.Places.{places}

-- the directions, in the order in which a node's neighbours are taken
abbrev pub directions : List Direction
directions = Right ∷ Down ∷ Left ∷ Up ∷ []

-- the number of a direction in that order
abbrev pub direction_number : Direction → ℕ
direction_number Right = 0
direction_number Down = 1
direction_number Left = 2
direction_number Up = 3

-- the next place in a direction, where the grid has one
abbrev pub neighbour : ℕ → Place → Direction → Option Place
neighbour n place Right =
    if nat_lt (place.column + 1) n
    then Some (record place { column = place.column + 1 })
    else None
neighbour n place Down =
    if nat_lt (place.row + 1) n then Some (record place { row = place.row + 1 }) else None
neighbour n place Left =
    if nat_lt 0 place.column then Some (record place { column = place.column - 1 }) else None
neighbour n place Up =
    if nat_lt 0 place.row then Some (record place { row = place.row - 1 }) else None

-- the link from a place to the next one: none where there is no next one
abbrev pub link_to : Place → Direction → Option Place → List GridLink
link_to place direction None = []
link_to place direction (Some next) = record { from = place; direction = direction; to = next } ∷ []

-- the links that begin at a place
abbrev pub links_from : ℕ → Place → List GridLink
links_from n place =
    flat_map (λ direction. link_to place direction (neighbour n place direction)) directions

-- all links: by the place where they begin, and then by direction
unfoldable pub links : ℕ → List GridLink
links n = flat_map (links_from n) (places n)

-- how long a link is, in metres
abbrev pub length_of : GridLink → ℕ
length_of link =
    200 + 10 * ((7 * link.from.row + 3 * link.from.column + direction_number link.direction) % 9)
