-- The three tables of a grid of n rows and n columns, as texts.
use Rattle.std.specs.Prelude.{ℕ, ◌<◌, ◌⊎◌, ◌*◌, nat_eq, List, ◌++◌, [], length, Option, None, Some}
use Rattle.std.specs.Prelude.{if◌then◌else◌, codes, decimal}
use Rattle.std.specs.List.{flat_map, range_with_len, zip}
use Rattle.grid_maker.specs.declared.links.GridLink.{GridLink}
use Rattle.grid_maker.specs.declared.maker.TheConstants.{LEAST_SIDE, MOST_SIDE}
use Rattle.grid_maker.specs.declared.places.Place.{Place}
use Rattle.grid_maker.specs.Places.{places, node_id, zone_id}
use Rattle.grid_maker.specs.Links.{links, length_of}

-- no grid has so few or so many rows and columns
abbrev pub IsOutOfRange : ℕ → Type 0
IsOutOfRange n = (n < LEAST_SIDE) ⊎ (MOST_SIDE < n)

-- a zone field: empty for a node without a zone
abbrev pub zone_field : Option ℕ → List ℕ
zone_field None = []
zone_field (Some zone) = decimal zone

-- the node table: a line for each place
unfoldable pub node_header : List ℕ
node_header = codes "node_id,zone_id\n"

unfoldable pub node_line : ℕ → Place → List ℕ
node_line n place =
    decimal (node_id n place) ++ codes "," ++ zone_field (zone_id n place) ++ codes "\n"

unfoldable pub node_text : ℕ → List ℕ
node_text n = node_header ++ flat_map (node_line n) (places n)

-- the link table: a line for each link. A link's identifier is its number, and all have one lane,
-- a free speed of 40 and a capacity of 900
unfoldable pub link_header : List ℕ
link_header = codes "link_id,from_node_id,to_node_id,length,lanes,free_speed,capacity\n"

unfoldable pub link_line : ℕ → ℕ → GridLink → List ℕ
link_line n number link =
    decimal number ++ codes "," ++ decimal (node_id n link.from) ++ codes ","
    ++ decimal (node_id n link.to) ++ codes ","
    ++ decimal (length_of link) ++ codes ",1,40,900\n"

-- the lines of these links, which are numbered from a first number on, in their order
unfoldable pub link_lines : ℕ → ℕ → List GridLink → List ℕ
link_lines n first all =
    flat_map (λ numbered. link_line n numbered.0 numbered.1)
    (zip (range_with_len first (length all)) all)

unfoldable pub link_text : ℕ → List ℕ
link_text n = link_header ++ link_lines n 1 (links n)

-- the zones
abbrev pub zones : List ℕ
zones = range_with_len 1 4

-- the demand table: a line for each ordered pair of different zones, by origin and then by
-- destination
unfoldable pub demand_header : List ℕ
demand_header = codes "o_zone_id,d_zone_id,volume\n"

unfoldable pub demand_line : ℕ → ℕ → ℕ → List ℕ
demand_line n origin destination =
    if nat_eq origin destination then []
    else decimal origin ++ codes "," ++ decimal destination ++ codes ","
    ++ decimal (25 * n) ++ codes "\n"

unfoldable pub demand_text : ℕ → List ℕ
demand_text n = demand_header ++ flat_map (λ origin. flat_map (demand_line n origin) zones) zones
