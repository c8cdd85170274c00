-- The grid of 2 rows and 2 columns, computed.
use Rattle.std.specs.Prelude.{◌≡◌, refl, codes, map, [], ◌∷◌, ◌++◌, None, Some, length}
use Rattle.std.specs.Fmt.{digits}
use Rattle.fixed_units.specs.declared.measure.LengthUnit.TheVariants.{Metre}
use Rattle.fixed_units.specs.declared.measure.SpeedUnit.TheVariants.{Kmh}
use Rattle.grid_maker.specs.declared.links.Direction.TheVariants.{Down}
use Rattle.grid_maker.specs.declared.links.GridLink.{GridLink}
use Rattle.grid_maker.specs.declared.maker.TheConstants.{LEAST_SIDE, MOST_SIDE}
use Rattle.grid_maker.specs.Places.{places, zone_id}
use Rattle.grid_maker.specs.Links.{links}
use Rattle.grid_maker.specs.Grid.{node_text, node_header, node_line, link_text, link_header}
use Rattle.grid_maker.specs.GridsAreAccepted.{steps_in}
use Rattle.grid_maker.specs.Grid.{link_lines, link_line, demand_text, demand_header, demand_line}

-- the limits
the-least-side : LEAST_SIDE ≡ 2
the-least-side = refl

the-most-side : MOST_SIDE ≡ 60
the-most-side = refl

four-nodes : node_text 2 ≡ codes "node_id,zone_id\n1,1\n2,2\n3,3\n4,4\n"
unfolding node_text node_header node_line places digits
four-nodes = refl

eight-links : link_text 2
    ≡ codes "link_id,from_node_id,to_node_id,length,lanes,free_speed,capacity\n"
    ++ codes "1,1,2,200,1,40,900\n2,1,3,210,1,40,900\n3,2,4,240,1,40,900\n4,2,1,250,1,40,900\n"
    ++ codes "5,3,4,270,1,40,900\n6,3,1,210,1,40,900\n7,4,3,230,1,40,900\n8,4,2,240,1,40,900\n"
unfolding link_text link_header link_lines link_line links places digits
eight-links = refl

twelve-pairs : demand_text 2
    ≡ codes "o_zone_id,d_zone_id,volume\n1,2,50\n1,3,50\n1,4,50\n2,1,50\n2,3,50\n2,4,50\n"
    ++ codes "3,1,50\n3,2,50\n3,4,50\n4,1,50\n4,2,50\n4,3,50\n"
unfolding demand_text demand_header demand_line digits
twelve-pairs = refl

-- of nine nodes the corners alone have a zone
nine-nodes : map (zone_id 3) (places 3)
    ≡ Some 1 ∷ None ∷ Some 2 ∷ None ∷ None ∷ None ∷ Some 3 ∷ None ∷ Some 4 ∷ []
unfolding places
nine-nodes = refl

-- each of the 12 pairs of neighbours has a link each way
two-for-a-pair : length (links 3) ≡ 24
unfolding links places
two-for-a-pair = refl

-- one of the longest links, which has 280 metres, takes 26 steps of one second at 40 kilometres an
-- hour
longest : GridLink
longest = record {
  from = record { row = 1; column = 0 };
  direction = Down;
  to = record { row = 2; column = 0 };
}

steps_of_the_longest :
    steps_in (record { delta = 1; jam = 125; length = Metre; speed = Kmh }) longest ≡ 26
unfolding longest
steps_of_the_longest = refl
