-- What a proof unfolds to test a network or a loading that is written out.
use Rattle.std.specs.Prelude.{⊤}
use Rattle.net_core.specs.Network.{is_named, turn_at, turn}
use Rattle.net_core.specs.Rows.{link_in}
use Rattle.dta_model.specs.Examples.{a_link_without_capacity, trip, two_links_in_a_line}
use Rattle.dta_model.specs.Walks.{begins_in, ends_in}

unfoldable pub cases_on_literals : ⊤
unfolding link_in is_named turn_at turn begins_in ends_in trip two_links_in_a_line
    a_link_without_capacity
cases_on_literals = tt
