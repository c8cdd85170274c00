-- What a router tells of a network: zones of states, ways on from them, states of links.
use Rattle.std.specs.Prelude.{ℕ, Bool, nat_eq, List, slice_index}
use Rattle.labels.specs.States.Routers.{ways_of}
use Rattle.labels.specs.declared.states.onward.Onward.{Onward}
use Rattle.labels.specs.declared.states.router.Router.{Router}

-- whether a state is in a zone, the ways on from it, and the state of a link
abbrev pub is_own : Router → ℕ → ℕ → Bool
is_own r zone s = nat_eq (slice_index r.zones.items s) zone

abbrev pub onwards : Router → ℕ → List Onward
onwards r = ways_of r.starts.items r.ways.items

abbrev pub state_of : Router → ℕ → ℕ
state_of r = slice_index r.states.items
