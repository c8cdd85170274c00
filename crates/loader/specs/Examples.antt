-- Small worked cases: what gates tell.
use Rattle.std.specs.Prelude.{◌≡◌, None, Some, refl}
use Rattle.loader.specs.Gates.{GateState, Numbers, one_more, taking}

-- the receipt of 60 steps over three nodes by four workers, with three vehicles
abbrev pub three_nodes : Numbers
three_nodes = record { units = 420; passes = 4; vehicles = 3 }

-- a gate that has taken one receipt takes another
abbrev pub after_one : GateState
after_one = record {
  closes = Some 1;
  last = Some (record { units = 7; passes = 1; vehicles = 0 });
}

a-second-receipt :
    taking three_nodes after_one ≡ record { closes = Some 2; last = Some three_nodes }
a-second-receipt = refl

-- one that tells nothing tells nothing after a receipt
nothing-is-told : taking three_nodes (record { closes = None; last = None })
    ≡ record { closes = None; last = None }
nothing-is-told = refl

-- a count at its last value stands still
at-the-last-count : one_more (Some 18446744073709551615) ≡ Some 18446744073709551615
at-the-last-count = refl
