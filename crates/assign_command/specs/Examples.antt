-- Worked cases of the definitions, computed.
use Rattle.std.specs.Prelude.{◌≡◌, refl, false, true, Some}
use Rattle.loader.specs.Gates.{GateState, Numbers}
use Rattle.assign_command.specs.Receipts.{by_workers, taking_all}

-- two iterations by four workers, over three nodes and 60 steps, with four vehicles: the gate took
-- two receipts, and tells the numbers of the last one
abbrev four_workers : Numbers
four_workers = record { units = 420; passes = 4; vehicles = 4 }

abbrev no_receipts : GateState
no_receipts = record {
  closes = Some 0;
  last = Some (record { units = 0; passes = 0; vehicles = 0 });
}

two-receipts : taking_all (by_workers false 2) four_workers no_receipts
    ≡ record { closes = Some 2; last = Some four_workers }
two-receipts = refl

-- with the plain loader it took none
no-receipt : taking_all (by_workers true 2) four_workers no_receipts ≡ no_receipts
no-receipt = refl
