-- A gate that counts tells its numbers.
use Rattle.std.specs.Prelude.{ℕ, Option, Some}
use Rattle.loader.specs.declared.gate.CountGate.{CountGate}
use Rattle.loader.specs.Gates.{Numbers}

abbrev pub closes_told : CountGate → Option ℕ
closes_told gate = Some gate.closes

abbrev pub last_told : CountGate → Option Numbers
last_told gate =
    Some (record { units = gate.units; passes = gate.passes; vehicles = gate.vehicles })
