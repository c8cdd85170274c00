use Rattle.traffic_laws.proofs.OneVehicle.{is_sound, nothing_binds}
use Rattle.traffic_laws.proofs.free_flow.nothing_binds_on_wide_links.Goals as goal

pub returns : goal.returns
returns c = record { sound = is_sound; free = nothing_binds }
