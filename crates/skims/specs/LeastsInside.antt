-- What least times keep.
use Rattle.net_core.specs.Network.{zones}
use Rattle.dta_model.specs.LinkTimes.{time_at}
use Rattle.trip_costs.specs.Timings.{Links}
use Rattle.skims.specs.Leasts.{AreBetween, Sought}
use Rattle.skims.specs.declared.leasts.LeastTimes.TheInside.{Inside}

abbrev pub sought_by : Inside → Sought
sought_by l = record { net = l.net.now; times = l.times.now; starts = l.starts.now }

abbrev pub AreLeasts : Inside → Type 0
AreLeasts l =
    AreBetween (Links (time_at l.times.now)) l.net.now l.starts.now (zones l.net.now.nodes)
    l.to_each.items
