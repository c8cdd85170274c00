-- Buckets of a loading.
use Rattle.std.specs.Prelude.{◌≡◌, ℕ, ◌*◌, ◌≤◌, length}
use Rattle.dta_model.specs.Lent.{plan_of}
use Rattle.dta_model.specs.LinkTimes.{buckets_to}
use Rattle.dta_model.specs.Sound.{IsSound}
use Rattle.link_times.specs.declared.adding.Buckets.{Buckets}

-- those of a sound loading, up to its horizon
pub record AreBuckets (b : Buckets) : Type 0 where
  pub sound : IsSound (plan_of b.loading)
  pub some : 1 ≤ b.steps
  pub all : b.count ≡ buckets_to b.steps b.loading.horizon

-- how many all links have
abbrev pub cells_of : Buckets → ℕ
cells_of b = length b.loading.net.now.links * b.count
