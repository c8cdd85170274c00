-- What a close gives.
use Rattle.std.specs.Prelude.{◌≡◌, ℕ, ◌<◌, List}
use Rattle.dta_model.specs.Loading.{journeys_of}
use Rattle.dta_model.specs.Plans.{vehicle_count}
use Rattle.dta_model.specs.Units.{unit_count}
use Rattle.dta_model.specs.declared.loaded.Journey.{Journey}
use Rattle.monitors.specs.Posted.{Known}
use Rattle.claim_core.specs.Sums.{once_below}
use Rattle.phase_claims.specs.declared.receipt.Early.{Early}
use Rattle.phase_claims.specs.declared.receipt.Receipt.{Receipt}
use Rattle.phase_claims.specs.declared.view.Scope.{Scope}
use Rattle.phase_claims.specs.declared.view.View.{View}
use Rattle.phase_claims.specs.PlacesHome.{posted_in}
use Rattle.phase_claims.specs.Views.{performed_count, performs}

-- fewer units are finished than there are: those that the pass has performed
pub record IsEarly (k : Scope) (v : View) (early : Early) : Type 0 where
  pub finished : early.finished ≡ performed_count v
  pub fewer : early.finished < unit_count k.plan

-- the pass has performed each unit once; the journeys are those of the loading, the states of all
-- steps were posted, and the receipt tells the units, the passes and the vehicles
pub record IsClosed (k : Scope) (v : View) (journeys : List Journey) (writer : Known)
    (receipt : Receipt) : Type 0 where
  pub performed : (x : ℕ) → performs x v ≡ once_below x (unit_count k.plan)
  pub loaded : journeys ≡ journeys_of k.plan
  pub board : writer.board ≡ k.board
  pub posted : writer.list ≡ posted_in k.plan k.plan.horizon
  pub units : receipt.units ≡ unit_count k.plan
  pub passes : receipt.passes ≡ v.weight
  pub vehicles : receipt.vehicles ≡ vehicle_count k.plan
