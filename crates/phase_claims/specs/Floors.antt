-- What a floor keeps.
use Rattle.std.specs.Prelude.{◌≡◌, ℕ, suc, ◌+◌, List}
use Rattle.atomic_table.specs.Seated.{TableId}
use Rattle.dta_model.specs.Plans.{vehicle_count}
use Rattle.dta_model.specs.Sound.{IsSound}
use Rattle.dta_model.specs.Units.{node_count, posting_part}
use Rattle.dta_model.specs.declared.loaded.Journey.{Journey}
use Rattle.dta_model.specs.declared.plan.Plan.{Plan}
use Rattle.claim_core.specs.declared.units.Units.{Units}
use Rattle.node_transfer.specs.Start.{no_journeys}
use Rattle.phase_claims.specs.declared.view.Scope.{Scope}
use Rattle.phase_claims.specs.declared.work_told.TheConstants.{FIRST_NODE_WORD}

-- its table has a word for each node behind those of all passes, and is for its loading and its
-- board, its units are those of the loading, and no journey has begun
pub record IsFloor (k : Scope) (count parts : ℕ) (p : Plan) (shown : TableId) (own : Units)
    (most : ℕ) (journeys : List Journey) : Type 0 where
  pub words : count ≡ FIRST_NODE_WORD + node_count k.plan
  pub slots : parts ≡ suc (posting_part k.plan)
  pub plan : p ≡ k.plan
  pub board : shown ≡ k.board
  pub sound : IsSound k.plan
  pub nodes : own.nodes ≡ node_count k.plan
  pub horizon : own.horizon ≡ k.plan.horizon
  pub passes : most ≡ k.passes
  pub loaded : journeys ≡ no_journeys (vehicle_count k.plan)
