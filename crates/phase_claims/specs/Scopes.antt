-- What a floor's table is told when it is made, as plain data.
use Rattle.dta_model.specs.Lent.{plan_of}
use Rattle.phase_claims.specs.declared.rule.Key.{Key}
use Rattle.phase_claims.specs.declared.view.Scope.{Scope}

abbrev pub scope_of : Key → Scope
scope_of key =
    record { plan = plan_of key.loading; board = key.board.now; passes = key.passes }
