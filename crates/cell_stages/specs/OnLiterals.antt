-- What a proof unfolds to compute the stages of a loading on literals.
use Rattle.std.specs.Prelude.{⊤}
use Rattle.dta_model.specs.OnLiterals.{loadings_on_literals}
use Rattle.cell_stages.specs.Stages.{brought, arriving, waiting_for, line_before, line_after}
use Rattle.cell_stages.specs.Stages.{waiting_before, waiting_after, arrived_before, room_mail}
use Rattle.cell_stages.specs.Stages.{batch_mail}

-- the stages of a loading
unfoldable pub stages_on_literals : ⊤
unfolding loadings_on_literals brought arriving waiting_for line_before line_after waiting_before
    waiting_after arrived_before room_mail batch_mail
stages_on_literals = tt
