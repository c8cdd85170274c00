use Rattle.std.proofs.Common.{refl}
use Rattle.std.proofs.lemmas.Result.{IfOk-weaker}
use Rattle.clap.specs.Simple.{app_of}
use Rattle.flat_options.specs.Asked.{takes_in}
use Rattle.flat_options.proofs.AskedFacts.{whole_app}
use Rattle.flat_options.proofs.flat.clap_command.Goals as goal

pub returns : goal.returns
returns c = IfOk-weaker c.with_number.result _ _
    (λ r. whole_app c.args.program.now (takes_in c.args.taken) (app_of c.bare_command-bare.result)
    (app_of c.in_ok-with_values.with_values) (app_of c.in_ok-with_all.with_all) (app_of r) _ _ _
    c.bare_command-bare.ensures refl refl c.in_ok-with_values.ensures c.in_ok-with_all.ensures refl)
    c.with_number.ensures
