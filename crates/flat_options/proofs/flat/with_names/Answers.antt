use Rattle.std.proofs.Common.{Bor, arith, List, ℕ}
use Rattle.std.proofs.lemmas.List.{map-append}
use Rattle.clap.specs.Walk.{texts}
use Rattle.clap.specs.Simple.{app_of}
use Rattle.flat_options.specs.Asked.{asked}
use Rattle.flat_options.proofs.AskedFacts.{one_more}
use Rattle.flat_options.proofs.flat.with_names.Goals as goal

pub loop-name-preserved : goal.loop-name-preserved
loop-name-preserved c =
    one_more (asked c.args.action) texts (map-append (λ (s : Bor (List ℕ)). s.now)) c.args.names.now
    c.loop-name.name-index _ (app_of c.args.command) (app_of c.loop-name.command)
    (app_of c.in_ok-command.command) (omega arith) c.loop-name.invariant c.in_ok-command.ensures
