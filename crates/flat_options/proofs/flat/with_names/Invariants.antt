use Rattle.std.proofs.Common.{◌≡◌, map, take}
use Rattle.clap.specs.Walk.{texts}
use Rattle.clap.specs.Simple.{app_of}
use Rattle.flat_options.specs.Asked.{asked, with_rules}
use Rattle.flat_options.proofs.flat.with_names.Given as goal

abbrev pub invariant-loop-name : goal.invariant-loop-name
invariant-loop-name l = app_of l.command
    ≡ with_rules (map (asked l.fn.action) (texts (take l.name-index l.names))) (app_of l.fn.command)
