use Rattle.std.proofs.Common.{◌≡◌, map, take}
use Rattle.clap.specs.Simple.{app_of}
use Rattle.flat_options.specs.Asked.{asked, names_in, with_rules}
use Rattle.flat_options.proofs.flat.with_groups.Given as goal

abbrev pub invariant-loop-names : goal.invariant-loop-names
invariant-loop-names l = app_of l.command
    ≡ with_rules (map (asked l.fn.action) (names_in (take l.names-index l.groups))) (app_of l.fn.command)
