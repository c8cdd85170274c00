use Rattle.std.proofs.Common.{◌∙◌, Bor, List, ℕ, append-nil, ap, arith, map, sym}
use Rattle.std.proofs.lemmas.List.Concat.{flat_map-append}
use Rattle.clap.specs.Walk.{texts}
use Rattle.clap.specs.Simple.{app_of}
use Rattle.flat_options.specs.Asked.{asked, names_in, with_rules}
use Rattle.flat_options.proofs.AskedFacts.{one_more}
use Rattle.flat_options.proofs.flat.with_groups.Goals as goal

pub loop-names-preserved : goal.loop-names-preserved
loop-names-preserved c =
    one_more (asked c.args.action) names_in
    (flat_map-append (λ (group : Bor (List (Bor (List ℕ)))). texts group.now)) c.args.groups.now
    c.loop-names.names-index _ (app_of c.args.command) (app_of c.loop-names.command)
    (app_of c.in_ok-command.command) (omega arith) c.loop-names.invariant
    (c.in_ok-command.ensures
    ∙ ap (λ ns. with_rules (map (asked c.args.action) ns) (app_of c.loop-names.command))
    (sym (append-nil _)))
