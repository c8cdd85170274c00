use Rattle.std.proofs.Common.{◌≡◌, ◌==◌, rules, tests}
use Rattle.std.specs.List.{position}
use Rattle.std.proofs.lemmas.Iterator.{YieldsList-from_slice}
use Rattle.std.proofs.lemmas.Iterator.Search.{position_from_yields_List}
use Rattle.net_core.specs.declared.rows.LinkRow.{LinkRow}
use Rattle.commands.proofs.counted.place_of.Goals as goal

pub returns-clause-place : goal.returns-clause-place
returns-clause-place c =
    let found : c.position.result ≡ position (λ (link : LinkRow). link.id == c.args.id) c.links.result.now =
    position_from_yields_List (λ (link : LinkRow). link.id == c.args.id) _ _ c.position.result c.position.ensures.ran (YieldsList-from_slice c.links.result.now cc) (λ x b q k. search (rules, tests)) in
    rw (c.links.ensures) at found
