use Rattle.std.proofs.Common.{◌∙◌, ◌+◌, ◌<◌, ap, arith, get_or, length}
use Rattle.std.specs.Prelude.{is_some}
use Rattle.std.proofs.lemmas.Option.{slice_get-get_or}
use Rattle.net_core.specs.declared.rows.LinkNo.{LinkNo}
use Rattle.start_table.proofs.Walked.{turns_here}
use Rattle.start_table.proofs.walks.turns_on.Goals as goal

abbrev no_number : LinkNo
no_number = record { 0 = 0 }

pub returns : goal.returns
returns c =
    let links = c.args.links.now in
    let i = c.args.at in
    let here = c.requires.place in
    let more = c.if-at-links.false in
    let next : i + 1 < length links = omega (arith, here, more) in
    turns_here c.args.net.now links i (get_or links i no_number) (get_or links (i + 1) no_number) c.is_some.result
    (slice_get-get_or links i no_number here) (slice_get-get_or links (i + 1) no_number next)
    (c.is_some.ensures ∙ ap is_some c.turn.ensures.turn)
