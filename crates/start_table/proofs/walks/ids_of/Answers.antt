use Rattle.net_core.specs.declared.rows.LinkRow.{LinkRow}
use Rattle.start_table.proofs.Named.{id_new}
use Rattle.start_table.proofs.walks.ids_of.Goals as goal

abbrev no_row : LinkRow
no_row = record { id = 0; from = record { 0 = 0 }; to = record { 0 = 0 }; free = 0; storage = 0; micrometres = 0; rate = 0 }

pub add-requires : goal.add-requires
add-requires c =
    rw c.loop-link.invariant
    (id_new c.args.links.now c.loop-link.link-index no_row c.loop-link-test.true c.requires)
