use Rattle.std.proofs.Common.{Err, Ok, Result, subst}
use Rattle.std.specs.Prelude.{IfOk}
use Rattle.start_table.specs.Starts.{TellsFit, TellsWalk}
use Rattle.start_table.proofs.Named.{named_fits}
use Rattle.start_table.proofs.walks.walk_of_row.Goals as goal

ok_more : {T E : Type 0} (P Q : T → Type 0) → ((t : T) → P t → Q t) → (r : Result T E) → IfOk r P → IfOk r Q
ok_more P Q f (Ok t) p = f t p
ok_more P Q f (Err e) p = tt

pub returns : goal.returns
returns c =
    let net = c.args.index.now in
    let trip = c.args.trip.now in
    let row = c.args.row.now in
    ok_more (TellsWalk net trip.origin trip.destination c.as_slice.result.now) (TellsFit net trip row)
    (λ told tells. named_fits net trip row told c.requires c.if-row-trip.false c.if-row-trip-2.false
    (subst (λ l. TellsWalk net trip.origin trip.destination l told) c.as_slice.ensures tells))
    c.walk_named.result c.walk_named.ensures
