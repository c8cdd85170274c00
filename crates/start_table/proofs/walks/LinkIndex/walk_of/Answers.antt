use Rattle.std.proofs.Common.{ap, Err, ◌∙◌, Ok, Result, sym}
use Rattle.std.specs.Prelude.{IfOk, option_copied}
use Rattle.start_table.specs.Starts.{TellsFit, TellsStart}
use Rattle.start_table.proofs.Named.{no_row_tells, row_found, row_tells}
use Rattle.start_table.proofs.walks.LinkIndex.walk_of.Goals as goal

ok_more : {T E : Type 0} (P Q : T → Type 0) → ((t : T) → P t → Q t) → (r : Result T E) → IfOk r P → IfOk r Q
ok_more P Q f (Ok t) p = f t p
ok_more P Q f (Err e) p = tt

pub walk_of_row-requires : goal.walk_of_row-requires
walk_of_row-requires c =
    let found = row_found c.args.start.now c.args.trip.now.number c.in-Some.row.now (sym c.row.ensures.row ∙ ap option_copied c.in-Some.is) in
    found.2

pub returns-in-Some : goal.returns-in-Some
returns-in-Some c =
    ok_more (TellsFit c.args.self.now c.args.trip.now c.in-Some.row.now) (TellsStart c.args.self.now c.args.start.now c.args.trip.now)
    (λ told fits. row_tells c.args.self.now c.args.start.now c.args.trip.now c.in-Some.row.now told c.row.ensures.sound (sym c.row.ensures.row ∙ ap option_copied c.in-Some.is) fits)
    c.walk_of_row.result c.walk_of_row.ensures

pub returns-in-None : goal.returns-in-None
returns-in-None c = no_row_tells c.args.self.now c.args.start.now c.args.trip.now (sym c.row.ensures.row ∙ ap option_copied c.in-None.is)
