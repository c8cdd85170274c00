use Rattle.std.proofs.Common.{refl, ◌≡◌}
use Rattle.std.specs.Prelude.{None}
use Rattle.csv.specs.Records.{field_at}
use Rattle.row_reader.specs.Trimmed.{drop_blanks}
use Rattle.row_reader.proofs.rows.Row.field_in.Goals as goal

pub returns-in-None-get : goal.returns-in-None-get
unfolding drop_blanks
returns-in-None-get c =
    let v = rw c.in-None-get.is at c.get.ensures.value in
    let n : field_at c.args.self.now.fields c.in-Some.place ≡ None = cc in
    rw (c.in-Some.is, n) refl
