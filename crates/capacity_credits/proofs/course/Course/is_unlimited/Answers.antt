use Rattle.std.proofs.Common.{◌≡◌, arith, rules}
use Rattle.std.specs.Option.{is_none}
use Rattle.capacity_credits.proofs.Courses.{has_begun, rate_held, window}
use Rattle.capacity_credits.proofs.course.Course.is_unlimited.Goals as goal

pub returns : goal.returns
returns c =
    let rates = c.args.self.now.rates in
    let step = c.args.step in
    let place = c.latest.result in
    let is = rw c.as_slice-windows.ensures at c.latest.ensures in
    let same : c.is_none.result ≡ is_none (window c.as_slice-windows.result.now place).rate =
    search rules in
    rw (rate_held rates.usual rates.windows place step step c.requires.1.given.windows is
    (has_begun rates.windows place step is) (omega arith))
    (rw c.as_slice-windows.ensures at same)
