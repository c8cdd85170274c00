use Rattle.std.proofs.Common.{◌≡◌, ◌≤◌, Result, Ok, Err, length}
use Rattle.std.specs.Prelude.{All, IfOk}
use Rattle.dta_model.specs.Lent.{plan_of}
use Rattle.dta_model.specs.LinkTimes.{TimeTable, table_of}
use Rattle.dta_model.specs.declared.loading.TheConstants.{MOST_HORIZON}
use Rattle.worked_cases.proofs.OfTables.{many-of, short-of}
use Rattle.link_times.specs.TimeTables.{IsShort}
use Rattle.worked_cases.proofs.tests.routes.times_of.Goals as goal

both : {T E : Type 0} (P Q R : T → Type 0) → ((t : T) → P t → Q t → R t) → (r : Result T E) → IfOk r P → IfOk r Q → IfOk r R
both P Q R f (Ok t) p q = f t p q
both P Q R f (Err e) p q = tt

pub returns-clause-many : goal.returns-clause-many
returns-clause-many c =
    both (λ (t : TimeTable). t ≡ table_of (plan_of c.args.loading.now) 50) (λ (t : TimeTable). All (λ x. x ≤ MOST_HORIZON) t.times) (λ (t : TimeTable). length t.free ≡ length c.args.loading.now.net.now.links)
    (λ t is low. many-of (plan_of c.args.loading.now) 50 t is) c.of.result c.of.ensures.table c.of.ensures.short

pub returns-clause-short : goal.returns-clause-short
returns-clause-short c =
    both (λ (t : TimeTable). t ≡ table_of (plan_of c.args.loading.now) 50) (λ (t : TimeTable). All (λ x. x ≤ MOST_HORIZON) t.times) IsShort
    (λ t is low. short-of (plan_of c.args.loading.now) 50 t c.requires.net is low) c.of.result c.of.ensures.table c.of.ensures.short
