-- The verdict of an audit: the place of the first check that fails, and yes where none does.
use Rattle.std.specs.Prelude.{ℕ, ◌≡◌, ◌&&◌, Bool, true, false, nat_eq, cond, List, [], ◌∷◌, Option}
use Rattle.std.specs.Prelude.{None, Some, is_some}
use Rattle.dta_words.specs.declared.command.Settings.{Settings}
use Rattle.audit.specs.Audit.{checks_of}
use Rattle.audit.specs.Checks.{Check, Statement, names_route, never, same_if_any, same_list}
use Rattle.audit.specs.Checks.{same_number}
use Rattle.audit.specs.declared.verdict.Verdict.{Verdict}
use Rattle.audit.specs.declared.verdict.Verdict.TheVariants.{No, Yes}
use Rattle.jobs.specs.Inputs.{Auditing, kind_of}
use Rattle.jobs.specs.Jobs.{JobRows}
use Rattle.reference.specs.Routes.{walk_named}
use Rattle.commands.specs.Texts.{audit_plan}

-- whether two numbers are the same, or both are missing; and whether two lists are the same
abbrev pub is_same_if_any : Option ℕ → Option ℕ → Bool
is_same_if_any None None = true
is_same_if_any None (Some b) = false
is_same_if_any (Some a) None = false
is_same_if_any (Some a) (Some b) = nat_eq a b

abbrev pub is_same_list : List ℕ → List ℕ → Bool
is_same_list [] [] = true
is_same_list [] (b ∷ bs) = false
is_same_list (a ∷ as') [] = false
is_same_list (a ∷ as') (b ∷ bs) = nat_eq a b && is_same_list as' bs

-- whether a check holds
unfoldable pub holds : Statement → Bool
holds (same_number a b) = nat_eq a b
holds (same_if_any a b) = is_same_if_any a b
holds (same_list a b) = is_same_list a b
holds (names_route net trip []) = true
holds (names_route net trip (id ∷ ids)) =
    is_some (walk_named net trip.origin trip.destination (id ∷ ids))
holds never = false

-- the verdict of checks
unfoldable pub verdict_on : List Check → Verdict
verdict_on [] = Yes
verdict_on (c ∷ others) = cond (holds c.statement) (verdict_on others) (No c.table c.line c.column)

-- the verdict of a job's audit
abbrev pub verdict_of : Settings → JobRows → Verdict
verdict_of s job =
    verdict_on (checks_of job.net job.trips job.agents job.times (audit_plan s))

-- where a job is audited, no check fails
abbrev pub Passes : Settings → JobRows → Type 0
Passes s job = kind_of s.command ≡ Auditing → verdict_of s job ≡ Yes
