-- A skim is of least times, and a route is a walk.
use Rattle.trip_costs.specs.Timings.{Links}
use Rattle.std.specs.Prelude.{IsSomeAnd, MatchOption, slice_get}
use Rattle.std.proofs.Common.{◌≡◌, ℕ, List, Option, Some, None, refl, subst, sym, ◌∙◌}
use Rattle.std.proofs.lemmas.Slice.Zip.{AllZip-right}
use Rattle.net_core.specs.Network.{zones}
use Rattle.net_core.specs.declared.rows.LinkNo.{LinkNo}
use Rattle.net_core.specs.declared.rows.NetRows.{NetRows}
use Rattle.dta_model.specs.Plans.{link_numbers}
use Rattle.dta_model.specs.Walks.{IsWalk}
use Rattle.labels.specs.ToZone.{TellsLeast}
use Rattle.skims.specs.Skim.{IsEntryOf}
use Rattle.skims.specs.Questions.{Question, questions}
use Rattle.skims.specs.declared.skim_entry.SkimEntry.{SkimEntry}
use Rattle.traffic_laws.specs.LeastTimes.{IsNoSlower, SkimsAreNoSlower}

some_and : {A : Type 0} (o : Option A) (P : A → Type 0) → IsSomeAnd o P → (x : A) × P x
some_and (Some x) P p = (x, p)
some_and None P p = absurd p

told_by : (at : ℕ → ℕ → ℕ) (net : NetRows) (o d : ℕ) (entry : SkimEntry) (route : List LinkNo)
    → IsWalk net o d (link_numbers route) → (told : Option ℕ) → entry.least ≡ told
    → TellsLeast (Links at) net o d entry.start told → IsNoSlower at net entry route
told_by at net o d entry route walk None e none = absurd (none (link_numbers route) walk)
told_by at net o d entry route walk (Some least) e is =
    (least, e, is.none_less (link_numbers route) walk)

pub skims_are_no_slower : SkimsAreNoSlower
skims_are_no_slower at net starts entries trips routes skim walks
    i v entry trip route here et er from to =
    let qs : List Question = questions (zones net.nodes) starts in
    let asked = some_and (slice_get qs i) (λ q. IsEntryOf at net q entry)
    (subst (λ o. MatchOption o (Unit {0})
    (λ y. IsSomeAnd (slice_get qs i) (λ q. IsEntryOf at net q y))) here
    (AllZip-right (IsEntryOf at net) qs entries skim i)) in
    let q : Question = asked.0 in
    let is : IsEntryOf at net q entry = asked.1 in
    told_by at net trip.origin trip.destination entry route (walks v trip route et er)
    entry.least refl
    (subst (λ d. TellsLeast (Links at) net trip.origin d entry.start entry.least)
    (sym is.destination ∙ to)
    (subst (λ o. TellsLeast (Links at) net o q.destination entry.start entry.least)
    (sym is.origin ∙ from)
    (subst (λ s. TellsLeast (Links at) net q.origin q.destination s entry.least)
    (sym is.start) is.least)))
