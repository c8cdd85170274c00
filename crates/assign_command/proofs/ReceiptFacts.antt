-- How many receipts a gate took of loadings.
use Rattle.std.proofs.Common.{◌≡◌, ◌≢◌, ℕ, zero, suc, ◌+◌, ◌≤◌, Bool, true, false, refl, sym, ap, subst, ◌∙◌, arith}
use Rattle.std.specs.Prelude.{Result, Ok, Err, OnErr}
use Rattle.dta_model.specs.Units.{unit_count}
use Rattle.dta_words.specs.declared.command.Command.{Command}
use Rattle.dta_words.specs.declared.command.Settings.{Settings}
use Rattle.loader.specs.Gates.{GateState, Numbers, numbers_by, taking}
use Rattle.assignment.specs.Assignment.{Traffic, VehicleRoutes, plan_of}
use Rattle.jobs.specs.Inputs.{Assigns, Kind}
use Rattle.jobs.specs.Jobs.{JobRows, traffic_of}
use Rattle.assign_command.specs.Receipts.{Gives, TookAtMost, WorkGives, by_workers, numbers_in, receipts_by, receipts_in, taking_all}
use Rattle.commands.specs.declared.status.Status.{Status}
use Rattle.commands.specs.declared.status.Status.TheVariants as status

-- the numbers of a loading are those of its traffic
pub numbers-are : (s : Settings) (traffic : Traffic) (routes : VehicleRoutes)
    → numbers_by (plan_of s traffic routes) s.workers ≡ numbers_in s traffic
unfolding unit_count
numbers-are s traffic routes = refl

-- ---- receipts one after another

taking-more : (n m : ℕ) (numbers : Numbers) (gate : GateState)
    → taking_all n numbers (taking_all m numbers gate) ≡ taking_all (n + m) numbers gate
taking-more zero m numbers gate =
    let e : m ≡ 0 + m = omega arith in ap (λ (k : ℕ). taking_all k numbers gate) e
taking-more (suc n) m numbers gate =
    let e : suc (n + m) ≡ suc n + m = omega arith in
    ap (taking numbers) (taking-more n m numbers gate) ∙ ap (λ (k : ℕ). taking_all k numbers gate) e

receipts-more : (plain : Bool) (n m k : ℕ) → n + m ≡ k → by_workers plain m + by_workers plain n ≡ by_workers plain k
receipts-more true n m k e = refl
receipts-more false n m k e = omega (arith, e)

receipts-least : (plain : Bool) (n k : ℕ) → n ≤ k → by_workers plain n ≤ by_workers plain k
receipts-least true n k h = omega arith
receipts-least false n k h = h

-- a call that gave so many gave them, whether it is done or not
pub gives-all : {T E : Type 0} (r : Result T E) (n : ℕ) (numbers : Numbers) (gate now : GateState) → now ≡ taking_all n numbers gate
    → Gives n numbers gate now r
gives-all (Ok x) n numbers gate now took = record { all = took; some = tt }
gives-all (Err x) n numbers gate now took = record { all = tt; some = (n, omega arith, took) }

-- the receipts of so many loadings
module _ (plain : Bool) (numbers : Numbers) (gate : GateState) where
  -- none so far
  pub no-loadings : gate ≡ taking_all (by_workers plain 0) numbers gate
  no-loadings = elim plain as (λ b. gate ≡ taking_all (by_workers b 0) numbers gate) [ true ↦ refl | false ↦ refl ]

  -- and of more
  pub all-more : (n m k : ℕ) (between now : GateState) → n + m ≡ k
      → between ≡ taking_all (by_workers plain n) numbers gate
      → now ≡ taking_all (by_workers plain m) numbers between
      → now ≡ taking_all (by_workers plain k) numbers gate
  all-more n m k between now e old new =
      new ∙ ap (taking_all (by_workers plain m) numbers) old
      ∙ taking-more (by_workers plain m) (by_workers plain n) numbers gate
      ∙ ap (λ (i : ℕ). taking_all i numbers gate) (receipts-more plain n m k e)

  -- so many, and then at most more
  pub some-more : (n m k : ℕ) (between now : GateState) → n + m ≤ k
      → between ≡ taking_all (by_workers plain n) numbers gate
      → TookAtMost (by_workers plain m) numbers between now
      → TookAtMost (by_workers plain k) numbers gate now
  some-more n m k between now h old new =
      let few = new.1 in
      let sum = receipts-more plain n m (n + m) refl in
      let most = receipts-least plain (n + m) k h in (
        new.0 + by_workers plain n,
        omega (arith, few, sum, most),
        new.2 ∙ ap (taking_all new.0 numbers) old ∙ taking-more new.0 (by_workers plain n) numbers gate,
      )

  -- so many loadings, and then a call
  pub gives-more : {T E : Type 0} (r : Result T E) (n m k : ℕ) (between now : GateState) → n + m ≡ k
      → between ≡ taking_all (by_workers plain n) numbers gate
      → Gives (by_workers plain m) numbers between now r
      → Gives (by_workers plain k) numbers gate now r
  gives-more (Ok x) n m k between now e old new = record { all = all-more n m k between now e old new.all; some = tt }
  gives-more (Err x) n m k between now e old new =
      record { all = tt; some = some-more n m k between now (omega (arith, e)) old new.some }

-- ---- the receipts of a run

-- a command that assigns gives one for each iteration
receipts-are : (c : Command) (s : Settings) → Assigns c → by_workers s.plain s.iterations ≡ receipts_in c s
receipts-are c s loads = ap (λ (k : Kind). receipts_by k s) (sym loads)

-- work that gave all receipts, at most as many, or none
module _ (s : Settings) (job : JobRows) (gate now : GateState) where
  work-all-own : Assigns s.command → now ≡ taking_all (by_workers s.plain s.iterations) (numbers_in s (traffic_of job)) gate
      → now ≡ taking_all (receipts_in s.command s) (numbers_in s (traffic_of job)) gate
  work-all-own loads took = took ∙ ap (λ (n : ℕ). taking_all n (numbers_in s (traffic_of job)) gate) (receipts-are s.command s loads)

  work-all : Assigns s.command → (own : Settings) (traffic : Traffic) → own ≡ s → traffic ≡ traffic_of job
      → now ≡ taking_all (by_workers own.plain own.iterations) (numbers_in own traffic) gate
      → now ≡ taking_all (receipts_in s.command s) (numbers_in s (traffic_of job)) gate
  work-all loads own traffic same over took =
      work-all-own loads (subst (λ (t : Traffic). now ≡ taking_all (by_workers s.plain s.iterations) (numbers_in s t) gate) over
      (subst (λ (z : Settings). now ≡ taking_all (by_workers z.plain z.iterations) (numbers_in z traffic) gate) same took))

  work-some : Assigns s.command → (own : Settings) (traffic : Traffic) → own ≡ s → traffic ≡ traffic_of job
      → TookAtMost (by_workers own.plain own.iterations) (numbers_in own traffic) gate now
      → TookAtMost (receipts_in s.command s) (numbers_in s (traffic_of job)) gate now
  work-some loads own traffic same over took =
      subst (λ (n : ℕ). TookAtMost n (numbers_in s (traffic_of job)) gate now) (receipts-are s.command s loads)
      (subst (λ (t : Traffic). TookAtMost (by_workers s.plain s.iterations) (numbers_in s t) gate now) over
      (subst (λ (z : Settings). TookAtMost (by_workers z.plain z.iterations) (numbers_in z traffic) gate now) same took))

  took-all : (answer : Status) → now ≡ taking_all (receipts_in s.command s) (numbers_in s (traffic_of job)) gate → WorkGives s job answer gate now
  took-all status.Done took = took
  took-all answer took = (receipts_in s.command s, omega arith, took)

  took-some : (answer : Status) → answer ≢ status.Done → TookAtMost (receipts_in s.command s) (numbers_in s (traffic_of job)) gate now
      → WorkGives s job answer gate now
  took-some status.Done other took = absurd (other refl)
  took-some answer other took = took

  -- the receipts of iterations that came to this
  pub outcome-gives : {T E : Type 0} (r : Result T E) (answer : Status) → Assigns s.command → (own : Settings) (traffic : Traffic)
      → own ≡ s → traffic ≡ traffic_of job → Gives (by_workers own.plain own.iterations) (numbers_in own traffic) gate now r
      → OnErr r (answer ≢ status.Done) → WorkGives s job answer gate now
  outcome-gives (Ok x) answer loads own traffic same over gave other = took-all answer (work-all loads own traffic same over gave.all)
  outcome-gives (Err x) answer loads own traffic same over gave other = took-some answer other (work-some loads own traffic same over gave.some)

-- work without loadings by workers gives none, however it ends
pub none-given : (s : Settings) (job : JobRows) (answer : Status) (gate : GateState) → receipts_in s.command s ≡ 0
    → WorkGives s job answer gate gate
none-given s job status.Done gate none = ap (λ (n : ℕ). taking_all n (numbers_in s (traffic_of job)) gate) (sym none)
none-given s job answer gate none = (0, omega arith, refl)

-- so does an assignment whose loader is plain
pub plain_gives : (s : Settings) (job : JobRows) (answer : Status) (gate : GateState) → Assigns s.command → s.plain ≡ true
    → WorkGives s job answer gate gate
plain_gives s job answer gate loads plain =
    none-given s job answer gate (sym (receipts-are s.command s loads) ∙ ap (λ (b : Bool). by_workers b s.iterations) plain)

pub ruleset plainly = (plain_gives)
