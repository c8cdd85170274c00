-- A pass of a floor has the floor's table, what it is told by a look, and the phase of what it holds.
use Rattle.std.proofs.Common.{◌≡◌, ℕ, suc, ◌+◌, ◌<◌, ◌≤◌, min, cond, nat_lt, Bool, true, false, List, [], refl, ap, subst, sym, ◌∙◌, lt_of_not-le, arith}
use mathlib.Core.Logic.{dite}
use native.Mathlib.Decide.{dec_le}
use Rattle.atomic_table.specs.Table.{Me}
use Rattle.claim_core.specs.Phases.{IsPhase, phase_of}
use Rattle.claim_core.specs.declared.phase.Phase.{Phase}
use Rattle.claim_core.proofs.Phases.{is_phase, lt_stop, start_le}
use Rattle.dta_model.specs.Machine.{first_in, held_end, left_of, open_end, with_open}
use Rattle.dta_model.specs.Units.{node_count, phase_start, unit_count}
use Rattle.dta_model.specs.declared.machine.Stage.{Stage}
use Rattle.dta_model.specs.declared.machine.Stage.TheVariants as stage
use Rattle.dta_model.specs.declared.plan.Plan.{Plan}
use Rattle.phase_claims.specs.declared.part.Part.{Part}
use Rattle.phase_claims.specs.declared.pass.Place.{Place}
use Rattle.phase_claims.specs.declared.unit.Open.TheVariants as answer
use Rattle.phase_claims.specs.declared.view.Scope.{Scope}
use Rattle.phase_claims.specs.declared.view.View.{View}
use Rattle.phase_claims.specs.Passes.{FloorState, IsAmongOpen, IsHeld, IsInside, IsLastPhase, IsOf, IsOpen, IsPass, IsPlace, Opens, PassState, PerformsNext}
use Rattle.phase_claims.specs.Plays.{LooksAt}
use Rattle.phase_claims.specs.PlacesHome.{carried, taken}
use Rattle.phase_claims.specs.Views.{at_next, done_with, first_of_phase, having_open}
use Rattle.phase_claims.proofs.PlacesUnit.{lt_is, lt_not}

pub same_table : (f f' : FloorState) (p p' : PassState) → f ≡ f' → p ≡ p' → IsOf f' p' → p.table ≡ f.table
same_table f f' p p' same_floor same_pass own =
    ap (λ (q : PassState). q.table) same_pass ∙ own.table ∙ sym (ap (λ (g : FloorState). g.table) same_floor)

pub opened : (old new : View) (n : ℕ) → LooksAt old n new → first_of_phase old ≤ n → Opens old answer.Yes new
opened old new n l le = record { finished = n; stands = l.stands; seen = l.seen; own = l.own; answer = (le, l.earlier le, l.opens le) }

-- it begins with the first unit of the phase of the first number that is held
pub first_held : (k : ℕ) (s : Stage) (at : ℕ) (last : Phase) → IsHeld s → IsLastPhase k s at last → phase_start k (first_in s) ≡ last.first
first_held k stage.Idle at last held is = cc
first_held k (stage.Held a b) at last held is = sym (ap (λ (x : Phase). x.first) is)
first_held k (stage.Open a m b) at last held is = cc
first_held k stage.Ended at last held is = cc

-- whatever is held, it is the phase of its units
pub any_phase : (k : ℕ) (s : Stage) (at : ℕ) (last : Phase) → IsLastPhase k s at last → IsPhase k last
any_phase k stage.Idle at last is = is
any_phase k (stage.Held a b) at last is = subst (λ x. IsPhase k x) (sym is) (is_phase k a)
any_phase k (stage.Open a m b) at last is = subst (λ x. IsPhase k x) (sym is) (is_phase k at)
any_phase k stage.Ended at last is = is

-- a pass that has opened what it held
module _ (me : Me Part View) (left : ℕ) (own : Place) (a b : ℕ) (is : IsPass me left own) (held : own.stage ≡ stage.Held a b) (stop : ℕ) (to : stop ≡ min b own.phase.end) where
  abbrev N : ℕ
  N = node_count me.0.scope.plan

  stands : me.0.stage ≡ stage.Held a b
  stands = sym is.place.stage ∙ held

  held_inside : IsInside me.0.scope.plan (stage.Held a b) me.0.at
  held_inside = subst (λ s. IsInside me.0.scope.plan s me.0.at) stands is.inside

  held_phase : own.phase ≡ phase_of N a
  held_phase = subst (λ s. IsLastPhase N s me.0.at own.phase) stands is.place.phase

  open_is : with_open N me.0.stage ≡ stage.Open a stop b
  open_is = ap (with_open N) stands ∙ ap (λ (x : Phase). stage.Open a (min b x.end) b) (sym held_phase) ∙ ap (λ x. stage.Open a x b) (sym to)

  -- some of them are open
  some_open : a < stop
  some_open = omega (arith, to, held_inside.0, lt_stop N a, ap (λ (x : Phase). x.end) held_phase)

  pub opened_pass : (m : Me Part View) (n : ℕ) → m.0 ≡ having_open me.0 n → m.1 ≡ carried me.0.scope m.0.stage m.0.at → IsPass m left (record { stage = stage.Open a stop b; next = a; phase = own.phase })
  opened_pass m n e slots =
      let first : first_in me.0.stage ≡ a = ap first_in stands in
      let made : IsPass (having_open me.0 n, m.1) left (record { stage = stage.Open a stop b; next = a; phase = own.phase }) = record {
        slots = slots ∙ ap (λ (v : View). carried me.0.scope v.stage v.at) e;
        inside = subst (λ s. IsInside me.0.scope.plan s (first_in me.0.stage)) (sym open_is) (subst (λ at. IsInside me.0.scope.plan (stage.Open a stop b) at) (sym first)
            (omega arith, some_open, omega (arith, to, ap (λ (x : Phase). x.end) held_phase), omega (arith, to), held_inside.1));
        weight = is.weight;
        spare = is.spare;
        place = record {
          stage = sym open_is;
          next = sym first;
          phase = subst (λ s. IsLastPhase N s (first_in me.0.stage) own.phase) (sym open_is) (held_phase ∙ ap (phase_of N) (sym first));
        };
      } in
      subst (λ v. IsPass (v, m.1) left (record { stage = stage.Open a stop b; next = a; phase = own.phase })) (sym e) made

-- a pass that has some units open
module _ (v : View) (own : Place) (a m b : ℕ) (is : IsPlace v own) (opened : own.stage ≡ stage.Open a m b) (inside : IsInside v.scope.plan v.stage v.at) where
  abbrev M : ℕ
  M = node_count v.scope.plan

  pub open_stands : v.stage ≡ stage.Open a m b
  open_stands = sym is.stage ∙ opened

  pub open_inside : IsInside v.scope.plan (stage.Open a m b) v.at
  open_inside = subst (λ s. IsInside v.scope.plan s v.at) open_stands inside

  open_phase : own.phase ≡ phase_of M v.at
  open_phase = subst (λ s. IsLastPhase M s v.at own.phase) open_stands is.phase

  -- the next unit is of the same phase
  next_phase : suc v.at < m → phase_of M v.at ≡ phase_of M (suc v.at)
  next_phase lt =
      let from : phase_of M a ≡ phase_of M v.at = is_phase M a v.at (omega (arith, start_le M a, open_inside.0)) (omega (arith, open_inside.1, open_inside.2)) in
      let to : phase_of M a ≡ phase_of M (suc v.at) = is_phase M a (suc v.at) (omega (arith, start_le M a, open_inside.0)) (omega (arith, lt, open_inside.2)) in
      sym from ∙ to

  pub turned : (w : View) → w ≡ at_next v → own.next + 1 < m → IsPlace w (record { stage = own.stage; next = own.next + 1; phase = own.phase })
  turned w e lt =
      let made : IsPlace (at_next v) (record { stage = own.stage; next = own.next + 1; phase = own.phase }) = record {
        stage = is.stage;
        next = omega (arith, is.next);
        phase = subst (λ s. IsLastPhase M s (suc v.at) own.phase) (sym open_stands) (open_phase ∙ next_phase (omega (arith, lt, is.next)));
      } in
      subst (λ x. IsPlace x (record { stage = own.stage; next = own.next + 1; phase = own.phase })) (sym e) made

  pub last_is : m ≤ own.next + 1 → suc v.at ≡ open_end v.stage
  last_is le = omega (arith, le, is.next, open_inside.1, ap open_end open_stands)

  idle_left : b ≤ m → left_of v.stage ≡ stage.Idle
  idle_left le = ap left_of open_stands ∙ ap (λ t. cond t (stage.Held m b) stage.Idle) (lt_not m b le)

  held_left : m < b → left_of v.stage ≡ stage.Held m b
  held_left lt = ap left_of open_stands ∙ ap (λ t. cond t (stage.Held m b) stage.Idle) (lt_is m b lt)

  pub idle_place : (w : View) → w ≡ done_with v → b ≤ m → IsPlace w (record { stage = stage.Idle; next = own.next; phase = own.phase })
  idle_place w e le =
      let made : IsPlace (done_with v) (record { stage = stage.Idle; next = own.next; phase = own.phase }) = record {
        stage = sym (idle_left le);
        next = is.next;
        phase = subst (λ s. IsLastPhase M s v.at own.phase) (sym (idle_left le)) (any_phase M v.stage v.at own.phase is.phase);
      } in
      subst (λ x. IsPlace x (record { stage = stage.Idle; next = own.next; phase = own.phase })) (sym e) made

  pub held_place : (w : View) → w ≡ done_with v → m < b → (last : Phase) → last ≡ phase_of M m → IsPlace w (record { stage = stage.Held m b; next = own.next; phase = last })
  held_place w e lt last l =
      let made : IsPlace (done_with v) (record { stage = stage.Held m b; next = own.next; phase = last }) = record {
        stage = sym (held_left lt);
        next = is.next;
        phase = subst (λ s. IsLastPhase M s v.at last) (sym (held_left lt)) l;
      } in
      subst (λ x. IsPlace x (record { stage = stage.Held m b; next = own.next; phase = last })) (sym e) made

-- no place is left after a finish
pub none_left : (k : Scope) (s : Stage) (at : ℕ) → carried k (left_of s) at ≡ []
none_left k s at = by (nat_lt (open_end s) (held_end s))
  where
    by : (t : Bool) → carried k (cond t (stage.Held (open_end s) (held_end s)) stage.Idle) at ≡ []
    by true = refl
    by false = refl

-- what a pass keeps where it goes on
left_inside : (p : Plan) (s : Stage) (at : ℕ) → IsInside p s at → IsInside p (left_of s) at
left_inside p stage.Idle at i = tt
left_inside p (stage.Held a b) at i = subst (λ t. IsInside p (cond t (stage.Held a b) stage.Idle) at) (sym (lt_is a b i.0)) i
left_inside p (stage.Open a m b) at i = dite (dec_le b m)
    (λ le. subst (λ t. IsInside p (cond t (stage.Held m b) stage.Idle) at) (sym (lt_not m b le)) tt)
    (λ out. let lt : m < b = lt_of_not-le out in subst (λ t. IsInside p (cond t (stage.Held m b) stage.Idle) at) (sym (lt_is m b lt)) (lt, i.4))
left_inside p stage.Ended at i = tt

next_inside : (p : Plan) (s : Stage) (at : ℕ) → suc at < open_end s → IsInside p s at → IsInside p s (suc at)
next_inside p stage.Idle at lt i = tt
next_inside p (stage.Held a b) at lt i = i
next_inside p (stage.Open a m b) at lt i = (omega (arith, i.0), lt, i.2, i.3, i.4)
next_inside p stage.Ended at lt i = tt

pub next_pass : (me m : Me Part View) (left : ℕ) (own own' : Place) → IsPass me left own → PerformsNext me.0 m.0 → m.1 ≡ carried m.0.scope m.0.stage m.0.at → IsPlace m.0 own' → IsPass m left own'
next_pass me m left own own' is next slots place =
    dite (dec_le (open_end me.0.stage) (suc me.0.at))
    (λ le. let e = next.ends le in
    record {
      slots = slots;
      inside = subst (λ (v : View). IsInside v.scope.plan v.stage v.at) (sym e) (left_inside me.0.scope.plan me.0.stage me.0.at is.inside);
      weight = subst (λ (v : View). 1 ≤ v.weight) (sym e) is.weight;
      spare = is.spare ∙ ap (λ (v : View). v.spare) (sym e);
      place = place;
    })
    (λ out. let lt : suc me.0.at < open_end me.0.stage = lt_of_not-le out in
    let e = next.goes_on lt in
    record {
      slots = slots;
      inside = subst (λ (v : View). IsInside v.scope.plan v.stage v.at) (sym e) (next_inside me.0.scope.plan me.0.stage me.0.at lt is.inside);
      weight = subst (λ (v : View). 1 ≤ v.weight) (sym e) is.weight;
      spare = is.spare ∙ ap (λ (v : View). v.spare) (sym e);
      place = place;
    })

pub among_open : (p : Plan) (s : Stage) (at : ℕ) → IsInside p s at → IsAmongOpen s at
among_open p stage.Idle at i = tt
among_open p (stage.Held a b) at i = tt
among_open p (stage.Open a m b) at i = (i.0, i.1)
among_open p stage.Ended at i = tt

-- the unit that a pass is at is one of the plan, and it has its places
module _ (v : View) (f : Scope) (own : Place) (scope : v.scope ≡ f) (is : IsPlace v own) (opened : IsOpen v.stage) where
  pub few_here : IsInside v.scope.plan v.stage v.at → own.next < unit_count f.plan
  few_here inside =
      let i = subst (λ s. IsInside v.scope.plan s v.at) opened inside in
      let few : own.next < unit_count v.scope.plan = omega (arith, is.next, i.1, i.3, i.4) in
      subst (λ (k : Scope). own.next < unit_count k.plan) scope few

  pub taken_here : (xs : List (ℕ × Part)) → xs ≡ carried v.scope v.stage v.at → xs ≡ taken f own.next
  taken_here xs e = e ∙ ap (λ s. carried v.scope s v.at) opened ∙ ap (λ k. taken k v.at) scope ∙ ap (taken f) (sym is.next)

-- a pass that has told some nodes stands where it stood
pub same_place : (v w : View) → w ≡ record v { told = w.told } → (own : Place) → IsPlace v own → IsPlace w own
same_place v w only own is = subst (λ (u : View). IsPlace u own) (sym only) record { stage = is.stage; next = is.next; phase = is.phase }

-- and goes on as if it had told none
pub next_told : (v w new : View) → w ≡ record v { told = w.told } → PerformsNext w new → PerformsNext v new
next_told v w new only next =
    let q : PerformsNext (record v { told = w.told }) new = subst (λ (u : View). PerformsNext u new) only next in
    record { goes_on = q.goes_on; ends = q.ends }
