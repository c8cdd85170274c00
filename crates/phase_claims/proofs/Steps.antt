-- Each step on the words keeps the running rule.
use Rattle.std.proofs.Common.{◌≡◌, ◌≢◌, ℕ, zero, suc, ◌+◌, ◌-◌, ◌*◌, ◌<◌, ◌≤◌, min, true, List, [], ◌∷◌, ◌++◌, length, length-append, set, refl, sym, ap, ◌∙◌, subst, ⊎_elim, lt_of_not-le, arith}
use mathlib.Core.Option.{some, some-injective, some-ne-none}
use mathlib.Core.Logic.{dite}
use native.Mathlib.Decide.{dec_le}
use lib.ListN.{get_elem?}
use Rattle.atomic_table.proofs.Lists.{at_snoc, set_else}
use Rattle.dta_model.specs.Machine.{left_of}
use Rattle.dta_model.specs.Units.{node_count, phase_end, phase_start, unit_count}
use Rattle.dta_model.specs.declared.machine.Stage.{Stage}
use Rattle.dta_model.specs.declared.machine.Stage.TheVariants as stage
use Rattle.dta_model.specs.declared.machine.TheConstants.{MOST_CHUNK}
use Rattle.claim_core.specs.Claimed.{Claimed}
use Rattle.claim_core.specs.Runs.{among, numbers}
use Rattle.claim_core.specs.Sums.{below, is_at, once_below, times, total}
use Rattle.claim_core.proofs.Claimed.{draw, finish, finished_le, none_held, not_past, open_now}
use Rattle.claim_core.proofs.Cuts.{below_same}
use Rattle.claim_core.proofs.Holds.{held_left, left_by}
use Rattle.claim_core.proofs.Phases.{lt_stop, same_start, same_stop, start_le}
use Rattle.claim_core.proofs.Runs.{among_in, among_two, below_among, is_among, length-numbers, times_numbers}
use Rattle.claim_core.proofs.Sums.{below_plus, full, once_here, once_in, once_le, once_out, total-append, total_at, total_le, total_only, total_set, total_snoc}
use Rattle.phase_claims.specs.declared.view.Scope.{Scope}
use Rattle.phase_claims.specs.declared.view.View.{View}
use Rattle.phase_claims.specs.Passes.{holds_no_unit}
use Rattle.phase_claims.specs.Running.{EarlierArePerformed, FitsPast, FitsStage, FitsView, Running}
use Rattle.phase_claims.specs.Views.{beginning, both_stages, ended, held_by, holding, holds, joined, less_spare, nobody, performed_by, performed_count, performs, rights, seeing, telling}
use Rattle.phase_claims.proofs.Counts.{claimed_same, each_set, holds_held, holds_idle, holds_none, holds_open, none_both}

module _ (k : Scope) (w n : ℕ) (views : List View) (r : Running k w n views) where
  abbrev N : ℕ
  N = node_count k.plan

  abbrev Q : ℕ
  Q = unit_count k.plan

  abbrev g : ℕ
  g = min w Q

  -- a number that a pass holds was drawn, and is held
  pub held_in : (by c : ℕ) (v : View) → get_elem? views by ≡ some v → 1 ≤ holds c v → (1 ≤ held_by views c) × (c < g)
  held_in by c v e h =
      let most = total_at (holds c) views by v e in
      let one : 1 ≤ held_by views c = omega (arith, h, most) in
      (one, once_in c g (omega (arith, r.claimed.once c, one)))

  -- so are all of them
  pub held_most : (by a b : ℕ) (v : View) → get_elem? views by ≡ some v → ((x : ℕ) → holds x v ≡ among a b x) → a < b → b ≤ g
  held_most by a b v e is lt =
      let last : 1 ≤ holds (b - 1) v = omega (arith, is (b - 1), among_in a b (b - 1) (omega (arith, lt)) (omega (arith, lt))) in
      omega (arith, lt, (held_in by (b - 1) v e last).1)

  pub finished_most : n ≤ Q
  finished_most = omega (arith, finished_le N g n (performed_by views) (held_by views) r.claimed)

  -- a view that has the same counts
  looks : (by : ℕ) (v v' : View) → get_elem? views by ≡ some v → ((x : ℕ) → holds x v' ≡ holds x v) → v'.performed ≡ v.performed → v'.past ≡ v.past → v'.weight ≡ v.weight → v'.spare ≡ v.spare → FitsView k n v' → Running k w n (set views by v')
  looks by v v' e same_holds same_done same_past same_weight same_spare fits = record {
    claimed = claimed_same N g n (performed_by views) (held_by views) (performed_by (set views by v')) (held_by (set views by v')) r.claimed
        (λ x. omega (arith, total_set (performs x) views by v v' e, ap (times x) same_done))
        (λ x. omega (arith, total_set (holds x) views by v v' e, same_holds x));
    performed = omega (arith, r.performed, total_set performed_count views by v v' e, ap length same_done);
    past = omega (arith, r.past, total_set (λ v. v.past) views by v v' e, same_past);
    rights = omega (arith, r.rights, total_set rights views by v v' e, same_weight, same_spare);
    each = each_set (FitsView k n) views by v' (λ j u _ a. r.each j u a) fits;
  }

  -- a draw of units, where the last of the chunk may be past the last unit
  pub draws_units : (by many : ℕ) (v : View) → get_elem? views by ≡ some v → v.stage ≡ stage.Idle → 1 ≤ v.weight → 1 ≤ many → many ≤ MOST_CHUNK → w < Q → Running k (w + many) n (set views by (holding v w many))
  draws_units by many v e idle has one few lt =
      let v' : View = holding v w many in
      let views' : List View = set views by v' in
      let f = r.each by v e in
      let units : unit_count v.scope.plan ≡ Q = ap (λ (j : Scope). unit_count j.plan) (f.scope has) in
      let before : g ≡ w = omega (arith, lt) in
      let stop : ℕ = min (w + many) Q in
      let stops : min (w + many) (unit_count v.scope.plan) ≡ stop = ap (λ q. min (w + many) q) units in
      let more : (x : ℕ) → held_by views' x ≡ held_by views x + among w stop x = λ x.
      (let t = total_set (holds x) views by v v' e in omega (arith, t, holds_idle v.stage x idle, ap (λ b. among w b x) stops)) in
      let was : Claimed N w n (performed_by views) (held_by views) = subst (λ (b : ℕ). Claimed N b n (performed_by views) (held_by views)) before r.claimed in
      let drawn : Claimed N stop n (performed_by views) (held_by views') = draw N w n (performed_by views) (held_by views) was stop (held_by views') (omega (arith, lt)) more in
      let none : v.past ≡ 0 = omega (arith, r.past, before, total_at (λ (u : View). u.past) views by v e) in
      let past' : v'.past ≡ v.past + (w + many - Q) = ap (λ q. v.past + (w + many - q)) units in record {
        claimed = claimed_same N stop n (performed_by views) (held_by views') (performed_by views') (held_by views') drawn
            (λ x. omega (arith, total_set (performs x) views by v v' e)) (λ x. refl);
        performed = omega (arith, r.performed, total_set performed_count views by v v' e);
        past = omega (arith, r.past, total_set (λ v. v.past) views by v v' e, past', lt);
        rights = omega (arith, r.rights, total_set rights views by v v' e);
        each = each_set (FitsView k n) views by v' (λ j u _ a. r.each j u a) record {
          scope = f.scope;
          seen = f.seen;
          past = omega (arith, past', none, has, few, lt);
          empty = λ z. absurd (omega (arith, z, has));
          stage = omega (arith, stops, one, lt);
        };
      }

  -- a draw past the last unit
  pub draws_none : (by many : ℕ) (v : View) → get_elem? views by ≡ some v → v.stage ≡ stage.Idle → 1 ≤ v.weight → 1 ≤ many → many ≤ MOST_CHUNK → Q ≤ w → Running k (w + many) n (set views by (ended v many))
  draws_none by many v e idle has one few le =
      let v' : View = ended v many in
      let views' : List View = set views by v' in
      let f = r.each by v e in
      let low : v.past ≤ v.weight * MOST_CHUNK = subst (λ (s : Stage). FitsPast s v.weight v.past) idle f.past in
      let same : g ≡ min (w + many) Q = omega (arith, le) in
      let whole : Claimed N g n (performed_by views') (held_by views') = claimed_same N g n (performed_by views) (held_by views) (performed_by views') (held_by views') r.claimed
      (λ x. omega (arith, total_set (performs x) views by v v' e))
      (λ x. omega (arith, total_set (holds x) views by v v' e, holds_idle v.stage x idle, holds_none stage.Ended refl x)) in record {
        claimed = subst (λ (b : ℕ). Claimed N b n (performed_by views') (held_by views')) same whole;
        performed = omega (arith, r.performed, total_set performed_count views by v v' e);
        past = omega (arith, r.past, total_set (λ v. v.past) views by v v' e, le);
        rights = omega (arith, r.rights, total_set rights views by v v' e);
        each = each_set (FitsView k n) views by v' (λ j u _ a. r.each j u a) record {
          scope = f.scope;
          seen = f.seen;
          past = (omega (arith, one), omega (arith, low, has, few));
          empty = λ z. absurd (omega (arith, z, has));
          stage = tt;
        };
      }

  -- where the phase of the first number has begun, its numbers of that phase are open
  module _ (by a b : ℕ) (v : View) (e : get_elem? views by ≡ some v) (is : v.stage ≡ stage.Held a b) (le : phase_start N a ≤ n) where
    abbrev stop_of : ℕ
    stop_of = min b (phase_end N a)

    pub holds_all : (x : ℕ) → holds x v ≡ among a b x
    holds_all x = holds_held v.stage a b x is

    pub in_order : a < b
    in_order = subst (λ s. FitsStage N n s v.at) is (r.each by v e).stage

    pub opens_now : (phase_start N n ≤ a) × (a < stop_of) × (stop_of ≤ phase_end N n)
    opens_now =
        let first : 1 ≤ holds a v = omega (arith, holds_all a, among_in a b a (omega arith) in_order) in
        let now = open_now N g n (performed_by views) (held_by views) r.claimed a (held_in by a v e first).0 le in
        (now.0, omega (arith, in_order, lt_stop N a), omega (arith, same_stop N n a now.0 now.1))

    pub opens : 1 ≤ v.weight → Running k w n (set views by (record v { stage = stage.Open a stop_of b; at = a; told = []; seen = n; looks = v.looks + 1 }))
    opens has =
        let f = r.each by v e in
        looks by v (record v { stage = stage.Open a stop_of b; at = a; told = []; seen = n; looks = v.looks + 1 }) e (λ x. sym (holds_held v.stage a b x is)) refl refl refl refl record {
          scope = f.scope;
          seen = omega arith;
          past = subst (λ (s : Stage). FitsPast s v.weight v.past) is f.past;
          empty = λ z. absurd (omega (arith, z, has));
          stage = (omega arith, opens_now.1, omega arith, opens_now.0, opens_now.2);
        }

  -- and where it hasn't, none is
  pub waits : (by : ℕ) (v : View) → get_elem? views by ≡ some v → 1 ≤ v.weight → Running k w n (set views by (seeing v n))
  waits by v e has =
      let f = r.each by v e in
      looks by v (seeing v n) e (λ x. refl) refl refl refl refl record { scope = f.scope; seen = omega arith; past = f.past; empty = λ z. absurd (omega (arith, z, has)); stage = f.stage }

  -- a node is told
  pub tells : (by node : ℕ) (v : View) → get_elem? views by ≡ some v → 1 ≤ v.weight → Running k w n (set views by (telling v node))
  tells by node v e has =
      let f = r.each by v e in
      looks by v (telling v node) e (λ x. refl) refl refl refl refl record { scope = f.scope; seen = f.seen; past = f.past; empty = λ z. absurd (omega (arith, z, has)); stage = f.stage }

  pub earlier : (c : ℕ) → 1 ≤ held_by views c → phase_start N c ≤ n → EarlierArePerformed N c views
  earlier c held le x lt =
      let now = open_now N g n (performed_by views) (held_by views) r.claimed c held le in
      omega (arith, r.claimed.before x (omega (arith, lt, same_start N n c now.0 now.1)), r.claimed.once x, one x)
    where
      one : (x : ℕ) → once_below x g ≤ 1
      one x = once_le x g

  -- a pass with all passes in it finds the phase of its first number begun
  pub alone : (by a b : ℕ) (v : View) → get_elem? views by ≡ some v → v.stage ≡ stage.Held a b → rights v ≡ k.passes → phase_start N a ≤ n
  alone by a b v e is whole =
      let lt : a < b = subst (λ s. FitsStage N n s v.at) is (r.each by v e).stage in
      let others : (j : ℕ) (u : View) → j ≢ by → get_elem? views j ≡ some u → u ≡ nobody = λ j u ne at.
      (r.each j u at).empty (let s = total_set rights views j u nobody at in let t = total_at rights (set views j nobody) by v (set_else views j by nobody (λ q. ne (sym q)) ∙ e) in
      omega (arith, s, t, r.rights)) in
      let mine : (x : ℕ) → holds x v ≡ among a b x = λ x. holds_held v.stage a b x is in
      let only : (x : ℕ) → held_by views x ≡ among a b x = λ x. total_only (holds x) views by v e (λ j u ne at. ap (holds x) (others j u ne at) ∙ holds_idle stage.Idle x refl) ∙ mine x in
      let most : b ≤ g = held_most by a b v e mine lt in
      let count : below g (held_by views) ≡ b - a = below_same (held_by views) (among a b) g (λ x _. only x) ∙ below_among a b g (omega (arith, lt)) most in
      let all : g ≤ below g (λ x. performed_by views x + held_by views x) = full (λ x. performed_by views x + held_by views x) g (λ x l. omega (arith, r.claimed.once x, once_here x g l)) in
      omega (arith, lt, most, count, all, below_plus (performed_by views) (held_by views) g, r.claimed.sum, start_le N a)

  pub own : (by : ℕ) (v : View) → get_elem? views by ≡ some v → performed_count v ≤ n
  own by v e = omega (arith, total_at performed_count views by v e, r.performed)

  -- a finish of the open numbers
  module _ (by a m b : ℕ) (v : View) (e : get_elem? views by ≡ some v) (is : v.stage ≡ stage.Open a m b) where
    abbrev done_view : View
    done_view = record v { stage = left_of (stage.Open a m b); told = []; performed = v.performed ++ numbers a m }

    abbrev views' : List View
    views' = set views by done_view

    fits : FitsStage N n (stage.Open a m b) v.at
    fits = subst (λ s. FitsStage N n s v.at) is (r.each by v e).stage

    pub stands : (a < m) × (m ≤ b) × (phase_start N n ≤ a) × (m ≤ phase_end N n)
    stands = (omega (arith, fits.0, fits.1), fits.2, fits.3, fits.4)

    -- the unit that it is at is one of them
    pub is_at_one : (a ≤ v.at) × (v.at < m)
    is_at_one = (fits.0, fits.1)

    -- the next one is, where there is one
    pub turns : 1 ≤ v.weight → suc v.at < m → Running k w n (set views by (record v { at = suc v.at; told = [] }))
    turns has lt =
        let f = r.each by v e in
        looks by v (record v { at = suc v.at; told = [] }) e (λ x. refl) refl refl refl refl record {
          scope = f.scope;
          seen = f.seen;
          past = f.past;
          empty = λ z. absurd (omega (arith, z, has));
          stage = subst (λ s. FitsStage N n s (suc v.at)) (sym is) (omega (arith, fits.0), lt, fits.2, fits.3, fits.4);
        }

    pub has_all : (x : ℕ) → holds x v ≡ among a b x
    has_all x = holds_open v.stage a m b x is

    pub all_drawn : m ≤ g
    all_drawn = omega (arith, stands.1, held_most by a b v e has_all (omega (arith, stands.0, stands.1)))

    pub plus : (x : ℕ) → performs x done_view ≡ performs x v + among a m x
    plus x = omega (arith, total-append (is_at x) v.performed (numbers a m), times_numbers a m x (omega (arith, stands.0)))

    more : (x : ℕ) → performed_by views' x ≡ performed_by views x + among a m x
    more x = omega (arith, total_set (performs x) views by v done_view e, plus x)

    less : (x : ℕ) → held_by views' x + among a m x ≡ held_by views x
    less x = omega (arith, total_set (holds x) views by v done_view e, has_all x, held_left a m b x, among_two a m b x (omega (arith, stands.0)) stands.1)

    count : m - a ≡ below g (among a m)
    count = sym (below_among a m g (omega (arith, stands.0)) all_drawn)

    within : (x : ℕ) → 1 ≤ among a m x → x < phase_end N n
    within x h = omega (arith, (is_among a m x h).1, stands.3)

    pub step : Claimed N g (n + (m - a)) (performed_by views') (held_by views')
    step = finish N g n (performed_by views) (held_by views) r.claimed (among a m) (m - a) count within (performed_by views') (held_by views') more less

    pub finished_few : n + (m - a) ≤ Q
    finished_few = omega (arith, finished_le N g (n + (m - a)) (performed_by views') (held_by views') step)

    -- the units that another pass has open are of the same phase still
    others_stay : (j : ℕ) (u : View) → j ≢ by → get_elem? views j ≡ some u → (s : Stage) → u.stage ≡ s → FitsStage N n s u.at → FitsStage N (n + (m - a)) s u.at
    others_stay j u ne at stage.Idle q f = tt
    others_stay j u ne at (stage.Held c d) q f = f
    others_stay j u ne at stage.Ended q f = tt
    others_stay j u ne at (stage.Open c l d) q f = dite (dec_le (phase_end N n) (n + (m - a)))
        (λ last. let over : phase_end N n ≡ n + (m - a) = omega (arith, last, not_past N g n (performed_by views) (held_by views) r.claimed (among a m) (m - a) count within (performed_by views') (held_by views') more less) in
        let none = none_held N g n (performed_by views) (held_by views) r.claimed (among a m) (m - a) count within (performed_by views') (held_by views') more less over c (omega (arith, f.0, f.1, f.4)) in
        let there : get_elem? views' j ≡ some u = set_else views by j done_view ne ∙ at in
        absurd (omega (arith, none, total_at (holds c) views' j u there, holds_open u.stage c l d c q, among_in c d c (omega arith) (omega (arith, f.0, f.1, f.2)))))
        (λ rest. let lt : n + (m - a) < phase_end N n = lt_of_not-le rest in
        let s = same_start N n (n + (m - a)) (omega (arith, start_le N n)) lt in
        let t = same_stop N n (n + (m - a)) (omega (arith, start_le N n)) lt in
        (f.0, f.1, f.2, omega (arith, f.3, s), omega (arith, f.4, t)))

    pub finishes : 1 ≤ v.weight → Running k w (n + (m - a)) views'
    finishes has =
        let f = r.each by v e in
        let longer : performed_count done_view ≡ performed_count v + (m - a) = length-append v.performed (numbers a m) ∙ ap (λ c. length v.performed + c) (length-numbers a m) in record {
          claimed = step;
          performed = omega (arith, r.performed, total_set performed_count views by v done_view e, longer);
          past = omega (arith, r.past, total_set (λ v. v.past) views by v done_view e);
          rights = omega (arith, r.rights, total_set rights views by v done_view e);
          each = each_set (FitsView k (n + (m - a))) views by done_view
              (λ j u ne at. let q = r.each j u at in record { scope = q.scope; seen = omega (arith, q.seen); past = q.past; empty = q.empty; stage = others_stay j u ne at u.stage refl q.stage })
              record {
                scope = f.scope;
                seen = omega (arith, f.seen);
                past = left_by (λ s. FitsPast s v.weight v.past) a m b (λ _. subst (λ (s : Stage). FitsPast s v.weight v.past) is f.past) (λ _. subst (λ (s : Stage). FitsPast s v.weight v.past) is f.past);
                empty = λ z. absurd (omega (arith, z, has));
                stage = left_by (λ s. FitsStage N (n + (m - a)) s v.at) a m b (λ lt. lt) (λ _. tt);
              };
        }

  pub splits : (by : ℕ) (v : View) → get_elem? views by ≡ some v → 1 ≤ v.weight → 1 ≤ v.spare → Running k w n (set views by (less_spare v) ++ beginning v.scope 0 ∷ [])
  splits by v e has spare =
      let f = r.each by v e in
      let v' : View = less_spare v in
      let u : View = beginning v.scope 0 in
      let views' : List View = set views by v' ++ u ∷ [] in
      let sum_of : (f : View → ℕ) → total f views' + f v ≡ total f views + f v' + f u = λ f. omega (arith, total_set f views by v v' e, total_snoc f (set views by v') u) in record {
        claimed = claimed_same N g n (performed_by views) (held_by views) (performed_by views') (held_by views') r.claimed
            (λ x. omega (arith, sum_of (performs x))) (λ x. omega (arith, sum_of (holds x), holds_idle u.stage x refl));
        performed = omega (arith, r.performed, sum_of performed_count);
        past = omega (arith, r.past, sum_of (λ v. v.past));
        rights = omega (arith, r.rights, sum_of rights, spare);
        each = λ j y i. ⊎_elim
            (λ was. each_set (FitsView k n) views by v' (λ j u _ a. r.each j u a) record { scope = f.scope; seen = f.seen; past = f.past; empty = λ z. absurd (omega (arith, z, has)); stage = f.stage } j y was)
            (λ same. subst (FitsView k n) same record { scope = λ _. f.scope has; seen = omega arith; past = omega arith; empty = λ z. absurd (omega (arith, z)); stage = tt })
            (at_snoc (set views by v') u y j i);
      }

  past_both : (a b : Stage) (v u i j : ℕ) → holds_no_unit a ≡ true → holds_no_unit b ≡ true → FitsPast a v i → FitsPast b u j → FitsPast (both_stages a b) (v + u) (i + j)
  past_both stage.Idle stage.Idle v u i j ha hb fa fb = omega (arith, fa, fb)
  past_both stage.Idle stage.Ended v u i j ha hb fa fb = (omega (arith, fb.0), omega (arith, fa, fb.1))
  past_both stage.Ended stage.Idle v u i j ha hb fa fb = (omega (arith, fa.0), omega (arith, fa.1, fb))
  past_both stage.Ended stage.Ended v u i j ha hb fa fb = (omega (arith, fa.0), omega (arith, fa.1, fb.1))
  past_both (stage.Held c d) b v u i j ha hb fa fb = absurd (cc)
  past_both (stage.Open c m d) b v u i j ha hb fa fb = absurd (cc)
  past_both a (stage.Held c d) v u i j ha hb fa fb = absurd (cc)
  past_both a (stage.Open c m d) v u i j ha hb fa fb = absurd (cc)

  stage_both : (a b : Stage) → holds_no_unit a ≡ true → holds_no_unit b ≡ true → FitsStage N n (both_stages a b) 0
  stage_both stage.Idle stage.Idle ha hb = tt
  stage_both stage.Idle stage.Ended ha hb = tt
  stage_both stage.Ended b ha hb = tt
  stage_both (stage.Held c d) b ha hb = absurd (cc)
  stage_both (stage.Open c m d) b ha hb = absurd (cc)
  stage_both a (stage.Held c d) ha hb = absurd (cc)
  stage_both a (stage.Open c m d) ha hb = absurd (cc)

  pub joins : (by other : ℕ) (v u : View) → get_elem? views by ≡ some v → other ≢ by → get_elem? (set views by (joined v u)) other ≡ some u → holds_no_unit v.stage ≡ true → holds_no_unit u.stage ≡ true → 1 ≤ v.weight → Running k w n (set (set views by (joined v u)) other nobody)
  joins by other v u e ne there hv hu has =
      let v' : View = joined v u in
      let views' : List View = set (set views by v') other nobody in
      let f = r.each by v e in
      let there' : get_elem? views other ≡ some u = sym (set_else views by other v' ne) ∙ there in
      let f' = r.each other u there' in
      let sum_of : (f : View → ℕ) → total f views' + f u + f v ≡ total f views + f v' + f nobody = λ f. omega (arith, total_set f views by v v' e, total_set f (set views by v') other u nobody there) in
      let done_of : (x : ℕ) → performs x v' ≡ performs x v + performs x u = λ x. total-append (is_at x) v.performed u.performed in record {
        claimed = claimed_same N g n (performed_by views) (held_by views) (performed_by views') (held_by views') r.claimed
            (λ x. omega (arith, sum_of (performs x), done_of x))
            (λ x. omega (arith, sum_of (holds x), holds_none v.stage hv x, holds_none u.stage hu x, holds_none (both_stages v.stage u.stage) (none_both v.stage u.stage hv hu) x, holds_idle stage.Idle x refl));
        performed = omega (arith, r.performed, sum_of performed_count, length-append v.performed u.performed);
        past = omega (arith, r.past, sum_of (λ v. v.past));
        rights = omega (arith, r.rights, sum_of rights);
        each = each_set (FitsView k n) (set views by v') other nobody
            (λ j y _ i. each_set (FitsView k n) views by v' (λ j y _ a. r.each j y a) record {
              scope = λ _. f.scope has;
              seen = omega (arith, f.seen, f'.seen);
              past = past_both v.stage u.stage v.weight u.weight v.past u.past hv hu f.past f'.past;
              empty = λ z. absurd (omega arith);
              stage = stage_both v.stage u.stage hv hu;
            } j y i)
            record { scope = λ z. absurd (omega arith); seen = omega arith; past = omega arith; empty = λ _. refl; stage = tt };
      }

  -- word 1 has room
  past_view : (s : Stage) (weight past : ℕ) → FitsPast s weight past → past ≤ 512 * weight
  past_view stage.Idle weight past f = omega (arith, f)
  past_view (stage.Held a b) weight past f = omega (arith, f)
  past_view (stage.Open a m b) weight past f = omega (arith, f)
  past_view stage.Ended weight past f = omega (arith, f.1)

  pub drawn_most : w ≤ Q + 512 * k.passes
  drawn_most = omega (arith, r.past, r.rights, many_of views, total_le (λ v. v.past) (λ v. 512 * rights v) views (λ i v e. omega (arith, past_view v.stage v.weight v.past (r.each i v e).past)))
    where
      many_of : (vs : List View) → total (λ v. 512 * rights v) vs ≡ 512 * total rights vs
      many_of [] = refl
      many_of (v ∷ vs) = omega (arith, many_of vs)

pub begins : (k : Scope) → 1 ≤ k.passes → Running k 0 0 (beginning k (k.passes - 1) ∷ [])
begins k some_pass =
    let v : View = beginning k (k.passes - 1) in
    let nothing : min 0 (unit_count k.plan) ≡ 0 = omega arith in record {
      claimed = subst (λ (b : ℕ). Claimed (node_count k.plan) b 0 (performed_by (v ∷ [])) (held_by (v ∷ []))) (sym nothing) record {
        once = λ x. omega (arith, holds_idle v.stage x refl, once_out x 0 (omega arith));
        sum = refl;
        before = λ x l. absurd (omega (arith, l, start_le (node_count k.plan) 0));
        after = λ x l. refl;
      };
      performed = refl;
      past = omega arith;
      rights = omega (arith, some_pass);
      each = one;
    }
  where
    one : (by : ℕ) (v : View) → get_elem? (beginning k (k.passes - 1) ∷ []) by ≡ some v → FitsView k 0 v
    one zero v e = subst (FitsView k 0) (some-injective _ _ e) record { scope = λ _. refl; seen = omega arith; past = omega arith; empty = λ z. absurd (omega (arith, z)); stage = tt }
    one (suc by) v e = absurd (some-ne-none v (sym e))
