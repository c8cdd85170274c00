-- Lists of views, and how often they hold and perform a unit.
use Rattle.std.specs.Prelude.{nat_lt}
use Rattle.std.proofs.Common.{◌≡◌, ◌≢◌, ℕ, zero, suc, ◌+◌, ◌<◌, ◌≤◌, Bool, true, false, cond, List, [], ◌∷◌, set, refl, ap, ◌∙◌, subst, ⊎_elim, arith}
use Rattle.std.proofs.lemmas.Bool.Decides.{nat_tests}
use mathlib.Core.Option.{some}
use lib.ListN.{get_elem?}
use Rattle.atomic_table.proofs.Lists.{at_set}
use Rattle.claim_core.specs.Claimed.{Claimed}
use Rattle.claim_core.specs.Runs.{among}
use Rattle.claim_core.specs.Sums.{total}
use Rattle.claim_core.proofs.Cuts.{below_same}
use Rattle.claim_core.proofs.Runs.{among_none}
use Rattle.dta_model.specs.Machine.{left_of}
use Rattle.dta_model.specs.declared.machine.Stage.{Stage}
use Rattle.dta_model.specs.declared.machine.Stage.TheVariants as stage
use Rattle.phase_claims.specs.declared.view.View.{View}
use Rattle.phase_claims.specs.Passes.{holds_no_unit}
use Rattle.phase_claims.specs.Views.{both_stages, holds_in, worked_in}

-- what holds of all views where one of them becomes another
pub each_set : (P : View → Type 0) (views : List View) (by : ℕ) (w : View)
    → ((j : ℕ) (u : View) → j ≢ by → get_elem? views j ≡ some u → P u) → P w
    → (j : ℕ) (u : View) → get_elem? (set views by w) j ≡ some u → P u
each_set P views by w others here j u e =
    ⊎_elim
    (λ (x : (j ≡ by) × (w ≡ u)). subst P x.1 here)
    (λ (x : (j ≢ by) × (get_elem? views j ≡ some u)). others j u x.0 x.1)
    (at_set views by j w u e)

-- counts that are the same
pub claimed_same : (N g n : ℕ) (D H D' H' : ℕ → ℕ) → Claimed N g n D H
    → ((x : ℕ) → D' x ≡ D x) → ((x : ℕ) → H' x ≡ H x) → Claimed N g n D' H'
claimed_same N g n D H D' H' c done held = record {
  once = λ x. omega (arith, c.once x, done x, held x);
  sum = omega (arith, c.sum, below_same D' D g (λ x _. done x));
  before = λ x l. omega (arith, c.before x l, done x);
  after = λ x l. omega (arith, c.after x l, done x);
}

-- the numbers that are held in the rows of a chunk
pub holds_held : (s : Stage) (a b x : ℕ) → s ≡ stage.Held a b → holds_in s x ≡ among a b x
holds_held s a b x e = ap (λ y. holds_in y x) e

pub holds_open : (s : Stage) (a m b x : ℕ) → s ≡ stage.Open a m b → holds_in s x ≡ among a b x
holds_open s a m b x e = ap (λ y. holds_in y x) e

-- and where there is none
pub holds_idle : (s : Stage) (x : ℕ) → s ≡ stage.Idle → holds_in s x ≡ 0
holds_idle s x e = ap (λ y. holds_in y x) e ∙ among_none 0 x

pub holds_none : (s : Stage) → holds_no_unit s ≡ true → (x : ℕ) → holds_in s x ≡ 0
holds_none stage.Idle h x = among_none 0 x
holds_none (stage.Held a b) h x = absurd (cc)
holds_none (stage.Open a m b) h x = absurd (cc)
holds_none stage.Ended h x = among_none 0 x

pub worked_none : (s : Stage) (at x : ℕ) → holds_no_unit s ≡ true → worked_in s at x ≡ 0
worked_none stage.Idle at x h = refl
worked_none (stage.Held a b) at x h = absurd (cc)
worked_none (stage.Open a m b) at x h = absurd (cc)
worked_none stage.Ended at x h = refl

pub none_both : (a b : Stage) → holds_no_unit a ≡ true → holds_no_unit b ≡ true
    → holds_no_unit (both_stages a b) ≡ true
none_both stage.Idle b ha hb = hb
none_both stage.Ended b ha hb = refl
none_both (stage.Held c e) b ha hb = absurd (cc)
none_both (stage.Open c m e) b ha hb = absurd (cc)

-- sums of pairs that are the same
pub total_pair : (f g p q : View → ℕ) (views : List View)
    → ((i : ℕ) (v : View) → get_elem? views i ≡ some v → f v + g v ≡ p v + q v)
    → total f views + total g views ≡ total p views + total q views
total_pair f g p q [] h = refl
total_pair f g p q (v ∷ views) h =
    omega (arith, h zero v refl, total_pair f g p q views (λ i u e. h (suc i) u e))
