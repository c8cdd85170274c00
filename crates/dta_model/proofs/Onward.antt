-- Where vehicles on links may go, and where none are; with it, that vehicles are conserved.
use Rattle.std.specs.Prelude.{slice_get, ◌≤◌}
use Rattle.std.proofs.Common.{◌≡◌, ℕ, ◌<◌, ◌⊎◌, inl, inr, true, false, length, ap, sym, ◌∙◌, arith, Some}
use Rattle.std.proofs.lemmas.Bool.{cases_lt, eqb-true, false_from_ne_true}
use Rattle.std.proofs.lemmas.List.Elements.{All-weaker}
use Rattle.std.proofs.lemmas.Option.{none-some}
use Rattle.dta_model.specs.declared.plan.Plan.{Plan}
use Rattle.dta_model.specs.Laws.{NoneOutside, VehiclesAreConserved}
use Rattle.dta_model.specs.Loading.{trace_after}
use Rattle.dta_model.specs.Sound.{IsSound}
use Rattle.dta_model.specs.Trace.{Arrived, Onto, Target, is_link, leads_to, queue_of}
use Rattle.dta_model.proofs.Conserved.{conserved}
use Rattle.dta_model.proofs.Fuel.{trace-lawful}
use Rattle.dta_model.proofs.NoMoves.{nobody-on}
use Rattle.dta_model.proofs.Steady.{steady_of}
use Rattle.dta_model.proofs.Totals.{InTable, trace-in}

pub onto_one : (l : ℕ) (x : Target) → is_link l x ≡ true → x ≡ Onto l
onto_one l (Onto b) e = ap Onto (eqb-true b l e)
onto_one l Arrived e = cc

pub none_outside : NoneOutside
none_outside p sound t l past =
    nobody-on l (trace_after p t)
    (All-weaker (InTable (length p.net.links)) (λ m. leads_to l m ≡ false) (λ m inside. false_from_ne_true (leads_to l m) (λ e. too_far (inside l (onto_one l m.target e)))) (trace_after p t) (trace-in p (steady_of p sound) t))
  where
    too_far : l < length p.net.links → ⊥
    too_far below = omega (arith, past, below)

-- a link that somebody is on is in the table
in_table : (p : Plan) (t : ℕ) → IsSound p → (l i v : ℕ) → slice_get (queue_of l (trace_after p t)) i ≡ Some v → l < length p.net.links
in_table p t sound l i v h = by (cases_lt l (length p.net.links))
  where
    by : (l < length p.net.links) ⊎ (length p.net.links ≤ l) → l < length p.net.links
    by (inl below) = below
    by (inr past) = absurd (none-some v (sym (ap (λ Q. slice_get Q i) (none_outside p sound t l past)) ∙ h))

pub vehicles_are_conserved : VehiclesAreConserved
vehicles_are_conserved p t = conserved p t (trace_after p t) (trace-lawful p t) (in_table p t)
