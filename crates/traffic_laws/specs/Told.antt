-- The same counts by the journeys that a loading gives: what its table of agents shows.
use Rattle.std.specs.List.{zip}
use Rattle.std.specs.Prelude.{ℕ, ◌≡◌, ◌++◌, ◌&&◌, nat_eq, nat_le, nat_lt, List, count_by, drop}
use Rattle.std.specs.Prelude.{option_to_list, sum_by}
use Rattle.dta_model.specs.Loading.{journey_of, trace_after}
use Rattle.dta_model.specs.Plans.{route_of, vehicles_of}
use Rattle.dta_model.specs.declared.plan.Plan.{Plan}
use Rattle.traffic_laws.specs.Capacity.{entered_within, left_within}

-- the links of a vehicle's route, each with the step in which the vehicle entered it
abbrev pub told_entries : Plan → ℕ → List (ℕ × ℕ)
told_entries p v = zip (route_of p v) (journey_of p v).entries

-- and each with the step in which it left it: that of the next entry, or of the arrival
abbrev pub told_leavings : Plan → ℕ → List (ℕ × ℕ)
told_leavings p v =
    zip (route_of p v)
    (drop 1 ((journey_of p v).entries ++ option_to_list (journey_of p v).arrival))

-- how many of these are of link l, with a step from s to below u
abbrev pub told_within : List (ℕ × ℕ) → ℕ → ℕ → ℕ → ℕ
told_within steps l s u =
    count_by (λ e. nat_eq e.0 l && nat_le s e.1 && nat_lt e.1 u) steps

-- all vehicles together tell who enters a link in some steps, and who leaves it
abbrev pub EntriesAreTold : Type 0
EntriesAreTold =
    (p : Plan) (l s u : ℕ)
    → entered_within (trace_after p p.horizon) l s u
    ≡ sum_by (λ v. told_within (told_entries p v) l s u) (vehicles_of p)

abbrev pub LeavingsAreTold : Type 0
LeavingsAreTold =
    (p : Plan) (l s u : ℕ)
    → left_within (trace_after p p.horizon) l s u
    ≡ sum_by (λ v. told_within (told_leavings p v) l s u) (vehicles_of p)
