-- One pass over one in-link, on lists.
use Rattle.link_queues.specs.declared.line.TheConstants.{MOST_RIDERS}
use Rattle.std.specs.Prelude.{◌≡◌, ℕ, ◌+◌, ◌<◌, ◌≤◌, Bool, true, false, cond, ◌&&◌, ◌||◌, nat_lt}
use Rattle.std.specs.Prelude.{nat_le, nat_eq, List, [], ◌∷◌, ◌++◌, length, map, Option, None, Some}
use Rattle.std.specs.Prelude.{option_map, IfSome, All, slice_get, slice_set}
use Rattle.std.specs.List.{sum_by, last_or}
use Rattle.std.specs.List.Sorted.{IsNonDecreasing}
use Rattle.dta_model.specs.Riders.{RiderState, moved}
use Rattle.capacity_credits.specs.Meter.{MeterState, passed_one}
use Rattle.cell_stages.specs.declared.turn.LimitedTurn.{LimitedTurn}
use Rattle.cell_stages.specs.declared.exit.Exit.{Exit}
use Rattle.cell_stages.specs.declared.out_link.OutLink.{OutLink}
use Rattle.cell_stages.specs.declared.out_link.Waiting.{Waiting}
use Rattle.node_transfer.specs.declared.step.pass.HeadAction.{HeadAction}
use Rattle.node_transfer.specs.declared.step.pass.HeadAction.TheVariants.{Stays, Arrives, Enters}

-- the place of a link in a list, which is the length where it isn't there
unfoldable pub place_of : ℕ → List ℕ → ℕ
place_of b [] = 0
place_of b (x ∷ xs) = cond (nat_eq x b) 0 (place_of b xs + 1)

-- the links to which turns lead, those of out-links, and those who wait for them
abbrev pub turn_links : List LimitedTurn → List ℕ
turn_links ts = map (λ t. t.to.0) ts

abbrev pub out_links : List OutLink → List ℕ
out_links outs = map (λ o. o.link.0) outs

abbrev pub waitings : List OutLink → List Waiting
waitings outs = map (λ o. o.waiting) outs

-- a turn that is taken
abbrev pub used_turn : LimitedTurn → LimitedTurn
used_turn t = record t { limit = option_map passed_one t.limit }

-- whether a limit allows one more: it always does in a step without one
abbrev pub limit_open : Option MeterState → Bool
limit_open None = true
limit_open (Some m) = m.unlimited || nat_lt 0 m.left

-- a turn that isn't listed has no penalty and no limit
abbrev pub penalty_of : Option LimitedTurn → ℕ
penalty_of None = 0
penalty_of (Some t) = t.penalty

-- whether a turn may be taken once more
abbrev pub turn_open : Option LimitedTurn → Bool
turn_open None = true
turn_open (Some t) = limit_open t.limit

-- turns of which the one at place k, if it is there, is taken
abbrev pub used_in : Option LimitedTurn → ℕ → List LimitedTurn → List LimitedTurn
used_in None k ts = ts
used_in (Some t) k ts = slice_set ts k (used_turn t)

-- one vehicle takes the turn at a place
abbrev pub used_at : ℕ → List LimitedTurn → List LimitedTurn
used_at k ts = used_in (slice_get ts k) k ts

-- whether one more may enter an out-link
abbrev pub out_open : Option OutLink → Bool
out_open None = false
out_open (Some o) = nat_lt 0 o.inflow.left

-- an out-link that a rider enters: it stands last in the batch
abbrev pub entered_out : ℕ → RiderState → OutLink → OutLink
entered_out step r o =
    record o { inflow = passed_one o.inflow; batch = o.batch ++ moved r step ∷ [] }

-- out-links of which a rider enters the one at place p, if it is there
abbrev pub entered_in : Option OutLink → ℕ → ℕ → RiderState → List OutLink → List OutLink
entered_in None p step r outs = outs
entered_in (Some o) p step r outs = slice_set outs p (entered_out step r o)

-- a rider enters the out-link at a place
abbrev pub entered_at : ℕ → ℕ → RiderState → List OutLink → List OutLink
entered_at p step r outs = entered_in (slice_get outs p) p step r outs

-- whether one that is ready may take the turn at a place into the out-link at a place
abbrev pub is_entry : ℕ → ℕ → List LimitedTurn → List OutLink → ℕ → ℕ → Bool
is_entry step ready turns outs p k =
    nat_le (ready + penalty_of (slice_get turns k)) step
    && (turn_open (slice_get turns k) && out_open (slice_get outs p))

-- one that is ready enters, or stays
abbrev pub entry_at : ℕ → ℕ → List LimitedTurn → List OutLink → ℕ → ℕ → HeadAction
entry_at step ready turns outs p k = cond (is_entry step ready turns outs p k) (Enters p k) Stays

-- what one does that is ready: without a next link it arrives, else it enters that link if it may
abbrev pub by_target : ℕ → ℕ → List LimitedTurn → List OutLink → Option ℕ → HeadAction
by_target step ready turns outs None = cond (nat_le ready step) Arrives Stays
by_target step ready turns outs (Some b) =
    entry_at step ready turns outs (place_of b (out_links outs)) (place_of b (turn_links turns))

-- what one does that entered its link at a step: nobody leaves beyond the link's allowance
abbrev pub head_action_by : ℕ → Exit → List OutLink → Option ℕ → Option ℕ → HeadAction
head_action_by step exit outs None target = Stays
head_action_by step exit outs (Some entry) target =
    cond (nat_lt 0 exit.outflow.left)
    (by_target step (entry + exit.free) exit.turns outs target)
    Stays

-- what the head of the line does
unfoldable pub head_action : ℕ → Exit → List OutLink → RiderState → HeadAction
head_action step exit outs r =
    head_action_by step exit outs (last_or None r.entries) (slice_get r.ahead 0)

-- a line, its exit, the out-links and those who arrived, while heads move
pub record Work : Type 0 where
  pub line : List RiderState
  pub exit : Exit
  pub outs : List OutLink
  pub arrived : List RiderState

-- an exit through which one vehicle arrived, and one through which one left by turn k
abbrev pub after_arrival : Exit → Exit
after_arrival exit = record exit { outflow = passed_one exit.outflow }

abbrev pub after_entry : ℕ → Exit → Exit
after_entry k exit = record exit { outflow = passed_one exit.outflow; turns = used_at k exit.turns }

-- the lists once no head moves
unfoldable pub passed : ℕ → List RiderState → Exit → List OutLink → List RiderState → Work
passed step [] exit outs arrived = record { line = []; exit = exit; outs = outs; arrived = arrived }
passed step (r ∷ line) exit outs arrived = elim (head_action step exit outs r) as (λ _. Work) [
  | Stays ↦ record { line = r ∷ line; exit = exit; outs = outs; arrived = arrived }
  | Arrives ↦ passed step line (after_arrival exit) outs (arrived ++ moved r step ∷ [])
  | Enters p k ↦ passed step line (after_entry k exit) (entered_at p step r outs) arrived
]

-- no head of a line moves, in whichever step and through whichever exit
abbrev pub NobodyPasses : List RiderState → List OutLink → Type 0
NobodyPasses line outs =
    (step : ℕ) (exit : Exit) (arrived : List RiderState)
    → passed step line exit outs arrived
    ≡ record { line = line; exit = exit; outs = outs; arrived = arrived }

-- a rider on its way to one of the links, which stand in order
pub record Rides (links : List ℕ) (r : RiderState) : Type 0 where
  pub order : IsNonDecreasing links
  pub under_way : r.arrival ≡ None
  pub placed : IfSome (slice_get r.ahead 0) (λ b. place_of b links < length links)

-- how many riders an out-link has
abbrev pub held : OutLink → ℕ
held o = length o.waiting.later + (length o.waiting.due + length o.batch)

-- how many riders stand in a line and behind it
abbrev pub total : List RiderState → List OutLink → List RiderState → ℕ
total line outs arrived = length line + (length arrived + sum_by held outs)

-- lists hold all riders of a line and behind it
abbrev pub FitsAll : List RiderState → List OutLink → List RiderState → Type 0
FitsAll line outs arrived = total line outs arrived ≤ MOST_RIDERS

-- all who stand in a line ride on to an out-link or arrive, and lists hold all riders
pub record CanPass (line : List RiderState) (outs : List OutLink) (arrived : List RiderState)
    : Type 0 where
  pub rides : All (Rides (out_links outs)) line
  pub fits : FitsAll line outs arrived
