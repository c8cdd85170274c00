-- Turns of vehicles, gathered and counted.
use Rattle.std.specs.Prelude.{◌≡◌, ℕ, ◌+◌, ◌/◌, ◌<◌, Bool, ◌&&◌, nat_eq, List, [], ◌∷◌, length, All}
use Rattle.std.specs.List.{sum_by}
use Rattle.std.specs.Ordering.{nat_cmp, ordering_then}
use Rattle.std.specs.Prelude.{count_by}
use Rattle.std.specs.declared.cmp.Ordering.{Ordering}
use Rattle.net_core.specs.Network.{numbers_below}
use Rattle.net_core.specs.declared.rows.LinkNo.{LinkNo}
use Rattle.dta_model.specs.LinkTimes.{buckets_to}
use Rattle.dta_model.specs.Loading.{trace_after}
use Rattle.dta_model.specs.Trace.{Move, moves_of}
use Rattle.dta_model.specs.declared.plan.Plan.{Plan}
use Rattle.counts.specs.Inside.Counting.{AreCounts, with_one}
use Rattle.counts.specs.Turns.{timed, times_taken, turn_count}
use Rattle.counts.specs.declared.turn_counts.TurnCount.{TurnCount}
use Rattle.counts.specs.declared.turns.TimedTurn.{TimedTurn}

-- the turns from a link on, over the links of a route that are entered in these steps
abbrev pub turns_after : ℕ → ℕ → List LinkNo → List ℕ → List TimedTurn
turns_after bucket a route [] = []
turns_after bucket a [] (e ∷ entries) = []
turns_after bucket a (b ∷ route) (e ∷ entries) =
    timed a b.0 (e / bucket) ∷ turns_after bucket b.0 route entries

-- and those over all of them
abbrev pub turns_along : ℕ → List LinkNo → List ℕ → List TimedTurn
turns_along bucket route [] = []
turns_along bucket [] (e ∷ entries) = []
turns_along bucket (a ∷ route) (e ∷ entries) = turns_after bucket a.0 route entries

abbrev pub is_turn : TimedTurn → TimedTurn → Bool
is_turn t x = nat_eq x.a t.a && nat_eq x.b t.b && nat_eq x.bucket t.bucket

-- the order in which turns are put before they are counted
abbrev pub turn_order : TimedTurn → TimedTurn → Ordering
turn_order x y =
    ordering_then (nat_cmp x.a y.a) (ordering_then (nat_cmp x.b y.b) (nat_cmp x.bucket y.bucket))

pub record IsWithin (links buckets : ℕ) (t : TimedTurn) : Type 0 where
  pub first : t.a < links
  pub second : t.b < links
  pub early : t.bucket < buckets

abbrev pub AreWithin : Plan → ℕ → List TimedTurn → Type 0
AreWithin p bucket turns =
    All (IsWithin (length p.net.links) (buckets_to bucket p.horizon)) turns

-- the turns of these moves are added
pub record AreAdded (p : Plan) (bucket : ℕ) (M : List Move)
    (old new : List TimedTurn) : Type 0 where
  pub each : (t : TimedTurn)
      → count_by (is_turn t) new ≡ count_by (is_turn t) old + times_taken bucket t M
  pub within : AreWithin p bucket old → AreWithin p bucket new

-- the turns of the first vehicles
pub record AreTurns (p : Plan) (bucket vehicles : ℕ) (turns : List TimedTurn) : Type 0 where
  pub each : (t : TimedTurn) → count_by (is_turn t) turns
      ≡ sum_by (λ v. times_taken bucket t (moves_of v (trace_after p p.horizon)))
      (numbers_below vehicles)
  pub within : AreWithin p bucket turns

-- the counts of some of these turns
abbrev pub AreTurnCounts : List TimedTurn → List TimedTurn → List TurnCount → Type 0
AreTurnCounts = AreCounts turn_order is_turn turn_count

abbrev pub is_count_of : TimedTurn → TurnCount → Bool
is_count_of t c = nat_eq t.a c.a.0 && nat_eq t.b c.b.0 && nat_eq t.bucket c.bucket

-- counts with one more of a turn
abbrev pub with_turn : TimedTurn → List TurnCount → List TurnCount
with_turn t counts =
    with_one (is_count_of t) (λ c. record c { vehicles = c.vehicles + 1 }) (turn_count t 1) counts
