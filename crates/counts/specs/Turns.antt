-- Turns that vehicles take, and how many moves take each in each bucket.
use Rattle.std.specs.List.{flat_map}
use Rattle.std.specs.Prelude.{ℕ, ◌*◌, ◌/◌, ◌<◌, Bool, cond, ◌&&◌, nat_eq, List, [], ◌∷◌, ◌++◌}
use Rattle.std.specs.Prelude.{length, map}
use Rattle.net_core.specs.Network.{numbers_below}
use Rattle.net_core.specs.declared.rows.NetRows.{NetRows}
use Rattle.dta_model.specs.LinkTimes.{buckets_to}
use Rattle.dta_model.specs.Loading.{trace_after}
use Rattle.dta_model.specs.Trace.{Move, leads_to, stands_on}
use Rattle.dta_model.specs.declared.plan.Plan.{Plan}
use Rattle.counts.specs.Counting.{counts_of}
use Rattle.counts.specs.declared.turn_counts.TurnCount.{TurnCount}
use Rattle.counts.specs.declared.turns.TimedTurn.{TimedTurn}

abbrev pub timed : ℕ → ℕ → ℕ → TimedTurn
timed a b bucket = record { a = a; b = b; bucket = bucket }

-- whether a move takes a turn: its vehicle stands on the first link, it leads onto the second, and
-- its step is in the bucket. The moves `before` come before it
unfoldable pub takes : ℕ → TimedTurn → List Move → Move → Bool
takes bucket t before m =
    stands_on t.a before m.vehicle && leads_to t.b m && nat_eq (m.step / bucket) t.bucket

-- those of a trace that take it, where the moves `before` come before the trace
unfoldable pub taking : ℕ → TimedTurn → List Move → List Move → List Move
taking bucket t before [] = []
taking bucket t before (m ∷ later) =
    cond (takes bucket t before m) (m ∷ taking bucket t (before ++ m ∷ []) later)
    (taking bucket t (before ++ m ∷ []) later)

-- how often a trace takes it
unfoldable pub times_taken : ℕ → TimedTurn → List Move → ℕ
times_taken bucket t T = length (taking bucket t [] T)

-- the turns between two links, those from a link, and all of them, over so many links and in so
-- many buckets: by the first link, the second, and the bucket
unfoldable pub turns_between : ℕ → ℕ → ℕ → List TimedTurn
turns_between buckets a b = map (timed a b) (numbers_below buckets)

unfoldable pub turns_from : ℕ → ℕ → ℕ → List TimedTurn
turns_from links buckets a = flat_map (turns_between buckets a) (numbers_below links)

unfoldable pub all_turns : ℕ → ℕ → List TimedTurn
all_turns links buckets = flat_map (turns_from links buckets) (numbers_below links)

abbrev pub turn_count : TimedTurn → ℕ → TurnCount
turn_count t vehicles = record {
  a = record { 0 = t.a };
  b = record { 0 = t.b };
  bucket = t.bucket;
  vehicles = vehicles;
}

-- the turn counts of a trace: how often it takes each turn in each bucket up to the horizon, in
-- order, without those of 0
unfoldable pub turn_counts_in : Plan → ℕ → List Move → List TurnCount
turn_counts_in p bucket T =
    counts_of turn_count (λ t. times_taken bucket t T)
    (all_turns (length p.net.links) (buckets_to bucket p.horizon))

-- and those of a loading
unfoldable pub turn_counts : Plan → ℕ → List TurnCount
turn_counts p bucket = turn_counts_in p bucket (trace_after p p.horizon)

-- a count of a turn between links of the network, in a bucket of so many steps that begins below
-- the horizon
pub record IsOfNet (net : NetRows) (horizon bucket : ℕ) (c : TurnCount) : Type 0 where
  pub first : c.a.0 < length net.links
  pub second : c.b.0 < length net.links
  pub begins : c.bucket * bucket < horizon
