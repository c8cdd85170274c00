-- When what is left serves walks to a zone.
use Rattle.std.specs.Prelude.{◌≡◌, ◌≢◌, ℕ, ◌+◌, ◌<◌, ◌≤◌, cond, map, List, ◌∷◌}
use Rattle.std.specs.Prelude.{length, get_or, slice_index, slice_index_or, slice_get, Option, Some}
use Rattle.std.specs.Prelude.{None}
use Rattle.net_core.specs.Network.{zones}
use Rattle.net_core.specs.declared.rows.NetRows.{NetRows}
use Rattle.dta_model.specs.LinkTimes.{TimeTable}
use Rattle.labels.specs.Filling.Labels.{most_left, far}
use Rattle.labels.specs.Reading.Follows.{Follows}
use Rattle.labels.specs.Reading.Paths.{Ways}
use Rattle.labels.specs.Filling.Rests.{least_over, AreTurns, AreOrdered, label_of}
use Rattle.labels.specs.States.Routers.{ways_to}
use Rattle.labels.specs.Filling.Tables.{left_alone, places, rests, states_in}
use Rattle.labels.specs.States.RouterWays.{is_own, onwards, state_of}
use Rattle.labels.specs.declared.reading.best.First.{First}
use Rattle.labels.specs.declared.states.onward.Onward.{Onward}
use Rattle.labels.specs.declared.states.router.Router.{Router}
use Rattle.labels.specs.declared.filling.label_table.LabelTable.{LabelTable}
use Rattle.labels.specs.declared.filling.one.One.{One}
use Rattle.labels.specs.declared.filling.table_forms.SlotTable.{SlotTable}

-- a place of what is left, and ways on and times of as many states and links
pub record Fit (l : LabelTable) (place : ℕ) (r : Router) (t : TimeTable) : Type 0 where
  pub within : place < places l
  pub states : states_in l ≡ length r.zones.items
  pub links : length r.states.items ≡ length t.free

-- the label of a link at a step
abbrev pub label_in : (ℕ → ℕ → ℕ) → (ℕ → ℕ → ℕ) → Router → ℕ → ℕ → Option ℕ
label_in at rest r = label_of at (length r.states.items) (state_of r) rest far

-- the ways on are the turns of a network, in the order of their links
pub record AreRoutes (net : NetRows) (zone : ℕ) (at : ℕ → ℕ → ℕ) (r : Router) : Type 0 where
  pub turns : AreTurns (ways_to at net zone) (length r.states.items) (is_own r zone) (state_of r)
      (onwards r) (length r.zones.items)
  pub ordered : (s : ℕ) → s < length r.zones.items → AreOrdered (onwards r s)

-- the ways on are those of a network, whatever the zone and the table are
pub record IsRouter (net : NetRows) (r : Router) : Type 0 where
  pub many : length r.states.items ≡ length net.links
  pub few : length r.zones.items ≤ length net.links
  pub routes : (zone : ℕ) (at : ℕ → ℕ → ℕ) → zone < length (zones net.nodes)
      → AreRoutes net zone at r

-- what is left over a table: nothing at the zone, elsewhere the least over the ways on; where
-- there is a walk it is far from what stands for none
pub record AreLeft (at rest : ℕ → ℕ → ℕ) (r : Router) (zone : ℕ) : Type 0 where
  pub left : (s e : ℕ) → s < length r.zones.items
      → cond (is_own r zone s) (rest s e ≡ 0) (rest s e ≡ least_over at far rest e (onwards r s))
  pub near : (s e : ℕ) → s < length r.zones.items → rest s e < far → rest s e ≤ most_left

-- what is left to each of the first zones of a list, in a table for each of them
abbrev pub AreTablesLeft : (ℕ → ℕ → ℕ) → Router → List (SlotTable One) → List ℕ → Type 0
AreTablesLeft at r tables zones = (j : ℕ) → j < length tables
    → AreLeft at (get_or (map left_alone tables) j (λ s e. far)) r (slice_index zones j)

-- what is left to each zone of a list
pub record AreAllLeft (at : ℕ → ℕ → ℕ) (r : Router) (t : LabelTable) (zones : List ℕ) : Type 0 where
  pub states : states_in t ≡ length r.zones.items
  pub places : length zones ≤ places t
  pub each : (j : ℕ) → j < length zones → AreLeft at (rests t j) r (slice_index zones j)

-- what is left is that of walks to a zone
pub record Serves (net : NetRows) (zone : ℕ) (at : ℕ → ℕ → ℕ) (rest : ℕ → ℕ → ℕ)
    (r : Router) : Type 0 where
  pub routes : AreRoutes net zone at r
  pub rests : (s e : ℕ) → s < length r.zones.items
      → cond (is_own r zone s) (rest s e ≡ 0) (rest s e ≡ least_over at far rest e (onwards r s))
  pub most : ℕ
  pub longest : ℕ
  pub near : (s e : ℕ) → s < length r.zones.items → rest s e < far → rest s e ≤ most
  pub short : (l e b wait : ℕ) → (ways_to at net zone).turn l b ≡ Some wait
      → wait + at b e ≤ longest
  pub room : most + longest < far
  pub takes_time : (l e : ℕ) → l < length r.states.items → 0 < at l e

-- over a link of the first of a list the least time is met, and over none before it
pub record IsBest (label : ℕ → Option ℕ) (firsts : List ℕ) (count l m : ℕ) : Type 0 where
  pub place : ℕ
  pub within : place < count
  pub stands : slice_get firsts place ≡ Some l
  pub gives : label l ≡ Some m
  pub least : (k c x : ℕ) → k < count → slice_get firsts k ≡ Some c → label c ≡ Some x → m ≤ x
  pub first : (k c x : ℕ) → k < place → slice_get firsts k ≡ Some c → label c ≡ Some x → m < x

-- the best of the first links of a list, where some walk goes over one
abbrev pub BestSoFar : (ℕ → Option ℕ) → List ℕ → ℕ → Option First → Type 0
BestSoFar label firsts count None = (k l : ℕ) → k < count → slice_get firsts k ≡ Some l
    → label l ≡ None
BestSoFar label firsts count (Some f) = IsBest label firsts count f.link f.time

-- the answer of a look whether there is a time below a number: that time, or none where there is
-- none below it
abbrev pub IsBelow : Option ℕ → ℕ → Option ℕ → Type 0
IsBelow time most None = (x : ℕ) → time ≡ Some x → most ≤ x
IsBelow time most (Some x) = (time ≡ Some x) × (x < most)

-- the first way on that takes a time, where there is one
abbrev pub FirstOver : (Onward → ℕ) → List Onward → ℕ → Option Onward → Type 0
FirstOver over ways left None = (k : ℕ) (d : Onward) → k < length ways
    → over (slice_index_or ways k d) ≢ left
FirstOver over ways left (Some w) = (over w ≡ left)
    × ((k : ℕ) × (slice_get ways k ≡ Some w) × ((i : ℕ) (d : Onward) → i < k
    → over (slice_index_or ways i d) ≢ left))

-- a route follows the labels from a link at a step
abbrev pub IsFollowed : Ways → (ℕ → ℕ → Option ℕ) → ℕ → ℕ → List ℕ → Type 0
IsFollowed g label l e route = (r : List ℕ) × (route ≡ l ∷ r) × Follows g label l e r
