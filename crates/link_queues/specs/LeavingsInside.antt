-- What the numbers of those who left are inside.
use Rattle.std.specs.Prelude.{◌≡◌, ◌<◌, ◌^◌, ◌++◌, ℕ, List, All, drop, take}
use Rattle.std.specs.List.{sum}
use Rattle.std.specs.Vec.{vec_len}
use Rattle.link_queues.specs.declared.ring.Ring.TheInside.{Inside}

-- the numbers of a ring from a place on, round its end
abbrev pub round_from : ℕ → List ℕ → List ℕ
round_from place numbers = drop place numbers ++ take place numbers

-- what contracts see of a ring: its numbers from the newest on
abbrev pub ring_leavings : Inside → List ℕ
ring_leavings r = round_from r.newest r.counts.items

-- what stands in every ring: the newest has its place, the numbers and how many they are fit in
-- 32 bits, and the total is their sum
pub record IsSoundRing (r : Inside) : Type 0 where
  pub place : r.newest < vec_len r.counts
  pub few : vec_len r.counts < 2 ^ 32
  pub small : All (λ count. count < 2 ^ 32) r.counts.items
  pub total : r.total ≡ sum r.counts.items
