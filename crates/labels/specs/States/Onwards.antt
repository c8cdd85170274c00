-- The ways on from links of a network, one state after another.
use Rattle.std.specs.Prelude.{◌≡◌, ℕ, ◌+◌, ◌<◌, ◌≤◌, List, [], ◌∷◌, length, slice_index, All}
use Rattle.std.specs.Prelude.{Option, None, Some}
use Rattle.net_core.specs.Network.{as_links, link_at, outs, turn, zone_of}
use Rattle.net_core.specs.declared.rows.LinkNo.{LinkNo}
use Rattle.net_core.specs.declared.rows.NetRows.{NetRows}
use Rattle.fixed_units.specs.declared.turn.TheConstants.{MOST_PENALTY_STEPS}
use Rattle.net_core.specs.declared.rows.Turn.{Turn}
use Rattle.labels.specs.States.Routers.{wait_between}
use Rattle.labels.specs.States.Routers.{ways_of}
use Rattle.labels.specs.declared.states.zone_numbers.TheConstants.{NO_ZONE}
use Rattle.labels.specs.declared.states.onward.Onward.{Onward}

-- ways on, after one by a turn to a link where it is allowed
abbrev pub with_turn : Option Turn → ℕ → ℕ → List Onward → List Onward
with_turn None link to ways = ways
with_turn (Some way) link to ways = record { wait = way.penalty; link = link; to = to } ∷ ways

-- the ways on from link a to some links
abbrev pub ways_over : NetRows → List ℕ → ℕ → List LinkNo → List Onward
ways_over net states a [] = []
ways_over net states a (b ∷ others) =
    with_turn (turn net a b.0) b.0 (slice_index states b.0) (ways_over net states a others)

-- those to all links that begin where it ends
abbrev pub ways_from : NetRows → List ℕ → ℕ → List Onward
ways_from net states a = ways_over net states a (as_links (outs net (link_at net a).to.0))

-- the number of a zone, or the one that stands for none
abbrev pub zone_or_none : Option ℕ → ℕ
zone_or_none None = NO_ZONE
zone_or_none (Some zone) = zone

-- the number of the zone in which a link ends
abbrev pub end_zone : NetRows → ℕ → ℕ
end_zone net a = zone_or_none (zone_of net (link_at net a).to.0)

-- the state of each link, and for each state a link that leads it: links of a state end at one
-- node, and go on by the same turns as its lead
pub record AreStates (net : NetRows) (states leads : List ℕ) : Type 0 where
  pub many : length states ≡ length net.links
  pub inside : All (λ s. s < length leads) states
  pub few : length leads ≤ length net.links
  pub leading : All (λ a. a < length net.links) leads
  pub ends : (l : ℕ) → l < length states → (link_at net
      (slice_index leads (slice_index states l))).to ≡ (link_at net l).to
  pub turns : (l b : ℕ) → l < length states → wait_between net
      (slice_index leads (slice_index states l)) b ≡ wait_between net l b

-- the number of the zone in which a link begins
abbrev pub begin_zone : NetRows → ℕ → ℕ
begin_zone net a = zone_or_none (zone_of net (link_at net a).from.0)

-- the ways on from the first states stand one after another
pub record AreOnwards (net : NetRows) (states leads starts : List ℕ) (ways : List Onward)
    (zones : List ℕ) (count : ℕ) : Type 0 where
  pub zoned : length zones ≡ count
  pub started : length starts ≡ count + 1
  pub last : slice_index starts count ≡ length ways
  pub order : (s : ℕ) → s < count → (slice_index starts s ≤ slice_index starts (s + 1))
      × (slice_index starts (s + 1) ≤ length ways)
  pub are : (s : ℕ) → s < count → ways_of starts ways s ≡ ways_from net states (slice_index leads s)
  pub zone : (s : ℕ) → s < count → slice_index zones s ≡ end_zone net (slice_index leads s)
  pub to : All (λ w. w.to < length leads) ways
  pub link : All (λ w. w.link < length net.links) ways
  pub wait : All (λ w. w.wait ≤ MOST_PENALTY_STEPS) ways
