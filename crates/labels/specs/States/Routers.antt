-- Where links end, and the ways on from there.
use Rattle.std.specs.Prelude.{◌≡◌, ℕ, ◌+◌, ◌<◌, ◌≤◌, ◌&&◌, Bool, cond, nat_lt, List, length}
use Rattle.std.specs.Prelude.{slice_index, All, Option, None, Some}
use Rattle.std.specs.List.{slice_range}
use Rattle.net_core.specs.Network.{turn}
use Rattle.net_core.specs.declared.rows.NetRows.{NetRows}
use Rattle.fixed_units.specs.declared.turn.TheConstants.{MOST_PENALTY_STEPS}
use Rattle.net_core.specs.declared.rows.Turn.{Turn}
use Rattle.dta_model.specs.Walks.{begins_in, ends_in}
use Rattle.labels.specs.Named.{zone_named}
use Rattle.labels.specs.Reading.Paths.{Ways}
use Rattle.labels.specs.declared.states.onward.Onward.{Onward}

-- the ways on from each state stand one after another, and lead to states and links that are there
pub record AreWays (states starts : List ℕ) (ways : List Onward) (zones : List ℕ) : Type 0 where
  pub inside : All (λ s. s < length zones) states
  pub to : All (λ w. w.to < length zones) ways
  pub link : All (λ w. w.link < length states) ways
  pub wait : All (λ w. w.wait ≤ MOST_PENALTY_STEPS) ways
  pub started : length starts ≡ length zones + 1
  pub order : (s : ℕ) → s < length zones → (slice_index starts s ≤ slice_index starts (s + 1))
      × (slice_index starts (s + 1) ≤ length ways)

-- the ways on from a state
abbrev pub ways_of : List ℕ → List Onward → ℕ → List Onward
ways_of starts ways s = slice_range ways (slice_index starts s) (slice_index starts (s + 1))

-- the penalty of a turn that is allowed
abbrev pub wait_of : Option Turn → Option ℕ
wait_of None = None
wait_of (Some way) = Some way.penalty

-- the penalty of the turn between two links of the table, where it is allowed
unfoldable pub wait_between : NetRows → ℕ → ℕ → Option ℕ
wait_between net a b =
    cond (nat_lt a (length net.links) && nat_lt b (length net.links)) (wait_of (turn net a b)) None

-- whether a link of the table begins in a zone, and whether it ends in one
unfoldable pub begins_from : NetRows → ℕ → ℕ → Bool
begins_from net zone l = nat_lt l (length net.links) && begins_in net (zone_named net zone) l

unfoldable pub ends_to : NetRows → ℕ → ℕ → Bool
ends_to net zone l = nat_lt l (length net.links) && ends_in net (zone_named net zone) l

-- what walks to a zone read
abbrev pub ways_to : (ℕ → ℕ → ℕ) → NetRows → ℕ → Ways
ways_to at net zone = record { at = at; turn = wait_between net; ends = ends_to net zone }
