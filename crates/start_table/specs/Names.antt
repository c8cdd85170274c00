-- How the walk that identifiers name is looked for.
use Rattle.std.specs.Prelude.{◌≡◌, ℕ, suc, ◌≤◌, List, length, map, Option, Some, None, slice_get}
use Rattle.std.specs.Prelude.{nat_eq, IsSome}
use Rattle.net_core.specs.Ids.{place_of}
use Rattle.net_core.specs.Network.{turn}
use Rattle.net_core.specs.Rows.{link_ids}
use Rattle.net_core.specs.declared.rows.LinkNo.{LinkNo}
use Rattle.net_core.specs.declared.rows.NetRows.{NetRows}
use Rattle.net_core.specs.declared.rows.TheConstants.{MOST_LINKS}
use Rattle.dta_model.specs.Plans.{link_numbers}
use Rattle.dta_model.specs.Walks.{ends_in}

-- the identifiers of a network's links, in order
pub record IsIndex (net : NetRows) (ids : List ℕ) : Type 0 where
  pub is : ids ≡ link_ids net.links
  pub few : length ids ≤ MOST_LINKS

-- the links at the places of identifiers, or that some identifier has no place
abbrev pub TellsNames : List ℕ → List ℕ → Option (List LinkNo) → Type 0
TellsNames index ids None =
    (i : ℕ) × (id : ℕ) × (slice_get ids i ≡ Some id) × (place_of index id ≡ None)
TellsNames index ids (Some links) = map (place_of index) ids ≡ map Some (link_numbers links)

-- from the link at a place there is a turn to the next one, if there is one
abbrev pub TurnsOn : NetRows → List ℕ → ℕ → Type 0
TurnsOn net walk i = (a b : ℕ) → slice_get walk i ≡ Some a → slice_get walk (suc i) ≡ Some b
    → IsSome (turn net a b)

-- the link at a place ends in the destination exactly where it is the last one
abbrev pub EndsRight : NetRows → ℕ → List ℕ → ℕ → Type 0
EndsRight net destination walk i = (l : ℕ) → slice_get walk i ≡ Some l
    → ends_in net destination l ≡ nat_eq (suc i) (length walk)
