-- Which turns a network allows, and what they cost.
use Rattle.std.specs.Prelude.{ℕ, ◌≡◌, ◌≢◌, Any, All, Some}
use Rattle.net_core.specs.Network.{IsNet, as_turn, free_turn, link_at, turn}
use Rattle.net_core.specs.declared.rows.NetRows.{NetRows}

-- a turn from a link to another is allowed: the first link ends where the second begins,
-- and where some turn is listed at that node, this one is listed
pub record IsAllowed (net : NetRows) (a b : ℕ) : Type 0 where
  pub meets : (link_at net a).to ≡ (link_at net b).from
  pub listed :
      Any (λ row. (link_at net row.a.0).to ≡ (link_at net a).to) net.turns
      → Any (λ row. (row.a.0 ≡ a) × (row.b.0 ≡ b)) net.turns

-- each listed turn costs what its row says
abbrev pub ListedTurnsCostTheirRows : Type 0
ListedTurnsCostTheirRows =
    (net : NetRows) → IsNet net
    → All (λ row. turn net row.a.0 row.b.0 ≡ as_turn (Some row)) net.turns

-- a turn costs nothing at a node at which none is listed
abbrev pub OtherTurnsAreFree : Type 0
OtherTurnsAreFree =
    (net : NetRows) (a b : ℕ) → (link_at net a).to ≡ (link_at net b).from
    → All (λ row. (link_at net row.a.0).to ≢ (link_at net a).to) net.turns
    → turn net a b ≡ Some free_turn
