-- States of links, as they are given one link after another.
use Rattle.std.specs.Prelude.{◌≡◌, ◌≢◌, ◌⊎◌, ℕ, ◌<◌, ◌≤◌, ◌++◌, ◌∷◌, [], List, length, slice_index}
use Rattle.std.specs.Prelude.{All}
use Rattle.net_core.specs.Network.{link_at}
use Rattle.net_core.specs.declared.rows.NetRows.{NetRows}
use Rattle.labels.specs.States.Routers.{wait_between}
use Rattle.labels.specs.declared.states.link_states.TheConstants.{NO_STATE}

-- the link that leads a state ends where a link does, and goes on by the same turns
pub record IsLed (net : NetRows) (leads : List ℕ) (link state : ℕ) : Type 0 where
  pub inside : state < length leads
  pub ends : (link_at net (slice_index leads state)).to ≡ (link_at net link).to
  pub turns : (b : ℕ) → wait_between net (slice_index leads state) b ≡ wait_between net link b

-- there are no more states than links so far, and each link has one
pub record AreLed (net : NetRows) (states leads : List ℕ) (count : ℕ) : Type 0 where
  pub many : length states ≡ count
  pub few : length leads ≤ count
  pub leading : All (λ a. a < count) leads
  pub led : (l : ℕ) → l < count → IsLed net leads l (slice_index states l)

-- the state of a node is led by a link that ends there
pub record AreAtNodes (net : NetRows) (leads at_node : List ℕ) : Type 0 where
  pub many : length at_node ≡ length net.nodes
  pub leading : All (λ a. a < length net.links) leads
  pub inside : (n : ℕ) → slice_index at_node n ≢ NO_STATE → n < length at_node
      → slice_index at_node n < length leads
  pub ends : (n : ℕ) → slice_index at_node n ≢ NO_STATE → n < length at_node
      → (link_at net (slice_index leads (slice_index at_node n))).to.0 ≡ n

-- no state is new, or one is, led by a link
abbrev pub Grows : List ℕ → ℕ → List ℕ → Type 0
Grows old link new = (new ≡ old) ⊎ (new ≡ old ++ link ∷ [])
