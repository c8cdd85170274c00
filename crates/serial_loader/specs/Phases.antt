-- The cells, the wake steps and the mail of a loading while the nodes of a step work one after
-- another. What is idle is left as it is.
use Rattle.std.specs.Prelude.{◌≡◌, ◌⊎◌, ℕ, suc, ◌<◌, Bool, true, false, List, Some, length, map}
use Rattle.std.specs.Prelude.{slice_get}
use Rattle.dta_model.specs.Plans.{all_nodes, link_at, outs}
use Rattle.dta_model.specs.declared.plan.Plan.{Plan}
use Rattle.cell_stages.specs.CellState.{CellState}
use Rattle.cell_stages.specs.Contents.{away, batch_of, cell_after, cell_before, room_of}
use Rattle.node_transfer.specs.Rest.{IsQuiet, NobodyComes}
use Rattle.node_transfer.specs.declared.half.Half.{Half}
use Rattle.cell_stages.specs.declared.mail.Mail.{Mail}
use Rattle.cell_stages.specs.declared.mail.Mail.TheVariants.{Away, Batch, Room}

-- the cells of all nodes before the transfers of step t
abbrev pub cells_before : Plan → ℕ → List CellState
cells_before p t = map (λ n. cell_before p n t away away) (all_nodes p)

-- node n before the transfer of step t. Nobody of its cell is ready before it wakes
pub record IsBefore (p : Plan) (t n wake : ℕ) (c : CellState) : Type 0 where
  pub cell : c ≡ cell_before p n t away away
  pub sleeps : (s : ℕ) → s < wake → IsQuiet s c

-- and after it. Where it sleeps through the step, it was left as it was before
pub record IsAfter (p : Plan) (t n wake : ℕ) (c : CellState) : Type 0 where
  pub cell : c ≡ cell_after p n t away away
  pub left : t < wake → IsBefore p t n wake c

-- there is a cell and a wake step for each node, and a mail for each link, of which this holds
pub record AreThere (p : Plan) (Node : ℕ → ℕ → CellState → Type 0) (Link : ℕ → Mail → Type 0)
    (cells : List CellState) (wakes : List ℕ) (mail : List Mail) : Type 0 where
  pub cell_count : length cells ≡ length p.net.nodes
  pub wake_count : length wakes ≡ length p.net.nodes
  pub mail_count : length mail ≡ length p.net.links
  pub nodes : (n w : ℕ) (c : CellState) → slice_get wakes n ≡ Some w → slice_get cells n ≡ Some c
      → Node n w c
  pub links : (l : ℕ) (m : Mail) → slice_get mail l ≡ Some m → Link l m

-- before the transfers of step t, and before its gathers: nobody comes to a node that sleeps
abbrev pub AreBefore : Plan → ℕ → List CellState → List ℕ → List Mail → Type 0
AreBefore p t = AreThere p (IsBefore p t) (λ l m. m ≡ room_of p t l)

abbrev pub AreAfter : Plan → ℕ → List CellState → List ℕ → List Mail → Type 0
AreAfter p t cells wakes mail =
    AreThere p (IsAfter p t) (λ l m. m ≡ batch_of p t l) cells wakes mail
    × ((n w : ℕ) → slice_get wakes n ≡ Some w → t < w → NobodyComes p n t)

-- before a half of step t, and after it
abbrev pub AreFound : Half → Plan → ℕ → List CellState → List ℕ → List Mail → Type 0
AreFound Half.Transfer p t = AreBefore p t
AreFound Half.Gather p t = AreAfter p t

abbrev pub AreLeft : Half → Plan → ℕ → List CellState → List ℕ → List Mail → Type 0
AreLeft Half.Transfer p t = AreAfter p t
AreLeft Half.Gather p t = AreBefore p (suc t)

-- whether a mail is a batch
abbrev pub is_batch : Mail → Bool
is_batch Away = false
is_batch (Room s room) = false
is_batch (Batch s riders) = true

-- the wake step of each node is as it was, or the node was woken
pub record AreWoken (old new : List ℕ) : Type 0 where
  pub count : length new ≡ length old
  pub each : (n w : ℕ) → slice_get new n ≡ Some w → (slice_get old n ≡ Some w) ⊎ (w ≡ 0)

-- no batch is the mail of a link, or the node at its end is awake
abbrev pub IsReached : Plan → List ℕ → ℕ → Mail → Type 0
IsReached p wakes l m =
    (is_batch m ≡ false) ⊎ ((w : ℕ) → slice_get wakes (link_at p l).to.0 ≡ Some w → w ≡ 0)

-- so it is at each out-link of node n
abbrev pub AreReached : Plan → ℕ → List ℕ → List Mail → Type 0
AreReached p n wakes mail =
    (j l : ℕ) (m : Mail) → slice_get (outs p n) j ≡ Some l → slice_get mail l ≡ Some m
    → IsReached p wakes l m
