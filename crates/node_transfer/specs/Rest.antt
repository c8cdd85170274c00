-- A node at which nobody moves.
use Rattle.dta_model.specs.Plans.{link_at}
use Rattle.cell_stages.specs.Stages.{batch_mail, line_after}
use Rattle.node_transfer.specs.Gathered.{room_after}
use Rattle.dta_model.specs.declared.plan.Plan.{Plan}
use Rattle.cell_stages.specs.CellState.{CellState}
use Rattle.cell_stages.specs.Contents.{IsStep, away, batch_of, cell_after, cell_before, left_after}
use Rattle.cell_stages.specs.Contents.{room_of, storage_by, tells}
use Rattle.cell_stages.specs.declared.in_link.InLink.{InLink}
use Rattle.cell_stages.specs.declared.out_link.OutLink.{OutLink}
use Rattle.std.specs.List.{last_or, sum}
use Rattle.std.specs.Prelude.{◌≡◌, ℕ, suc, ◌+◌, ◌<◌, [], All, IfSome, None, Option, length, true}
use Rattle.std.specs.Prelude.{slice_get}

-- the head of a line is on its link until after a step
abbrev pub HeadIsLater : ℕ → InLink → Type 0
HeadIsLater step link =
    IfSome (slice_get link.line 0)
    (λ r. IfSome (last_or None r.entries) (λ entry. step < entry + link.exit.free))

-- it is, and nobody left the link in the last steps
pub record IsQuietLink (step : ℕ) (link : InLink) : Type 0 where
  pub head : HeadIsLater step link
  pub left : sum link.left ≡ 0

-- nobody who waits for an out-link departs by a step
pub record WaitLater (step : ℕ) (o : OutLink) : Type 0 where
  pub due : o.waiting.due ≡ []
  pub later : IfSome (slice_get o.waiting.later 0) (λ r. step < r.departure)

-- nobody of a cell is ready in a step, and nobody left its in-links in the last steps
pub record IsQuiet (step : ℕ) (s : CellState) : Type 0 where
  pub links : All (IsQuietLink step) s.ins
  pub waits : All (WaitLater step) s.outs

-- nobody comes to a node in a step
abbrev pub NobodyComes : Plan → ℕ → ℕ → Type 0
NobodyComes p n t =
    (l : ℕ) → l < length p.net.links → (link_at p l).to.0 ≡ n → batch_mail p l t ≡ []

-- a step in which nobody moves at a node: its cell stays as it is
pub record IsIdle (p : Plan) (n t : ℕ) : Type 0 where
  pub after : cell_after p n t away away ≡ cell_before p n t away away
  pub batches : (b : ℕ) → b < length p.net.links → (link_at p b).from.0 ≡ n → batch_mail p b t ≡ []
  -- and where nobody comes either, the mail of its in-links stays as it is
  pub rooms : NobodyComes p n t
      → (l : ℕ) → l < length p.net.links → (link_at p l).to.0 ≡ n
      → room_of p (suc t) l ≡ room_of p t l

-- the room that in-link l of node n leaves after the transfer of a step
abbrev pub room_left_on : Plan → ℕ → ℕ → ℕ → Option ℕ
room_left_on p n t l =
    room_after (storage_by p.queue (link_at p l).storage) (line_after p n t l) (left_after p n t l)

-- the mail of each in-link tells that room
abbrev pub AreTold : Plan → ℕ → ℕ → Type 0
AreTold p n t =
    (l : ℕ) → l < length p.net.links → (link_at p l).to.0 ≡ n
    → tells (room_left_on p n t l) (batch_of p t l) ≡ true

-- nobody comes, and the gather of a step changes no mail
pub record IsGathered (p : Plan) (n t : ℕ) : Type 0 where
  pub nobody : NobodyComes p n t
  pub rooms : (l : ℕ) → l < length p.net.links → (link_at p l).to.0 ≡ n
      → room_of p (suc t) l ≡ batch_of p t l

-- where nobody is ready nobody moves, and where nobody comes the gather of a step changes nothing
pub record StaysIdle (p : Plan) (n t : ℕ) : Type 0 where
  pub quiet : IsQuiet t (cell_before p n t away away) → IsIdle p n t
  pub gather : NobodyComes p n t → cell_before p n (suc t) away away ≡ cell_after p n t away away
  pub told : AreTold p n t → IsGathered p n t

-- so it is at each node in each step
abbrev pub QuietNodesStayIdle : Type 0
QuietNodesStayIdle = (p : Plan) (n t : ℕ) → IsStep p n t → StaysIdle p n t
