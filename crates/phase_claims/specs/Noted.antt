-- A cell in its place, with what is known of it.
use Rattle.std.specs.Prelude.{◌≡◌, ℕ, ◌<◌, true, IfSome, Option}
use Rattle.cell_stages.specs.CellState.{CellState}
use Rattle.cell_stages.specs.Contents.{away}
use Rattle.dta_model.specs.declared.plan.Plan.{Plan}
use Rattle.node_transfer.specs.Exchange.{is_among}
use Rattle.node_transfer.specs.Halves.{leaving_cell, left_mail, links_of, taken_mail, taking_cell}
use Rattle.node_transfer.specs.Inside.Counted.{counted}
use Rattle.node_transfer.specs.Rest.{IsIdle, IsQuiet}
use Rattle.node_transfer.specs.declared.cell.CellCounts.{CellCounts}
use Rattle.node_transfer.specs.declared.half.Half.TheVariants as Half
use Rattle.node_transfer.specs.declared.half.HalfStep.{HalfStep}

-- how many of a cell wait, run and have arrived
abbrev pub counts_of : CellState → CellCounts
counts_of s = counted s.ins s.outs s.arrived

-- what is noted of a cell: below a step nobody of it is ready, and its counts, where they are
-- known
pub record IsNoted (s : CellState) (wake : ℕ) (known : Option CellCounts) : Type 0 where
  pub quiet : (step : ℕ) → step < wake → IsQuiet step s
  pub counts : IfSome known (λ noted. noted ≡ counts_of s)

-- a half of a node's step changes neither its cell nor the mail of its links
pub record StaysAsItIs (p : Plan) (h : HalfStep) : Type 0 where
  pub cell : leaving_cell p h away ≡ taking_cell p h away
  pub mail : (l : ℕ) → is_among (links_of p h) l ≡ true → left_mail p h l ≡ taken_mail p h l

-- it does, and a transfer moves nobody
pub record Rests (p : Plan) (h : HalfStep) : Type 0 where
  pub stays : StaysAsItIs p h
  pub idle : h.half ≡ Half.Transfer → IsIdle p h.node.0 h.step
