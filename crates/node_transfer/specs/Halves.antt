-- The two halves of a node's step: the mail that each takes and leaves, and the cell before it and
-- after it.
use Rattle.std.specs.Prelude.{ℕ, suc, List}
use Rattle.cell_stages.specs.CellState.{CellState}
use Rattle.cell_stages.specs.Contents.{IsStep, away, batch_of, cell_after, cell_before, room_of}
use Rattle.cell_stages.specs.declared.mail.Mail.{Mail}
use Rattle.dta_model.specs.Plans.{ins, outs}
use Rattle.dta_model.specs.declared.plan.Plan.{Plan}
use Rattle.node_transfer.specs.declared.half.Half.{Half}
use Rattle.node_transfer.specs.declared.half.HalfStep.{HalfStep}

-- the links of node n whose mail a half takes
abbrev pub links_by : Half → Plan → ℕ → List ℕ
links_by Half.Transfer p n = outs p n
links_by Half.Gather p n = ins p n

-- the mail of these links before the half of step t, and after it
abbrev pub mail_before : Half → Plan → ℕ → ℕ → Mail
mail_before Half.Transfer p t = room_of p t
mail_before Half.Gather p t = batch_of p t

abbrev pub mail_after : Half → Plan → ℕ → ℕ → Mail
mail_after Half.Transfer p t = batch_of p t
mail_after Half.Gather p t = room_of p (suc t)

-- the cell of node n before the half of step t, and after it, with such mail at these links
abbrev pub half_before : Half → Plan → ℕ → ℕ → (ℕ → Mail) → CellState
half_before Half.Transfer p n t mail = cell_before p n t away mail
half_before Half.Gather p n t mail = cell_after p n t mail away

abbrev pub half_after : Half → Plan → ℕ → ℕ → (ℕ → Mail) → CellState
half_after Half.Transfer p n t mail = cell_after p n t away mail
half_after Half.Gather p n t mail = cell_before p n (suc t) mail away

-- the same of a half of the step of a node
abbrev pub IsHalf : Plan → HalfStep → Type 0
IsHalf p h = IsStep p h.node.0 h.step

abbrev pub links_of : Plan → HalfStep → List ℕ
links_of p h = links_by h.half p h.node.0

abbrev pub taken_mail : Plan → HalfStep → ℕ → Mail
taken_mail p h = mail_before h.half p h.step

abbrev pub left_mail : Plan → HalfStep → ℕ → Mail
left_mail p h = mail_after h.half p h.step

abbrev pub taking_cell : Plan → HalfStep → (ℕ → Mail) → CellState
taking_cell p h = half_before h.half p h.node.0 h.step

abbrev pub leaving_cell : Plan → HalfStep → (ℕ → Mail) → CellState
leaving_cell p h = half_after h.half p h.node.0 h.step
