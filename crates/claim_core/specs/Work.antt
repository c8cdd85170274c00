-- What the work of a unit does with the cells and the mail.
use Rattle.std.specs.Prelude.{◌≡◌, ℕ, suc, ◌<◌, ◌≤◌, List, length, Some, slice_get}
use Rattle.dta_model.specs.Units.{mail_part, node_count}
use Rattle.dta_model.specs.declared.plan.Plan.{Plan}
use Rattle.cell_stages.specs.CellState.{CellState}
use Rattle.cell_stages.specs.Contents.{cell_at, mail_at}
use Rattle.cell_stages.specs.declared.mail.Mail.{Mail}
use Rattle.claim_core.specs.Parts.{moves, stage_before}

-- the parts of a loading: the cell of each node, and the mail of each link
pub record PartsState : Type 0 where
  pub cells : List CellState
  pub mail : List Mail

-- there are as many as nodes and links
pub record AreCounted (p : Plan) (parts : PartsState) : Type 0 where
  pub cells : length parts.cells ≡ node_count p
  pub mail : length parts.mail ≡ length p.net.links

-- each part is at the stage that a rule gives for its number
pub record AreAtStages (p : Plan) (stage : ℕ → ℕ) (parts : PartsState) : Type 0 where
  pub counted : AreCounted p parts
  pub cells : (n : ℕ) → n < node_count p
      → slice_get parts.cells n ≡ Some (cell_at p n (stage n))
  pub mail : (l : ℕ) → l < length p.net.links
      → slice_get parts.mail l ≡ Some (mail_at p l (stage (mail_part p l)))

-- the parts that unit c moves are at the stage before its phase
pub record AreReady (p : Plan) (c : ℕ) (parts : PartsState) : Type 0 where
  pub counted : AreCounted p parts
  pub cells : (n : ℕ) → n < node_count p → 1 ≤ moves p n c
      → slice_get parts.cells n ≡ Some (cell_at p n (stage_before p c n))
  pub mail : (l : ℕ) → l < length p.net.links → 1 ≤ moves p (mail_part p l) c
      → slice_get parts.mail l ≡ Some (mail_at p l (stage_before p c (mail_part p l)))

-- they are at the next stage, and the other parts are as they were
pub record AreMoved (p : Plan) (c : ℕ) (old new : PartsState) : Type 0 where
  pub counted : AreCounted p new
  pub cells : (n : ℕ) → n < node_count p → 1 ≤ moves p n c
      → slice_get new.cells n ≡ Some (cell_at p n (suc (stage_before p c n)))
  pub mail : (l : ℕ) → l < length p.net.links → 1 ≤ moves p (mail_part p l) c
      → slice_get new.mail l ≡ Some (mail_at p l (suc (stage_before p c (mail_part p l))))
  pub other_cells : (n : ℕ) → n < node_count p → moves p n c ≡ 0
      → slice_get new.cells n ≡ slice_get old.cells n
  pub other_mail : (l : ℕ) → l < length p.net.links → moves p (mail_part p l) c ≡ 0
      → slice_get new.mail l ≡ slice_get old.mail l
