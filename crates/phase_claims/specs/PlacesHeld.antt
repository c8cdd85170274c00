-- The places that a seat holds, each with what lies in it.
use Rattle.std.specs.Prelude.{◌≡◌, ℕ, List, [], ◌∷◌, ◌++◌, map}
use Rattle.atomic_table.specs.Table.{rest}
use Rattle.atomic_table.specs.declared.shared.Seat.{Seat}
use Rattle.dta_model.specs.Units.{mail_part}
use Rattle.dta_model.specs.declared.plan.Plan.{Plan}
use Rattle.cell_stages.specs.CellState.{CellState}
use Rattle.cell_stages.specs.declared.mail.Mail as mail
use Rattle.monitors.specs.Posted.{Known}
use Rattle.phase_claims.specs.declared.part.Part.{Part}
use Rattle.phase_claims.specs.declared.part.Part.TheVariants.{Cell, Mail, Out, Writer}

-- the same seat of the same table, with the same view
pub record IsSameSeat {V : Type 0} (old new : Seat Part V) : Type 0 where
  pub table : new.table_id ≡ old.table_id
  pub id : new.id ≡ old.id
  pub view : new.me.0 ≡ old.me.0

-- the first place is that place, and mail lies in it, or a cell, the writer's pass, or nothing
abbrev pub HoldsMail : ℕ → List (ℕ × Part) → Type 0
HoldsMail slot held = (m : mail.Mail) × (held ≡ (slot, Mail m) ∷ rest held)

abbrev pub HoldsCell : ℕ → List (ℕ × Part) → Type 0
HoldsCell slot held = (c : CellState) × (held ≡ (slot, Cell c) ∷ rest held)

abbrev pub HoldsWriter : ℕ → List (ℕ × Part) → Type 0
HoldsWriter slot held = (w : Known) × (held ≡ (slot, Writer w) ∷ rest held)

abbrev pub HoldsNothing : ℕ → List (ℕ × Part) → Type 0
HoldsNothing slot held = held ≡ (slot, Out) ∷ rest held

-- what holds of the mail in the first place
abbrev pub IfMail : ℕ → List (ℕ × Part) → (mail.Mail → Type 0) → Type 0
IfMail slot held P = (m : mail.Mail) → held ≡ (slot, Mail m) ∷ rest held → P m

-- the place of a link's mail, with mail by a rule
abbrev pub mail_place : Plan → (ℕ → mail.Mail) → ℕ → ℕ × Part
mail_place p by l = (mail_part p l, Mail (by l))

-- the places of the mail of some links, with mail by a rule
abbrev pub mail_places : Plan → (ℕ → mail.Mail) → List ℕ → List (ℕ × Part)
mail_places p by links = map (mail_place p by) links

-- the place of a node's cell, and then those of the mail of some links
abbrev pub node_places : Plan → ℕ → CellState → (ℕ → mail.Mail) → List ℕ → List (ℕ × Part)
node_places p n cell by links = (n, Cell cell) ∷ mail_places p by links

-- some places before or after that of a cell, in which nothing lies
abbrev pub before_cell : ℕ → List (ℕ × Part) → List (ℕ × Part)
before_cell n held = held ++ (n, Out) ∷ []

abbrev pub after_cell : ℕ → List (ℕ × Part) → List (ℕ × Part)
after_cell n held = (n, Out) ∷ held
