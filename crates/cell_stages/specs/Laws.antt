-- What is true of the contents of cells and of mail at each stage.
use Rattle.std.specs.Prelude.{◌≡◌, ℕ, suc, ◌<◌, ◌+◌, ◌-◌, ◌*◌, ◌∷◌, length, option_map, sum, take}
use Rattle.std.specs.Prelude.{Option}
use Rattle.dta_model.specs.Plans.{link_at}
use Rattle.dta_model.specs.Sound.{IsSound}
use Rattle.dta_model.specs.declared.plan.Plan.{Plan}
use Rattle.cell_stages.specs.Contents.{away, batch_of, cell_after, cell_at, cell_before, mail_at}
use Rattle.cell_stages.specs.Contents.{left_after, left_before, room_of, storage_by}
use Rattle.cell_stages.specs.Stages.{line_after, line_before, room_mail}
use Rattle.cell_stages.specs.declared.mail.Mail.{Mail}
use Rattle.cell_stages.specs.declared.mail.Mail.TheVariants.{Room}

-- the two stages of a step: before its transfers, and after them
pub record StageBefore (p : Plan) (t : ℕ) : Type 0 where
  pub cell : (n : ℕ) → cell_at p n (2 * t) ≡ cell_before p n t away away
  pub mail : (l : ℕ) → mail_at p l (2 * t) ≡ room_of p t l

pub record StageAfter (p : Plan) (t : ℕ) : Type 0 where
  pub cell : (n : ℕ) → cell_at p n (2 * t + 1) ≡ cell_after p n t away away
  pub mail : (l : ℕ) → mail_at p l (2 * t + 1) ≡ batch_of p t l

-- so each step has two stages
abbrev pub StepsHaveTwoStages : Type 0
StepsHaveTwoStages = (p : Plan) (t : ℕ) → StageBefore p t × StageAfter p t

-- what an in-link knows of those who left it stays from a transfer to the next step
abbrev pub LeavingsStay : Type 0
LeavingsStay =
    (p : Plan) → IsSound p → (t l : ℕ) → l < length p.net.links
    → left_before p (suc t) l ≡ left_after p (link_at p l).to.0 t l

-- a transfer puts the number that it took from the line first, and the oldest number is dropped
abbrev pub LeavingsPass : Type 0
LeavingsPass =
    (p : Plan) → IsSound p → (n t l : ℕ)
    → left_after p n t l
    ≡ take (length (left_before p t l))
    ((length (line_before p t l) - length (line_after p n t l)) ∷ left_before p t l)

-- a room is what is left of the storage beside the riders on the link and the spaces of those who
-- left it lately; where no storage bounds a link, no room does
abbrev pub RoomsAddUp : Type 0
RoomsAddUp =
    (p : Plan) (t l : ℕ)
    → room_mail p l t
    ≡ option_map (λ storage. storage - (length (line_before p t l) + sum (left_before p t l)))
    (storage_by p.queue (link_at p l).storage)

-- a mail tells a room, since some step
abbrev pub TellsRoom : Option ℕ → Mail → Type 0
TellsRoom room mail = (s : ℕ) × (mail ≡ Room s room)

-- before each step the mail of a link tells its room
abbrev pub RoomsAreTold : Type 0
RoomsAreTold = (p : Plan) (t l : ℕ) → TellsRoom (room_mail p l t) (room_of p t l)
