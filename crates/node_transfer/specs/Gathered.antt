-- A cell after the gather of a step.
use Rattle.std.specs.Prelude.{ℕ, ◌+◌, ◌-◌, List, [], ◌++◌, length, map, Option, option_map}
use Rattle.std.specs.List.{sum}
use Rattle.dta_model.specs.Riders.{RiderState}
use Rattle.cell_stages.specs.CellState.{CellState}
use Rattle.cell_stages.specs.Contents.{told}
use Rattle.cell_stages.specs.declared.mail.Mail.{Mail}
use Rattle.cell_stages.specs.declared.mail.Mail.TheVariants.{Away, Room, Batch}
use Rattle.cell_stages.specs.declared.in_link.InLink.{InLink}

-- who comes with a mail
abbrev pub mail_line : Mail → List RiderState
mail_line Away = []
mail_line (Room s room) = []
mail_line (Batch s line) = line

-- the room that a storage leaves beside a line and those who left lately; there is no bound
-- without a storage
abbrev pub room_after : Option ℕ → List RiderState → List ℕ → Option ℕ
room_after storage line left = option_map (λ s. s - (length line + sum left)) storage

-- the room that an in-link leaves
abbrev pub room_on : InLink → Option ℕ
room_on link = room_after link.storage link.line link.left

-- an in-link with this line, and the room that it leaves told for the next step
abbrev pub with_batch : ℕ → InLink → List RiderState → InLink
with_batch step link line = record link {
  line = line;
  mail = told (step + 1) (room_after link.storage line link.left) link.mail;
}

-- those that came stand last, and the room for the next step is told
abbrev pub gathered_link : ℕ → InLink → InLink
gathered_link step link = with_batch step link (link.line ++ mail_line link.mail)

-- an in-link on which those stand last who come with a mail, and that mail once the room for the
-- next step is told
abbrev pub grown_by : Mail → InLink → InLink
grown_by mail link = record link { line = link.line ++ mail_line mail }

abbrev pub room_told : ℕ → Mail → InLink → Mail
room_told step mail link = told (step + 1) (room_on (grown_by mail link)) mail

-- the cell after the gather of a step
abbrev pub gathered : ℕ → CellState → CellState
gathered step s = record s { ins = map (gathered_link step) s.ins }
