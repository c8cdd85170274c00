-- Mail in the places of a cell, which are numbered by its out-links and by its in-links.
use Rattle.std.specs.Prelude.{ℕ, List, slice_get, slice_set, Option, None, Some, option_map}
use Rattle.cell_stages.specs.CellState.{CellState}
use Rattle.cell_stages.specs.declared.mail.Mail.{Mail}
use Rattle.cell_stages.specs.declared.in_link.InLink.{InLink}
use Rattle.cell_stages.specs.declared.out_link.OutLink.{OutLink}

-- the mail in the place of an out-link, and of an in-link
abbrev pub mail_of_out : OutLink → Mail
mail_of_out o = o.mail

abbrev pub mail_of_in : InLink → Mail
mail_of_in link = link.mail

-- an out-link, and an in-link, with another mail in its place
abbrev pub out_mail_put : Mail → OutLink → OutLink
out_mail_put mail o = record o { mail = mail }

abbrev pub in_mail_put : Mail → InLink → InLink
in_mail_put mail link = record link { mail = mail }

-- the list with the element at a place, if there is one, changed
abbrev pub set_some : {X : Type 0} → (X → X) → Option X → ℕ → List X → List X
set_some f None p xs = xs
set_some f (Some x) p xs = slice_set xs p (f x)

-- the list with the element at a place changed
abbrev pub changed_at : {X : Type 0} → (X → X) → ℕ → List X → List X
changed_at f p xs = set_some f (slice_get xs p) p xs

-- out-links, and in-links, with another mail at a place
abbrev pub out_mailed : ℕ → Mail → List OutLink → List OutLink
out_mailed p mail outs = changed_at (out_mail_put mail) p outs

abbrev pub in_mailed : ℕ → Mail → List InLink → List InLink
in_mailed p mail ins = changed_at (in_mail_put mail) p ins

-- the mail at a place of a cell's out-links, and of its in-links
abbrev pub out_mail : ℕ → CellState → Option Mail
out_mail p s = option_map mail_of_out (slice_get s.outs p)

abbrev pub in_mail : ℕ → CellState → Option Mail
in_mail p s = option_map mail_of_in (slice_get s.ins p)

-- a cell with another mail at a place of its out-links, and of its in-links
abbrev pub with_out_mail : ℕ → Mail → CellState → CellState
with_out_mail p mail s = record s { outs = out_mailed p mail s.outs }

abbrev pub with_in_mail : ℕ → Mail → CellState → CellState
with_in_mail p mail s = record s { ins = in_mailed p mail s.ins }
