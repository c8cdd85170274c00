-- What callers rely on that fill the places of cells and hand their journeys over.
use Rattle.std.specs.List.{flat_map}
use Rattle.std.specs.Prelude.{◌≡◌, ℕ, suc, ◌<◌, cond, nat_eq, length, map, All, Some, slice_get}
use Rattle.cell_stages.specs.HandOver.{AreVehicles}
use Rattle.dta_model.specs.Loading.{journeys_of}
use Rattle.dta_model.specs.Plans.{all_nodes, ins, outs, vehicle_count}
use Rattle.dta_model.specs.Sound.{IsSound}
use Rattle.dta_model.specs.declared.plan.Plan.{Plan}
use Rattle.node_transfer.specs.Gathered.{gathered}
use Rattle.node_transfer.specs.Places.{with_in_mail, with_out_mail}
use Rattle.cell_stages.specs.Contents.{away, batch_of, cell_after, cell_before, room_of}
use Rattle.node_transfer.specs.Hand.{Within, handed, riders_in}
use Rattle.node_transfer.specs.Start.{no_journeys}
use Rattle.cell_stages.specs.declared.mail.Mail.{Mail}

-- mail by links, with another one at link b
abbrev pub put_mail : ℕ → Mail → (ℕ → Mail) → ℕ → Mail
put_mail b mail mails l = cond (nat_eq l b) mail (mails l)

-- a mail that is put into the place of a link is the mail of that link, and only the mail of the
-- node's own links counts
pub record MailIsPut (p : Plan) (n t : ℕ) : Type 0 where
  pub out_before : (i b : ℕ) (mail : Mail) (f g : ℕ → Mail) → slice_get (outs p n) i ≡ Some b
      → with_out_mail i mail (cell_before p n t f g) ≡ cell_before p n t f (put_mail b mail g)
  pub out_after : (i b : ℕ) (mail : Mail) (f g : ℕ → Mail) → slice_get (outs p n) i ≡ Some b
      → with_out_mail i mail (cell_after p n t f g) ≡ cell_after p n t f (put_mail b mail g)
  pub in_before : (i l : ℕ) (mail : Mail) (f g : ℕ → Mail) → slice_get (ins p n) i ≡ Some l
      → with_in_mail i mail (cell_before p n t f g) ≡ cell_before p n t (put_mail l mail f) g
  pub in_after : (i l : ℕ) (mail : Mail) (f g : ℕ → Mail) → slice_get (ins p n) i ≡ Some l
      → with_in_mail i mail (cell_after p n t f g) ≡ cell_after p n t (put_mail l mail f) g
  pub same_before : (f f' g g' : ℕ → Mail)
      → All (λ l. f l ≡ f' l) (ins p n) → All (λ b. g b ≡ g' b) (outs p n)
      → cell_before p n t f g ≡ cell_before p n t f' g'
  pub same_after : (f f' g g' : ℕ → Mail)
      → All (λ l. f l ≡ f' l) (ins p n) → All (λ b. g b ≡ g' b) (outs p n)
      → cell_after p n t f g ≡ cell_after p n t f' g'

-- so it is at each node in each step
abbrev pub MailGoesByLinks : Type 0
MailGoesByLinks = (p : Plan) (n t : ℕ) → MailIsPut p n t

-- the cells of a loading hand over its journeys
pub record HandOver (p : Plan) : Type 0 where
  -- the riders of a cell are vehicles of the plan
  pub within : (n t : ℕ) (f g : ℕ → Mail) → n < length p.net.nodes
      → All (Within (vehicle_count p)) (riders_in (cell_before p n t f g))
  -- the cells at the horizon, one after another, give the journeys of the loading
  pub journeys :
      handed (flat_map riders_in (map (λ n. cell_before p n p.horizon away away) (all_nodes p)))
      (no_journeys (vehicle_count p))
      ≡ journeys_of p

-- so it is in each sound loading
abbrev pub CellsHandOver : Type 0
CellsHandOver = (p : Plan) → IsSound p → HandOver p

-- before each step, and after the last one, all cells together hold the vehicles of the plan
abbrev pub CellsHoldAll : Type 0
CellsHoldAll =
    (p : Plan) → IsSound p → (t : ℕ) (f g : ℕ → Mail)
    → AreVehicles p t (flat_map riders_in (map (λ n. cell_before p n t f g) (all_nodes p)))

-- a cell in the next step is what the transfer left of it, with the batch at the end of the line
-- of each in-link and the room that is left there told
abbrev pub CellsGather : Type 0
CellsGather =
    (p : Plan) → IsSound p → (t n : ℕ) → n < length p.net.nodes
    → cell_before p n (suc t) (room_of p (suc t)) away
    ≡ gathered t (cell_after p n t (batch_of p t) away)
