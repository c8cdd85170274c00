-- How many left an in-link in the last steps, and the room that they leave.
use Rattle.std.proofs.Common.{◌≡◌, ℕ, suc, ◌-◌, ◌<◌, ◌∙◌, length, ap, sym}
use Rattle.cell_stages.proofs.LeftLately.{leavings_pass, leavings_stay, rooms_add_up}
use Rattle.dta_model.specs.Plans.{link_at}
use Rattle.dta_model.specs.Sound.{IsSound}
use Rattle.dta_model.specs.declared.plan.Plan.{Plan}
use Rattle.cell_stages.specs.Contents.{left_after, left_before, storage_by}
use Rattle.cell_stages.specs.Stages.{line_after, line_before, room_mail}
use Rattle.link_queues.specs.Leavings.{pushed}
use Rattle.node_transfer.specs.Gathered.{room_after}

-- a transfer notes how many it took from the line
pub left-pushes : (p : Plan) → IsSound p → (n t l : ℕ) → (link_at p l).to.0 ≡ n
    → left_after p n t l ≡ pushed (length (line_before p t l) - length (line_after p n t l)) (left_before p t l)
left-pushes p sound n t l to = leavings_pass p sound n t l

-- the next step begins with what the transfer noted
pub left-stays : (p : Plan) → IsSound p → (t l : ℕ) → l < length p.net.links
    → left_before p (suc t) l ≡ left_after p (link_at p l).to.0 t l
left-stays p sound t l h = leavings_stay p sound t l h

-- so it is at the links into a node
pub left-next : (p : Plan) → IsSound p → (n t l : ℕ) → l < length p.net.links → (link_at p l).to.0 ≡ n
    → left_before p (suc t) l ≡ left_after p n t l
left-next p sound n t l below to = left-stays p sound t l below ∙ ap (λ k. left_after p k t l) to

-- the room beside a line and those who left lately
pub room-same : (p : Plan) (t l : ℕ) → room_after (storage_by p.queue (link_at p l).storage) (line_before p t l) (left_before p t l) ≡ room_mail p l t
room-same p t l = sym (rooms_add_up p t l)
