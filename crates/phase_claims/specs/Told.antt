-- Which nodes are told that somebody comes: each node has a word, which says up to which stage of
-- their mail those who come to it were told.
use Rattle.std.specs.Prelude.{◌≡◌, ◌≢◌, ◌⊎◌, ℕ, suc, ◌+◌, ◌*◌, ◌<◌, ◌≤◌, List, [], length}
use Rattle.std.specs.Prelude.{slice_index}
use mathlib.Core.Option.{some}
use lib.ListN.{get_elem?}
use Rattle.dta_model.specs.Plans.{link_at}
use Rattle.dta_model.specs.Units.{mail_part, node_count, step_of}
use Rattle.dta_model.specs.declared.plan.Plan.{Plan}
use Rattle.cell_stages.specs.Contents.{mail_at, room_of}
use Rattle.cell_stages.specs.Stages.{batch_mail}
use Rattle.claim_core.specs.Parts.{moves, stage_before, stage_of}
use Rattle.claim_core.specs.Sums.{times}
use Rattle.node_transfer.specs.Gathered.{mail_line}
use Rattle.node_transfer.specs.Rest.{NobodyComes}
use Rattle.atomic_table.specs.declared.shared.Seat.{Seat}
use Rattle.phase_claims.specs.declared.part.Part.{Part}
use Rattle.phase_claims.specs.declared.view.Scope.{Scope}
use Rattle.phase_claims.specs.declared.view.View.{View}
use Rattle.phase_claims.specs.declared.work_told.TheConstants.{FIRST_NODE_WORD}
use Rattle.phase_claims.specs.Views.{worked_by}

-- the word of node n
abbrev pub node_word : List ℕ → ℕ → ℕ
node_word words n = slice_index words (FIRST_NODE_WORD + n)

-- nobody comes with the mail of link l at a stage, or the word of the node at its end is past it
abbrev pub IsReached : Plan → List ℕ → ℕ → ℕ → Type 0
IsReached p words l stage =
    mail_line (mail_at p l stage) ≢ [] → stage < node_word words (link_at p l).to.0

-- where nobody comes to a node in a step, its in-links have the same rooms in the next one
abbrev pub KeepsRooms : Plan → ℕ → ℕ → Type 0
KeepsRooms p n t =
    NobodyComes p n t → (l : ℕ) → l < length p.net.links → (link_at p l).to.0 ≡ n
    → room_of p (suc t) l ≡ room_of p t l

-- at node n that is so after the transfer that takes its cell to a stage, or its word is past that
abbrev pub IsWoken : Plan → List ℕ → ℕ → ℕ → Type 0
IsWoken p words n stage =
    (t : ℕ) → stage ≡ 2 * t + 1 → KeepsRooms p n t ⊎ (stage < node_word words n)

-- the words of the nodes that a pass has told are past the mail of the step that it is in
abbrev pub HasTold : Plan → List ℕ → View → Type 0
HasTold p words v =
    (n : ℕ) → 1 ≤ times n v.told → 2 * step_of (node_count p) v.at + 1 < node_word words n

-- a node is told of those who come, with the mail of each link as the units worked on left it, and
-- where its own transfer may change a room. What a pass has told is known before its unit is worked
-- on
pub record AreReached (k : Scope) (words : List ℕ) (views : List View) : Type 0 where
  pub count : FIRST_NODE_WORD + node_count k.plan ≤ length words
  pub links : (l : ℕ) → l < length k.plan.net.links
      → IsReached k.plan words l (stage_of k.plan (worked_by views) (mail_part k.plan l))
  pub nodes : (n : ℕ) → n < node_count k.plan
      → IsWoken k.plan words n (stage_of k.plan (worked_by views) n)
  pub passes : (by : ℕ) (v : View) → get_elem? views by ≡ some v → HasTold k.plan words v

-- somebody comes with the mail of link l that a unit moves, once it is worked on
abbrev pub Sends : Plan → ℕ → ℕ → Type 0
Sends p c l =
    (1 ≤ moves p (mail_part p l) c)
    × (mail_line (mail_at p l (suc (stage_before p c (mail_part p l)))) ≢ [])

-- unit c was told to these nodes, where it has to be: those to which it sends somebody, and its own
pub record TellsAll (p : Plan) (c : ℕ) (told : List ℕ) : Type 0 where
  pub links : (l : ℕ) → l < length p.net.links → Sends p c l
      → (suc (stage_before p c (mail_part p l)) ≤ 2 * step_of (node_count p) c + 1)
      × (1 ≤ times (link_at p l).to.0 told)
  pub node : (n t : ℕ) → n < node_count p → 1 ≤ moves p n c → suc (stage_before p c n) ≡ 2 * t + 1
      → KeepsRooms p n t
      ⊎ ((suc (stage_before p c n) ≤ 2 * step_of (node_count p) c + 1) × (1 ≤ times n told))

-- the nodes to which a node's transfer of step t sends somebody are among these, and the node
-- itself where its rooms may change
pub record AreAmong (p : Plan) (n t : ℕ) (told : List ℕ) : Type 0 where
  pub own : KeepsRooms p n t ⊎ (1 ≤ times n told)
  pub ends : (l : ℕ) → l < length p.net.links → (link_at p l).from.0 ≡ n → batch_mail p l t ≢ []
      → 1 ≤ times (link_at p l).to.0 told

-- the same seat, which has told some nodes more
pub record HasOnlyTold (old new : Seat Part View) : Type 0 where
  pub table : new.table_id ≡ old.table_id
  pub view : new.me.0 ≡ record old.me.0 { told = new.me.0.told }
  pub still : (n : ℕ) → 1 ≤ times n old.me.0.told → 1 ≤ times n new.me.0.told
