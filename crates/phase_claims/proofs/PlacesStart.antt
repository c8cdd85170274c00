-- The slots of a new floor.
use Rattle.std.specs.List.{range_with_len}
use Rattle.std.proofs.Common.{◌≡◌, ℕ, zero, suc, ◌+◌, ◌-◌, ◌*◌, ◌<◌, ◌≤◌, List, [], ◌∷◌, ◌++◌, length, map, sym, ap, ◌∙◌, append_assoc, length-append, lt_of_not-le, arith}
use Rattle.std.proofs.lemmas.List.{length-map}
use Rattle.std.proofs.lemmas.List.FromFn.{length-range_with_len}
use mathlib.Core.Option.{some}
use mathlib.Core.Logic.{dite}
use native.Mathlib.Decide.{dec_le}
use lib.ListN.{get_elem?}
use Rattle.atomic_table.proofs.Lists.{at_longer, at_map}
use Rattle.net_core.specs.Network.{numbers_below}
use Rattle.dta_model.specs.Plans.{all_nodes}
use Rattle.dta_model.specs.Units.{mail_part, node_count, posting_part, unit_count}
use Rattle.dta_model.specs.declared.plan.Plan.{Plan}
use Rattle.cell_stages.specs.CellState.{CellState}
use Rattle.cell_stages.specs.Contents.{away, cell_at, cell_before, mail_at, room_of}
use Rattle.node_transfer.specs.Start.{cells_at_start, rooms_at_start}
use Rattle.cell_stages.specs.declared.mail.Mail as mail
use Rattle.cell_stages.proofs.TwoStages.{steps_have_two_stages}
use Rattle.monitors.specs.Posted.{Known}
use Rattle.claim_core.specs.Parts.{moves, stage_of}
use Rattle.claim_core.proofs.Cuts.{below_none}
use Rattle.phase_claims.specs.declared.part.Part.{Part}
use Rattle.phase_claims.specs.declared.part.Part.TheVariants.{Cell, Mail, Writer}
use Rattle.phase_claims.specs.declared.view.Scope.{Scope}
use Rattle.phase_claims.specs.PlacesHome.{AreHome, part_at}
use Rattle.phase_claims.specs.Views.{beginning, worked_by}
use Rattle.phase_claims.proofs.PlacesUnit.{part_cell, part_mail, part_writer}

range_at : {A : Type 0} (f : ℕ → A) (n a i : ℕ) → i < n → get_elem? (map f (range_with_len a n)) i ≡ some (f (a + i))
range_at f zero a i h = absurd (omega (arith, h))
range_at f (suc n) a zero h = ap (λ x. some (f x)) (omega arith)
range_at f (suc n) a (suc i) h = range_at f n (a + 1) i (omega (arith, h)) ∙ ap (λ x. some (f x)) (omega arith)

below_at : {A : Type 0} (f : ℕ → A) (n i : ℕ) → i < n → get_elem? (map f (numbers_below n)) i ≡ some (f i)
below_at f n i h = range_at f n 0 i h ∙ ap (λ x. some (f x)) (omega arith)

after_front : {A : Type 0} (xs ys : List A) (n i : ℕ) → length xs ≡ n → n ≤ i → get_elem? (xs ++ ys) i ≡ get_elem? ys (i - n)
after_front [] ys n i e h = ap (λ x. get_elem? ys x) (omega (arith, e))
after_front (x ∷ xs) ys n zero e h = absurd (omega (arith, e, h))
after_front (x ∷ xs) ys n (suc i) e h = after_front xs ys (n - 1) i (omega (arith, e)) (omega (arith, h)) ∙ ap (λ y. get_elem? ys y) (omega (arith, e, h))

module _ (k : Scope) (writer : Known) (cells : List CellState) (letters : List mail.Mail) (parts : List Part) (first : cells ≡ cells_at_start k.plan) (rooms : letters ≡ rooms_at_start k.plan) (own : writer.board ≡ k.board) (new : writer.list ≡ [])
    (are : parts ≡ map Cell cells ++ map Mail letters ++ Writer writer ∷ []) where
  abbrev p : Plan
  p = k.plan

  abbrev N : ℕ
  N = node_count p

  abbrev L : ℕ
  L = length p.net.links

  laid : parts ≡ map Cell cells ++ (map Mail letters ++ Writer writer ∷ [])
  laid = are ∙ append_assoc (map Cell cells) (map Mail letters) (Writer writer ∷ [])

  cell_count : length (map Cell cells) ≡ N
  cell_count = length-map cells Cell ∙ ap (λ xs. length xs) first ∙ length-map (all_nodes p) (λ n. cell_before p n 0 away away) ∙ length-range_with_len 0 N

  mail_count : length (map Mail letters) ≡ L
  mail_count = length-map letters Mail ∙ ap (λ xs. length xs) rooms ∙ length-map (numbers_below L) (room_of p 0) ∙ length-range_with_len 0 L

  pub parts_count : length parts ≡ suc (posting_part p)
  parts_count = ap (λ xs. length xs) laid ∙ length-append (map Cell cells) (map Mail letters ++ Writer writer ∷ []) ∙ (let b = length-append (map Mail letters) (Writer writer ∷ []) in omega (arith, b, cell_count, mail_count))

  no_stage : 2 * 0 ≡ 0
  no_stage = omega arith

  at_cell : (n : ℕ) → n < N → get_elem? parts n ≡ some (part_at k n 0)
  at_cell n h =
      ap (λ xs. get_elem? xs n) laid
      ∙ at_longer (map Cell cells) (map Mail letters ++ Writer writer ∷ []) n (Cell (cell_at p n 0))
      (at_map Cell cells n (cell_at p n 0) (ap (λ xs. get_elem? xs n) first ∙ below_at (λ m. cell_before p m 0 away away) N n h ∙ ap (λ x. some x) (sym ((steps_have_two_stages p 0).0.cell n) ∙ ap (λ x. cell_at p n x) no_stage)))
      ∙ ap (λ x. some x) (sym (part_cell k n 0 h))

  at_mail : (l : ℕ) → l < L → get_elem? parts (mail_part p l) ≡ some (part_at k (mail_part p l) 0)
  at_mail l h =
      ap (λ xs. get_elem? xs (mail_part p l)) laid
      ∙ after_front (map Cell cells) (map Mail letters ++ Writer writer ∷ []) N (mail_part p l) cell_count (omega arith)
      ∙ ap (λ x. get_elem? (map Mail letters ++ Writer writer ∷ []) x) (let e : N + l - N ≡ l = omega arith in e)
      ∙ at_longer (map Mail letters) (Writer writer ∷ []) l (Mail (mail_at p l 0))
      (at_map Mail letters l (mail_at p l 0) (ap (λ xs. get_elem? xs l) rooms ∙ below_at (room_of p 0) L l h ∙ ap (λ x. some x) (sym ((steps_have_two_stages p 0).0.mail l) ∙ ap (λ x. mail_at p l x) no_stage)))
      ∙ ap (λ x. some x) (sym (part_mail k l 0 h))

  at_writer : get_elem? parts (posting_part p) ≡ some (part_at k (posting_part p) 0)
  at_writer =
      ap (λ xs. get_elem? xs (posting_part p)) laid
      ∙ after_front (map Cell cells) (map Mail letters ++ Writer writer ∷ []) N (posting_part p) cell_count (omega arith)
      ∙ ap (λ x. get_elem? (map Mail letters ++ Writer writer ∷ []) x) (let e : N + L - N ≡ L = omega arith in e)
      ∙ after_front (map Mail letters) (Writer writer ∷ []) L L mail_count (omega arith)
      ∙ ap (λ x. get_elem? (Writer writer ∷ []) x) (let e : L - L ≡ 0 = omega arith in e)
      ∙ ap (λ x. some (Writer x)) (λ i. record { board = own i; list = new i })
      ∙ ap (λ x. some x) (sym (part_writer k 0))

  at_slot : (slot : ℕ) → slot < suc (posting_part p) → get_elem? parts slot ≡ some (part_at k slot 0)
  at_slot slot h = dite (dec_le N slot)
      (λ past. dite (dec_le (posting_part p) slot)
      (λ last. let e : posting_part p ≡ slot = omega (arith, last, h) in ap (λ x. get_elem? parts x) (sym e) ∙ at_writer ∙ ap (λ x. some (part_at k x 0)) e)
      (λ mid. let low : slot < posting_part p = lt_of_not-le mid in
      let e : mail_part p (slot - N) ≡ slot = omega (arith, past) in ap (λ x. get_elem? parts x) (sym e) ∙ at_mail (slot - N) (omega (arith, past, low)) ∙ ap (λ x. some (part_at k x 0)) e))
      (λ cell. at_cell slot (lt_of_not-le cell))

  no_moves : (spare slot : ℕ) → stage_of p (worked_by (beginning k spare ∷ [])) slot ≡ 0
  unfolding stage_of
  no_moves spare slot = below_none (λ u. moves p slot u * worked_by (beginning k spare ∷ []) u) (unit_count p) (λ u _. omega arith)

  pub homes_start : (spare : ℕ) → AreHome k (map some parts) (beginning k spare ∷ [])
  homes_start spare slot h = at_map some parts slot (part_at k slot 0) (at_slot slot h) ∙ ap (λ x. some (some (part_at k slot x))) (sym (no_moves spare slot))
