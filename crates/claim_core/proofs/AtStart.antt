-- A machine at the start.
use Rattle.std.specs.Prelude.{slice_get}
use Rattle.std.specs.List.{range_with_len, repeat}
use Rattle.std.proofs.Common.{◌≡◌, ℕ, zero, suc, ◌+◌, ◌*◌, ◌<◌, ◌^◌, List, [], ◌∷◌, ◌++◌, length, map, refl, ap, sym, ◌∙◌, subst, arith, add-one, Some}
use Rattle.std.proofs.lemmas.List.{length-map}
use Rattle.net_core.specs.Network.{numbers_below}
use Rattle.dta_model.specs.Machine.{Claims, all_idle, finished, run_machine}
use Rattle.dta_model.specs.Plans.{all_nodes}
use Rattle.dta_model.specs.Sound.{IsSound}
use Rattle.dta_model.specs.Units.{mail_part, node_count, unit_count}
use Rattle.dta_model.specs.declared.plan.Plan.{Plan}
use Rattle.dta_model.specs.declared.machine.Stage.TheVariants as stage
use Rattle.cell_stages.specs.CellState.{CellState}
use Rattle.cell_stages.specs.Contents.{away, cell_at, cell_before, mail_at, room_of}
use Rattle.node_transfer.specs.Start.{cells_at_start, rooms_at_start}
use Rattle.cell_stages.specs.declared.mail.Mail.{Mail}
use Rattle.cell_stages.proofs.TwoStages.{steps_have_two_stages}
use Rattle.claim_core.specs.Machine.{AreReached, IsMachine}
use Rattle.claim_core.specs.Parts.{done_in, moves, stage_in, stage_of}
use Rattle.claim_core.proofs.Cuts.{below_none}
use Rattle.claim_core.proofs.Events.{none_done, none_finished}

got : {A : Type 0} (f : ℕ → A) (n a i : ℕ) → i < n → slice_get (map f (range_with_len a n)) i ≡ Some (f (a + i))
got f zero a i h = absurd (omega (arith, h))
got f (suc n) a zero h = ap (λ x. Some (f x)) (omega arith)
got f (suc n) a (suc i) h = got f n (a + 1) i (omega (arith, h)) ∙ ap (λ x. Some (f x)) (omega arith)

got_below : {A : Type 0} (f : ℕ → A) (n i : ℕ) → i < n → slice_get (map f (numbers_below n)) i ≡ Some (f i)
got_below f n i h = got f n 0 i h ∙ ap (λ x. Some (f x)) (omega arith)

count_range : (n a : ℕ) → length (range_with_len a n) ≡ n
count_range zero a = refl
count_range (suc n) a = ap (λ k. suc k) (count_range n (a + 1))

pub idle_count : (workers : ℕ) → length (repeat workers (stage.Idle ∷ [])) ≡ workers
idle_count zero = refl
idle_count (suc workers) = ap (λ k. suc k) (idle_count workers)

module _ (p : Plan) (workers : ℕ) where
  no_stage : (part : ℕ) → stage_in p (all_idle workers) part ≡ 0
  unfolding stage_of
  no_stage part = below_none (λ x. moves p part x * done_in p (all_idle workers) x) (unit_count p) (λ x l. ap (λ d. moves p part x * d) (none_done p workers x) ∙ omega arith)

  reached_at_start : AreReached p (all_idle workers)
  unfolding run_machine
  reached_at_start = record { workers = workers; events = []; claims = refl }

  pub starts_machine : IsSound p → workers < 2 ^ 32 → (s : Claims) (cells : List CellState) (mail : List Mail) → s ≡ all_idle workers → cells ≡ cells_at_start p → mail ≡ rooms_at_start p
      → IsMachine (record { plan = p; claims = s; parts = record { cells = cells; mail = mail } }) 0
  starts_machine sound few s cells mail is first rooms =
      let at : (part : ℕ) → 2 * 0 ≡ stage_in p s part = λ part. (let z : 2 * 0 ≡ 0 = omega arith in z ∙ sym (ap (λ x. stage_in p x part) is ∙ no_stage part)) in
      record {
        sound = sound;
        reached = subst (λ x. AreReached p x) (sym is) reached_at_start;
        parts = record {
          counted = record {
            cells = ap (λ xs. length xs) first ∙ length-map (all_nodes p) (λ n. cell_before p n 0 away away) ∙ count_range (node_count p) 0;
            mail = ap (λ xs. length xs) rooms ∙ length-map (numbers_below (length p.net.links)) (room_of p 0) ∙ count_range (length p.net.links) 0;
          };
          cells = λ n h. ap (λ xs. slice_get xs n) first ∙ got_below (λ m. cell_before p m 0 away away) (node_count p) n h ∙ ap (λ x. Some x) (sym ((steps_have_two_stages p 0).0.cell n) ∙ ap (λ x. cell_at p n x) (at n));
          mail = λ l h. ap (λ xs. slice_get xs l) rooms ∙ got_below (room_of p 0) (length p.net.links) l h ∙ ap (λ x. Some x) (sym ((steps_have_two_stages p 0).0.mail l) ∙ ap (λ x. mail_at p l x) (at (mail_part p l)));
        };
        counted = sym (ap (λ x. finished p x) is ∙ none_finished p workers);
        few = let c = ap (λ x. length x.stages) is in let i = idle_count workers in omega (arith, c, i, few);
      }

-- one more worker without a unit
pub one_idle_more : (n : ℕ) → repeat n (stage.Idle ∷ []) ++ stage.Idle ∷ [] ≡ repeat (n + 1) (stage.Idle ∷ [])
one_idle_more n = more n ∙ ap (λ k. repeat k (stage.Idle ∷ [])) (sym (add-one n))
  where
    more : (n : ℕ) → repeat n (stage.Idle ∷ []) ++ stage.Idle ∷ [] ≡ repeat (suc n) (stage.Idle ∷ [])
    more zero = refl
    more (suc n) = ap (λ xs. stage.Idle ∷ xs) (more n)
