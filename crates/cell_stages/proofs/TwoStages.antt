-- The stages of a step by their numbers.
use Rattle.std.proofs.Common.{◌≡◌, ℕ, ◌+◌, ◌*◌, ◌/◌, ◌%◌, arith, refl}
use Rattle.dta_model.specs.declared.plan.Plan.{Plan}
use Rattle.cell_stages.specs.Contents.{away, batch_of, cell_after, cell_at, cell_before, mail_at, room_of}
use Rattle.cell_stages.specs.Laws.{StepsHaveTwoStages}

module _ (p : Plan) (t : ℕ) where
  even_rest : (2 * t) % 2 ≡ 0
  even_rest = omega arith

  even_half : (2 * t) / 2 ≡ t
  even_half = omega arith

  odd_rest : (2 * t + 1) % 2 ≡ 1
  odd_rest = omega arith

  odd_half : (2 * t + 1) / 2 ≡ t
  odd_half = omega arith

  cell_even : (n : ℕ) → cell_at p n (2 * t) ≡ cell_before p n t away away
  unfolding cell_at
  cell_even n = rw (even_rest, even_half) refl

  cell_odd : (n : ℕ) → cell_at p n (2 * t + 1) ≡ cell_after p n t away away
  unfolding cell_at
  cell_odd n = rw (odd_rest, odd_half) refl

  mail_even : (l : ℕ) → mail_at p l (2 * t) ≡ room_of p t l
  unfolding mail_at
  mail_even l = rw (even_rest, even_half) refl

  mail_odd : (l : ℕ) → mail_at p l (2 * t + 1) ≡ batch_of p t l
  unfolding mail_at
  mail_odd l = rw (odd_rest, odd_half) refl

pub steps_have_two_stages : StepsHaveTwoStages
steps_have_two_stages p t = (
  record { cell = cell_even p t; mail = mail_even p t },
  record { cell = cell_odd p t; mail = mail_odd p t },
)
