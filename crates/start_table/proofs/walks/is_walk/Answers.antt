use Rattle.std.proofs.Common.{◌≡◌, ◌<◌, arith, false, get_or, length, refl, suc, sym, zero, ℕ}
use Rattle.std.specs.Prelude.{◌==◌}
use Rattle.std.proofs.lemmas.Option.{slice_get-get_or}
use Rattle.net_core.specs.declared.rows.LinkNo.{LinkNo}
use Rattle.start_table.proofs.Walked.{walk_is}
use Rattle.start_table.proofs.walks.is_walk.Goals as goal

abbrev no_number : LinkNo
no_number = record { 0 = 0 }

nonempty : (n : ℕ) → false ≡ (n == 0) → 0 < n
nonempty zero e = cc
nonempty (suc n) e = omega arith

pub returns : goal.returns
returns c =
    let links = c.args.links.now in
    let some = nonempty (length links) c.if-is_empty.ensures in
    let all = c.loop-at-test.false in (
      (λ t. walk_is c.args.net.now c.args.origin c.args.destination links (get_or links 0 no_number)
          (slice_get-get_or links 0 no_number some) c.requires (sym c.if-not-begins_in.ensures)
          (λ i h. c.loop-at.invariant.turns i (omega (arith, h, all)))
          (λ i h. c.loop-at.invariant.ends i (omega (arith, h, all)))),
      λ w. refl,
    )
