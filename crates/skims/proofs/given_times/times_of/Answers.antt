use Rattle.std.proofs.Common.{◌≤◌, ap, map, sym, subst, ◌∙◌}
use Rattle.std.specs.Prelude.{All}
use Rattle.std.proofs.lemmas.List.Elements.{All-map}
use Rattle.link_times.proofs.Links.{steps_least}
use Rattle.skims.proofs.given_times.times_of.Goals as goal

pub given-requires-clause-free : goal.given-requires-clause-free
given-requires-clause-free c =
    subst (λ fs. All (λ f. 1 ≤ f) fs) (sym (c.in_ok-free.ensures ∙ ap (λ ls. map (λ link. link.free) ls) c.links.ensures))
    (steps_least c.args.net.now c.link_count-sound.ensures.sound)

pub given-requires-clause-times : goal.given-requires-clause-times
given-requires-clause-times c =
    subst (λ xs. All (λ x. 1 ≤ x) xs) (sym (c.in_ok-times.ensures ∙ ap (λ rs. map (λ row. row.travel) rs) c.as_slice.ensures))
    (All-map (λ x. 1 ≤ x) (λ row. row.travel) c.args.rows.now c.requires.rows.some)
