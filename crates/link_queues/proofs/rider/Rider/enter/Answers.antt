use Rattle.std.proofs.Common.{sym, ◌∙◌, ◌≢◌, ap, arith, None, ◌+◌, [], subst, take}
use Rattle.std.specs.List.{last_or}
use Rattle.std.specs.Prelude.{slice_get, slice_set}
use Rattle.std.proofs.lemmas.List.{length-set, take_more_set}
use Rattle.dta_model.proofs.Riders.{first_ahead, last_push}
use Rattle.link_queues.proofs.PathFacts.{place_within}
use Rattle.link_queues.proofs.rider.Rider.enter.Goals as goal

pub invariant_of-self : goal.invariant_of-self
invariant_of-self c =
    let path = c.self.inside.path.items in
    let k = c.self.inside.entered in
    let step = c.args.step in
    let some = subst (λ r. r.ahead ≢ []) (sym c.self.view_is) c.requires in
    let here = place_within k path some in
    let many = length-set path k step in
    record {
      within = omega (arith, here, many);
      arrives = λ h. let all = c.self.invariant.arrives h in absurd (omega (arith, all, here));
      last_entry = sym (ap (last_or None) (take_more_set path k step here)
          ∙ last_push None (take k path) step);
      next_link = c.link_at-self-inside.ensures
          ∙ ap (λ xs. slice_get xs (k + 1)) c.deref.ensures.value
          ∙ sym (first_ahead (k + 1) (slice_set path k step));
    }
