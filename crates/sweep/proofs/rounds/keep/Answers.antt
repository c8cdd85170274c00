use Rattle.std.proofs.Common.{◌≡◌, List, length, refl, rules, sym, subst, ◌∙◌}
use Rattle.std.specs.Prelude.{Result, vec_len}
use Rattle.std.specs.declared.alloc.AllocError.{AllocError}
use Rattle.std.proofs.lemmas.Iterator.Adapters.{YieldsList-from_vec}
use Rattle.std.proofs.lemmas.Iterator.Consumers.{YieldsList-end}
use Rattle.std.proofs.lemmas.List.{map-id}
use Rattle.sweep.specs.Rounds.{AreKept}
use Rattle.sweep.specs.declared.scenario.Scenario.{Scenario}
use Rattle.sweep.proofs.RoundFacts.{kept-more, kept-none}
use Rattle.sweep.proofs.rounds.keep.Goals as goal

pub loop-one-init : goal.loop-one-init
loop-one-init c = (tt, tt, kept-none c.args.kept.now.items)

pub loop-one-preserved : goal.loop-one-preserved
loop-one-preserved c = (
  tt,
  tt,
  kept-more c.args.kept.now.items c.loop-one.kept.items _ c.loop-one.yielded _ c.in-Some.one c.in_ok-one.field-0
      c.loop-one.invariant.2 c.in_ok-one.was c.in_ok-push.ensures.items refl,
)

pub returns : goal.returns
returns c =
    let round = c.args.round in
    let gives = c.into_iter-one-iterator.ensures.into_iter_gives in
    let long : vec_len round ≡ length round.items = search rules in
    let end = YieldsList-end (YieldsList-from_vec round.items gives.0 (gives.1 ∙ long)) c.loop-one.yielded _ c.loop-one.yielded_by _ c.next.new.self c.in-None.is c.next.ensures.steps in
    subst (λ (all : List (Result Scenario AllocError)). AreKept c.args.kept.now.items all c.loop-one.kept.items)
    (sym (map-id c.loop-one.yielded) ∙ end.0) c.loop-one.invariant.2
