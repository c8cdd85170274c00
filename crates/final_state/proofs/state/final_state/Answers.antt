use Rattle.std.proofs.Common.{◌≡◌, ℕ, ◌+◌, ◌<◌, ap, arith, length, sym, ◌∙◌, subst}
use Rattle.dta_model.specs.Lent.{plan_of}
use Rattle.dta_model.specs.Loading.{trace_after}
use Rattle.dta_model.specs.declared.loading.Loading.{Loading}
use Rattle.final_state.specs.Counts.{HasRoom, counted, state_of}
use Rattle.final_state.specs.Whereabouts.{whereabouts_at}
use Rattle.final_state.specs.declared.whereabouts.Whereabouts.{Whereabouts}
use Rattle.final_state.proofs.AtTheEnd.{all_is, all_routed}
use Rattle.final_state.proofs.OneMore.{state_more, state_none, state_room}
use Rattle.final_state.proofs.state.final_state.Goals as goal

-- where the vehicles of a loading are
abbrev at : Loading → ℕ → Whereabouts
at loading = whereabouts_at (plan_of loading) (trace_after (plan_of loading) loading.horizon)

pub loop-vehicle-init : goal.loop-vehicle-init
loop-vehicle-init c = state_none c.args.loading.now.horizon (at c.args.loading.now)

pub count_in-requires : goal.count_in-requires
count_in-requires c =
    let few = c.requires.sound.trips.few in
    let here : c.loop-vehicle.vehicle < length c.args.loading.now.trips.now = omega arith in
    subst HasRoom (sym c.loop-vehicle.invariant) (state_room c.args.loading.now.horizon (at c.args.loading.now) c.loop-vehicle.vehicle (omega (arith, few, here)))

pub loop-vehicle-preserved : goal.loop-vehicle-preserved
loop-vehicle-preserved c =
    c.count_in.ensures
    ∙ ap (λ x. counted x c.loop-vehicle.eight) c.whereabouts_of.ensures
    ∙ ap (counted (at c.args.loading.now c.loop-vehicle.vehicle)) c.loop-vehicle.invariant
    ∙ sym (state_more c.args.loading.now.horizon (at c.args.loading.now) c.loop-vehicle.vehicle (c.loop-vehicle.vehicle + 1) (omega arith))

pub returns-clause-is : goal.returns-clause-is
returns-clause-is c =
    let past : c.loop-vehicle.vehicle ≡ length c.args.loading.now.trips.now = omega arith in
    c.loop-vehicle.invariant ∙ ap (state_of c.args.loading.now.horizon (at c.args.loading.now)) past ∙ all_is (plan_of c.args.loading.now) c.requires.sound

pub returns-clause-all : goal.returns-clause-all
returns-clause-all c =
    ap (λ e. e.waiting + e.running + e.arrived) (returns-clause-is c) ∙ all_routed (plan_of c.args.loading.now) c.requires.sound
