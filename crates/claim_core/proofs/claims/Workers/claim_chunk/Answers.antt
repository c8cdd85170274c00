use Rattle.std.proofs.Common.{arith, sym}
use Rattle.dta_model.specs.Lent.{plan_of}
use Rattle.claim_core.proofs.Effects.{chunk_given, chunk_misplaced, chunk_over, chunk_unfit, fit, has, unfit}
use Rattle.claim_core.proofs.Working.{count_is_all}
use Rattle.claim_core.proofs.claims.Workers.claim_chunk.Goals as goal

pub returns-in_default : goal.returns-in_default
returns-in_default c =
    rw (sym c.self.view_is) (chunk_misplaced (plan_of c.args.loading.now) _ c.args.worker c.args.many
    c.index.result.now c.index.ensures c.in_default.not-Idle)

pub returns-then-many-lt1 : goal.returns-then-many-lt1
returns-then-many-lt1 c =
    chunk_unfit (plan_of c.args.loading.now) c.args.self.now c.args.worker c.args.many
    (has c.self.view_is c.requires.worker c.index.ensures c.in-Idle.is)
    (unfit c.args.many c.then-many-lt1.either)

pub overflow_add-self : goal.overflow_add-self
overflow_add-self c =
    omega (arith, rw (sym c.self.view_is) at c.requires.room, c.count-count.ensures.value, c.count-count.ensures.small, c.if-many-gt-MOST_CHUNK.false, count_is_all (plan_of c.args.loading.now) c.of.result.horizon c.of.result.nodes c.of.ensures.horizon c.of.ensures.nodes)

pub invariant_of-self-else-first-count : goal.invariant_of-self-else-first-count
invariant_of-self-else-first-count c =
    omega (arith, rw (sym c.self.view_is) at c.requires.room, c.count-count.ensures.value, c.count-count.ensures.small, c.if-many-gt-MOST_CHUNK.false, count_is_all (plan_of c.args.loading.now) c.of.result.horizon c.of.result.nodes c.of.ensures.horizon c.of.ensures.nodes)

pub returns-then-first-count : goal.returns-then-first-count
returns-then-first-count c =
    let all = count_is_all (plan_of c.args.loading.now) c.of.result.horizon c.of.result.nodes c.of.ensures.horizon c.of.ensures.nodes in
    let few = c.if-first-count.true in
    rw (sym c.self.view_is) (chunk_given (plan_of c.args.loading.now) (record { drawn = c.self.inside.drawn; stages = c.self.inside.stages.items }) c.args.worker c.args.many
    (rw (sym c.self.view_is) at (has c.self.view_is c.requires.worker c.index.ensures c.in-Idle.is))
    (fit c.args.many c.if-many-lt1.false c.if-many-gt-MOST_CHUNK.false)
    (omega (arith, few, c.count-count.ensures.value, all)) c.min-end.result
    (omega (arith, c.min-end.ensures, c.count-count.ensures.value, all)))

pub returns-else-first-count : goal.returns-else-first-count
returns-else-first-count c =
    let past = c.if-first-count.false in
    rw (sym c.self.view_is) (chunk_over (plan_of c.args.loading.now) (record { drawn = c.self.inside.drawn; stages = c.self.inside.stages.items }) c.args.worker c.args.many
    (rw (sym c.self.view_is) at (has c.self.view_is c.requires.worker c.index.ensures c.in-Idle.is))
    (fit c.args.many c.if-many-lt1.false c.if-many-gt-MOST_CHUNK.false)
    (omega (arith, past, c.count-count.ensures.value, count_is_all (plan_of c.args.loading.now) c.of.result.horizon c.of.result.nodes c.of.ensures.horizon c.of.ensures.nodes)))
