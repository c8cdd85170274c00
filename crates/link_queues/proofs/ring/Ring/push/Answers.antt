-- What is left to show of a push on a ring.
use Rattle.std.proofs.Common.{ap, arith, rules, sym, ◌∙◌, ◌≡◌, ◌<◌, length}
use Rattle.std.specs.Vec.{vec_len}
use Rattle.link_queues.specs.Leavings.{pushed}
use Rattle.link_queues.proofs.RingFacts.{changed_fits, put_before}
use Rattle.link_queues.proofs.ring.Ring.push.Goals as goal

pub overflow_add-self : goal.overflow_add-self
overflow_add-self c =
    let long : vec_len c.self.inside.counts ≡ length c.self.inside.counts.items = search rules in
    let inside : c.before-place.result < length c.self.inside.counts.items =
    omega (arith, long, c.len.ensures, c.before-place.ensures.below) in
    let few : length c.self.inside.counts.items < 4294967296 =
    omega (arith, long, c.self.invariant.few) in
    let fits = changed_fits c.before-place.result c.self.inside.counts.items c.args.left
    c.index-oldest.result.now inside few c.self.invariant.small c.ranges.left.fits in
    omega (arith, fits, c.self.invariant.total, c.index-oldest.ensures)

pub returns : goal.returns
returns c =
    let long : vec_len c.self.inside.counts ≡ length c.self.inside.counts.items = search rules in
    let inside : c.before-place.result < length c.self.inside.counts.items =
    omega (arith, long, c.len.ensures, c.before-place.ensures.below) in
    put_before c.before-place.result c.self.inside.counts.items c.args.left inside
    ∙ ap (pushed c.args.left)
    (sym (c.before-place.ensures.round c.self.inside.counts.items (sym (c.len.ensures ∙ long)))
    ∙ c.self.view_is)
