use Rattle.std.proofs.Common.{◌≡◌, ◌∙◌, ◌+◌, ◌-◌, add-one, ap, arith, map, refl, sym}
use Rattle.std.proofs.lemmas.List.{map_more, take_all}
use Rattle.capacity_credits.proofs.Courses.{before_held, before_range, before_rises, no_window, window}
use Rattle.dta_model.specs.Allowance.{carried, credited}
use Rattle.net_core.specs.declared.rates.Window.{Window}
use Rattle.capacity_credits.proofs.course.Course.of.Goals as goal

pub loop-window-init : goal.loop-window-init
loop-window-init c = record {
  last = refl;
  here = c.new-credit.ensures.stands c.args.rates c.args.delta;
  carries = c.new-credits.ensures.items;
}

pub overflow_sub-window : goal.overflow_sub-window
overflow_sub-window c =
    let inside = rw c.as_slice-window-items.ensures at c.loop-window-test.true in
    rw c.as_slice-window-items.ensures
    (before_rises c.args.rates.windows c.loop-window.window-index c.loop-window.last
    c.requires.rates.windows inside c.loop-window.invariant.last)

pub skip-requires-clause-rate : goal.skip-requires-clause-rate
skip-requires-clause-rate c =
    let inside = rw c.as_slice-window-items.ensures at c.loop-window-test.true in
    rw c.credited_of.ensures
    (before_range c.args.rates.windows c.loop-window.window-index c.loop-window.last
    c.requires.rates.windows inside c.loop-window.invariant.last)

pub loop-window-preserved : goal.loop-window-preserved
loop-window-preserved c =
    let rates = c.args.rates in
    let last = c.loop-window.last in
    let i = c.loop-window.window-index in
    let w = window rates.windows i in
    let is = c.loop-window.invariant.last in
    let inside = rw c.as_slice-window-items.ensures at c.loop-window-test.true in
    let rises = before_rises rates.windows i last c.requires.rates.windows inside is in
    let on : last.from + (w.from - last.from) ≡ w.from = omega (arith, rises) in
    let skipped = rw c.as_slice-window-items.ensures at c.skip.ensures.stands in
    let here = skipped rates last.from
    (λ k b. ap credited (before_held rates.usual rates.windows i (last.from + k) last
    c.requires.rates.windows inside is (omega arith) (omega (arith, b, rises)))
    ∙ sym c.credited_of.ensures)
    c.loop-window.invariant.here
    ∙ ap (carried rates c.args.delta) on in
    record {
      last = rw (c.as_slice-window-items.ensures, add-one i) refl;
      here = rw c.as_slice-window-items.ensures here;
      carries = rw (c.in_ok-push.ensures.items, c.loop-window.invariant.carries, here)
          (sym (map_more (λ (v : Window). carried rates c.args.delta v.from) rates.windows i
          no_window inside));
    }

pub returns-clause-course : goal.returns-clause-course
returns-clause-course c =
    let past = rw c.as_slice-window-items.ensures at c.loop-window-test.false in
    record {
      given = c.requires.rates;
      some = c.requires.some;
      carries = c.loop-window.invariant.carries
          ∙ ap (map (λ (w : Window). carried c.args.rates c.args.delta w.from))
          (take_all c.loop-window.window-index c.args.rates.windows past);
    }
