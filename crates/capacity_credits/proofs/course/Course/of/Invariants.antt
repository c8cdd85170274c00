use Rattle.std.proofs.Common.{◌≡◌, map, take}
use Rattle.capacity_credits.proofs.Courses.{before}
use Rattle.dta_model.specs.Allowance.{carried}
use Rattle.capacity_credits.proofs.course.Course.of.Given as goal

abbrev pub invariant-loop-window : goal.invariant-loop-window
invariant-loop-window l = record {
  last : l.last ≡ before l.fn.rates.windows l.window-index;
  here : l.credit ≡ carried l.fn.rates l.delta l.last.from;
  carries : l.credits.items
      ≡ map (λ w. carried l.fn.rates l.delta w.from) (take l.window-index l.fn.rates.windows);
}
