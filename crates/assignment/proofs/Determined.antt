-- Traffic and costs have one list of routes and one list of gaps.
use Rattle.trip_costs.specs.Timings.{Links, Timing}
use Rattle.std.proofs.Common.{◌≡◌, ℕ, zero, suc, ◌+◌, List, [], length}
use Rattle.std.proofs.Common.{◌-◌, sym, ap, subst, arith, ◌∙◌}
use Rattle.std.specs.Prelude.{Some, get_or, slice_get}
use Rattle.std.proofs.lemmas.List.{ext_get_or}
use Rattle.std.proofs.lemmas.Option.{slice_get-get_or, slice_get_within}
use Rattle.gap.specs.Gap.{IsGapLine}
use Rattle.gap.specs.declared.line.GapLine.{GapLine}
use Rattle.gap.proofs.Determined.{lines_are_determined}
use Rattle.route_flows.specs.Averages.{AreNextRoutes}
use Rattle.route_flows.specs.Selection.{free_time}
use Rattle.route_flows.specs.Laws.{NextAreDetermined, SinceAreDetermined, StartedAreDetermined}
use Rattle.assignment.specs.Assignment.{Traffic, VehicleRoutes}
use Rattle.assignment.specs.Iterations.{AllIterations, AreIterationsBy}

abbrev no_line : GapLine
no_line = record { route_steps = 0; least_steps = 0; gap_steps = 0; ppm = 0 }

-- routes and the iterations in which they were taken are determined
pub record RouteLaws : Type 0 where
  pub started : StartedAreDetermined
  pub next : NextAreDetermined
  pub since : SinceAreDetermined

module _ (laws : RouteLaws) (costs : VehicleRoutes → Timing) (traffic : Traffic) (ra rb : List VehicleRoutes) (la lb : List GapLine)
    (a : AreIterationsBy costs traffic ra la) (b : AreIterationsBy costs traffic rb lb) where
  -- an iteration's routes are as many as the trips
  many : (i : ℕ) (x : VehicleRoutes) → slice_get ra i ≡ Some x → length x ≡ length traffic.trips
  many zero x e = (a.first x e).as_many
  many (suc i) x e =
      let h = slice_get_within ra (suc i) x e in
      let old = slice_get-get_or ra i [] (omega (arith, h)) in
      (a.next i (get_or ra i []) x old (subst (λ n. slice_get ra n ≡ Some x) (omega arith) e)).as_many

  same-at : (i : ℕ) (x y : VehicleRoutes) → slice_get ra i ≡ Some x → slice_get rb i ≡ Some y → x ≡ y
  same-at zero x y e f = laws.started (Links (free_time traffic.net)) traffic.net traffic.start traffic.trips x y a.start (a.first x e) (b.first y f)
  same-at (suc i) x y e f =
      let h = slice_get_within ra (suc i) x e in
      let k = slice_get_within rb (suc i) y f in
      let old = slice_get-get_or ra i [] (omega (arith, h)) in
      let other = slice_get-get_or rb i [] (omega (arith, k)) in
      let p : get_or rb i [] ≡ get_or ra i [] = sym (same-at i (get_or ra i []) (get_or rb i []) old other) in
      let next = a.next i (get_or ra i []) x old (subst (λ n. slice_get ra n ≡ Some x) (omega arith) e) in
      let again = b.next i (get_or ra i []) y (subst (λ (r : VehicleRoutes). slice_get rb i ≡ Some r) p other) (subst (λ n. slice_get rb n ≡ Some y) (omega arith) f) in
      laws.next (costs (get_or ra i [])) traffic.net traffic.trips (i + 1) (get_or ra i []) x y next again

  pub same-routes : length ra ≡ length rb → ra ≡ rb
  same-routes e = ext_get_or [] ra rb e (λ i h.
      same-at i (get_or ra i []) (get_or rb i []) (slice_get-get_or ra i [] h) (slice_get-get_or rb i [] (omega (arith, h, e))))

  pub same-lines : ra ≡ rb → length la ≡ length ra → length la ≡ length lb → la ≡ lb
  same-lines same n e = ext_get_or no_line la lb e (λ i h.
      let r = get_or ra i [] in
      let there = slice_get-get_or ra i [] (omega (arith, h, n)) in
      let here : slice_get rb i ≡ Some r = subst (λ (rs : List VehicleRoutes). slice_get rs i ≡ Some r) same there in
      lines_are_determined (costs r) traffic.net traffic.trips r (get_or la i no_line) (get_or lb i no_line) (many i r there)
      (a.gaps i r (get_or la i no_line) there (slice_get-get_or la i no_line h))
      (b.gaps i r (get_or lb i no_line) here (slice_get-get_or lb i no_line (omega (arith, h, e)))))

-- iterations by other costs that are the same
pub by-same-costs : (t u : VehicleRoutes → Timing) (traffic : Traffic) (routes : List VehicleRoutes) (lines : List GapLine)
    → ((r : VehicleRoutes) → u r ≡ t r) → AreIterationsBy u traffic routes lines → AreIterationsBy t traffic routes lines
by-same-costs t u traffic routes lines same it = record {
  start = it.start;
  first = it.first;
  next = λ i old new e f. subst (λ (x : Timing). AreNextRoutes x traffic.net traffic.trips (i + 1) old new) (same old) (it.next i old new e f);
  gaps = λ i r line e f. subst (λ (x : Timing). IsGapLine x traffic.net traffic.trips r line) (same r) (it.gaps i r line e f);
}

-- all iterations by other costs that are the same
abbrev pub all-by-same : (m n : ℕ) (t u : VehicleRoutes → Timing) (traffic : Traffic) → m ≡ n → ((r : VehicleRoutes) → u r ≡ t r)
    → AllIterations m u traffic → AllIterations n t traffic
all-by-same m n t u traffic e same all = record {
  routes = all.routes;
  lines = all.lines;
  last = all.last;
  line = all.line;
  iterations = by-same-costs t u traffic all.routes all.lines same all.iterations;
  as_many = all.as_many ∙ e;
  with_gaps = all.with_gaps ∙ e;
  last_routes = subst (λ k. slice_get all.routes (k - 1) ≡ Some all.last) e all.last_routes;
  last_line = subst (λ k. slice_get all.lines (k - 1) ≡ Some all.line) e all.last_line;
}

some-is : {A : Type 0} (x y : A) → Some x ≡ Some y → x ≡ y
some-is x y e = cc

-- so many iterations by the same costs are the same
module _ (laws : RouteLaws) (n : ℕ) (costs : VehicleRoutes → Timing) (traffic : Traffic) (a b : AllIterations n costs traffic) where
  pub all-routes : a.routes ≡ b.routes
  all-routes = same-routes laws costs traffic a.routes b.routes a.lines b.lines a.iterations b.iterations (a.as_many ∙ sym b.as_many)

  pub all-lines : a.lines ≡ b.lines
  all-lines = same-lines laws costs traffic a.routes b.routes a.lines b.lines a.iterations b.iterations all-routes
      (a.with_gaps ∙ sym a.as_many) (a.with_gaps ∙ sym b.with_gaps)

  pub all-last : a.last ≡ b.last
  all-last = some-is a.last b.last (sym a.last_routes ∙ ap (λ (rs : List VehicleRoutes). slice_get rs (n - 1)) all-routes ∙ b.last_routes)

  pub all-line : a.line ≡ b.line
  all-line = some-is a.line b.line (sym a.last_line ∙ ap (λ (ls : List GapLine). slice_get ls (n - 1)) all-lines ∙ b.last_line)
