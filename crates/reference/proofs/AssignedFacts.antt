-- The texts of the reference are texts of an assignment, and there are no others.
use Rattle.std.proofs.Common.{◌≡◌, ℕ, zero, suc, ◌+◌, ◌-◌, ◌<◌, ◌≤◌, Bool, false, true, List, [], ◌∷◌, ◌++◌, length, map, refl, ap, sym, ◌∙◌, subst, arith}
use Rattle.std.specs.Prelude.{get_or}
use Rattle.std.proofs.lemmas.List.{map-append}
use Rattle.std.proofs.lemmas.List.Elements.{All-map}
use Rattle.std.proofs.lemmas.List.FromFn.{length-map-range_with_len}
use Rattle.net_core.specs.Network.{numbers_below}
use Rattle.net_core.proofs.Numbers.{numbers_more}
use Rattle.desk_io.specs.Desk.{Taken}
use Rattle.pending_text.proofs.OutFacts.{cut-sooner}
use Rattle.pending_text.specs.Outs.{IsCutOff, OutText, SomeCutOff}
use Rattle.dta_words.specs.Ranges.{AreSettings}
use Rattle.dta_words.specs.declared.command.Settings.{Settings}
use Rattle.route_flows.proofs.Determined.{next_are_determined}
use Rattle.route_flows.proofs.Numbered.{since_are_determined, started_are_determined}
use Rattle.assignment.specs.Assignment.{Traffic, VehicleRoutes, costs_of, end_of, plan_of}
use Rattle.assignment.specs.Iterations.{AllIterations, AreIterations}
use Rattle.assignment.specs.Traffic.{IsSoundLoading, IsTraffic}
use Rattle.assignment.proofs.AssignmentFacts.{sound-plan}
use Rattle.assignment.proofs.Determined.{RouteLaws, all-routes, same-routes}
use Rattle.assignment.proofs.SoundFacts.{sound-loading}
use Rattle.commands.specs.Outputs.{AreAssigned, AreSinceTold, AreWatched}
use Rattle.commands.specs.Texts.{AreWatchTexts, end_lines}
use Rattle.commands.proofs.Determined.{lasts-by, same-since}
use Rattle.commands.proofs.OutputFacts.{end-lines, watch-more}
use Rattle.reference.specs.Reference.{all_gaps, assigned_texts, gap_at, routes_at, routes_until, since_told, watch_texts}
use Rattle.reference.specs.Texts.{AreSoundlyLoaded}
use Rattle.reference.proofs.Iterated.{iterated, place-of, routed}
use Rattle.reference.proofs.StartFacts.{since-are}

-- settings and traffic have one list of routes
pub laws : RouteLaws
laws = record { started = started_are_determined; next = next_are_determined; since = since_are_determined }

pub before-last : (n : ℕ) → 1 ≤ n → n - 1 < n
before-last n h = omega (arith, h)

module _ (s : Settings) (traffic : Traffic) (settings : AreSettings s) (good : IsTraffic s.horizon traffic) where
  abbrev until : ℕ → List VehicleRoutes
  until n = routes_until s traffic n

  abbrev last : ℕ
  last = s.iterations - 1

  pub iterations : (n : ℕ) → AreIterations s traffic (until n) (all_gaps s traffic)
  iterations n = iterated s traffic settings good.net good.trips good.start n

  pub many : (n : ℕ) → length (until n) ≡ n
  many n = length-map-range_with_len (routes_at s traffic) 0 n

  -- ---- watch lines of the first iterations

  -- those of the plain loader
  pub plain-lines : (number : ℕ) (routes : List VehicleRoutes) → AreWatchTexts s traffic number routes (watch_texts s traffic number routes)
  unfolding watch_texts
  plain-lines number [] = refl
  plain-lines number (r ∷ others) =
      (end_lines s.watch number (end_of s traffic r), watch_texts s traffic (number + 1) others, end-lines s traffic number r (end_of s traffic r) settings refl, plain-lines (number + 1) others, refl)

  one-more : (n : ℕ) → until n ++ routes_at s traffic n ∷ [] ≡ until (n + 1)
  one-more n = sym (ap (map (routes_at s traffic)) (numbers_more n) ∙ map-append (routes_at s traffic) _ (n ∷ []))

  -- lines that were cut off are so among those of all iterations
  cut-among : (more n : ℕ) (lines : List OutText) (before after : Taken) → n + more ≡ s.iterations → AreWatchTexts s traffic 1 (until n) lines → IsCutOff lines before after
      → SomeCutOff (AreWatchTexts s traffic 1 (until s.iterations)) before after
  cut-among zero n lines before after e told cut =
      let same : n ≡ s.iterations = omega (arith, e) in
      (lines, subst (λ (k : ℕ). AreWatchTexts s traffic 1 (until k) lines) same told, cut)
  cut-among (suc more) n lines before after e told cut =
      let own = end_lines s.watch (n + 1) (end_of s traffic (routes_at s traffic n)) in
      let number : length (until n) + 1 ≡ n + 1 = ap (λ k. k + 1) (many n) in
      let next = watch-more s traffic 1 (n + 1) (until n) (routes_at s traffic n) lines own number told (end-lines s traffic (n + 1) (routes_at s traffic n) _ settings refl) in
      cut-among more (n + 1) (lines ++ own) before after (omega (arith, e)) (subst (λ rs. AreWatchTexts s traffic 1 rs (lines ++ own)) (one-more n) next)
      (cut-sooner lines own before after cut)

  -- the first iterations of any are those of the reference
  pub watched-are : (lines : List OutText) (w : AreWatched s traffic lines) → AreWatchTexts s traffic 1 (until (length w.routes)) lines
  watched-are lines w =
      let n = length w.routes in
      subst (λ rs. AreWatchTexts s traffic 1 rs lines)
      (same-routes laws (costs_of s traffic) traffic w.routes (until n) w.lines (all_gaps s traffic) w.iterations (iterations n) (sym (many n)))
      w.watch_lines

  pub watched-cut : (lines : List OutText) (before after : Taken) (w : AreWatched s traffic lines) → IsCutOff lines before after
      → SomeCutOff (AreWatchTexts s traffic 1 (until s.iterations)) before after
  watched-cut lines before after w cut =
      let few = w.few in
      cut-among (s.iterations - length w.routes) (length w.routes) lines before after (omega (arith, few)) (watched-are lines w) cut

  -- ---- all texts
  since : (start : Bool) → AreSinceTold start s traffic (since_told start s traffic)
  since false = refl
  since true = since-are s.costs traffic.net traffic.start traffic.trips s.iterations good.start

  -- all iterations are those of the reference
  abbrev pub its-all : AllIterations s.iterations (costs_of s traffic) traffic
  its-all = record {
    routes = until s.iterations;
    lines = all_gaps s traffic;
    last = routes_at s traffic last;
    line = gap_at s traffic last;
    iterations = iterations s.iterations;
    as_many = many s.iterations;
    with_gaps = length-map-range_with_len (gap_at s traffic) 0 s.iterations;
    last_routes = place-of (routes_at s traffic) s.iterations last (before-last s.iterations settings.iterations.0);
    last_line = place-of (gap_at s traffic) s.iterations last (before-last s.iterations settings.iterations.0);
  }

  pub assigned : (lines : List OutText) → AreWatchTexts s traffic 1 (until s.iterations) lines → AreAssigned s traffic (lines ++ assigned_texts s traffic)
  unfolding assigned_texts
  assigned lines told = record {
    all = its-all;
    since = since_told s.start s traffic;
    since_told = since s.start;
    watched = lines;
    watch_lines = told;
    texts_are = refl;
  }

  module _ (texts : List OutText) (a : AreAssigned s traffic texts) where
    pub own-lines : AreWatchTexts s traffic 1 (until s.iterations) a.watched
    own-lines =
        subst (λ rs. AreWatchTexts s traffic 1 rs a.watched)
        (all-routes laws s.iterations (costs_of s traffic) traffic a.all its-all) a.watch_lines

    pub own-texts : texts ≡ a.watched ++ assigned_texts s traffic
    unfolding assigned_texts
    own-texts =
        a.texts_are
        ∙ ap (λ (l : List OutText). a.watched ++ l) (lasts-by laws s traffic a.all its-all a.since (since_told s.start s traffic)
        (same-since laws s traffic s.start a.since (since_told s.start s traffic) a.since_told (since s.start)))

  -- ---- loadings
  pub soundly-loaded : AreSoundlyLoaded s traffic
  soundly-loaded =
      All-map (λ (r : VehicleRoutes). IsSoundLoading (plan_of s traffic r)) (routes_at s traffic) (numbers_below s.iterations) (λ k d h.
      let i = get_or (numbers_below s.iterations) k d in
      sound-loading (plan_of s traffic (routes_at s traffic i)) (sound-plan s traffic (routes_at s traffic i) settings good.net good.trips
      (routed s traffic settings good.net good.trips good.start i)))
