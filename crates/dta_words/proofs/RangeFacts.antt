-- The settings that words come to are in range.
use Rattle.std.proofs.Common.{◌≡◌, ◌≤◌, ◌<◌, ◌∙◌, ◌&&◌, ℕ, Bool, true, false, cond, List, [], ◌∷◌, Option, Some, None, nat_le, codes, refl, sym, ap, subst, arith, true≢false}
use Rattle.std.specs.Prelude.{option_and_then}
use Rattle.std.specs.Str.{bytes_eq}
use Rattle.std.specs.Result.{result_ok}
use Rattle.fixed_units.specs.Quantity.{milli_of}
use Rattle.std.proofs.lemmas.Bool.{and_parts, leb-true, ltb-true}
use Rattle.std.proofs.lemmas.List.Elements.{All-nil, All-cons}
use Rattle.std.proofs.lemmas.Option.{cond_some, option_and_then_some, same_Some}
use Rattle.dta_model.specs.Sound.{IsQueue}
use Rattle.dta_model.specs.declared.queue.Queue.{Queue}
use Rattle.dta_model.specs.declared.queue.Queue.TheVariants as queue
use Rattle.fixed_units.specs.declared.units.Units.{Units}
use Rattle.flat_options.specs.Uses.{Text, Use, has_name, number_name, uses_of, value_in}
use Rattle.flat_options.proofs.ClapReads.{taken_where_given}
use Rattle.dta_words.specs.Grammar.{costs_given, flags_in, link_given, length_unit_of, period_within, queue_of, settings_from, settings_of, settings_over, speed_unit_of, units_by}
use Rattle.dta_words.specs.Numbers.{number_given, number_of}
use Rattle.dta_words.specs.Options.{command_of, side_of, takes_of, takes_scales, word_of}
use Rattle.dta_words.specs.Ranges.{AreScales, AreSettings, AreStarts, IsBetween, IsSide}
use Rattle.dta_words.specs.Scales.{scale_of, scales_given}
use Rattle.dta_words.specs.Starts.{start_of, starts_given, when_below}
use Rattle.dta_words.specs.declared.command.Command.{Command}
use Rattle.dta_words.specs.declared.command.Command.TheVariants as command
use Rattle.dta_words.specs.declared.command.Settings.{Settings}
use Rattle.dta_words.specs.declared.options.Bounds.{Bounds}
use Rattle.dta_words.specs.declared.options.TheConstants.{BUCKET, HORIZON, ITERATIONS, JAM, STEP, WATCH, WAVE, WORKERS}
use Rattle.dta_words.proofs.NumberFacts.{bounded}
use Rattle.dta_words.proofs.SettingsFacts.{start_alone}
use Rattle.dta_words.proofs.PieceFacts.{list_within}

-- ---- one value

given : (bounds : Bounds) (value : Option Text) (n : ℕ)
    → (nat_le bounds.least bounds.default && nat_le bounds.default bounds.most) ≡ true
    → number_given bounds value ≡ Some n → IsBetween bounds.least bounds.most n
given bounds None n within e =
    let parts = and_parts _ _ within in
    subst (IsBetween bounds.least bounds.most) (same_Some _ _ e)
    (leb-true bounds.least bounds.default parts.0, leb-true bounds.default bounds.most parts.1)
given bounds (Some text) n within e = bounded bounds.least bounds.most (number_of text) n e

-- what follows from a number within its bounds
after : {A P : Type 0} (bounds : Bounds) (value : Option Text) (f : ℕ → Option A) (y : A)
    → (nat_le bounds.least bounds.default && nat_le bounds.default bounds.most) ≡ true
    → option_and_then f (number_given bounds value) ≡ Some y
    → ((n : ℕ) → IsBetween bounds.least bounds.most n → f n ≡ Some y → P) → P
after bounds value f y within e next =
    option_and_then_some f (number_given bounds value) y e
    (λ n is. next n (given bounds value n within is))

-- the default of the period is within the horizon
default_within : (horizon : ℕ) → 1 ≤ horizon
    → (nat_le 1 (period_within horizon).default && nat_le (period_within horizon).default horizon) ≡ true
default_within horizon some = grind arith

-- the first of two choices, or a later one
either : {A : Type 0} (P : A → Type 0) (b : Bool) (x : A) (rest : Option A) (y : A)
    → cond b (Some x) rest ≡ Some y → P x → (rest ≡ Some y → P y) → P y
either P true x rest y e here later = subst P (same_Some _ _ e) here
either P false x rest y e here later = later e

queue_in : (wave : ℕ) (value : Option Text) (line : Queue) → IsBetween 1 100 wave
    → queue_of wave value ≡ Some line → IsQueue line
queue_in wave None line within e = subst IsQueue (same_Some _ _ e) tt
queue_in wave (Some text) line within e =
    either IsQueue (bytes_eq text (codes "point")) queue.Point _ line e tt (λ f.
    either IsQueue (bytes_eq text (codes "spatial")) queue.Spatial _ line f tt (λ g.
    either IsQueue (bytes_eq text (codes "newell")) (queue.Newell wave) None line g within
    (λ h. absurd cc)))

below : (horizon : ℕ) (read : Option ℕ) (step : ℕ)
    → option_and_then (when_below horizon) read ≡ Some step → step < horizon
below horizon read step e =
    option_and_then_some (when_below horizon) read step e (λ found _ chosen.
    let is = cond_some _ found step chosen in
    subst (λ n. n < horizon) is.1 (ltb-true found horizon is.0))

starts_in : (horizon : ℕ) (value : Option Text) (starts : List ℕ) → 1 ≤ horizon
    → starts_given horizon value ≡ Some starts → AreStarts horizon starts
starts_in horizon None starts some e = subst (AreStarts horizon) (same_Some _ _ e) (
  (omega arith, omega arith),
  All-cons (λ step. step < horizon) 0 [] some (All-nil (λ step. step < horizon)),
)
starts_in horizon (Some text) starts some e = list_within (start_of horizon) (λ step. step < horizon)
    (λ piece. below horizon (number_of piece)) 64 text starts e

scales_in : (value : Option Text) (scales : List ℕ) → scales_given true value ≡ Some scales
    → AreScales scales
scales_in None scales e = absurd cc
scales_in (Some text) scales e = list_within scale_of (IsBetween 1 10000)
    (λ piece. bounded 1 10000 (result_ok (milli_of piece))) 16 text scales e

side_in : (value : Option Text) (n : ℕ) → side_of value ≡ Some n → IsBetween 2 60 n
side_in None n e = absurd cc
side_in (Some text) n e = bounded 2 60 (number_of text) n e

units_in : (value : Text → Option Text) (units : Units) → units_by value ≡ Some units
    → IsBetween 1 60 units.delta × IsBetween 1 1000 units.jam
units_in value units e =
    after STEP (value (codes "step")) _ units refl e (λ step step_in e1.
    after JAM (value (codes "jam")) _ units refl e1 (λ jam jam_in e2.
    option_and_then_some _ (length_unit_of (value (codes "length-unit"))) units e2 (λ long _ e3.
    option_and_then_some _ (speed_unit_of (value (codes "speed-unit"))) units e3 (λ fast _ e4.
    subst (λ (u : Units). IsBetween 1 60 u.delta × IsBetween 1 1000 u.jam) (same_Some _ _ e4)
    (step_in, jam_in)))))

-- ---- commands by their words

-- what is so of a command by what its word names
record IsOf (named what : Command) : Type 0 where
  side : IsSide what
  scales : takes_scales what ≡ true → takes_scales named ≡ true
  start : has_name (takes_of named).flags (codes "start") ≡ true → what ≡ command.Assign

-- an assignment alone takes a start table
starts : (c : Command) → has_name (takes_of c).flags (codes "start") ≡ true → c ≡ command.Assign
starts command.Assign e = refl
starts c e = absurd (true≢false (sym e))

numbered : (named : Command) (value : Option Text) (what : Command) (b : Bool)
    → (takes_of named).number ≡ b
    → cond b (option_and_then (λ n. Some (command.Demo n)) (side_of value)) (Some named) ≡ Some what
    → IsOf named what
numbered named value what false none e = subst (IsOf named) (same_Some _ _ e) (record {
  side = λ n is. absurd (true≢false (sym (ap (λ c. (takes_of c).number) is) ∙ none));
  scales = λ k. k;
  start = starts named;
})
numbered named value what true one e =
    option_and_then_some _ (side_of value) what e (λ n is same.
    subst (IsOf named) (same_Some _ _ same) (record {
      side = λ m k. let same : n ≡ m = cc in side_in value m (is ∙ ap Some same);
      scales = λ k. absurd (true≢false (sym k));
      start = λ k. absurd (true≢false (sym one ∙ ap (λ c. (takes_of c).number) (starts named k)));
    }))

of_word : (named : Command) (value : Option Text) (what : Command)
    → command_of named value ≡ Some what → IsOf named what
of_word named value what e = numbered named value what (takes_of named).number refl e

-- ---- all settings

module _ (first : Command) (words : List Text) (uses : List Use)
    (all : uses_of (takes_of first) words ≡ Some uses) (s : Settings) where
  abbrev value : Text → Option Text
  value = value_in uses

  of_chain : (horizon : ℕ) (starts scales : List ℕ) → IsBetween 1 86400 horizon
      → starts_given horizon (value (codes "at")) ≡ Some starts
      → scales_given (takes_scales first) (value (codes "scales")) ≡ Some scales
      → settings_over horizon starts scales first value (flags_in uses) ≡ Some s
      → AreSettings s
  of_chain horizon starts scales long at multiples e =
      option_and_then_some _ (command_of first (value number_name)) s e (λ what what_is e1.
      option_and_then_some _ (units_by value) s e1 (λ units units_are e2.
      after (period_within horizon) (value (codes "period")) _ s (default_within horizon long.0) e2
      (λ period period_in e3.
      after ITERATIONS (value (codes "iterations")) _ s refl e3 (λ iterations iterations_in e4.
      after WORKERS (value (codes "workers")) _ s refl e4 (λ workers workers_in e5.
      after BUCKET (value (codes "bucket")) _ s refl e5 (λ bucket bucket_in e6.
      after WAVE (value (codes "wave")) _ s refl e6 (λ wave wave_in e7.
      option_and_then_some _ (queue_of wave (value (codes "queue"))) s e7 (λ line line_is e8.
      option_and_then_some _ (costs_given (value (codes "costs"))) s e8 (λ by _ e9.
      after WATCH (value (codes "watch")) _ s refl e9 (λ watch watch_in e10.
      option_and_then_some _ (link_given (value (codes "link"))) s e10 (λ link _ e11.
      let is = of_word first (value number_name) what what_is in
      let parts = units_in value units units_are in
      subst AreSettings (same_Some _ _ e11) (record {
        side = is.side;
        step = parts.0;
        jam = parts.1;
        horizon = long;
        period = period_in;
        iterations = iterations_in;
        workers = workers_in;
        bucket = bucket_in;
        queue = queue_in wave (value (codes "queue")) line wave_in line_is;
        watch = watch_in.1;
        starts = starts_in horizon (value (codes "at")) starts long.0 at;
        scales = λ k. scales_in (value (codes "scales")) scales
            (sym (ap (λ b. scales_given b (value (codes "scales"))) (is.scales k)) ∙ multiples);
        start = λ k. is.start (taken_where_given (takes_of first) words uses all (codes "start")
            (start_alone first) refl k);
      }))))))))))))

  in_range : settings_from first uses ≡ Some s → AreSettings s
  in_range e =
      after HORIZON (value (codes "horizon")) _ s refl e (λ horizon long e1.
      option_and_then_some _ (starts_given horizon (value (codes "at"))) s e1 (λ starts at e2.
      option_and_then_some _ (scales_given (takes_scales first) (value (codes "scales"))) s e2 (λ scales multiples e3.
      of_chain horizon starts scales long at multiples e3)))

pub range_of_uses : (first : Command) (words : List Text) (s : Settings)
    → option_and_then (settings_from first) (uses_of (takes_of first) words) ≡ Some s → AreSettings s
range_of_uses first words s e =
    option_and_then_some (settings_from first) (uses_of (takes_of first) words) s e
    (λ uses all is. in_range first words uses all s is)

pub settings_in_range : (words : List Text) (s : Settings) → settings_of words ≡ Some s → AreSettings s
settings_in_range [] s e = absurd cc
settings_in_range (first ∷ rest) s e =
    option_and_then_some _ (word_of first) s e (λ named _ is. range_of_uses named rest s is)
