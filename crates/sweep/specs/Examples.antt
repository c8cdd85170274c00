-- Small worked cases of the texts of a sweep, computed.
use Rattle.std.specs.Prelude.{◌≡◌, [], ◌∷◌, ℕ, List, codes, refl}
use Rattle.std.specs.Fmt.{digits}
use Rattle.sweep.specs.Texts.{scenario_line, scenario_text, sweep_report_line, sweep_text}
use Rattle.sweep.specs.Texts.{tables_of}
use Rattle.sweep.specs.declared.scenario.Scenario.{Scenario}

-- a scenario with these texts
abbrev told : ℕ → List ℕ → Scenario
told scale text = record {
  scale = scale;
  agent = text;
  link_time = [];
  origin_wait = codes "waits\n";
  gap = codes "gap\n";
  report = [];
}

one_line : scenario_line 1 2000 ≡ codes "scenario 1 scale 2000\n"
unfolding scenario_line digits
one_line = refl

two_scenarios : sweep_text (told 500 (codes "a\n") ∷ told 2000 (codes "b\n") ∷ [])
    ≡ codes "scenario 0 scale 500\na\nwaits\ngap\nscenario 1 scale 2000\nb\nwaits\ngap\n"
unfolding sweep_text scenario_text scenario_line tables_of digits
two_scenarios = refl

last_line : sweep_report_line 2 ≡ codes "scenarios 2\n"
unfolding sweep_report_line digits
last_line = refl
