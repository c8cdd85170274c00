-- Small worked cases: a floor of three nodes and four passes.
use Rattle.std.specs.Prelude.{◌≡◌, ◌∷◌, [], List, None, refl}
use Rattle.dta_model.specs.Units.{phase_end, task_of, unit_count}
use Rattle.dta_model.specs.declared.machine.Stage.TheVariants as stage
use Rattle.net_core.specs.declared.rows.NodeRow.{NodeRow}
use Rattle.claim_core.specs.declared.units.UnitKind.TheVariants as kind
use Rattle.phase_claims.specs.declared.view.Scope.{Scope}
use Rattle.phase_claims.specs.declared.view.View.{View}
use Rattle.phase_claims.specs.Passes.{unit_at}
use Rattle.phase_claims.specs.Views.{at_next, beginning, done_with, ended, having_open, held_by}
use Rattle.phase_claims.specs.Views.{holding, joined, less_spare, no_scope, no_table, performed_by}
use Rattle.phase_claims.specs.Views.{worked_by}

abbrev pub three_nodes : List NodeRow
three_nodes = record { id = 1; zone = None } ∷ record { id = 2; zone = None }
    ∷ record { id = 3; zone = None } ∷ []

abbrev pub four_passes : Scope
four_passes = record {
  plan = record no_scope.plan {
    net = record no_scope.plan.net { nodes = three_nodes };
    horizon = 60;
  };
  board = no_table;
  passes = 4;
}

-- unit 3 is the gather of the first node in the first step, and unit 13 the second posting
the_fourth_unit : unit_at four_passes.plan 3
    ≡ record { number = 3; step = 0; kind = kind.Gather (record { 0 = 0 }) }
unfolding task_of
the_fourth_unit = refl

the_second_posting : unit_at four_passes.plan 13
    ≡ record { number = 13; step = 1; kind = kind.Posting }
unfolding task_of
the_second_posting = refl

-- a pass that holds a unit, opens it where two are finished, and performs it
abbrev pub at_work : View
at_work = having_open (holding (beginning four_passes 3) 1 1) 2

one_is_done : done_with at_work
    ≡ record (beginning four_passes 3) { at = 1; performed = 1 ∷ []; seen = 2; looks = 1 }
unfolding phase_end task_of unit_count
one_is_done = refl

held_once : held_by (at_work ∷ done_with at_work ∷ []) 1 ≡ 1
unfolding phase_end task_of unit_count
held_once = refl

performed_once : performed_by (at_work ∷ done_with at_work ∷ []) 1 ≡ 1
unfolding phase_end task_of unit_count
performed_once = refl

-- one that draws four numbers, of which the first two are of the phase in which two units are
-- finished, opens these and is at the second of them; a finish leaves it the two others
abbrev pub drawn : View
drawn = holding (beginning four_passes 3) 1 4

abbrev pub at_second : View
at_second = at_next (having_open drawn 2)

four_are_held : drawn.stage ≡ stage.Held 1 5
unfolding unit_count
four_are_held = refl

two_are_open : at_second.stage ≡ stage.Open 1 3 5
unfolding phase_end task_of unit_count
two_are_open = refl

the_first_is_worked : worked_by (at_second ∷ []) 1 ≡ 1
unfolding phase_end task_of unit_count
the_first_is_worked = refl

none_is_performed : performed_by (at_second ∷ []) 1 ≡ 0
unfolding phase_end task_of unit_count
none_is_performed = refl

two_are_left : done_with at_second
    ≡ record (beginning four_passes 3) {
      stage = stage.Held 3 5;
      at = 2;
      performed = 1 ∷ 2 ∷ [];
      seen = 2;
      looks = 1;
    }
unfolding phase_end task_of unit_count
two_are_left = refl

-- of four numbers from the last unit on, which is the posting of the last step, three are past it
three_are_past : holding (beginning four_passes 0) 419 4
    ≡ record (beginning four_passes 0) { stage = stage.Held 419 420; past = 3 }
unfolding unit_count
three_are_past = refl

-- a split and a join of what was split keep all rights, and one that has ended ends both
split_and_joined : joined (less_spare (done_with at_work)) (ended (beginning four_passes 0) 1)
    ≡ record {
      scope = four_passes;
      stage = stage.Ended;
      at = 0;
      told = [];
      spare = 2;
      performed = 1 ∷ [];
      weight = 2;
      past = 1;
      seen = 2;
      looks = 1;
    }
unfolding phase_end task_of unit_count
split_and_joined = refl
