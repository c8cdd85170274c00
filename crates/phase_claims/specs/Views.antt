-- What a pass knows, its view, and what the steps make of it.
use Rattle.std.specs.Prelude.{ℕ, suc, ◌+◌, ◌-◌, max, min, List, [], ◌∷◌, ◌++◌, length}
use Rattle.atomic_table.specs.Seated.{TableId}
use Rattle.dta_model.specs.Machine.{first_in, held_end, left_of, open_end, with_open}
use Rattle.dta_model.specs.Units.{node_count, phase_start, unit_count}
use Rattle.dta_model.specs.declared.machine.Stage.{Stage}
use Rattle.dta_model.specs.declared.machine.Stage.TheVariants as stage
use Rattle.dta_model.specs.declared.queue.Queue.TheVariants as queue
use Rattle.claim_core.specs.Runs.{among, numbers}
use Rattle.claim_core.specs.Sums.{times, total}
use Rattle.phase_claims.specs.declared.view.Scope.{Scope}
use Rattle.phase_claims.specs.declared.view.View.{View}

-- a pass that begins, with so many spare ones
abbrev pub beginning : Scope → ℕ → View
beginning k spare = record {
  scope = k;
  stage = stage.Idle;
  at = 0;
  told = [];
  spare = spare;
  performed = [];
  weight = 1;
  past = 0;
  seen = 0;
  looks = 0;
}

-- the view that is left over where a pass is joined to another: that of nobody
abbrev pub no_table : TableId
no_table = record {
  words = 0;
  slots = 0;
  views_name = 0;
  atom = 0;
  block = 0;
  offset = 0;
  slot_names = [];
}

abbrev pub no_scope : Scope
no_scope = record {
  plan = record {
    net =
        record { nodes = []; links = []; turns = []; link_windows = []; turn_windows = [] };
    queue = queue.Point;
    delta = 0;
    horizon = 0;
    trips = [];
    routes = [];
  };
  board = no_table;
  passes = 0;
}

abbrev pub nobody : View
nobody = record {
  scope = no_scope;
  stage = stage.Idle;
  at = 0;
  told = [];
  spare = 0;
  performed = [];
  weight = 0;
  past = 0;
  seen = 0;
  looks = 0;
}

-- the first unit of the phase of the first number
abbrev pub first_of_phase : View → ℕ
first_of_phase v = phase_start (node_count v.scope.plan) (first_in v.stage)

-- how often number x is held, open or not
abbrev pub holds_in : Stage → ℕ → ℕ
holds_in s x = among (first_in s) (held_end s) x

-- how often unit x is an open one before that at which a pass is
abbrev pub worked_in : Stage → ℕ → ℕ → ℕ
worked_in stage.Idle at x = 0
worked_in (stage.Held a b) at x = 0
worked_in (stage.Open a m b) at x = among a at x
worked_in stage.Ended at x = 0

-- how many units a pass has performed, how often it has performed unit x, and how often it holds
-- it
abbrev pub performed_count : View → ℕ
performed_count v = length v.performed

abbrev pub performs : ℕ → View → ℕ
performs x v = times x v.performed

abbrev pub holds : ℕ → View → ℕ
holds x v = holds_in v.stage x

-- how often it has done the work of unit x, finished or not
abbrev pub worked : ℕ → View → ℕ
worked x v = performs x v + worked_in v.stage v.at x

-- its part of the passes of its floor: those joined into it, and the spare ones
abbrev pub rights : View → ℕ
rights v = v.weight + v.spare

-- the same of all passes
abbrev pub performed_by : List View → ℕ → ℕ
performed_by views x = total (performs x) views

abbrev pub held_by : List View → ℕ → ℕ
held_by views x = total (holds x) views

abbrev pub worked_by : List View → ℕ → ℕ
worked_by views x = total (worked x) views

-- it drew so many numbers from a on, of which the first is a unit's: it holds those of units
abbrev pub holding : View → ℕ → ℕ → View
holding v a many = record v {
  stage = stage.Held a (min (a + many) (unit_count v.scope.plan));
  past = v.past + (a + many - unit_count v.scope.plan);
}

-- it has ended: it drew so many numbers of no unit
abbrev pub ended : View → ℕ → View
ended v many = record v { stage = stage.Ended; past = v.past + many }

-- it has looked: where so many are finished it has those of its units open that are of the phase of
-- the first one, and is at the first
abbrev pub having_open : View → ℕ → View
having_open v finished = record v {
  stage = with_open (node_count v.scope.plan) v.stage;
  at = first_in v.stage;
  told = [];
  seen = finished;
  looks = v.looks + 1;
}

-- it is at the next of its open units
abbrev pub at_next : View → View
at_next v = record v { at = suc v.at; told = [] }

-- it has told a node that somebody comes
abbrev pub telling : View → ℕ → View
telling v n = record v { told = n ∷ v.told }

-- it has performed its open units, and holds the others, if there are any
abbrev pub done_with : View → View
done_with v = record v {
  stage = left_of v.stage;
  told = [];
  performed = v.performed ++ numbers (first_in v.stage) (open_end v.stage);
}

-- it has looked, and seen that so many are finished
abbrev pub seeing : View → ℕ → View
seeing v finished = record v { seen = finished; looks = v.looks + 1 }

-- one pass was split off from it
abbrev pub less_spare : View → View
less_spare v = record v { spare = v.spare - 1 }

-- two passes in one, which has ended where one of them had
abbrev pub both_stages : Stage → Stage → Stage
both_stages stage.Ended b = stage.Ended
both_stages stage.Idle b = b
both_stages (stage.Held c e) b = b
both_stages (stage.Open c m e) b = b

abbrev pub joined : View → View → View
joined v u = record {
  scope = v.scope;
  stage = both_stages v.stage u.stage;
  at = 0;
  told = [];
  spare = v.spare + u.spare;
  performed = v.performed ++ u.performed;
  weight = v.weight + u.weight;
  past = v.past + u.past;
  seen = max v.seen u.seen;
  looks = v.looks + u.looks;
}
