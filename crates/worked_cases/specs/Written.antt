-- What is written out, as data.
use Rattle.std.specs.Prelude.{List, [], ◌∷◌, Option, None, Some, map}
use Rattle.net_core.specs.declared.rows.LinkNo.{LinkNo}
use Rattle.dta_model.specs.declared.plan.Plan.{Plan}
use Rattle.worked_cases.specs.declared.written.Way.{Way}
use Rattle.worked_cases.specs.declared.written.Way.TheVariants as way
use Rattle.worked_cases.specs.declared.written.Written.{Written}

-- the links of a way
abbrev pub way_links : Way → Option (List LinkNo)
way_links way.None = None
way_links (way.Over link) = Some (record { 0 = link } ∷ [])
way_links (way.OverTwo first second) = Some (record { 0 = first } ∷ record { 0 = second } ∷ [])

-- what is written out, in steps of six seconds
abbrev pub plan_written : Written → Plan
plan_written w = record {
  net = record {
    nodes = w.nodes.now;
    links = w.links.now;
    turns = w.turns.now;
    link_windows = [];
    turn_windows = [];
  };
  queue = w.queue;
  delta = 6;
  horizon = w.horizon;
  trips = w.trips.now;
  routes = map way_links w.ways.now;
}
