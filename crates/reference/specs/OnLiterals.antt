-- What a proof unfolds to compute the reference on literals.
use Rattle.std.specs.Prelude.{⊤}
use Rattle.std.specs.Fmt.{digits}
use Rattle.net_core.specs.Network.{zones}
use Rattle.dta_model.specs.LinkTimes.{by_bucket, entered_in, table_in, time_at, visits, visits_in}
use Rattle.dta_model.specs.OnLiterals.{loadings_on_literals, releases_on_literals}
use Rattle.dta_model.specs.TimedWalks.{arrival_after}
use Rattle.dta_model.specs.Walks.{begins_in, ends_in}
use Rattle.trip_costs.specs.Greatest.{greatest_to}
use Rattle.trip_costs.specs.OriginWaits.{mean_wait, origin_wait, wait_at, waits_in, who_belong}
use Rattle.trip_costs.specs.TripCosts.{enter_step, exit_step}
use Rattle.counts.specs.Text.{counts_header, counts_text, through_line, through_lines, turn_line}
use Rattle.counts.specs.Text.{turn_lines}
use Rattle.counts.specs.Through.{above_zones, all_pairs, enters, goes_between, number_through}
use Rattle.counts.specs.Through.{pairs_from, through_counts, through_counts_in}
use Rattle.counts.specs.Turns.{all_turns, takes, taking, times_taken, turn_counts}
use Rattle.counts.specs.Turns.{turn_counts_in, turns_between, turns_from}
use Rattle.reports.specs.Texts.{bucket_wait_line, link_wait_lines, origin_wait_header}
use Rattle.reports.specs.Texts.{origin_wait_text, told_wait_line}
use Rattle.reports.specs.Texts.{agent_columns, agent_header, since_header, agent_line}
use Rattle.reports.specs.Texts.{agent_text, agent_text_by, agent_text_from, audit_ok_text}
use Rattle.reports.specs.Texts.{audit_text, bucket_line, count_lines, free_link_line}
use Rattle.reports.specs.Texts.{free_link_time_header, free_link_time_text, free_report_text}
use Rattle.reports.specs.Texts.{gap_header, gap_line, gap_text, last_gap_lines, link_lines}
use Rattle.reports.specs.Texts.{link_time_header, link_time_text, report_text, trip_columns}
use Rattle.reports.specs.Texts.{vehicles, watch_line, way_columns}
use Rattle.route_flows.specs.Selection.{free_time}
use Rattle.skims.specs.Texts.{entry_line, skim_header, skim_report_lines, skim_text}
use Rattle.sweep.specs.Texts.{scenario_line, scenario_text, sweep_report_line, sweep_text}
use Rattle.sweep.specs.Texts.{tables_of}
use Rattle.audit.specs.Audit.{all_journey_checks, all_time_checks, all_trip_checks}
use Rattle.reference.specs.Audits.{holds, verdict_on}
use Rattle.reference.specs.Gaps.{gap_of}
use Rattle.reference.specs.Reference.{assigned_texts, routes_at, watch_texts}
use Rattle.reference.specs.Routes.{all_since, chosen_route, first_routes, last_renewal, leads_into}
use Rattle.reference.specs.Routes.{links_named, next_routes, started_route, walk_named}
use Rattle.reference.specs.Search.{best_of, walks_on}
use Rattle.reference.specs.Skims.{entries_of}
use Rattle.reference.specs.Sweeps.{scenarios_of}

-- routes, link times and gaps
unfoldable pub iterations_on_literals : ⊤
unfolding loadings_on_literals releases_on_literals table_in by_bucket visits_in visits time_at
    free_time begins_in ends_in arrival_after walks_on best_of chosen_route leads_into links_named
    walk_named started_route first_routes next_routes last_renewal all_since routes_at gap_of
iterations_on_literals = tt

-- texts of an assignment
unfoldable pub tables_on_literals : ⊤
unfolding iterations_on_literals digits entered_in agent_header since_header trip_columns
    way_columns agent_columns agent_line vehicles agent_text agent_text_from agent_text_by
    bucket_line link_lines link_time_header link_time_text gap_line gap_header gap_text count_lines
    last_gap_lines report_text watch_line watch_texts assigned_texts
tables_on_literals = tt

-- texts of an assignment by trips
unfoldable pub trips_on_literals : ⊤
unfolding tables_on_literals greatest_to mean_wait origin_wait wait_at waits_in who_belong enter_step
    exit_step bucket_wait_line link_wait_lines told_wait_line origin_wait_header origin_wait_text
trips_on_literals = tt

-- texts of counts
unfoldable pub counts_on_literals : ⊤
unfolding tables_on_literals turn_counts turn_counts_in all_turns turns_from turns_between
    times_taken taking takes through_counts through_counts_in number_through goes_between enters
    above_zones all_pairs pairs_from turn_line through_line turn_lines through_lines counts_header
    counts_text
counts_on_literals = tt

-- texts of the other commands
unfoldable pub others_on_literals : ⊤
unfolding tables_on_literals zones free_link_line free_link_time_header free_link_time_text
    free_report_text entries_of entry_line skim_header skim_text skim_report_lines scenarios_of
    scenario_line scenario_text tables_of sweep_text sweep_report_line all_trip_checks
    all_journey_checks all_time_checks holds verdict_on audit_ok_text audit_text
others_on_literals = tt
