use Rattle.std.proofs.Common.{◌≡◌, arith, [], length}
use Rattle.std.specs.Prelude.{option_copied}
use Rattle.std.proofs.lemmas.Option.{slice_get-get_or}
use Rattle.std.proofs.lemmas.Result.{err_from_is_err_and}
use Rattle.desk_io.specs.declared.desk.Output.TheVariants as output
use Rattle.reports.specs.Texts.{agent_header_by, vehicles}
use Rattle.pending_text.proofs.LineFacts.{line-added, line-refused, lines-put}
use Rattle.reports.proofs.TextsFacts.{itself, length-lines_of, length-vehicles, line-there, lines_of, text-of-lines}
use Rattle.reports.proofs.agents.put_lines.Goals as goal

pub returns-in_err-add_agent : goal.returns-in_err-add_agent
returns-in_err-add_agent g c =
    let net = c.args.net.now in
    let trips = c.args.trips.now in
    let routes = c.args.routes.now in
    let loaded = c.args.loaded.now in
    let since = option_copied c.args.since in
    let lines = lines_of net (vehicles trips routes loaded) since in
    let many : length lines ≡ length trips = length-lines_of net (vehicles trips routes loaded) since (length trips) (length-vehicles trips routes loaded c.requires.routes c.requires.journeys) c.requires.numbers in
    rw (err_from_is_err_and c.from_residual.result c.from_residual.ensures.1).1
    (rw (← text-of-lines net trips routes loaded since)
    (line-refused _ output.Agent itself (agent_header_by since) lines c.each.v [] _ [] c.each.pending _ _ _ _ _ _ (rw many (omega arith))
    (line-there net trips routes loaded since c.each.v _ _ _ _ c.requires.routes c.requires.journeys c.requires.numbers (omega arith)
    (slice_get-get_or trips c.each.v _ (omega arith)) c.get.ensures c.get-in-each.ensures c.iteration_of.ensures)
    c.each.invariant c.in_err-add_agent.ensures))

pub each-preserved : goal.each-preserved
each-preserved g c =
    let net = c.args.net.now in
    let trips = c.args.trips.now in
    let routes = c.args.routes.now in
    let loaded = c.args.loaded.now in
    let since = option_copied c.args.since in
    let lines = lines_of net (vehicles trips routes loaded) since in
    let many : length lines ≡ length trips = length-lines_of net (vehicles trips routes loaded) since (length trips) (length-vehicles trips routes loaded c.requires.routes c.requires.journeys) c.requires.numbers in
    line-added output.Agent itself (agent_header_by since) lines c.each.v [] _ [] c.each.pending c.add_agent.new.pending _ _ _ _ (rw many (omega arith))
    (line-there net trips routes loaded since c.each.v _ _ _ _ c.requires.routes c.requires.journeys c.requires.numbers (omega arith)
    (slice_get-get_or trips c.each.v _ (omega arith)) c.get.ensures c.get-in-each.ensures c.iteration_of.ensures)
    c.each.invariant c.in_ok-add_agent.ensures

pub returns : goal.returns
returns g c =
    let net = c.args.net.now in
    let trips = c.args.trips.now in
    let routes = c.args.routes.now in
    let loaded = c.args.loaded.now in
    let since = option_copied c.args.since in
    let lines = lines_of net (vehicles trips routes loaded) since in
    let many : length lines ≡ length trips = length-lines_of net (vehicles trips routes loaded) since (length trips) (length-vehicles trips routes loaded c.requires.routes c.requires.journeys) c.requires.numbers in
    rw (← text-of-lines net trips routes loaded since)
    (lines-put output.Agent itself (agent_header_by since) lines c.each.v c.each.pending _ _ _ c.put_out.result (rw many (omega arith)) c.each.invariant c.put_out.ensures.puts)
