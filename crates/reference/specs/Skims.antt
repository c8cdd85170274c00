-- The skim of a network by the search.
use Rattle.std.specs.Prelude.{ℕ, List, map, max, option_map}
use Rattle.std.specs.Prelude.{fold}
use Rattle.net_core.specs.Network.{zones}
use Rattle.net_core.specs.declared.rows.NetRows.{NetRows}
use Rattle.dta_model.specs.LinkTimes.{time_at}
use Rattle.dta_model.specs.TimedWalks.{walk_time}
use Rattle.dta_model.specs.declared.loading.TheConstants.{MOST_HORIZON}
use Rattle.trip_costs.specs.Timings.{Links}
use Rattle.dta_words.specs.declared.command.Settings.{Settings}
use Rattle.skims.specs.GivenTimes.{table_given}
use Rattle.skims.specs.Questions.{Question, questions}
use Rattle.skims.specs.declared.skim_entry.SkimEntry.{SkimEntry}
use Rattle.skims.specs.declared.time_rows.TimeRow.{TimeRow}
use Rattle.jobs.specs.Jobs.{JobRows}
use Rattle.reference.specs.Search.{search_within}

-- rows may tell more steps than a horizon has: no link takes more than these
abbrev pub most_steps : List TimeRow → ℕ
most_steps rows = fold (λ most row. max most row.travel) MOST_HORIZON rows

-- the entry of a question: the time of the chosen walk, where there is a walk
abbrev pub entry_of : (most : ℕ) → (ℕ → ℕ → ℕ) → NetRows → Question → SkimEntry
entry_of most at net question = record {
  origin = question.origin;
  destination = question.destination;
  start = question.start;
  least = option_map (walk_time at net question.start)
      (search_within most (Links at) net question.origin question.destination question.start);
}

-- the entries of a job's skim
unfoldable pub entries_of : Settings → JobRows → List SkimEntry
entries_of s job =
    map (entry_of (most_steps job.times)
    (time_at (table_given job.net s.bucket s.horizon job.times)) job.net)
    (questions (zones job.net.nodes) s.starts)
