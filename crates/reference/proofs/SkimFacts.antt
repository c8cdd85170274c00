-- The skim of the reference is the skim.
use Rattle.trip_costs.specs.Timings.{Links}
use Rattle.skims.specs.Texts.{skim_texts}
use Rattle.std.proofs.Common.{◌≡◌, ℕ, ◌*◌, ◌<◌, ◌≤◌, List, [], ◌∷◌, length, map, refl, ap, sym, ◌∙◌, arith, Option, None, Some}
use Rattle.std.specs.Prelude.{All, fold, max, option_map}
use Rattle.std.specs.List.{AllZip}
use Rattle.std.proofs.lemmas.List.{length-map}
use Rattle.std.proofs.lemmas.List.Elements.{All-cons, All-map, All-nil}
use Rattle.net_core.specs.Network.{IsNet, zones}
use Rattle.net_core.specs.declared.rows.NetRows.{NetRows}
use Rattle.dta_model.specs.LinkTimes.{buckets_to, free_steps, time_at}
use Rattle.dta_model.specs.TimedWalks.{walk_time}
use Rattle.dta_model.specs.declared.loading.TheConstants.{MOST_HORIZON}
use Rattle.link_times.proofs.Links.{steps_least, steps_most}
use Rattle.link_times.proofs.SoundTimes.{time_holds}
use Rattle.labels.specs.ToZone.{TellsLeast}
use Rattle.dta_words.specs.Ranges.{AreSettings}
use Rattle.dta_words.specs.declared.command.Settings.{Settings}
use Rattle.skims.specs.GivenTimes.{AreRowsOf, table_given}
use Rattle.skims.specs.Skim.{IsEntryOf, IsSkim}
use Rattle.skims.specs.Questions.{Question, questions}
use Rattle.skims.specs.declared.time_rows.TimeRow.{TimeRow}
use Rattle.jobs.specs.Jobs.{IsJob, JobRows}
use Rattle.commands.specs.Outputs.{AreSkimmed}
use Rattle.reference.specs.Search.{search_within}
use Rattle.reference.specs.Searched.{AreTimesWithin, Finds}
use Rattle.reference.specs.Skims.{entries_of, entry_of, most_steps}
use Rattle.reference.proofs.Searched.{walks_are_found}

pub zipped-map : {A B : Type 0} (Q : A → B → Type 0) (f : A → B) → ((x : A) → Q x (f x)) → (xs : List A) → AllZip Q xs (map f xs)
zipped-map Q f each [] = tt
zipped-map Q f each (x ∷ xs) = (each x, zipped-map Q f each xs)

-- ---- the most steps of rows
most-from : (rows : List TimeRow) (m : ℕ) → m ≤ fold (λ most row. max most row.travel) m rows
most-from [] m = omega arith
most-from (row ∷ rows) m = let rest = most-from rows (max m row.travel) in omega (arith, rest)

most-of-all : (rows : List TimeRow) (m : ℕ) → All (λ row. row.travel ≤ fold (λ most row. max most row.travel) m rows) rows
most-of-all [] m = All-nil (λ row. row.travel ≤ m)
most-of-all (row ∷ rows) m =
    let next = max m row.travel in
    let rest = most-from rows next in
    All-cons (λ other. other.travel ≤ fold (λ most row. max most row.travel) next rows) row rows (omega (arith, rest)) (most-of-all rows next)

-- ---- the table that rows tell
module _ (net : NetRows) (sound : IsNet net) (bucket horizon : ℕ) (some : 1 ≤ bucket) (rows : List TimeRow) (are : AreRowsOf net bucket horizon rows) where
  abbrev Within : ℕ → Type 0
  Within n = (1 ≤ n) × (n ≤ most_steps rows)

  free-within : All Within (free_steps net)
  free-within k d h =
      let low = steps_least net sound k d h in
      let high = steps_most net sound k d h in
      let more = most-from rows MOST_HORIZON in
      (low, omega (arith, high, more))

  times-within : All Within (map (λ (row : TimeRow). row.travel) rows)
  times-within = All-map Within (λ (row : TimeRow). row.travel) rows (λ k d h. (are.some k d h, most-of-all rows MOST_HORIZON k d h))

  size : length (map (λ (row : TimeRow). row.travel) rows) ≡ length (free_steps net) * buckets_to bucket horizon
  size =
      length-map rows (λ (row : TimeRow). row.travel) ∙ are.as_many
      ∙ ap (λ n. n * buckets_to bucket horizon) (sym (length-map net.links (λ link. link.free)))

  time-within : (l step : ℕ) → l < length net.links → Within (time_at (table_given net bucket horizon rows) l step)
  time-within l step h =
      let many = length-map net.links (λ link. link.free) in
      time_holds (table_given net bucket horizon rows) Within some size free-within times-within l step (omega (arith, h, many))

  pub times-given : AreTimesWithin (most_steps rows) (time_at (table_given net bucket horizon rows)) net
  times-given = record {
    least = λ l step h. (time-within l step h).0;
    no_more = λ l step h. (time-within l step h).1;
  }

-- ---- entries
module _ (most : ℕ) (at : ℕ → ℕ → ℕ) (net : NetRows) (sound : IsNet net) (times : AreTimesWithin most at net) where
  entry-is : (question : Question) → IsEntryOf at net question (entry_of most at net question)
  entry-is question = record {
    origin = refl;
    destination = refl;
    start = refl;
    least = by (search_within most (Links at) net question.origin question.destination question.start)
        (walks_are_found most (Links at) net sound times question.origin question.destination question.start);
  }
    where
      by : (o : Option (List ℕ)) → Finds (Links at) net question.origin question.destination question.start o
          → TellsLeast (Links at) net question.origin question.destination question.start (option_map (walk_time at net question.start) o)
      by None none = none
      by (Some walk) is = record { some_walk = (walk, is.walks, refl); none_less = is.none_less }

  pub skim-is : (starts : List ℕ) → IsSkim at net starts (map (entry_of most at net) (questions (zones net.nodes) starts))
  skim-is starts = zipped-map (IsEntryOf at net) (entry_of most at net) entry-is (questions (zones net.nodes) starts)

pub skimmed : (s : Settings) (job : JobRows) → AreSettings s → IsJob s job → AreRowsOf job.net s.bucket s.horizon job.times → AreSkimmed s job (skim_texts job.net (entries_of s job))
unfolding entries_of
skimmed s job settings good are =
    let at = time_at (table_given job.net s.bucket s.horizon job.times) in record {
      entries = entries_of s job;
      skim = skim-is (most_steps job.times) at job.net good.net (times-given job.net good.net s.bucket s.horizon settings.bucket.0 job.times are) s.starts;
      texts_are = refl;
    }
