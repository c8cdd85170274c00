-- Each accepted job has its texts, and they are those of the reference.
use Rattle.std.specs.Prelude.{◌≡◌, ℕ, List}
use Rattle.desk_io.specs.declared.desk.Table.{Table}
use Rattle.pending_text.specs.Outs.{OutText}
use Rattle.dta_words.specs.Ranges.{AreSettings}
use Rattle.dta_words.specs.declared.command.Settings.{Settings}
use Rattle.assignment.specs.Assignment.{Traffic}
use Rattle.assignment.specs.Iterations.{AreSoundIterations}
use Rattle.assignment.specs.Traffic.{IsTraffic}
use Rattle.jobs.specs.Jobs.{IsJob, JobRows}
use Rattle.jobs.specs.Verdict.{Accepted, verdict as comes_to}
use Rattle.commands.specs.Outputs.{IsAudited}
use Rattle.commands.specs.Works.{AreTexts}
use Rattle.reference.specs.Audits.{verdict_of}
use Rattle.reference.specs.Texts.{HasItsTexts, AreWatchLinesOf}

-- settings are in range and a job is one of tables that were accepted
pub record IsAccepted (s : Settings) (job : JobRows) : Type 0 where
  pub in_range : AreSettings s
  pub sound : IsJob s job

pub record EachJobHasItsTexts : Type 0 where
  -- what words and tables come to, where nothing is refused, is accepted settings and their job
  pub accepted : (words : List (List ℕ)) (tables : Table → List ℕ) (s : Settings) (job : JobRows)
      → comes_to words tables ≡ Accepted s job → IsAccepted s job
  -- watch lines by their rule and then the texts of the reference are texts of the job
  pub has : (s : Settings) (job : JobRows) (texts : List OutText) → IsAccepted s job
      → HasItsTexts s job (λ own. texts ≡ own) → AreTexts s.command s job texts
  -- and others there are none
  pub no_others : (s : Settings) (job : JobRows) (texts : List OutText) → IsAccepted s job
      → AreTexts s.command s job texts → HasItsTexts s job (λ own. texts ≡ own)
  -- there are such watch lines
  pub watched : (s : Settings) (job : JobRows) → IsAccepted s job
      → (watched : List OutText) × AreWatchLinesOf s job s.iterations watched
  -- the verdict of an audit is that of the reference
  pub audited : (s : Settings) (job : JobRows) → IsAudited s job (verdict_of s job)
  -- whatever routes and gaps are the iterations of traffic, each is one (`IsIteration`)
  pub iterated : (s : Settings) (traffic : Traffic) → AreSettings s → IsTraffic s.horizon traffic
      → AreSoundIterations s traffic
