use Rattle.std.proofs.Common.{codes, refl}
use Rattle.clap.specs.Matches.{found_of}
use Rattle.dta_words.proofs.SettingsFacts.{flag_read, plain_alone, start_alone}
use Rattle.dta_words.proofs.grammar.flags.Goals as goal

pub returns : goal.returns
returns c = λ words r. rw (
  flag_read c.args.named words (found_of c.args.found.now) r (codes "plain") c.get_flag.result (plain_alone c.args.named) refl
      c.get_flag.ensures.none c.get_flag.ensures.value c.get_flag.ensures.other,
  flag_read c.args.named words (found_of c.args.found.now) r (codes "start") c.get_flag-2.result (start_alone c.args.named) refl
      c.get_flag-2.ensures.none c.get_flag-2.ensures.value c.get_flag-2.ensures.other,
) refl
