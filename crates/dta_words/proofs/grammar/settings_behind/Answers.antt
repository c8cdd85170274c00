use Rattle.std.proofs.Common.{◌∙◌, drop, map, string_bytes, sym}
use Rattle.clap.specs.Matches.{found_of}
use Rattle.flat_options.specs.Asked.{takes_in}
use Rattle.dta_words.proofs.RangeFacts.{range_of_uses}
use Rattle.dta_words.proofs.SettingsFacts.{matches_read, settings_read}
use Rattle.dta_words.proofs.grammar.settings_behind.Goals as goal

pub returns-in-Some-2-clause-ok : goal.returns-in-Some-2-clause-ok
returns-in-Some-2-clause-ok c =
    let words = c.args.words.now in
    let read = matches_read c.args.named words (takes_in c.taken_by.result)
    (map string_bytes c.as_slice.result.now) c.in_ok-found.field-0 c.in-Some.found
    c.taken_by.ensures c.as_slice.ensures c.in-Some.is c.in_ok-found.ensures in
    sym (settings_read c.args.named (drop 1 words) (found_of c.in-Some.found) c.flags-flags.result
    read (c.flags-flags.ensures (drop 1 words) read))
    ∙ sym c.in_ok-settings.ensures ∙ c.in-Some-2.is

pub returns-in-Some-2-clause-ranges : goal.returns-in-Some-2-clause-ranges
returns-in-Some-2-clause-ranges c = range_of_uses c.args.named (drop 1 c.args.words.now)
    c.in-Some-2.settings (returns-in-Some-2-clause-ok c)

pub returns-clause-usage : goal.returns-clause-usage
returns-clause-usage c = λ why.
    let words = c.args.words.now in
    let read = matches_read c.args.named words (takes_in c.taken_by.result)
    (map string_bytes c.as_slice.result.now) c.in_ok-found.field-0 c.in-Some.found
    c.taken_by.ensures c.as_slice.ensures c.in-Some.is c.in_ok-found.ensures in
    sym (settings_read c.args.named (drop 1 words) (found_of c.in-Some.found) c.flags-flags.result
    read (c.flags-flags.ensures (drop 1 words) read))
    ∙ sym c.in_ok-settings.ensures ∙ c.in-None.is
