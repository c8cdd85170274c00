use Rattle.std.proofs.Common.{◌≡◌, ◌∙◌, drop, map, string_bytes, false, sym, ap, subst}
use Rattle.std.specs.List.{list_any}
use Rattle.clap.specs.Kinds.{HasKind}
use Rattle.clap.specs.Faults.{fault_of, is_simple_and_free}
use Rattle.clap.specs.Simple.{is_simple, matches_of}
use Rattle.clap.specs.Matches.{found_of}
use Rattle.flat_options.specs.Uses.{is_short}
use Rattle.flat_options.specs.Asked.{takes_in}
use Rattle.flat_options.proofs.AskedFacts.{behind_first}
use Rattle.flat_options.proofs.ClapReads.{short_has_no_uses}
use Rattle.flat_options.proofs.ReadFacts.{read_nothing, read_whole, simple, simple_and_free}
use Rattle.flat_options.proofs.reading.read.Goals as goal

pub returns-then-has_short : goal.returns-then-has_short
returns-then-has_short c =
    short_has_no_uses (takes_in c.args.taken) (drop 1 (map string_bytes c.args.words.now))
    (ap (list_any is_short) (sym (behind_first string_bytes c.args.words.now))
    ∙ sym c.has_short.ensures ∙ c.if-has_short.true)

pub returns-in-Ok : goal.returns-in-Ok
returns-in-Ok c =
    let takes = takes_in c.args.taken in
    let name = c.args.program.now in
    let words = map string_bytes c.args.words.now in
    let app = c.in_ok-command.ensures in
    let long : list_any is_short (drop 1 words) ≡ false =
    ap (list_any is_short) (sym (behind_first string_bytes c.args.words.now))
    ∙ sym c.has_short.ensures ∙ c.if-has_short.false in
    read_whole takes name c.requires.number words long (found_of c.in-Ok.matches)
    (sym (ap (λ a. fault_of a words) app)
    ∙ c.in-Ok.ensures.kinds (ap is_simple_and_free app ∙ simple_and_free name takes))
    ((c.in-Ok.ensures.matches (ap is_simple app ∙ simple name takes)).0
    ∙ ap (λ a. matches_of a words) app)

pub returns : goal.returns
returns c =
    let takes = takes_in c.args.taken in
    let name = c.args.program.now in
    let words = map string_bytes c.args.words.now in
    let app = c.in_ok-command.ensures in
    let long : list_any is_short (drop 1 words) ≡ false =
    ap (list_any is_short) (sym (behind_first string_bytes c.args.words.now))
    ∙ sym c.has_short.ensures ∙ c.if-has_short.false in
    read_nothing takes name c.requires.number words long c.in-Err.error
    (subst (λ k. HasKind k c.in-Err.error) (ap (λ a. fault_of a words) app)
    (c.in-Err.ensures.kinds (ap is_simple_and_free app ∙ simple_and_free name takes)))
    (λ e. c.in_default.not-OutOfMemory (c.kind.ensures ∙ e))
