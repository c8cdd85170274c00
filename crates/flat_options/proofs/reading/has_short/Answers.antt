use Rattle.std.proofs.Common.{◌∙◌, arith, ap, sym, string_bytes}
use Rattle.flat_options.specs.Uses.{is_short}
use Rattle.flat_options.proofs.AskedFacts.{any_at}
use Rattle.flat_options.proofs.reading.has_short.Goals as goal

pub returns-then-is_short : goal.returns-then-is_short
returns-then-is_short c =
    any_at is_short string_bytes c.args.words.now c.loop-word.word-index c.word-item.result
    (omega arith)
    (ap (λ s. is_short (string_bytes s)) (sym c.word-item.is)
    ∙ ap is_short (sym c.as_str.ensures.value) ∙ sym c.is_short.ensures ∙ c.if-is_short.true)
