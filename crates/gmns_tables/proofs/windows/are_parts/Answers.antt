use Rattle.std.proofs.Common.{ℕ, Bor, List, rules, tests, ◌∙◌, sym}
use Rattle.std.proofs.lemmas.Iterator.{YieldsList-from_slice}
use Rattle.std.proofs.lemmas.Iterator.Search.{all_from_yields_List}
use Rattle.std.proofs.lemmas.List.Folds.{list_all-map}
use Rattle.gmns_tables.specs.Windows.{is_part}
use Rattle.gmns_tables.proofs.windows.are_parts.Goals as goal

pub returns : goal.returns
returns c =
    all_from_yields_List (λ (part : Bor (List ℕ)). is_part c.args.kind part.now) _ _ c.all.result c.all.ensures.ran (YieldsList-from_slice c.args.parts.now cc) (λ x b q k. search (rules, tests))
    ∙ sym (list_all-map (is_part c.args.kind) (λ (part : Bor (List ℕ)). part.now) c.args.parts.now)
