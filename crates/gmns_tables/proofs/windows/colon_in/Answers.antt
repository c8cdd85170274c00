use Rattle.std.proofs.Common.{rules, tests}
use Rattle.std.proofs.lemmas.Iterator.{YieldsList-from_slice}
use Rattle.std.proofs.lemmas.Iterator.Search.{position_from_yields_List}
use Rattle.gmns_tables.specs.Windows.{is_colon}
use Rattle.gmns_tables.proofs.windows.colon_in.Goals as goal

pub returns : goal.returns
returns c =
    position_from_yields_List is_colon _ _ _ c.position.ensures.ran (YieldsList-from_slice c.args.part.now cc) (λ x b q k. search (rules, tests))
