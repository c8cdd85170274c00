-- The words that a list of strings shows.
use Rattle.std.specs.Prelude.{ℕ, List, map, string_bytes}
use Rattle.dta_words.specs.declared.words.Words.TheInside.{Inside}

abbrev pub words_view : Inside → List (List ℕ)
words_view a = map string_bytes a.items.items
