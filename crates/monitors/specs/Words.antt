-- A state as the eight words of a cell.
use Rattle.std.specs.Prelude.{ℕ, List, ◌∷◌, slice_index, drop}
use Rattle.dta_model.specs.declared.eight.Eight.{Eight}

-- the words of a state, in the order of its numbers
abbrev pub words_of : Eight → List ℕ
words_of e = e.steps ∷ e.waiting ∷ e.running ∷ e.arrived ∷ e.first

-- the state that eight words say
abbrev pub eight_of : List ℕ → Eight
eight_of words = record {
  steps = slice_index words 0;
  waiting = slice_index words 1;
  running = slice_index words 2;
  arrived = slice_index words 3;
  first = drop 4 words;
}
