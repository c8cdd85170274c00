-- Texts that go out one after another, each to its output.
use Rattle.std.specs.Prelude.{ℕ, ◌≡◌, ◌⊎◌, List, [], ◌∷◌, Result}
use Rattle.desk_io.specs.declared.desk.Output.{Output}
use Rattle.desk_io.specs.Desk.{Taken, grown}
use Rattle.desk_io.specs.State.{DeskState}
use Rattle.desk_io.specs.Transfers.{IsPartOut, OnlyPuts}

-- a text for an output
pub record OutText : Type 0 where
  pub to : Output
  pub text : List ℕ

abbrev pub text_to : Output → List ℕ → OutText
text_to to text = record { to = to; text = text }

-- what the outputs have taken once these texts went out whole, in order
abbrev pub grown_by : List OutText → Taken → Taken
grown_by [] taken = taken
grown_by (t ∷ others) taken = grown_by others (grown t.to t.text taken)

-- some of the texts went out whole, in order, and a first part of the next
abbrev pub IsCutOff : List OutText → Taken → Taken → Type 0
IsCutOff [] before after = ⊥
IsCutOff (t ∷ others) before after =
    IsPartOut t.to t.text before after ⊎ IsCutOff others (grown t.to t.text before) after

-- texts of this kind went out whole
abbrev pub SomeOut : (List OutText → Type 0) → Taken → Taken → Type 0
SomeOut Are before after =
    (texts : List OutText) × Are texts × (after ≡ grown_by texts before)

-- texts of this kind were cut off
abbrev pub SomeCutOff : (List OutText → Type 0) → Taken → Taken → Type 0
SomeCutOff Are before after =
    (texts : List OutText) × Are texts × IsCutOff texts before after

-- a call that puts texts, one after the other: all went out whole, or on a refusal they were cut
-- off
abbrev pub PutsAll :
    {T E : Type 0} → List OutText → DeskState → DeskState → Result T E → Type 0
PutsAll texts before after result =
    OnlyPuts (λ old new. new ≡ grown_by texts old) (IsCutOff texts) before after result
