-- Worked cases of the definitions, computed.
use Rattle.std.specs.Prelude.{◌≡◌, refl, codes, map, [], ◌∷◌}
use Rattle.desk_io.specs.declared.desk.Output.TheVariants as output
use Rattle.desk_io.specs.Desk.{grown, nothing_taken}
use Rattle.pending_text.specs.Outs.{grown_by, text_to}
use Rattle.commands.specs.declared.status.Status.TheVariants as status
use Rattle.commands.specs.Status.{number_of}

-- the number of each status
the-numbers : map number_of
    (status.Done ∷ status.Usage ∷ status.Table ∷ status.ReadFault ∷ status.WriteFault
    ∷ status.Memory ∷ status.Size ∷ status.Differs ∷ [])
    ≡ 0 ∷ 2 ∷ 3 ∷ 4 ∷ 5 ∷ 6 ∷ 7 ∷ 8 ∷ []
the-numbers = refl

-- texts go out one after the other
two-texts :
    grown_by (text_to output.Gap (codes "a") ∷ text_to output.Report (codes "b") ∷ []) nothing_taken
    ≡ grown output.Report (codes "b") (grown output.Gap (codes "a") nothing_taken)
two-texts = refl
