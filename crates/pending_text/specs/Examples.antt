-- Small cases of the definitions, computed.
use Rattle.std.specs.Prelude.{◌≡◌, ◌∷◌, List, [], codes, refl}
use Rattle.std.proofs.Common.{inl, inr}
use Rattle.std.proofs.Math.Nat.{le-add_right}
use Rattle.desk_io.specs.declared.desk.Output.TheVariants.{Report, Watch}
use Rattle.desk_io.specs.Desk.{grown, nothing_taken}
use Rattle.pending_text.specs.Outs.{IsCutOff, OutText, grown_by, text_to}
use Rattle.pending_text.specs.Sending.{IsAdded}

-- "3\n" was added where "nodes " was pending: "nodes" went out, and " 3\n" is pending
nodes-went-out : IsAdded Report (codes "3\n") (codes "nodes ") (codes " 3\n")
    nothing_taken (grown Report (codes "nodes") nothing_taken)
nodes-went-out = record { sent = codes "nodes"; out = refl; rest = refl }

-- two texts for one output go out, or one and the first byte of the next
abbrev two_texts : List OutText
two_texts = text_to Watch (codes "1\n") ∷ text_to Watch (codes "2\n") ∷ []

both-went-out : grown_by two_texts nothing_taken ≡ grown Watch (codes "1\n2\n") nothing_taken
unfolding grown
both-went-out = refl

cut-in-the-second : IsCutOff two_texts nothing_taken (grown Watch (codes "1\n2") nothing_taken)
unfolding grown
cut-in-the-second = inr (inl (record { count = 1; within = le-add_right 1 1; out = refl }))
