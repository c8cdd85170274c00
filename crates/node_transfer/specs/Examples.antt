-- Small worked cases of the definitions.
use Rattle.std.specs.Prelude.{◌≡◌, ℕ, ◌∷◌, [], None, Some, refl}
use Rattle.dta_model.specs.Riders.{RiderState}
use Rattle.cell_stages.specs.Contents.{away}
use Rattle.node_transfer.specs.Gathered.{room_after}
use Rattle.node_transfer.specs.Hand.{handed}
use Rattle.node_transfer.specs.Laws.{put_mail}
use Rattle.node_transfer.specs.Inside.Outs.{released}
use Rattle.node_transfer.specs.Start.{no_journey, no_journeys}
use Rattle.cell_stages.specs.declared.mail.Mail.TheVariants.{Away, Room}
use Rattle.node_transfer.specs.declared.counts.TheConstants.{MOST_COUNT}

most_count : MOST_COUNT ≡ 18446744073709551615
most_count = refl

-- two riders before their first link, who depart at steps 3 and 4
abbrev waiting : ℕ → ℕ → RiderState
waiting number departure =
    record { number = number; departure = departure; ahead = 2 ∷ []; entries = []; arrival = None }

-- step 4 releases the other one, behind the first
both_are_due : released 4 (waiting 1 4 ∷ []) (waiting 0 3 ∷ [])
    ≡ record { later = []; due = waiting 0 3 ∷ waiting 1 4 ∷ [] }
unfolding released
both_are_due = refl

-- a rider hands its journey over at its number, and the other journeys stay
second_of_three :
    handed (record (waiting 1 4) { entries = 4 ∷ []; arrival = Some 9 } ∷ []) (no_journeys 3)
    ≡ no_journey ∷ record { entries = 4 ∷ []; arrival = Some 9 } ∷ no_journey ∷ []
unfolding handed
second_of_three = refl

-- a mail that is put at link 7 is there, and at no other link
at_seven : put_mail 7 (Room 2 None) away 7 ≡ Room 2 None
at_seven = refl

not_at_six : put_mail 7 (Room 2 None) away 6 ≡ Away
not_at_six = refl

-- beside a line of one and three who left lately a storage of ten leaves a room of six, and one of
-- two no room
six_are_left : room_after (Some 10) (waiting 0 3 ∷ []) (1 ∷ 0 ∷ 2 ∷ []) ≡ Some 6
six_are_left = refl

none_is_left : room_after (Some 2) (waiting 0 3 ∷ []) (1 ∷ 0 ∷ 2 ∷ []) ≡ Some 0
none_is_left = refl
