-- Before a transfer the mail of a link tells its room, which stays where nobody enters the link.
use Rattle.std.specs.Prelude.{nat_lt}
use Rattle.std.proofs.Common.{◌≡◌, ℕ, zero, suc, Bool, true, false, List, cond, length, refl, Option}
use Rattle.dta_model.specs.Riders.{RiderState}
use Rattle.dta_model.specs.declared.plan.Plan.{Plan}
use Rattle.cell_stages.specs.Contents.{batch_of, is_same, room_of, sent, told}
use Rattle.cell_stages.specs.Stages.{batch_mail, room_mail}
use Rattle.cell_stages.specs.declared.mail.Mail.{Mail}
use Rattle.cell_stages.specs.declared.mail.Mail.TheVariants.{Away, Batch, Room}
use Rattle.node_transfer.specs.Exchange.{IsKept, is_room}

told-room : (t : ℕ) (room : Option ℕ) (mail : Mail) → is_room (told t room mail) ≡ true
told-room t room Away = refl
told-room t room (Room s there) = by_test (is_same there room)
  where
    by_test : (c : Bool) → is_room (cond c (Room s there) (Room t room)) ≡ true
    by_test true = refl
    by_test false = refl
told-room t room (Batch s riders) = refl

kept-sent : (t : ℕ) (riders : List RiderState) (mail : Mail) → IsKept (sent t riders mail) mail
kept-sent t riders mail = by_test (nat_lt 0 (length riders)) (same mail)
  where
    same : (m : Mail) → IsKept m m
    same Away = refl
    same (Room s room) = refl
    same (Batch s line) = tt

    by_test : (c : Bool) → IsKept mail mail → IsKept (cond c (Batch t riders) mail) mail
    by_test true h = tt
    by_test false h = h

pub room-told : (p : Plan) (t l : ℕ) → is_room (room_of p t l) ≡ true
unfolding room_of
room-told p zero l = refl
room-told p (suc t) l = told-room (suc t) (room_mail p l (suc t)) (sent t (batch_mail p l t) (room_of p t l))

pub room-kept : (p : Plan) (t l : ℕ) → IsKept (batch_of p t l) (room_of p t l)
room-kept p t l = kept-sent t (batch_mail p l t) (room_of p t l)
