-- What mail tells.
use Rattle.std.proofs.Common.{◌≡◌, ℕ, zero, suc, Bool, true, false, cond, [], refl, ap, ◌∙◌, Option, Some, None}
use Rattle.std.proofs.lemmas.Bool.{eq-eqb, eqb-true}
use Rattle.dta_model.specs.declared.plan.Plan.{Plan}
use Rattle.cell_stages.specs.Contents.{batch_of, is_same, room_of, sent, told}
use Rattle.cell_stages.specs.Laws.{RoomsAreTold, TellsRoom}
use Rattle.cell_stages.specs.Stages.{batch_mail, room_mail}
use Rattle.cell_stages.specs.declared.mail.Mail.{Mail}
use Rattle.cell_stages.specs.declared.mail.Mail.TheVariants.{Away, Batch, Room}

same-is : (a b : Option ℕ) → is_same a b ≡ true → a ≡ b
same-is None None h = refl
same-is None (Some b) h = cc
same-is (Some a) None h = cc
same-is (Some a) (Some b) h = ap (λ x. Some x) (eqb-true a b h)

is-same : (a : Option ℕ) → is_same a a ≡ true
is-same None = refl
is-same (Some a) = eq-eqb a a refl

told-tells : (t : ℕ) (room : Option ℕ) (mail : Mail) → TellsRoom room (told t room mail)
told-tells t room Away = (t, refl)
told-tells t room (Room s there) = by_test (is_same there room) refl
  where
    by_test : (c : Bool) → is_same there room ≡ c → TellsRoom room (cond c (Room s there) (Room t room))
    by_test true e = (s, ap (λ r. Room s r) (same-is there room e))
    by_test false e = (t, refl)
told-tells t room (Batch s riders) = (t, refl)

pub rooms_are_told : RoomsAreTold
unfolding room_of
rooms_are_told p zero l = (0, refl)
rooms_are_told p (suc t) l = told-tells (suc t) (room_mail p l (suc t)) (sent t (batch_mail p l t) (room_of p t l))

-- where nobody is sent mail stays as it is
pub none-sent : (p : Plan) (t l : ℕ) → batch_mail p l t ≡ [] → batch_of p t l ≡ room_of p t l
none-sent p t l none = ap (λ xs. sent t xs (room_of p t l)) none

-- and where the room does too, it stays until the next step
pub room-stays : (p : Plan) (t l : ℕ) → batch_mail p l t ≡ [] → room_mail p l (suc t) ≡ room_mail p l t → room_of p (suc t) l ≡ room_of p t l
unfolding room_of
room-stays p t l none same =
    ap (λ m. told (suc t) (room_mail p l (suc t)) m) (none-sent p t l none)
    ∙ ap (λ r. told (suc t) r (room_of p t l)) same
    ∙ told-again (room_of p t l) (rooms_are_told p t l)
  where
    told-again : (mail : Mail) → TellsRoom (room_mail p l t) mail → told (suc t) (room_mail p l t) mail ≡ mail
    told-again mail (s, e) = rw (e, is-same (room_mail p l t)) refl
