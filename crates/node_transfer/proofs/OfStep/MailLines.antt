-- Who comes with the mail of a link.
use Rattle.std.proofs.Common.{◌≡◌, ℕ, suc, true, false, cond, List, [], ◌∷◌, length, arith, refl, ap, sym, ◌∙◌, Option}
use Rattle.std.specs.Prelude.{nat_lt}
use Rattle.std.proofs.lemmas.Bool.Decides.{nat_tests}
use Rattle.dta_model.specs.Riders.{RiderState}
use Rattle.dta_model.specs.declared.plan.Plan.{Plan}
use Rattle.cell_stages.specs.Contents.{batch_of, room_of, sent, tells}
use Rattle.cell_stages.specs.Stages.{batch_mail}
use Rattle.cell_stages.specs.declared.mail.Mail.TheVariants.{Batch}
use Rattle.cell_stages.proofs.MailTells.{rooms_are_told}
use Rattle.node_transfer.specs.Gathered.{mail_line}

-- nobody, before a transfer
pub room-line : (p : Plan) (t l : ℕ) → mail_line (room_of p t l) ≡ []
room-line p t l = ap (λ m. mail_line m) (rooms_are_told p t l).1

some_come : (k : ℕ) → nat_lt 0 (suc k) ≡ true
some_come k = grind (arith, nat_tests)

-- and after it the batch
pub batch-line : (p : Plan) (t l : ℕ) → mail_line (batch_of p t l) ≡ batch_mail p l t
batch-line p t l = by_riders (batch_mail p l t)
  where
    by_riders : (riders : List RiderState) → mail_line (sent t riders (room_of p t l)) ≡ riders
    by_riders [] = room-line p t l
    by_riders (r ∷ rs) = rw (some_come (length rs)) refl

-- mail that tells a room then brings nobody
pub no-riders : (p : Plan) (t l : ℕ) (room : Option ℕ) → tells room (batch_of p t l) ≡ true → batch_mail p l t ≡ []
no-riders p t l room = by_riders (batch_mail p l t)
  where
    clash : false ≡ true → ⊥
    clash e = cc

    by_riders : (riders : List RiderState) → tells room (sent t riders (room_of p t l)) ≡ true → riders ≡ []
    by_riders [] e = refl
    by_riders (r ∷ rs) e = absurd (clash (sym (ap (λ c. tells room (cond c (Batch t (r ∷ rs)) (room_of p t l))) (some_come (length rs))) ∙ e))
