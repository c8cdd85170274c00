-- Mail that goes between the list of all links and the places of a node's cell.
use Rattle.std.specs.List.{list_any}
use Rattle.std.specs.Prelude.{◌≡◌, ℕ, ⊤, Bool, true, false, nat_eq, List, length, Some, slice_get}
use Rattle.cell_stages.specs.declared.mail.Mail.{Mail}
use Rattle.cell_stages.specs.declared.mail.Mail.TheVariants.{Away, Room, Batch}

-- whether a mail tells a room
abbrev pub is_room : Mail → Bool
is_room Away = false
is_room (Room s room) = true
is_room (Batch s riders) = false

-- a mail is another one, unless it is a batch
abbrev pub IsKept : Mail → Mail → Type 0
IsKept (Batch s riders) other = ⊤
IsKept Away other = other ≡ Away
IsKept (Room s room) other = other ≡ Room s room

-- whether link l is one of these
abbrev pub is_among : List ℕ → ℕ → Bool
is_among links l = list_any (λ b. nat_eq b l) links

-- the mail of each of these links is what a rule gives for it
abbrev pub AreMail : (ℕ → Mail) → List ℕ → List Mail → Type 0
AreMail rule links mail = (l : ℕ) → is_among links l ≡ true → slice_get mail l ≡ Some (rule l)

-- no mail but that of these links is changed
pub record ChangesOnly (links : List ℕ) (old new : List Mail) : Type 0 where
  pub count : length new ≡ length old
  pub others : (l : ℕ) → is_among links l ≡ false → slice_get new l ≡ slice_get old l

-- the mail of these links is now by a rule, and no other mail is changed
pub record ArePut (rule : ℕ → Mail) (links : List ℕ) (old new : List Mail) : Type 0 where
  pub own : AreMail rule links new
  pub others : ChangesOnly links old new
