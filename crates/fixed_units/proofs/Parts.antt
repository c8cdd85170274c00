-- What stands before the first byte that passes a test, and before and after the point of a text.
use Rattle.std.proofs.Common.{◌≡◌, ℕ, ◌≤◌, ◌<◌, Bool, true, false, List, [], length, arith, None}
use Rattle.std.specs.Prelude.{position, is_some}
use Rattle.std.specs.List.{position_or_len, before_first}
use Rattle.std.proofs.lemmas.List.{take_all, drop_all}
use Rattle.fixed_units.specs.Quantity.{is_point, whole_part, fraction_part}

pub missing : (p : ℕ → Bool) (text : List ℕ) → is_some (position p text) ≡ false → position p text ≡ None
missing p text h = grind arith

pub found : (p : ℕ → Bool) (text : List ℕ) → is_some (position p text) ≡ true → position_or_len p text < length text
found p text h = grind arith

-- where no byte passes there is none before the end
unfound : (p : ℕ → Bool) (text : List ℕ) → position p text ≡ None → length text ≤ position_or_len p text
unfound p text h = grind arith

pub before_first-None : (p : ℕ → Bool) (text : List ℕ) → position p text ≡ None → before_first p text ≡ text
before_first-None p text h = take_all _ text (unfound p text h)

pub whole_part-None : (text : List ℕ) → position is_point text ≡ None → whole_part text ≡ text
whole_part-None text h = before_first-None is_point text h

pub fraction_part-None : (text : List ℕ) → position is_point text ≡ None → fraction_part text ≡ []
fraction_part-None text h =
    let far : length text ≤ position_or_len is_point text = unfound is_point text h in drop_all _ text (omega arith)
