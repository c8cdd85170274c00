use Rattle.std.proofs.Common.{ℕ, take, ◌≡◌, ◌≤◌, ◌+◌, ◌*◌, ◌^◌, true}
use Rattle.std.specs.List.{list_all}
use Rattle.fixed_units.specs.Quantity.{number, is_digit}
use Rattle.fixed_units.specs.Reading.{IsLeading}
use Rattle.fixed_units.proofs.leading.walk.Given as goal

abbrev pub invariant-each : goal.invariant-each
invariant-each l = record {
  digits : list_all is_digit (take l.place l.text) ≡ true;
  leads : (n : ℕ) → IsLeading n l.fn.before → IsLeading (n * 10 ^ l.place + number (take l.place l.text)) l.leading;
  dropped : l.leading.dropped ≤ l.fn.before.dropped + l.place;
}
