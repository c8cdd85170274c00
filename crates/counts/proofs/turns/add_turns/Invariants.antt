use Rattle.std.proofs.Common.{◌≡◌, ◌-◌, ◌++◌, drop}
use Rattle.counts.specs.Inside.Turns.{turns_along}
use Rattle.counts.proofs.turns.add_turns.Given as goal

abbrev pub invariant-loop-place : goal.invariant-loop-place
invariant-loop-place l =
    l.turns.items ++ turns_along l.bucket (drop (l.place - 1) l.route) (drop (l.place - 1) l.entries)
    ≡ l.initial.turns.items ++ turns_along l.bucket l.route l.entries
