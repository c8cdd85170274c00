-- What a skim asks: the least times between all zones, for each start. Zones are identifiers.
use Rattle.std.specs.Prelude.{ℕ, cond, nat_eq, List, [], map}
use Rattle.std.specs.List.{flat_map}

-- what is asked of a table: the least time from a zone to another, for a start
pub record Question : Type 0 where
  pub origin : ℕ
  pub destination : ℕ
  pub start : ℕ

-- from a zone to another, for each start in the order given
abbrev pub questions_at : List ℕ → ℕ → ℕ → List Question
questions_at starts o d =
    map (λ start. record { origin = o; destination = d; start = start }) starts

-- nothing is asked from a zone to itself
abbrev pub questions_between : List ℕ → ℕ → ℕ → List Question
questions_between starts o d = cond (nat_eq o d) [] (questions_at starts o d)

-- from a zone to each other one, in their order
abbrev pub questions_from : List ℕ → List ℕ → ℕ → List Question
questions_from zones starts o = flat_map (questions_between starts o) zones

-- for each ordered pair of different zones, in the order of origins and then of destinations, and
-- for each start
abbrev pub questions : List ℕ → List ℕ → List Question
questions zones starts = flat_map (questions_from zones starts) zones
