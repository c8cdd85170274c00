-- Small worked cases of scaled demand, computed.
use Rattle.std.specs.Prelude.{◌≡◌, [], ◌∷◌, ℕ, refl}
use Rattle.dta_model.specs.Release.{vehicles_before}
use Rattle.dta_model.specs.declared.trip.DemandCell.{DemandCell}
use Rattle.scaled_demand.specs.Scales.{scaled, scaled_volume}

-- a volume is rounded down, and stays within the greatest volume
rounded_down : scaled_volume 333 2999 ≡ 998
rounded_down = refl

nothing_is_left : scaled_volume 1 999 ≡ 0
nothing_is_left = refl

at_the_most : scaled_volume 10000 999999999999 ≡ 1000000000000
at_the_most = refl

-- a row of a line, with a volume in thousandths and a window
abbrev row : ℕ → ℕ → DemandCell
row line volume = record {
  line = line;
  origin = 1;
  destination = 3;
  volume = volume;
  from = 5;
  to = 9;
}

-- twice a row has twice its volume, in the same window
twice_a_row : scaled 2000 (row 2 2500 ∷ []) ≡ row 2 5000 ∷ []
twice_a_row = refl

-- 1.5 times a row of one vehicle and a row of two are four vehicles together
one_and_a_half : vehicles_before (scaled 1500 (row 2 1000 ∷ row 3 2000 ∷ [])) 2 ≡ 4
unfolding vehicles_before
one_and_a_half = refl

-- twice a million vehicles and one are too many
twice_too_many : vehicles_before (scaled 2000 (row 2 1000001000 ∷ [])) 1 ≡ 2000002
unfolding vehicles_before
twice_too_many = refl
