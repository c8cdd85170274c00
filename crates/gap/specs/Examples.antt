-- Parts per million of small gaps.
use Rattle.std.specs.Prelude.{◌≡◌, refl}
use Rattle.gap.specs.RouteTimes.{ppm_of}
use Rattle.gap.specs.declared.measure.TheConstants.{PER_MILLION}

four_of_eighty_four : ppm_of 4 84 ≡ 47619
four_of_eighty_four = refl

no_gap : ppm_of 0 84 ≡ 0
no_gap = refl

above_nothing : ppm_of 5 0 ≡ 0
above_nothing = refl

-- ---- limits
a_million : PER_MILLION ≡ 1000000
a_million = refl
