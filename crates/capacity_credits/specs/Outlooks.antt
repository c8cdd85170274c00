-- Rates in range, and how a meter keeps rates.
use Rattle.capacity_credits.specs.Course.{IsCourse}
use Rattle.capacity_credits.specs.declared.outlook.Outlook.{Outlook}
use Rattle.fixed_units.specs.declared.link.TheConstants.{MOST_RATE}
use Rattle.net_core.specs.Rates.{steady}
use Rattle.net_core.specs.declared.rates.Rates.{Rates}
use Rattle.std.specs.Prelude.{ℕ, ◌≤◌, ⊤, Bool, IfSome, None, Option, Some, false}

-- a rate that a link or a turn may have
abbrev pub IsInRange : Option ℕ → Type 0
IsInRange rate = IfSome rate (λ r. r ≤ MOST_RATE)

-- the rates of an outlook: its limit in all steps, or none, or those of its course
abbrev pub rates_of : Outlook → Rates
rates_of (Outlook.Limit rate) = steady (Some rate)
rates_of (Outlook.NoLimit unlimited) = steady None
rates_of (Outlook.Course unlimited course) = course.value.rates

-- whether the step that is open has no limit
abbrev pub unlimited_of : Outlook → Bool
unlimited_of (Outlook.Limit rate) = false
unlimited_of (Outlook.NoLimit unlimited) = unlimited
unlimited_of (Outlook.Course unlimited course) = unlimited

-- an outlook for steps of delta seconds, whose limit a link or a turn may have
abbrev pub IsOutlook : ℕ → Outlook → Type 0
IsOutlook delta (Outlook.Limit rate) = rate ≤ MOST_RATE
IsOutlook delta (Outlook.NoLimit unlimited) = ⊤
IsOutlook delta (Outlook.Course unlimited course) =
    IsCourse course.value.rates delta course.value.credits.items
