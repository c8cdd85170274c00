-- Steps that go by at once.
use Rattle.std.proofs.Common.{◌≡◌, ℕ, zero, suc, ◌+◌, ◌-◌, ◌*◌, ◌/◌, ◌%◌, refl, arith, add-one}
use Rattle.std.specs.Prelude.{None}
use Rattle.std.proofs.lemmas.Nat.{mul-mod_first}
use Rattle.dta_model.specs.Allowance.{allowance, credited, parts}
use Rattle.capacity_credits.specs.Grants.{IsRateFor}
use Rattle.net_core.specs.Rates.{last_begun, rate_in, steady}
use Rattle.net_core.specs.declared.rates.Rates.{Rates}

-- the parts of one step may be taken of whole vehicles before they are multiplied
pub skip_parts : (carried parts steps : ℕ) → (carried + parts % 3600000000 * steps) % 3600000000 ≡ (carried + steps * parts) % 3600000000
skip_parts carried parts steps = let e = mul-mod_first parts steps 3600000000 in omega (arith, e)

-- what rates give in one more step
next_part : (rates : Rates) (delta t : ℕ)
    → parts rates delta (suc t) ≡ parts rates delta t + credited (rate_in rates t) * delta
unfolding parts
next_part rates delta t = refl

-- and in so many steps of one rate
same_parts : (rates : Rates) (delta grants rate steps : ℕ) → IsRateFor rates grants steps rate
    → parts rates delta (grants + steps) ≡ parts rates delta grants + steps * (rate * delta)
same_parts rates delta grants rate zero h =
    let e : grants + 0 ≡ grants = omega arith in
    rw e (omega arith)
same_parts rates delta grants rate (suc n) h =
    let before = same_parts rates delta grants rate n (λ k b. h k (omega arith)) in
    let next = next_part rates delta (grants + n) in
    let now : credited (rate_in rates (grants + n)) ≡ rate = h n (omega arith) in
    let e : grants + suc n ≡ suc (grants + n) = omega arith in
    let given = rw now at next in
    rw e (omega (arith, given, before))

mod_more : (carried before more : ℕ) → carried ≡ before % 3600000000
    → (carried + more) % 3600000000 ≡ (before + more) % 3600000000
mod_more carried before more e = omega (arith, e)

div_more : (carried before more : ℕ) → carried ≡ before % 3600000000
    → (carried + more) / 3600000000 ≡ (before + more) / 3600000000 - before / 3600000000
div_more carried before more e = omega (arith, e)

-- the next grant gives the allowance of its step
pub grant_gives : (rates : Rates) (delta grants rate carried : ℕ)
    → credited (rate_in rates grants) ≡ rate → carried ≡ parts rates delta grants % 3600000000
    → (carried + rate * delta) / 3600000000 ≡ allowance rates delta grants
unfolding allowance
grant_gives rates delta grants rate carried r e =
    rw (add-one grants, next_part rates delta grants, r)
    (div_more carried (parts rates delta grants) (rate * delta) e)

-- and carries what is left over
pub grant_after : (rates : Rates) (delta grants rate carried : ℕ)
    → credited (rate_in rates grants) ≡ rate → carried ≡ parts rates delta grants % 3600000000
    → (carried + rate * delta) % 3600000000 ≡ parts rates delta (grants + 1) % 3600000000
grant_after rates delta grants rate carried r e =
    rw (add-one grants, next_part rates delta grants, r)
    (mod_more carried (parts rates delta grants) (rate * delta) e)

-- grants and skipped steps go together
pub skip_after : (rates : Rates) (delta grants rate steps : ℕ) → IsRateFor rates grants steps rate
    → (parts rates delta grants % 3600000000 + steps * (rate * delta)) % 3600000000
    ≡ parts rates delta (grants + steps) % 3600000000
skip_after rates delta grants rate steps h =
    rw (same_parts rates delta grants rate steps h)
    (mod_more _ (parts rates delta grants) (steps * (rate * delta)) refl)

-- without a limit nothing is credited
no_parts : (delta steps : ℕ) → parts (steady None) delta steps ≡ 0
unfolding last_begun parts
no_parts delta zero = refl
no_parts delta (suc steps) = rw (no_parts delta steps) (omega arith)

pub no_allowance : (delta step : ℕ) → 0 ≡ allowance (steady None) delta step
unfolding allowance
no_allowance delta step = rw (no_parts delta (step + 1), no_parts delta step) refl
