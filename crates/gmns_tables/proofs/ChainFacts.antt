-- What holds of the value of a chain of checks that ends well.
use Rattle.std.proofs.Common.{◌≡◌, ℕ, ◌<◌, List, length, refl, ap, arith, Bool, true, false, nat_eq}
use Rattle.std.specs.Prelude.{Option, None, Some, Result, Ok, Err, IfOk, option_map, ⊤}
use Rattle.std.proofs.lemmas.List.Quantifiers.{position-Some}
use Rattle.std.proofs.lemmas.Option.{same_Some}
use Rattle.row_reader.specs.Fields.{then_with, unless}
use Rattle.row_reader.specs.declared.faults.Code.{Code}
use Rattle.row_reader.specs.declared.faults.Column.{Column}
use Rattle.net_core.specs.Ids.{place_of}
use Rattle.gmns_tables.specs.Names.{found}

-- what must not hold doesn't
pub unless-ok : (fails : Bool) (why : Code) (what : Column) {x : ⊤} → unless fails why what ≡ Ok x → fails ≡ false
unless-ok true why what e = absurd cc
unless-ok false why what e = refl

option_map-some : {A B : Type 0} (f : A → B) (o : Option A) (y : B) → option_map f o ≡ Some y → (x : A) × (o ≡ Some x) × (f x ≡ y)
option_map-some f (Some x) y e = (x, refl, same_Some _ _ e)
option_map-some f None y e = absurd cc

named-below : {N : Type 0} (number : N → ℕ) (of : ℕ → N) → ((place : ℕ) → number (of place) ≡ place) → (ids : List ℕ) (id : ℕ) (found : N)
    → option_map of (place_of ids id) ≡ Some found → number found < length ids
named-below number of same ids id found e =
    let place = option_map-some of (place_of ids id) found e in
    let below : place.0 < length ids = (position-Some (nat_eq id) ids place.0 0 place.1).0 in
    let k : number (of place.0) ≡ number found = ap number place.2 in
    let s = same place.0 in
    omega arith

-- what is found by its identifier stands below the number of identifiers
pub found-below : {N : Type 0} (number : N → ℕ) (of : ℕ → N) → ((place : ℕ) → number (of place) ≡ place) → (ids : List ℕ) (id : ℕ) (why : Code) (what : Column)
    (o : Option N) → option_map of (place_of ids id) ≡ o → IfOk (found why what o) (λ n. number n < length ids)
found-below number of same ids id why what (Some n) e = named-below number of same ids id n e
found-below number of same ids id why what None e = tt
