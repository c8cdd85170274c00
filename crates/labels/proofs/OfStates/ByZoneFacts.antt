-- The links that begin in a zone.
use Rattle.std.proofs.Common.{◌≡◌, ℕ, ◌+◌, ◌<◌, Bool, true, false, List, [], ◌∷◌, ◌++◌, length, refl, ap, sym, ◌∙◌, subst, arith, rules, Some, get_or, nat_eq, set}
use Rattle.std.specs.Prelude.{filter, nat_lt, slice_get, All}
use Rattle.std.proofs.lemmas.List.{append-nil}
use Rattle.std.proofs.lemmas.List.Elements.{filter-append}
use Rattle.std.proofs.lemmas.Option.{slice_get-get_or}
use Rattle.std.proofs.lemmas.Bool.{and_parts}
use Rattle.net_core.specs.AreListed.{AreListed}
use Rattle.net_core.specs.Network.{IsNet, link_at, numbers_below, zone_id, zones}
use Rattle.net_core.specs.declared.rows.NetRows.{NetRows}
use Rattle.net_core.proofs.ListedFacts.{listed-more}
use Rattle.net_core.proofs.Numbers.{numbers_more}
use Rattle.dta_model.specs.Walks.{begins_in, is_zone}
use Rattle.labels.specs.Reading.FirstLinks.{AreFirsts}
use Rattle.labels.specs.Named.{zone_named}
use Rattle.labels.specs.States.Onwards.{begin_zone}
use Rattle.labels.specs.States.Routers.{begins_from}
use Rattle.labels.proofs.OfStates.OnwardFacts.{IsRising, in_filter, of_filter, rising_filter, numbers_rise, number_stands, number_at}
use Rattle.labels.proofs.OfStates.ZoneFacts.{zone_same}
use Rattle.labels.proofs.Basics.{differs, is_below}

-- an item of a list
pub listed_in : (lists : List (List ℕ)) (bound : ℕ) (number : ℕ → ℕ) (items : List ℕ) (item zone : ℕ) → number item ≡ zone → zone < bound → AreListed lists bound number items → AreListed (set lists zone (get_or lists zone [] ++ item ∷ [])) bound number (items ++ item ∷ [])
listed_in lists bound number items item zone is inside g =
    subst (λ z. AreListed (set lists z (get_or lists z [] ++ item ∷ [])) bound number (items ++ item ∷ [])) is
    (listed-more lists bound number items item (omega (arith, is, inside)) g)

-- an item that has no list
pub listed_out : (lists : List (List ℕ)) (bound : ℕ) (number : ℕ → ℕ) (items : List ℕ) (item zone : ℕ) → number item ≡ zone → bound < zone → AreListed lists bound number items → AreListed lists bound number (items ++ item ∷ [])
listed_out lists bound number items item zone is past g = record {
  bounded = g.bounded;
  listed = λ n h. g.listed n h ∙ sym (same n h);
}
  where
    same : (n : ℕ) → n < bound → filter (λ x. nat_eq (number x) n) (items ++ item ∷ []) ≡ filter (λ x. nat_eq (number x) n) items
    same n h =
        let other : nat_eq (number item) n ≡ false = differs (number item) n (λ e. absurd (omega (arith, e, is, past, h))) in
        let none : filter (λ x. nat_eq (number x) n) (item ∷ []) ≡ [] = rw other refl in
        filter-append (λ x. nat_eq (number x) n) items (item ∷ []) ∙ ap (λ l. filter (λ x. nat_eq (number x) n) items ++ l) none ∙ append-nil (filter (λ x. nat_eq (number x) n) items)

-- one more link
pub listed_more : (old new : List (List ℕ)) (bound : ℕ) (number : ℕ → ℕ) (link zone : ℕ) → zone ≡ number link
    → ((f : ℕ → ℕ) (items : List ℕ) → f link ≡ zone → AreListed old (length old) f items → AreListed new (length old) f (items ++ link ∷ []))
    → AreListed old bound number (numbers_below link) → AreListed new bound number (numbers_below (link + 1))
listed_more old new bound number link zone is noted g =
    let many = g.bounded in
    let n = noted number (numbers_below link) (sym is) (subst (λ b. AreListed old b number (numbers_below link)) (sym many) g) in
    subst (λ l. AreListed new bound number l) (sym (numbers_more link)) (subst (λ b. AreListed new b number (numbers_below link ++ link ∷ [])) many n)

module _ (net : NetRows) (sound : IsNet net) (origin : ℕ) (small : origin < length (zones net.nodes)) (firsts : List (List ℕ)) (g : AreListed firsts (length (zones net.nodes)) (begin_zone net) (numbers_below (length net.links))) where
  abbrev starts : ℕ → Bool
  starts l = nat_eq (begin_zone net l) origin

  list_is : get_or firsts origin [] ≡ filter starts (numbers_below (length net.links))
  list_is = g.listed origin small

  pub firsts_rise : IsRising (get_or firsts origin [])
  firsts_rise = subst (λ l. IsRising l) (sym list_is) (rising_filter starts (numbers_below (length net.links)) (numbers_rise (length net.links)))

  first_is : (k l : ℕ) → slice_get (get_or firsts origin []) k ≡ Some l → (l < length net.links) × (starts l ≡ true)
  first_is k l h =
      let f = in_filter starts (numbers_below (length net.links)) k l (ap (λ xs. slice_get xs k) (sym list_is) ∙ h) in
      let x = number_at (length net.links) (f.0) l (f.1) in
      (omega (arith, x.0, x.1), f.2)

  pub are_firsts : AreFirsts (begins_from net origin) (get_or firsts origin [])
  unfolding begins_from begins_in
  are_firsts = record {
    listed = λ l h. (
        let p = and_parts (nat_lt l (length net.links)) (is_zone (zone_named net origin) (zone_id net (link_at net l).from.0)) h in
        let inside : l < length net.links = search (rules, p.0) in
        let r = of_filter starts (numbers_below (length net.links)) l l (number_stands (length net.links) l inside) (zone_same net (link_at net l).from.0 origin sound small ∙ p.1) in
        (r.0, ap (λ xs. slice_get xs (r.0)) list_is ∙ r.1));
    starts = λ k l h. (
        let f = first_is k l h in
        let less = is_below l (length net.links) (f.0) in
        let in_zone : is_zone (zone_named net origin) (zone_id net (link_at net l).from.0) ≡ true = sym (zone_same net (link_at net l).from.0 origin sound small) ∙ f.1 in
        rw (less, in_zone) refl);
  }

  pub firsts_within : All (λ l. l < length net.links) (get_or firsts origin [])
  firsts_within k d h = (first_is k (get_or (get_or firsts origin []) k d) (slice_get-get_or (get_or firsts origin []) k d h)).0
