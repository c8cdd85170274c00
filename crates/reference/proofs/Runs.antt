-- Walks by recursion over their links, and that the lists of walks have them all and no others.
use Rattle.std.proofs.Common.{◌≡◌, inl, inr, ℕ, zero, suc, ◌<◌, ◌≤◌, Bool, true, false, cond, List, [], ◌∷◌, length, map, refl, ap, sym, ◌∙◌, subst, arith}
use Rattle.std.specs.Prelude.{All, Some, IsSome, filter, is_some, nat_eq, slice_get}
use Rattle.std.specs.List.{flat_map}
use Rattle.std.proofs.lemmas.Bool.Decides.{nat_tests}
use Rattle.std.proofs.lemmas.List.Elements.{All-cons, All-head, All-nil, All-tail}
use Rattle.std.proofs.lemmas.Option.{same_Some}
use Rattle.net_core.specs.Network.{turn}
use Rattle.net_core.specs.declared.rows.NetRows.{NetRows}
use Rattle.dta_model.specs.Walks.{IsWalk, begins_in, ends_in}
use Rattle.reference.specs.Search.{all_links, onward, walks_between, walks_on}
use Rattle.reference.proofs.Among.{Among, among_filter, among_flat_map, among_map, among_range, filter_among, flat_map_among, map_among, range_among}

not_last : (n : ℕ) → nat_eq 1 (suc (suc n)) ≡ false
not_last n = grind (arith, nat_tests)

more_eq : (a b : ℕ) → nat_eq (suc a) (suc b) ≡ nat_eq a b
more_eq a b = grind (arith, nat_tests)

module _ (net : NetRows) (destination : ℕ) where
  -- link l and the links after it lead to the destination, and no link before the last ends there
  abbrev pub Runs : ℕ → List ℕ → Type 0
  Runs l [] = (l < length net.links) × (ends_in net destination l ≡ true)
  Runs l (b ∷ rest) = (l < length net.links) × (ends_in net destination l ≡ false) × IsSome (turn net l b) × Runs b rest

  pub runs_small : (l : ℕ) (rest : List ℕ) → Runs l rest → l < length net.links
  runs_small l [] r = r.0
  runs_small l (b ∷ rest) r = r.0

  -- links that are in the table, with turns between them, the last of which is the first in the zone
  record IsOn (w : List ℕ) : Type 0 where
    links : All (λ l. l < length net.links) w
    turns : (i a b : ℕ) → slice_get w i ≡ Some a → slice_get w (suc i) ≡ Some b → IsSome (turn net a b)
    ends : (i l : ℕ) → slice_get w i ≡ Some l → ends_in net destination l ≡ nat_eq (suc i) (length w)

  runs_on : (l : ℕ) (rest : List ℕ) → Runs l rest → IsOn (l ∷ rest)
  runs_on l [] r = record {
    links = All-cons (λ x. x < length net.links) l [] (r.0) (All-nil (λ x. x < length net.links));
    turns = λ i a b e f. (let clash : ⊥ = cc in absurd clash);
    ends = ends_are;
  }
    where
      ends_are : (i x : ℕ) → slice_get (l ∷ []) i ≡ Some x → ends_in net destination x ≡ nat_eq (suc i) 1
      ends_are zero x e = subst (λ y. ends_in net destination y ≡ true) (same_Some l x e) (r.1)
      ends_are (suc i) x e = cc
  runs_on l (b ∷ rest) r = more (runs_on b rest (r.3))
    where
      more : IsOn (b ∷ rest) → IsOn (l ∷ b ∷ rest)
      more on = record {
        links = All-cons (λ x. x < length net.links) l (b ∷ rest) (r.0) on.links;
        turns = turns_are;
        ends = ends_are;
      }
        where
          turns_are : (i x y : ℕ) → slice_get (l ∷ b ∷ rest) i ≡ Some x → slice_get (l ∷ b ∷ rest) (suc i) ≡ Some y → IsSome (turn net x y)
          turns_are zero x y e f = subst (λ u. IsSome (turn net u y)) (same_Some l x e) (subst (λ u. IsSome (turn net l u)) (same_Some b y f) (r.2))
          turns_are (suc i) x y e f = on.turns i x y e f

          ends_are : (i x : ℕ) → slice_get (l ∷ b ∷ rest) i ≡ Some x → ends_in net destination x ≡ nat_eq (suc i) (length (l ∷ b ∷ rest))
          ends_are zero x e = subst (λ y. ends_in net destination y ≡ nat_eq 1 (length (l ∷ b ∷ rest))) (same_Some l x e) (r.1 ∙ sym (not_last (length rest)))
          ends_are (suc i) x e = on.ends i x e ∙ sym (more_eq (suc i) (length (b ∷ rest)))

  on_runs : (l : ℕ) (rest : List ℕ) → IsOn (l ∷ rest) → Runs l rest
  on_runs l [] on = (All-head (λ x. x < length net.links) l [] on.links, on.ends 0 l refl)
  on_runs l (b ∷ rest) on = (
    All-head (λ x. x < length net.links) l (b ∷ rest) on.links,
    on.ends 0 l refl ∙ not_last (length rest),
    on.turns 0 l b refl refl,
    on_runs b rest (record {
      links = All-tail (λ x. x < length net.links) l (b ∷ rest) on.links;
      turns = λ i x y e f. on.turns (suc i) x y e f;
      ends = λ i x e. on.ends (suc i) x e ∙ more_eq (suc i) (length (b ∷ rest));
    }),
  )

  pub runs_walk : (origin l : ℕ) (rest : List ℕ) → begins_in net origin l ≡ true → Runs l rest → IsWalk net origin destination (l ∷ rest)
  runs_walk origin l rest begun r =
      let on = runs_on l rest r in
      record { some = omega arith; links = on.links; begins = begun; turns = on.turns; ends = on.ends }

  pub walk_runs : (origin l : ℕ) (rest : List ℕ) → IsWalk net origin destination (l ∷ rest) → (begins_in net origin l ≡ true) × Runs l rest
  walk_runs origin l rest walk = (walk.begins, on_runs l rest (record { links = walk.links; turns = walk.turns; ends = walk.ends }))

  -- ---- what is among the walks from a link
  listed : (l : ℕ) → l < length net.links → Among l (all_links net)
  listed l small = among_range l 0 (length net.links) (omega arith) (omega arith)

  listed_small : (l : ℕ) → Among l (all_links net) → l < length net.links
  listed_small l h = let k = range_among l 0 (length net.links) h in omega arith

  found_on : (most l : ℕ) (rest : List ℕ) → Runs l rest → length (l ∷ rest) ≤ most → Among (l ∷ rest) (walks_on net destination most l)
  unfolding walks_on
  found_on zero l rest r few = absurd (omega arith)
  found_on (suc most) l [] r few = rw (r.1) (inl refl)
  found_on (suc most) l (b ∷ rest) r few =
      let onto : Among b (onward net l) = among_filter (λ x. is_some (turn net l x)) b (all_links net) (listed b (runs_small b rest (r.3))) (r.2) in
      let after = found_on most b rest (r.3) (omega arith) in
      let all = flat_map (walks_on net destination most) (onward net l) in
      rw (r.1) (among_map (λ walk. l ∷ walk) (b ∷ rest) all (among_flat_map (walks_on net destination most) b (b ∷ rest) (onward net l) onto after))

  abbrev LeadsOn : ℕ → List ℕ → Type 0
  LeadsOn l w = (rest : List ℕ) × (l ∷ rest ≡ w) × Runs l rest

  on_found : (most l : ℕ) (w : List ℕ) → l < length net.links → Among w (walks_on net destination most l) → LeadsOn l w
  unfolding walks_on
  on_found zero l w small h = absurd h
  on_found (suc most) l w small h = by (ends_in net destination l) refl (on_found most) h
    where
      by : (b : Bool) → ends_in net destination l ≡ b → ((b : ℕ) (v : List ℕ) → b < length net.links → Among v (walks_on net destination most b) → LeadsOn b v)
          → Among w (cond b ((l ∷ []) ∷ []) (map (λ walk. l ∷ walk) (flat_map (walks_on net destination most) (onward net l)))) → LeadsOn l w
      by true e further (inl s) = ([], s, (small, e))
      by true e further (inr k) = absurd k
      by false e further k =
          let m = map_among (λ walk. l ∷ walk) w (flat_map (walks_on net destination most) (onward net l)) k in
          let f = flat_map_among (walks_on net destination most) (m.0) (onward net l) (m.1) in
          let b = f.0 in
          let t = filter_among (λ x. is_some (turn net l x)) b (all_links net) (f.1) in
          let r = further b (m.0) (listed_small b (t.0)) (f.2) in
          (b ∷ r.0, ap (λ v. l ∷ v) (r.1) ∙ m.2, (small, e, t.1, r.2))

  -- ---- what is among the walks from an origin
  pub found : (origin most : ℕ) (w : List ℕ) → IsWalk net origin destination w → length w ≤ most → Among w (walks_between net origin destination most)
  found origin most [] walk few = absurd (let n = walk.some in omega arith)
  found origin most (l ∷ rest) walk few =
      let r = walk_runs origin l rest walk in
      let begun = among_filter (begins_in net origin) l (all_links net) (listed l (runs_small l rest (r.1))) (r.0) in
      among_flat_map (walks_on net destination most) l (l ∷ rest) (filter (begins_in net origin) (all_links net)) begun (found_on most l rest (r.1) few)

  pub walks_found : (origin most : ℕ) (w : List ℕ) → Among w (walks_between net origin destination most) → IsWalk net origin destination w
  walks_found origin most w h =
      let f = flat_map_among (walks_on net destination most) w (filter (begins_in net origin) (all_links net)) h in
      let l = f.0 in
      let t = filter_among (begins_in net origin) l (all_links net) (f.1) in
      let r = on_found most l w (listed_small l (t.0)) (f.2) in
      subst (λ v. IsWalk net origin destination v) (r.1) (runs_walk origin l (r.0) (t.1) (r.2))
