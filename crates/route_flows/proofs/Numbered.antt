-- The iterations in which vehicles took their routes, and that there is one list of them.
use Rattle.std.proofs.Common.{◌≡◌, ◌⊎◌, inl, inr, ℕ, ◌<◌, ◌+◌, Bool, true, false, List, ap, sym, ◌∙◌, arith, Option, Some, None, subst}
use Rattle.std.specs.Prelude.{slice_get}
use Rattle.std.proofs.lemmas.Bool.{cases_order}
use Rattle.net_core.specs.declared.rows.LinkNo.{LinkNo}
use Rattle.net_core.specs.declared.rows.NetRows.{NetRows}
use Rattle.dta_model.specs.declared.trip.Trip.{Trip}
use Rattle.trip_costs.specs.Timings.{Timing}
use Rattle.trip_costs.specs.declared.loading_costs.Costs.{Costs}
use Rattle.route_flows.specs.Averages.{IsFirstNumber, IsLastRenewal, IsSince, StartsOn}
use Rattle.route_flows.specs.Selection.{renews}
use Rattle.route_flows.specs.Laws.{SinceAreDetermined, StartedAreDetermined}
use Rattle.route_flows.specs.Starting.{IsNumbered}
use Rattle.start_table.specs.Starts.{AreNamed, AreStartRows, IsStarted, TellsStart}
use Rattle.start_table.specs.declared.rows.StartRow.{StartRow}
use Rattle.route_flows.proofs.Determined.{in_list, same_lists, trip_at, walk_once}
use Rattle.start_table.proofs.Named.{named_once, one_row}

pub numbered_since : (costs : Costs) (net : NetRows) (start : List StartRow) (iterations v : ℕ) (trip : Trip) (walk : Option (List LinkNo)) (n : ℕ) → TellsStart net start trip walk → IsNumbered costs v iterations walk n → IsSince costs net start iterations v trip n
numbered_since costs net start iterations v trip walk n tells (inl renewed) = inl renewed
numbered_since costs net start iterations v trip None n tells (inr (keeps, is)) = inr (keeps, inr (is, tells))
numbered_since costs net start iterations v trip (Some walk) n tells (inr (keeps, is)) = inr (keeps, inl (is, (walk, tells)))

-- ---- one list
differ : (b : Bool) → b ≡ true → b ≡ false → ⊥
differ b t f = let both : true ≡ false = sym t ∙ f in cc

renewed_once : (costs : Costs) (v iterations k j : ℕ) → IsLastRenewal costs v iterations k → IsLastRenewal costs v iterations j → k ≡ j
renewed_once costs v iterations k j x y = by (cases_order k j)
  where
    by : (k ≡ j) ⊎ ((k < j) ⊎ (j < k)) → k ≡ j
    by (inl same) = same
    by (inr (inl less)) = absurd (differ (renews costs j v) y.selected (x.last j less y.most))
    by (inr (inr less)) = absurd (differ (renews costs k v) x.selected (y.last k less x.most))

first_once : (net : NetRows) (start : List StartRow) (trip : Trip) (n m : ℕ) → IsFirstNumber net start trip n → IsFirstNumber net start trip m → n ≡ m
first_once net start trip n m (inl (x, _)) (inl (y, _)) = x ∙ sym y
first_once net start trip n m (inl (x, (walk, fits))) (inr (y, none)) = absurd (none walk fits)
first_once net start trip n m (inr (x, none)) (inl (y, (walk, fits))) = absurd (none walk fits)
first_once net start trip n m (inr (x, _)) (inr (y, _)) = x ∙ sym y

since_once : (costs : Costs) (net : NetRows) (start : List StartRow) (iterations v : ℕ) (trip : Trip) (n m : ℕ) → IsSince costs net start iterations v trip n → IsSince costs net start iterations v trip m → n ≡ m
since_once costs net start iterations v trip n m (inl (k, nk, x)) (inl (j, mj, y)) = nk ∙ ap (λ i. i + 1) (renewed_once costs v iterations k j x y) ∙ sym mj
since_once costs net start iterations v trip n m (inl (k, nk, x)) (inr (keeps, y)) = absurd (differ (renews costs k v) x.selected (keeps k x.least x.most))
since_once costs net start iterations v trip n m (inr (keeps, x)) (inl (j, mj, y)) = absurd (differ (renews costs j v) y.selected (keeps j y.least y.most))
since_once costs net start iterations v trip n m (inr (kx, x)) (inr (ky, y)) = first_once net start trip n m x y

pub since_are_determined : SinceAreDetermined
since_are_determined costs net start trips iterations a b x y =
    same_lists a b (x.as_many ∙ sym y.as_many) one
  where
    one : (v : ℕ) (n m : ℕ) → slice_get a v ≡ Some n → slice_get b v ≡ Some m → n ≡ m
    one v n m e f =
        let inside = in_list a v n e in
        let long = x.as_many in
        let t = trip_at trips v (omega (arith, inside, long)) in
        since_once costs net start iterations v (t.0) n m (x.each v (t.0) n (t.1) e) (y.each v (t.0) m (t.1) f)

started_once : (net : NetRows) (start : List StartRow) (trip : Trip) (a b : List LinkNo) → AreStartRows start → IsStarted net start trip a → IsStarted net start trip b → a ≡ b
started_once net start trip a b sound (r, row, at, fits) (s, other, there, others) =
    let same : row ≡ other = one_row start r s row other sound.distinct at there (fits.agent ∙ sym others.agent) in
    named_once net row.links a b fits.names (subst (λ w. AreNamed net w.links b) (sym same) others.names)

starts_once : (costs : Timing) (net : NetRows) (start : List StartRow) (trip : Trip) (a b : Option (List LinkNo)) → AreStartRows start → StartsOn costs net start trip a → StartsOn costs net start trip b → a ≡ b
starts_once costs net start trip a b sound (inl (w, aw, x)) (inl (u, bu, y)) = aw ∙ ap (λ l. Some l) (started_once net start trip w u sound x y) ∙ sym bu
starts_once costs net start trip a b sound (inl (w, aw, x)) (inr (none, y)) = absurd (none w x)
starts_once costs net start trip a b sound (inr (none, x)) (inl (u, bu, y)) = absurd (none u y)
starts_once costs net start trip a b sound (inr (_, x)) (inr (_, y)) = walk_once costs net trip a b x y

pub started_are_determined : StartedAreDetermined
started_are_determined costs net start trips a b sound x y =
    same_lists a b (x.as_many ∙ sym y.as_many) one
  where
    one : (v : ℕ) (r s : Option (List LinkNo)) → slice_get a v ≡ Some r → slice_get b v ≡ Some s → r ≡ s
    one v r s e f =
        let inside = in_list a v r e in
        let long = x.as_many in
        let t = trip_at trips v (omega (arith, inside, long)) in
        starts_once costs net start (t.0) r s sound (x.each v (t.0) r (t.1) e) (y.each v (t.0) s (t.1) f)
