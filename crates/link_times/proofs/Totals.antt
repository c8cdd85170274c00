-- Sums of all vehicles.
use Rattle.std.specs.Prelude.{All}
use Rattle.std.proofs.Common.{◌≡◌, ℕ, zero, suc, List, [], ◌∷◌, refl, arith, get_or, sym, subst}
use Rattle.dta_model.specs.declared.plan.Plan.{Plan}
use Rattle.dta_model.specs.LinkTimes.{place_in}
use Rattle.dta_model.specs.Loading.{trace_after}
use Rattle.dta_model.specs.Trace.{moves_of}
use Rattle.link_times.specs.Sums.{AreAdded, AreSums, AreWithin, number, sum_to, total}
use Rattle.link_times.proofs.Sums.{sum_in-none}

pub none_added : (p : Plan) (bucket buckets : ℕ) (sums counts : List ℕ) → AreAdded p bucket buckets [] sums counts sums counts
unfolding total number
none_added p bucket buckets sums counts = record {
  sum_grew = λ l b hl hb. let z = sum_in-none (λ x. x.time) p bucket l b in omega (arith, z);
  count_grew = λ l b hl hb. let z = sum_in-none (λ x. 1) p bucket l b in omega (arith, z);
}

pub zero_at : (xs : List ℕ) → All (λ x. x ≡ 0) xs → (q : ℕ) → get_or xs q 0 ≡ 0
zero_at [] z q = refl
zero_at (x ∷ xs) z zero = z 0 0 (omega arith)
zero_at (x ∷ xs) z (suc q) = zero_at xs (λ k d h. z (suc k) d (omega (arith, h))) q

pub sums_first : (p : Plan) (bucket buckets : ℕ) (sums counts : List ℕ) → All (λ x. x ≡ 0) sums → All (λ x. x ≡ 0) counts → AreSums p bucket buckets 0 sums counts × AreWithin 0 sums counts
unfolding sum_to
sums_first p bucket buckets sums counts s c = (
  record { sum_is = λ l b hl hb. zero_at sums s (place_in buckets l b); count_is = λ l b hl hb. zero_at counts c (place_in buckets l b) },
  record { few = λ q. let z = zero_at counts c q in omega (arith, z); long = λ q. let z = zero_at counts c q in omega (arith, z); short = λ q. let z = zero_at sums s q in omega (arith, z) },
)

pub sums_more : (p : Plan) (bucket buckets v n : ℕ) (sums counts new_sums new_counts : List ℕ) → n ≡ suc v → AreSums p bucket buckets v sums counts → AreAdded p bucket buckets (moves_of v (trace_after p p.horizon)) sums counts new_sums new_counts → AreSums p bucket buckets n new_sums new_counts
unfolding sum_to
sums_more p bucket buckets v n sums counts new_sums new_counts e had more =
    subst (λ k. AreSums p bucket buckets k new_sums new_counts) (sym e) (record {
      sum_is = λ l b hl hb. let a = had.sum_is l b hl hb in let m = more.sum_grew l b hl hb in omega (arith, a, m);
      count_is = λ l b hl hb. let a = had.count_is l b hl hb in let m = more.count_grew l b hl hb in omega (arith, a, m);
    })
