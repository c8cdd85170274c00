use Rattle.std.proofs.Common.{◌∙◌, ◌*◌, ◌<◌, ◌≤◌, ◌^◌, subst, ap, length}
use Rattle.std.specs.Prelude.{All}
use Rattle.link_times.specs.Tables.{table_view}
use Rattle.link_times.specs.TimeTables.{IsTimeTable}
use Rattle.link_times.proofs.SoundTimes.{time_holds}
use Rattle.link_times.proofs.table.LinkTimes.horizon.Goals as goal

pub returns-clause-sound : goal.returns-clause-sound
returns-clause-sound c =
    let t = table_view c.self.inside in
    let i = c.self.invariant in
    let size = i.size ∙ ap (λ n. length t.free * n) i.buckets in
    subst (λ v. IsTimeTable v) c.self.view_is (record {
      least = time_holds t (λ x. 1 ≤ x) i.lasts size i.free i.times;
      most = time_holds t (λ x. x < 2 ^ 32) i.lasts size
          (subst (λ xs. All (λ x. x < 2 ^ 32) xs) c.deref.ensures.value c.told.ensures.free)
          (subst (λ xs. All (λ x. x < 2 ^ 32) xs) c.deref-2.ensures.value c.told.ensures.times);
      horizon = c.told.ensures.horizon;
    })
