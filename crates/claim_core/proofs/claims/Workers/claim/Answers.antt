use Rattle.std.proofs.Common.{ap}
use Rattle.dta_model.specs.Lent.{plan_of}
use Rattle.claim_core.proofs.Effects.{claim_is, same_single, single}
use Rattle.claim_core.proofs.claims.Workers.claim.Goals as goal

pub returns-in-GivenChunk : goal.returns-in-GivenChunk
returns-in-GivenChunk c =
    claim_is (plan_of c.args.loading.now) c.args.self.now c.args.worker c.claim_chunk.ensures
    (ap single c.in-GivenChunk.is)

pub returns-in_default : goal.returns-in_default
returns-in_default c =
    claim_is (plan_of c.args.loading.now) c.args.self.now c.args.worker c.claim_chunk.ensures
    (same_single c.claim_chunk.result c.in_default.not-GivenChunk)
