use Rattle.std.proofs.Common.{arith}
use Rattle.claim_core.proofs.ByPlace.{after_first, gathers_in, place_fits, posting_in, transfers_in}
use Rattle.claim_core.proofs.units.Units.kind_in.Goals as goal

pub overflow_sub-node : goal.overflow_sub-node
overflow_sub-node c = after_first c.args.self.nodes c.args.number c.args.phase c.requires

pub overflow_cast-node : goal.overflow_cast-node
overflow_cast-node c = omega (arith, place_fits c.args.self.nodes c.args.number c.args.phase c.requires (omega (arith, c.well_formed)))

pub returns-in-Transfers : goal.returns-in-Transfers
returns-in-Transfers c = transfers_in c.args.self.nodes c.args.number c.args.phase c.requires c.in-Transfers.is

pub returns-in-Gathers : goal.returns-in-Gathers
returns-in-Gathers c = gathers_in c.args.self.nodes c.args.number c.args.phase c.requires c.in-Gathers.is

pub returns-in-Posting : goal.returns-in-Posting
returns-in-Posting c = posting_in c.args.self.nodes c.args.number c.args.phase c.requires c.in-Posting.is
