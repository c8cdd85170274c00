-- The links whose mail a half of a node's step takes.
use Rattle.std.specs.Prelude.{nat_eq}
use Rattle.std.proofs.Common.{◌≡◌, ℕ, ◌<◌, true, length}
use Rattle.dta_model.specs.Plans.{link_at}
use Rattle.dta_model.specs.declared.plan.Plan.{Plan}
use Rattle.node_transfer.specs.Exchange.{is_among}
use Rattle.node_transfer.specs.Halves.{links_by}
use Rattle.node_transfer.specs.declared.half.Half.{Half}
use Rattle.node_transfer.proofs.OfMail.Parts.{ins-among, ins-member, outs-among, outs-member}

-- the node at whose end the links lie
abbrev pub ends_of : Half → Plan → ℕ → ℕ
ends_of Half.Transfer p l = (link_at p l).from.0
ends_of Half.Gather p l = (link_at p l).to.0

pub half-member : (half : Half) (p : Plan) (n l : ℕ) → l < length p.net.links → is_among (links_by half p n) l ≡ nat_eq (ends_of half p l) n
half-member Half.Transfer p n = outs-member p n
half-member Half.Gather p n = ins-member p n

pub half-among : (half : Half) (p : Plan) (n l : ℕ) → is_among (links_by half p n) l ≡ true → l < length p.net.links
half-among Half.Transfer p n = outs-among p n
half-among Half.Gather p n = ins-among p n
