use Rattle.std.proofs.Common.{subst}
use Rattle.dym_pack.specs.Contents.{IsBody}
use Rattle.dym_pack.proofs.parsed_area.body_in.Goals as goal

pub returns-in-One-clause-only : goal.returns-in-One-clause-only
returns-in-One-clause-only c len is = c.equal_chunks.ensures.only len (subst (λ v. IsBody v c.args.class.exp c.args.count c.args.bytes.now len) c.in-One.is is)

pub returns-in-Two-clause-only : goal.returns-in-Two-clause-only
returns-in-Two-clause-only c len is = c.chunks_in.ensures.only len (subst (λ v. IsBody v c.args.class.exp c.args.count c.args.bytes.now len) c.in-Two.is is)
