use Rattle.std.proofs.Common.{◌*◌, Some, sym, subst, ap, ◌∙◌, arith}
use Rattle.dym_base.specs.declared.command.Version.TheVariants.{One}
use Rattle.dym_pack.specs.Contents.{IsBody}
use Rattle.dym_pack.proofs.Bodies.{body_one_is, body_one_only, body_within}
use Rattle.dym_pack.proofs.parsed_area.equal_chunks.Goals as goal

pub returns-then-len-bytes-clause-is : goal.returns-then-len-bytes-clause-is
returns-then-len-bytes-clause-is c =
    let n = c.args.count in
    let long = ap (λ s. n * s) c.size.ensures in
    subst (IsBody One c.args.class.exp n c.args.bytes.now) (sym long) (body_one_is c.args.class.exp n c.args.bytes.now (omega arith))

pub returns-then-len-bytes-clause-only : goal.returns-then-len-bytes-clause-only
returns-then-len-bytes-clause-only c len is =
    ap Some (ap (λ s. c.args.count * s) c.size.ensures ∙ sym (body_one_only c.args.class.exp c.args.count c.args.bytes.now len is))

pub returns-else-len-bytes-clause-only : goal.returns-else-len-bytes-clause-only
returns-else-len-bytes-clause-only c len is =
    let n = c.args.count in
    let long = ap (λ s. n * s) c.size.ensures in
    let only = body_one_only c.args.class.exp n c.args.bytes.now len is in
    let within = body_within One c.args.class.exp n c.args.bytes.now len is in
    absurd (omega arith)
