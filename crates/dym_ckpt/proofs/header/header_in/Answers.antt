use Rattle.std.proofs.Common.{rules, sym, ap, ◌∙◌, length, arith}
use Rattle.dym_ckpt.specs.Heads.{header_meaning, from_name, from_quota, from_version, from_count, from_depth}
use Rattle.dym_ckpt.proofs.Headers.{head_parts, head_read, first_same, within_said, said_is}
use Rattle.dym_ckpt.proofs.header.header_in.Goals as goal

pub returns-in_err-rest-clause-only : goal.returns-in_err-rest-clause-only
returns-in_err-rest-clause-only c head left good are =
    absurd (c.in_err-rest.ensures.only (from_name head left) (are ∙ head_parts head left))

pub returns-in_err-name-clause-only : goal.returns-in_err-name-clause-only
returns-in_err-name-clause-only c head left good are =
    let behind = c.in_ok-rest.ensures.only (from_name head left) (are ∙ head_parts head left) in
    absurd (c.in_err-name.ensures.only head.name (from_quota head left) good.named behind)

pub returns-in_err-quota-clause-only : goal.returns-in_err-quota-clause-only
returns-in_err-quota-clause-only c head left good are =
    let behind = c.in_ok-rest.ensures.only (from_name head left) (are ∙ head_parts head left) in
    let name = c.in_ok-name.ensures.only head.name (from_quota head left) good.named behind in
    absurd (c.in_err-quota.ensures.only head.quota (from_version head left) (omega (arith, good.within)) name.1)

pub returns-in_err-version-clause-only : goal.returns-in_err-version-clause-only
returns-in_err-version-clause-only c head left good are =
    let behind = c.in_ok-rest.ensures.only (from_name head left) (are ∙ head_parts head left) in
    let name = c.in_ok-name.ensures.only head.name (from_quota head left) good.named behind in
    let quota = c.in_ok-quota.ensures.only head.quota (from_version head left) (omega (arith, good.within)) name.1 in
    absurd (c.in_err-version.ensures.only head.version (from_count head left) quota.1)

pub returns-in_err-count-clause-only : goal.returns-in_err-count-clause-only
returns-in_err-count-clause-only c head left good are =
    let behind = c.in_ok-rest.ensures.only (from_name head left) (are ∙ head_parts head left) in
    let name = c.in_ok-name.ensures.only head.name (from_quota head left) good.named behind in
    let quota = c.in_ok-quota.ensures.only head.quota (from_version head left) (omega (arith, good.within)) name.1 in
    let version = c.in_ok-version.ensures.only head.version (from_count head left) quota.1 in
    absurd (c.in_err-count.ensures.only head.count (from_depth head left) (omega (arith, good.few)) version.1)

pub returns-in_err-depth-clause-only : goal.returns-in_err-depth-clause-only
returns-in_err-depth-clause-only c head left good are =
    let behind = c.in_ok-rest.ensures.only (from_name head left) (are ∙ head_parts head left) in
    let name = c.in_ok-name.ensures.only head.name (from_quota head left) good.named behind in
    let quota = c.in_ok-quota.ensures.only head.quota (from_version head left) (omega (arith, good.within)) name.1 in
    let version = c.in_ok-version.ensures.only head.version (from_count head left) quota.1 in
    let count = c.in_ok-count.ensures.only head.count (from_depth head left) (omega (arith, good.few)) version.1 in
    absurd (omega (arith, c.in_err-depth.ensures.cases, ap length count.1))

pub returns-then-not-are_within-clause-only : goal.returns-then-not-are_within-clause-only
returns-then-not-are_within-clause-only c head left good are =
    let behind = c.in_ok-rest.ensures.only (from_name head left) (are ∙ head_parts head left) in
    let name = c.in_ok-name.ensures.only head.name (from_quota head left) good.named behind in
    let quota = c.in_ok-quota.ensures.only head.quota (from_version head left) (omega (arith, good.within)) name.1 in
    let version = c.in_ok-version.ensures.only head.version (from_count head left) quota.1 in
    let count = c.in_ok-count.ensures.only head.count (from_depth head left) (omega (arith, good.few)) version.1 in
    let depth = first_same _ _ _ _ (sym c.in_ok-depth.ensures.cases.0 ∙ count.1) in
    absurd (c.if-not-are_within.ensures.outside (search rules) (within_said head _ _ _ quota.0 count.0 depth.0 good))

pub returns-clause-is : goal.returns-clause-is
returns-clause-is c =
    let head = header_meaning (record { name = c.in_ok-name.name; quota = c.in_ok-quota.quota; version = c.in_ok-version.version; count = c.in_ok-count.count; depth = c.in_ok-depth.depth.now }) in
    head_read head c.args.bytes.now c.in_ok-rest.rest.now c.in_ok-name.rest.now c.in_ok-quota.rest.now c.in_ok-version.rest.now c.in_ok-count.rest.now c.in_ok-depth.rest.now
    c.in_ok-rest.ensures.is c.in_ok-name.ensures.is c.in_ok-quota.ensures.is c.in_ok-version.ensures.is c.in_ok-count.ensures.is c.in_ok-depth.ensures.cases.0

pub returns-clause-only : goal.returns-clause-only
returns-clause-only c head left good are =
    let behind = c.in_ok-rest.ensures.only (from_name head left) (are ∙ head_parts head left) in
    let name = c.in_ok-name.ensures.only head.name (from_quota head left) good.named behind in
    let quota = c.in_ok-quota.ensures.only head.quota (from_version head left) (omega (arith, good.within)) name.1 in
    let version = c.in_ok-version.ensures.only head.version (from_count head left) quota.1 in
    let count = c.in_ok-count.ensures.only head.count (from_depth head left) (omega (arith, good.few)) version.1 in
    let depth = first_same _ _ _ _ (sym c.in_ok-depth.ensures.cases.0 ∙ count.1) in
    (said_is _ head name.0 quota.0 version.0 count.0 depth.0, depth.1)
