use Rattle.std.proofs.Common.{◌≡◌, ℕ, ◌<◌, take, drop, get_or, ap, ◌∙◌, arith}
use Rattle.std.specs.Int.{w64, from_le_bytes}
use Rattle.std.proofs.lemmas.Option.{same_Some}
use Rattle.dym_base.specs.declared.command.Kind.{Kind}
use Rattle.dym_pack.proofs.Contained.{header_is, header_count, first_time, head_pair}
use Rattle.dym_pack.proofs.record_parser.header_in.Goals as goal
use Rattle.dym_pack.proofs.record_parser.header_in.Goals.{then-quota-count-via-then-quota-count, then-quota-count-via-else-quota-count+then-count-gt-MOST_QUOTA, then-quota-count-via-else-quota-count+else-count-gt-MOST_QUOTA+then-room-count}

pub returns-then-quota-count-clause-only : goal.returns-then-quota-count-clause-only
returns-then-quota-count-clause-only c kind time count short within few room is =
    let both = header_count c.args.version kind c.args.bytes.now (drop 13 c.args.bytes.now) time count (omega arith) is in
    let counts : c.length_at-count.result ≡ count = c.length_at-count.ensures ∙ both.1 in
    absurd (elim c.then-quota-count.branch [
      | then-quota-count-via-then-quota-count w ↦ omega (arith, w.if-quota-count.true)
      | then-quota-count-via-else-quota-count+then-count-gt-MOST_QUOTA w ↦ omega (arith, w.if-count-gt-MOST_QUOTA.true)
      | then-quota-count-via-else-quota-count+else-count-gt-MOST_QUOTA+then-room-count w ↦ omega (arith, w.if-room-count.true)
    ])

pub returns-clause-is : goal.returns-clause-is
returns-clause-is c =
    let bytes = c.args.bytes.now in
    let small : (i : ℕ) → get_or bytes i 0 < 256 = λ i. omega (arith, c.type_inv.bytes i) in (
      from_le_bytes w64 (take 8 (drop 1 bytes)),
      first_time bytes small,
      header_is c.args.version c.in_ok-kind.kind bytes c.length_at-count.result small (omega arith) c.in_ok-kind.ensures.is c.length_at-count.ensures,
      omega arith,
      omega arith,
      omega arith,
    )

pub returns-clause-only : goal.returns-clause-only
returns-clause-only c kind time count short within few room is =
    let both = header_count c.args.version kind c.args.bytes.now (drop 13 c.args.bytes.now) time count (omega arith) is in
    let counts : c.length_at-count.result ≡ count = c.length_at-count.ensures ∙ both.1 in
    let kinds = same_Some c.in_ok-kind.kind kind (c.in_ok-kind.ensures.only kind both.0) in
    ap (λ (k : Kind). head_pair k c.length_at-count.result) kinds ∙ ap (head_pair kind) counts
