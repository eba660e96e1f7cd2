use Rattle.std.proofs.Common.{rules, ◌≡◌, suc, ◌+◌, ◌-◌, ◌∷◌, [], length, drop, sym, subst, ap, arith}
use Rattle.std.proofs.lemmas.List.{length-append, length-drop, drop-drop}
use Rattle.std.proofs.lemmas.Option.{same_Some}
use Rattle.dym_base.specs.Numbers.{per}
use Rattle.dym_pack.specs.Contents.{content_bytes, has_some, IsSeen, Follows, AreLeft, AreRead, HaveOffsets}
use Rattle.dym_pack.specs.declared.parsed_area.ParsedArea.{ParsedArea}
use Rattle.dym_pack.proofs.Seen.{not_none}
use Rattle.dym_pack.proofs.Walked.{seen_of, left_split, seen_within, next_few, read_more, read_all, drop_end}
use Rattle.dym_pack.proofs.record_parser.offsets_in.Goals as goal

pub returns-in_err-area-clause-only : goal.returns-in_err-area-clause-only
returns-in_err-area-clause-only c whole =
    let n = c.args.count - c.loop-k._k - 1 in
    let some : c.args.count - c.loop-k._k ≡ suc n = omega arith in
    let v = c.args.version in
    let kind = c.args.kind in
    let rest = drop c.loop-k.at c.args.bytes.now in
    let first = left_split v kind rest n c.loop-k.exp c.loop-k.next c.loop-k.used (subst (λ m. AreLeft v kind rest m c.loop-k.exp c.loop-k.next c.loop-k.used) some (c.loop-k.invariant.left whole)) in
    not_none _ (c.in_err-area.ensures.only (seen_of v kind first.area) (subst (λ bs. IsSeen v kind bs (seen_of v kind first.area)) (sym c.rest_from.ensures) first.parsed))

pub returns-then-not-follows-clause-only : goal.returns-then-not-follows-clause-only
returns-then-not-follows-clause-only c whole =
    let n = c.args.count - c.loop-k._k - 1 in
    let some : c.args.count - c.loop-k._k ≡ suc n = omega arith in
    let v = c.args.version in
    let kind = c.args.kind in
    let rest = drop c.loop-k.at c.args.bytes.now in
    let first = left_split v kind rest n c.loop-k.exp c.loop-k.next c.loop-k.used (subst (λ m. AreLeft v kind rest m c.loop-k.exp c.loop-k.next c.loop-k.used) some (c.loop-k.invariant.left whole)) in
    let same = same_Some c.in_ok-area.area (seen_of v kind first.area) (c.in_ok-area.ensures.only (seen_of v kind first.area) (subst (λ bs. IsSeen v kind bs (seen_of v kind first.area)) (sym c.rest_from.ensures) first.parsed)) in
    absurd (c.follows.ensures.fails (search rules) (subst (λ (x : ParsedArea). Follows c.loop-k.exp c.loop-k.next c.loop-k.used x.exp x.ordinal) (sym same) first.follows))

pub loop-k-preserved : goal.loop-k-preserved
loop-k-preserved c =
    let n = c.args.count - (c.loop-k._k + 1) in
    let some : c.args.count - c.loop-k._k ≡ suc n = omega arith in
    let v = c.args.version in
    let kind = c.args.kind in
    let at = c.loop-k.at in
    let bytes = c.args.bytes.now in
    let rest = drop at bytes in
    let area = c.in_ok-area.area in
    let is = subst (λ bs. IsSeen v kind bs area) c.rest_from.ensures c.in_ok-area.ensures.is in
    let follows = c.follows.ensures.follows (search rules) in
    record {
      within = omega (arith, seen_within v kind rest area is, length-drop at bytes, c.loop-k.invariant.within);
      few = omega (arith, next_few c.loop-k.exp c.loop-k.next c.loop-k.used area.exp area.ordinal c.loop-k._k follows c.loop-k.invariant.few);
      room = omega (arith, c.push_reserved.ensures.capacity, ap length c.push_reserved.ensures.items, length-append c.loop-k.starts.items (at ∷ []), c.loop-k.invariant.room);
      done = subst (AreRead v kind bytes (at + area.len) (c.loop-k._k + 1) area.exp (area.ordinal + 1) area.used) (sym c.push_reserved.ensures.items)
          (read_more v kind bytes at c.loop-k._k c.loop-k.exp c.loop-k.next c.loop-k.used c.loop-k.starts.items area c.loop-k.invariant.done is follows);
      left = λ whole.
          let first = left_split v kind rest n c.loop-k.exp c.loop-k.next c.loop-k.used (subst (λ m. AreLeft v kind rest m c.loop-k.exp c.loop-k.next c.loop-k.used) some (c.loop-k.invariant.left whole)) in
          let a = first.area in
          let same = same_Some area (seen_of v kind a) (c.in_ok-area.ensures.only (seen_of v kind a) (subst (λ bs. IsSeen v kind bs (seen_of v kind a)) (sym c.rest_from.ensures) first.parsed)) in
          subst (λ (x : ParsedArea). AreLeft v kind (drop (at + x.len) bytes) n x.exp (x.ordinal + 1) x.used) (sym same)
          (subst (λ bs. AreLeft v kind bs n a.exponent (a.ordinal + 1) (has_some (per a.exponent) a.used)) (drop-drop (length (content_bytes v kind a)) at bytes) first.left);
    }

pub returns-clause-is : goal.returns-clause-is
returns-clause-is c _ =
    let v = c.args.version in
    let kind = c.args.kind in
    let at = c.loop-k.at in
    let bytes = c.args.bytes.now in
    let all : c.loop-k._k ≡ c.args.count = omega arith in
    let done = subst (λ k. AreRead v kind bytes at k c.loop-k.exp c.loop-k.next c.loop-k.used c.loop-k.starts.items) all c.loop-k.invariant.done in
    let ended = subst (λ u. AreRead v kind bytes at c.args.count c.loop-k.exp c.loop-k.next u c.loop-k.starts.items) c.if-not-used.false done in
    subst (HaveOffsets v kind bytes c.args.count) (sym c.push_reserved-2.ensures.items)
    (read_all v kind bytes at c.args.count c.loop-k.exp c.loop-k.next c.loop-k.starts.items ended (drop_end bytes at (omega arith)))
