use Rattle.std.proofs.Common.{rules, ◌≡◌, ◌<◌, ◌^◌, sym, ◌∙◌, arith}
use Rattle.std.proofs.lemmas.Fmt.{decimal_injective}
use Rattle.dym_trace.proofs.event_reader.read_slot.Goals as goal

pub returns-else-slot-from : goal.returns-else-slot-from
returns-else-slot-from c s low e =
    let fits : c.in_ok-slot.slot < 2 ^ 64 = search rules in
    let same : s ≡ c.in_ok-slot.slot = decimal_injective s c.in_ok-slot.slot (omega arith) fits (sym e ∙ c.in_ok-slot.ensures) in
    let high = c.if-slot-from.false in
    omega arith
