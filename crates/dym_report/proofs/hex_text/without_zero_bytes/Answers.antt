-- A zero byte at the end doesn't matter, and behind another byte there is none.
use Rattle.std.proofs.Common.{◌≡◌, ◌<◌, ◌-◌, length, get_or, arith, sym, ◌∙◌}
use Rattle.std.proofs.lemmas.Grind.{common_steps}
use Rattle.dym_report.proofs.Trims.{trimmed-take, zero_at_last, trimmed_at_last}
use Rattle.dym_report.proofs.hex_text.without_zero_bytes.Goals as goal

pub bytes-preserved : goal.bytes-preserved
bytes-preserved c =
    let some : 0 < length c.bytes.rest.now = grind (arith, common_steps) in
    let last : get_or c.bytes.rest.now (length c.bytes.rest.now - 1) 0 ≡ 0 = grind (arith, common_steps) in
    let cut = trimmed-take c.bytes.rest.now (length c.bytes.rest.now - 1) (zero_at_last c.bytes.rest.now some last) in
    grind (arith, common_steps)

pub returns-else-rest-eq0 : goal.returns-else-rest-eq0
returns-else-rest-eq0 c = sym (trimmed_at_last c.bytes.rest.now (grind (arith, common_steps)) (grind (arith, common_steps))) ∙ c.bytes.invariant
