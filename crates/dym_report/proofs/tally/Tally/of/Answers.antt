use Rattle.std.proofs.Common.{sym, ◌∙◌, arith}
use Rattle.dym_report.proofs.Tallies.{not_refused}
use Rattle.dym_report.proofs.tally.Tally.of.Goals as goal

pub returns-clause-counted : goal.returns-clause-counted
returns-clause-counted g c given all refused =
    let ok = not_refused given c.args.replies c.args.refused (sym all) (sym refused) in
    λ i. record {
      ok = ok i;
      refused = sym refused i;
      chunks = c.live_chunks.ensures.counted i;
      segments = (c.from.ensures ∙ c.held.ensures ∙ c.requires.sound.holds) i;
      kept = c.from-2.ensures i;
      slots = c.from-3.ensures i;
    }

pub returns-clause-segments : goal.returns-clause-segments
returns-clause-segments g c =
    let sound = c.requires.sound in
    omega (arith, c.from.ensures, c.held.ensures, sound.holds, sound.within, sound.quota_most)
