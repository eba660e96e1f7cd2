use Rattle.std.proofs.Common.{arith}
use Rattle.dym_wave.proofs.QuotaRuns.{fits_more, fits_all, needs_greater}
use Rattle.dym_wave.proofs.quotas.largest_wave.Goals as goal

pub loop-from-preserved : goal.loop-from-preserved
loop-from-preserved c = record {
  inside = c.waves-end.ensures.longest.inside;
  enough = fits_more c.args.quotas.now c.loop-from.from c.waves-end.result c.loop-from.largest c.sum_of.result c.greater-largest.result
      (omega (arith, c.waves-end.ensures.some)) c.loop-from.invariant.enough c.sum_of.ensures c.greater-largest.ensures.one c.greater-largest.ensures.other;
  most = c.greater-largest.ensures.least c.args.segments c.loop-from.invariant.most (omega (arith, c.sum_of.ensures, c.waves-end.ensures.longest.fits));
  needed = needs_greater c.args.quotas.now c.loop-from.largest c.sum_of.result c.greater-largest.result
      c.loop-from.invariant.needed (record { from = c.loop-from.from; end = c.waves-end.result; is = c.sum_of.ensures })
      c.greater-largest.ensures.one c.greater-largest.ensures.other c.greater-largest.ensures.least;
}

pub returns-clause-enough : goal.returns-clause-enough
returns-clause-enough c =
    fits_all c.args.quotas.now c.loop-from.from c.loop-from.largest (omega (arith, c.loop-from-test.false)) c.loop-from.invariant.inside c.loop-from.invariant.enough
