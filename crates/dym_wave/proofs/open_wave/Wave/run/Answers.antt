use Rattle.std.proofs.Common.{ℕ, length, ap, sym, ◌∙◌, arith}
use Rattle.std.proofs.lemmas.List.{length-map}
use Rattle.dym_wave.specs.Works.{origin_of}
use Rattle.dym_wave.proofs.Tables.{ready, still_of_wave}
use Rattle.dym_wave.proofs.open_wave.Wave.run.Goals as goal

pub run_observed-ran-requires-clause-ready : goal.run_observed-ran-requires-clause-ready
run_observed-ran-requires-clause-ready g c κs within =
    let old = c.args.self in
    ready old.queue old.other_ends.sweepers.items old.works.items old.of_wave

pub invariant_of-wave : goal.invariant_of-wave
invariant_of-wave g c =
    let old = c.args.self in
    let after = c.run_observed-ran.new in
    let it = c.run_observed-ran.ensures in
    let many = sym (length-map after.works.items origin_of) ∙ ap {B = ℕ} length it.origins ∙ length-map old.works.items origin_of in
    record {
      none = old.none;
      room = omega (arith, old.room, many, old.works.ok.0, after.works.ok.0);
      few = omega (arith, old.few, many, old.works.ok.0, after.works.ok.0);
      of_wave = still_of_wave old.queue old.other_ends.sweepers.items after.sweepers.items old.works.items after.works.items it.origins it.tables old.of_wave;
    }
