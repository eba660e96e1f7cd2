use Rattle.std.proofs.Common.{ℕ, map, refl, arith, ap, sym, ◌∙◌, length, drop}
use Rattle.std.proofs.lemmas.List.{length-map}
use Rattle.std.proofs.lemmas.List.Elements.{All-same}
use Rattle.dym_script.specs.OwnCommands.{IsRunnable}
use Rattle.dym_wave.specs.Parts.{quota_of}
use Rattle.dym_wave.specs.Works.{origin_of}
use Rattle.dym_wave.proofs.QuotaRuns.{run_quotas, run_lined, all_back, lined_rest, run_length}
use Rattle.dym_wave.proofs.WaveParts.{as_many_parts}
use Rattle.dym_wave.proofs.object_queue.ObjectQueue.open_next.Goals as goal

pub open-requires-clause-each_quota : goal.open-requires-clause-each_quota
open-requires-clause-each_quota g c =
    let old = c.args.self.now in
    run_quotas old.parts.items c.deref-2.result.now old.from c.waves-end.result old.runnable (old.lined ∙ ap (drop old.from) (sym c.deref-2.ensures.value))

pub open-requires-clause-lined : goal.open-requires-clause-lined
open-requires-clause-lined g c =
    let old = c.args.self.now in
    run_lined old.parts.items c.deref-2.result.now _ old.from c.waves-end.result (omega (arith, c.waves-end.ensures.some))
    (old.lined ∙ ap (drop old.from) (sym c.deref-2.ensures.value)) refl

pub invariant_of-self : goal.invariant_of-self
invariant_of-self g c =
    let old = c.args.self.now in
    let same = c.in_err-wave.ensures.unchanged in
    record {
      runnable = All-same IsRunnable c.open.new.parts.items old.parts.items same old.runnable;
      shaped = old.shaped;
      lined = ap (map quota_of) same ∙ old.lined;
      inside = old.inside;
      fits = old.fits;
      few = old.few;
    }

pub invariant_of-self-2 : goal.invariant_of-self-2
invariant_of-self-2 g c =
    let old = c.args.self.now in
    let quotas = c.deref-2.result.now in
    let same = c.deref-2.ensures.value in
    let inside = c.waves-end.ensures.longest.inside in
    let order = c.waves-end.ensures.some in
    let works = c.in_ok-wave.wave.works in
    let left = c.open.new.parts.items in
    let made = c.in_ok-wave.ensures.made in
    record {
      runnable = all_back IsRunnable made.done left old.parts.items made.taken old.runnable;
      shaped = old.shaped;
      lined = lined_rest made.done left old.parts.items old.quotas.items old.from c.waves-end.result made.taken (omega (arith, order))
          (omega (
            arith,
            as_many_parts old.options _ old.parts.items left (map origin_of works.items) made,
            length-map works.items origin_of,
            works.ok.0,
            c.in_ok-wave.ensures.count,
            run_length quotas old.from c.waves-end.result (omega (arith, order))
                (omega (arith, inside, ap {B = ℕ} length c.deref.ensures.value, ap {B = ℕ} length same)),
          )) old.lined;
      inside = omega (arith, inside, ap length c.deref.ensures.value, old.quotas.ok.0);
      fits = old.fits;
      few = old.few;
    }
