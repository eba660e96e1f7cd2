use Rattle.std.proofs.Common.{◌≡◌, ℕ, ◌<◌, map, length, All, IsErrAnd, ap, sym, subst, ◌∙◌, arith}
use Rattle.std.proofs.lemmas.List.{length-map}
use Rattle.dym_wave.specs.Consumers.{HandsOverFirst}
use Rattle.dym_wave.specs.Works.{WorkMeaning, origin_of}
use Rattle.dym_wave.specs.declared.run_fail.RunFail.TheVariants.{Memory}
use Rattle.dym_wave.proofs.HandingOver.{wave_wanting}
use Rattle.dym_wave.proofs.WaveParts.{works_can, works_handed_over, works_text}
use Rattle.dym_wave.proofs.object_queue.run_next.Goals.{in-Ok-ran, in-Err-ran}
use Rattle.dym_wave.proofs.object_queue.run_next.Goals as goal

pub hand_over-handed_over-requires-clause-text : goal.hand_over-handed_over-requires-clause-text
hand_over-handed_over-requires-clause-text g c =
    let old = c.args.object_queue.now in
    let same = ap (map origin_of) c.deref.ensures.value ∙ c.run-wave.ensures.origins in
    let text = works_text old.options c.MAKES_TEXT.result old.parts.items c.open_next.new.self.parts.items _ c.deref.result.now c.in-Ok.ensures.made same in
    subst (λ t. All (λ (w : WorkMeaning). w.origin.makes_text ≡ t) c.deref.result.now) c.MAKES_TEXT.ensures text

pub hand_over-handed_over-requires-clause-can : goal.hand_over-handed_over-requires-clause-can
hand_over-handed_over-requires-clause-can g c =
    let old = c.args.object_queue.now in
    let t = g.C.Consumer in
    let same = ap (map origin_of) c.deref.ensures.value ∙ c.run-wave.ensures.origins in
    works_can old.options _ old.parts.items c.open_next.new.self.parts.items _ c.deref.result.now c.in-Ok.ensures.made same t.can_take t.takes
    c.args.output.now c.requires.can

pub returns-clause-handed_over : goal.returns-clause-handed_over
returns-clause-handed_over g c =
    let old = c.args.object_queue.now in
    let report = old.options.report in
    let before = old.parts.items in
    let after = c.open_next.new.self.parts.items in
    let start = c.args.output.now in
    let end = c.match-ran.output in
    let t = g.C.Consumer in
    let made = c.in-Ok.wave.works in
    elim c.match-ran.branch [
      | in-Ok-ran w ↦ (
          let works = w.deref.result.now in
          let same = ap (map origin_of) w.deref.ensures.value ∙ c.run-wave.ensures.origins in
          let long = ap {B = ℕ} length same in
          let some : 0 < length works = omega (arith, c.in-Ok.ensures.some, made.ok.0, long, length-map works origin_of, length-map made.items origin_of) in
          let over = works_handed_over old.options _ before after made.items works c.in-Ok.ensures.made same t.can_take t.takes t.fails start
          w.hand_over-handed_over.new.output w.hand_over-handed_over.result some w.hand_over-handed_over.ensures in
          subst (λ r. HandsOverFirst t.takes t.fails report before after start end r) (sym w.handed_over-is)
          (subst (λ o. HandsOverFirst t.takes t.fails report before after start o w.hand_over-handed_over.result) (sym w.output-is) over))
      | in-Err-ran w ↦
          subst (λ o. HandsOverFirst t.takes t.fails report before after start o c.match-ran.handed_over) (sym w.output-is)
          (wave_wanting t.takes t.fails report before after start c.match-ran.handed_over
          (subst (λ r. IsErrAnd r (λ e. e ≡ Memory)) (sym w.handed_over-is) w.from-in-Err-ran.ensures))
    ]
