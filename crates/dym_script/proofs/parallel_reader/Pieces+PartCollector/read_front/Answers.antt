use Rattle.std.proofs.Common.{◌+◌, ◌∙◌, arith}
use Rattle.dym_script.specs.Parts.{KeepsParts}
use Rattle.dym_script.specs.WholeScripts.{StandsAt}
use Rattle.dym_script.proofs.KeepLines.{next_bad}
use Rattle.dym_script.proofs.parallel_reader.Pieces+PartCollector.read_front.Goals as goal

pub loop-self-preserved : goal.loop-self-preserved
loop-self-preserved c = record {
  ready = c.in-Ok.ensures.ready;
  short = omega (arith, c.in-Ok.ensures.shorter, c.loop-self.invariant.short);
  read = λ old stands.
      let (mid, between, reads) = c.loop-self.invariant.read old stands in
      let (new, after, more) = c.in-Ok.ensures.read mid between in
      (new, after, λ others. reads others ∙ more others);
}

pub returns-in-Err-Bad-clause-read : goal.returns-in-Err-Bad-clause-read
returns-in-Err-Bad-clause-read c old stands others =
    let l = c.loop-self in
    let (mid, between, reads) = l.invariant.read old stands in
    reads others
    ∙ next_bad (StandsAt KeepsParts l.self) (StandsAt KeepsParts c.read_exactly.new.self) (l.number + 1) l.rest.now c.in-Err-Bad.field-0 c.in-Err-Bad.kind _
    c.in-Err-Bad.field-0-is c.in-Err-Bad.kind-is c.in-Err-Bad.ensures.read mid between others
