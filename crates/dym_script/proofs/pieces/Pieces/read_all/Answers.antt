use Rattle.std.proofs.Common.{◌≡◌, ◌+◌, ◌++◌, ◌∙◌, [], ap, length, arith}
use Rattle.std.proofs.lemmas.Bool.Decides.{nat_tests}
use Rattle.dym_base.specs.Lines.{lines_of}
use Rattle.dym_script.specs.Scripts.{read_lines}
use Rattle.dym_script.specs.WholeScripts.{StandsAt}
use Rattle.dym_script.proofs.KeepLines.{goes_on, next_bad, empty_is}
use Rattle.dym_script.proofs.pieces.Pieces.read_all.Goals as goal

pub loop-rest-preserved : goal.loop-rest-preserved
loop-rest-preserved g c = record {
  ready = c.in-Ok.ensures.ready;
  short = omega (arith, c.in-Ok.ensures.shorter, c.loop-rest.invariant.short);
  grows = goes_on _ _ _ c.loop-rest.invariant.grows c.in-Ok.ensures.grows;
  read = λ old stands.
      let (mid, between, reads) = c.loop-rest.invariant.read old stands in
      let (new, after, more) = c.in-Ok.ensures.read mid between in
      (new, after, λ others. reads others ∙ more others);
}

pub returns-in-Err-Bad-clause-read : goal.returns-in-Err-Bad-clause-read
returns-in-Err-Bad-clause-read g c old stands others =
    let keeps = g.K.Keeper.keeps in
    let l = c.loop-rest in
    let (mid, between, reads) = l.invariant.read old stands in
    reads others
    ∙ next_bad (StandsAt keeps l.self) (StandsAt keeps c.read_next.new.self) (l.number + 1) l.rest.now c.in-Err-Bad.field-0 c.in-Err-Bad.kind _
    c.in-Err-Bad.field-0-is c.in-Err-Bad.kind-is c.in-Err-Bad.ensures.read mid between others

pub returns-clause-read : goal.returns-clause-read
returns-clause-read g c old stands =
    let l = c.loop-rest in
    let zero : length l.rest.now ≡ 0 = grind (arith, nat_tests, c.is_empty.ensures, c.loop-rest-test.false) in
    let none : l.rest.now ≡ [] = empty_is l.rest.now zero in
    let (new, after, reads) = l.invariant.read old stands in
    (new, after, λ others. reads others ∙ ap (λ t. read_lines new (l.number + 1) (lines_of t ++ others)) none)

pub returns-clause-grows : goal.returns-clause-grows
returns-clause-grows g c = c.loop-rest.invariant.grows
