use Rattle.std.proofs.Common.{◌≡◌, ◌+◌, ◌≤◌, ◌++◌, ◌∷◌, [], ℕ, List, length, drop, get_or, Bor, Ok, Err, IfOk}
use Rattle.std.proofs.Common.{sym, ap, subst, ◌∙◌, arith, rules, length-append, append_assoc}
use Rattle.std.proofs.lemmas.List.{drop_all}
use Rattle.std.proofs.lemmas.List.Sums.{sum_by-drop_more}
use Rattle.dym_script.specs.ReadAheads.{IsAhead}
use Rattle.dym_script.specs.Parts.{KeepsParts}
use Rattle.dym_script.specs.Scripts.{read_lines}
use Rattle.dym_script.specs.WholeScripts.{StandsAt}
use Rattle.dym_script.proofs.KeepLines.{goes_on}
use Rattle.dym_script.proofs.AheadTexts.{next_at, next_within, all_lines, part_more, part_failed}
use Rattle.dym_script.proofs.parallel_reader.Pieces+PartCollector.take_all.Goals as goal

pub take_ahead-requires-clause-ahead : goal.take_ahead-requires-clause-ahead
take_ahead-requires-clause-ahead c =
    let l = c.loop-ahead in
    let parts = c.args.parts.now.items in
    let all = c.args.all.items in
    let rest = l.ahead-iterator.rest.items in
    let others = c.next.new.self.rest.items in
    let x = c.in-Some.ahead in
    let cut = c.in-Some.ensures.steps.0 in
    let part = c.index.result.now in
    let objects = c.args.self.now.reader.objects.items in
    let inside = next_within all l.yielded rest others x parts l.place l.invariant.all cut l.invariant.place c.requires.len in
    let here = next_at all l.yielded rest others x x l.place l.invariant.all cut l.invariant.place ∙ c.in_ok-ahead.was in
    let is = subst (λ a. IfOk a (IsAhead objects (get_or parts l.place part).now)) here (c.requires.each l.place part x inside) in
    (objects, l.invariant.goes, subst (λ (p : Bor (List ℕ)). IsAhead objects p.now c.in_ok-ahead.field-0) (sym c.index.ensures) is)

pub returns-in_err-take_ahead-clause-read : goal.returns-in_err-take_ahead-clause-read
returns-in_err-take_ahead-clause-read c =
    let l = c.loop-ahead in
    let parts = c.args.parts.now.items in
    let rest = l.ahead-iterator.rest.items in
    let others = c.next.new.self.rest.items in
    let cut = c.in-Some.ensures.steps.0 in
    let old = c.args.self.now in
    let mid = l.self in
    let new = c.take_ahead.new.self in
    let Before = StandsAt KeepsParts old in
    let Mid = StandsAt KeepsParts mid in
    let After = StandsAt KeepsParts new in
    let inside = next_within c.args.all.items l.yielded rest others c.in-Some.ahead parts l.place l.invariant.all cut l.invariant.place c.requires.len in
    let failed = c.in_err-take_ahead.field-0.0 in
    let reads = part_more Before Mid After old.number mid.number new.number parts l.place c.index.result.now (Err failed) inside c.index.ensures l.invariant.read
    c.in_err-take_ahead.ensures.read in
    let passed = c.from_residual-in_err-take_ahead in
    part_failed Before After old.number new.number (all_lines parts) (all_lines (drop (l.place + 1) parts)) passed.result failed reads passed.ensures.0 passed.ensures.1

pub loop-ahead-preserved : goal.loop-ahead-preserved
loop-ahead-preserved c =
    let l = c.loop-ahead in
    let parts = c.args.parts.now.items in
    let rest = l.ahead-iterator.rest.items in
    let others = c.next.new.self.rest.items in
    let x = c.in-Some.ahead in
    let cut = c.in-Some.ensures.steps.0 in
    let part = c.index.result.now in
    let old = c.args.self.now in
    let mid = l.self in
    let new = c.take_ahead.new.self in
    let took = c.in_ok-take_ahead.ensures in
    let Before = StandsAt KeepsParts old in
    let Mid = StandsAt KeepsParts mid in
    let After = StandsAt KeepsParts new in
    let inside = next_within c.args.all.items l.yielded rest others x parts l.place l.invariant.all cut l.invariant.place c.requires.len in
    let left = sum_by-drop_more (λ (p : Bor (List ℕ)). length p.now) parts l.place part inside in
    record {
      place = omega (arith, l.invariant.place, length-append l.yielded (x ∷ []));
      all = l.invariant.all ∙ ap (λ a. l.yielded ++ a) cut ∙ sym (append_assoc l.yielded (x ∷ []) others);
      ready = took.ready;
      goes = goes_on old.reader.objects.items mid.reader.objects.items new.reader.objects.items l.invariant.goes took.grows;
      short = omega (arith, l.invariant.short, took.number, left, ap (λ (p : Bor (List ℕ)). length p.now) c.index.ensures);
      read = part_more Before Mid After old.number mid.number new.number parts l.place part (Ok tt) inside c.index.ensures l.invariant.read took.read;
    }

pub returns-clause-read : goal.returns-clause-read
returns-clause-read c old stands =
    let l = c.loop-ahead in
    let parts = c.args.parts.now.items in
    let rest = l.ahead-iterator.rest.items in
    let none : length rest ≡ 0 = search rules in
    let past : length parts ≤ l.place = omega (arith, none, c.requires.len, l.invariant.place, ap length l.invariant.all, length-append l.yielded rest) in
    let (new, after, reads) = l.invariant.read old stands in
    (new, after, λ others. reads others ∙ ap (λ ps. read_lines new (l.self.number + 1) (all_lines ps ++ others)) (drop_all l.place parts past))
