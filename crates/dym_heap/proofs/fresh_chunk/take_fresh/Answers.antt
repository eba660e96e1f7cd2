use Rattle.std.proofs.Common.{length, ap, arith}
use Rattle.dym_heap.specs.Shelves.{ShelfMeaning}
use Rattle.dym_heap.proofs.Taking as taking
use Rattle.dym_heap.proofs.fresh_chunk.take_fresh.Goals as goal

pub returns-in-Some : goal.returns-in-Some
returns-in-Some g c =
    let took = taking.took_first c.args.class.exp c.args.len c.requires.tidy c.in-Some.ensures.valid_shelf c.in-Some.ensures.taken c.in-Some.ensures.first in
    let same = ap (λ (s : ShelfMeaning). length s.held_ids) c.in-Some.ensures.taken in
    let holds = took.held in
    let within = c.requires.tidy.valid_shelf.within in
    record { answer = (omega arith, took.index); after = took.state; keeps = took.keeps; tidy = took.tidy }

pub returns-then-held-quota-clause-answer : goal.returns-then-held-quota-clause-answer
returns-then-held-quota-clause-answer g c =
    let more = taking.held_full c.args.class.exp c.requires.tidy c.in_default.ensures.first c.args.class.least c.args.class.most in
    let a = ap (λ (s : ShelfMeaning). length s.held_ids) c.in_default.ensures.taken in
    let b = ap (λ (s : ShelfMeaning). s.quota) c.in_default.ensures.taken in
    omega arith

pub unreachable-requires : goal.unreachable-requires
unreachable-requires g c =
    taking.grown_free c.args.class.exp c.requires.tidy (taking.grown_from c.args.class.exp c.in_default.ensures.taken c.add_area.ensures.added) c.args.class.least c.args.class.most c.in_default-take_chunk.ensures.first

pub returns : goal.returns
returns g c =
    let grown = taking.grown_from c.args.class.exp c.in_default.ensures.taken c.add_area.ensures.added in
    let took =
    taking.took_grown c.args.class.exp c.requires.tidy grown c.args.class.least c.args.class.most c.args.len c.in-Some-take_chunk.ensures.valid_shelf c.in-Some-take_chunk.ensures.taken c.in_default.ensures.first
    c.in-Some-take_chunk.ensures.first in
    let holds = took.held in
    let within = took.tidy.valid_shelf.within in
    let keeps = took.keeps in
    let quota = keeps.quota in
    record { answer = (omega arith, took.index); after = took.state; keeps = keeps; tidy = took.tidy }
