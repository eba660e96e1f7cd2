use Rattle.std.proofs.Common.{ap, ◌∙◌, ◌+◌, ◌-◌, ◌*◌, drop, arith, refl, length-take}
use Rattle.dym_base.specs.Numbers.{size}
use Rattle.dym_heap.proofs.Sizes.{per_fits}
use Rattle.dym_heap.proofs.Loads as loads
use Rattle.dym_heap.proofs.chunk_load.load_range.Goals as goal

pub next_set-requires : goal.next_set-requires
next_set-requires g c =
    let top = c.loop-start.invariant.range.high in
    let l = c.requires.within in
    let few = per_fits c.requires.valid.least in
    omega arith

pub loop-start-init : goal.loop-start-init
loop-start-init g c = record { valid = c.requires.valid; range = loads.range_none c.args.area.now c.args.wanted.now c.args.first c.args.end c.args.bytes.now c.requires.valid c.requires.within c.requires.len (let l = c.requires.some in omega arith) }

pub run_end-requires-clause-within : goal.run_end-requires-clause-within
run_end-requires-clause-within g c =
    let before = c.if-start-end.false in
    let l = c.requires.within in
    let few = per_fits c.requires.valid.least in
    omega arith

pub overflow_mul-at : goal.overflow_mul-at
overflow_mul-at g c = let sizes = loads.range_sizes c.args.area.now c.args.wanted.now c.args.first c.args.end c.args.bytes.now c.requires.valid c.requires.within c.requires.len c.min-stop.result c.loop-start.invariant.range c.in-Some.ensures (let m = c.min-stop.ensures in let a = c.run_end.ensures.after in let b = c.if-start-end.false in omega arith) (let m = c.min-stop.ensures in omega arith) (λ k low high. let m = c.min-stop.ensures in c.run_end.ensures.run k low (omega arith)) (c.size-size.ensures ∙ ap size c.class.ensures) in let a = sizes.0 in let b = sizes.1 in (let room = loads.range_room c.args.area.now c.args.wanted.now c.args.first c.args.end c.args.bytes.now c.requires.valid c.requires.within c.requires.len c.size-size.result (c.size-size.ensures ∙ ap size c.class.ensures) in record { fits = omega arith })

pub overflow_mul-len : goal.overflow_mul-len
overflow_mul-len g c = let sizes = loads.range_sizes c.args.area.now c.args.wanted.now c.args.first c.args.end c.args.bytes.now c.requires.valid c.requires.within c.requires.len c.min-stop.result c.loop-start.invariant.range c.in-Some.ensures (let m = c.min-stop.ensures in let a = c.run_end.ensures.after in let b = c.if-start-end.false in omega arith) (let m = c.min-stop.ensures in omega arith) (λ k low high. let m = c.min-stop.ensures in c.run_end.ensures.run k low (omega arith)) (c.size-size.ensures ∙ ap size c.class.ensures) in let a = sizes.0 in let b = sizes.1 in record { fits = omega arith }

pub overflow_add-at : goal.overflow_add-at
overflow_add-at g c = let sizes = loads.range_sizes c.args.area.now c.args.wanted.now c.args.first c.args.end c.args.bytes.now c.requires.valid c.requires.within c.requires.len c.min-stop.result c.loop-start.invariant.range c.in-Some.ensures (let m = c.min-stop.ensures in let a = c.run_end.ensures.after in let b = c.if-start-end.false in omega arith) (let m = c.min-stop.ensures in omega arith) (λ k low high. let m = c.min-stop.ensures in c.run_end.ensures.run k low (omega arith)) (c.size-size.ensures ∙ ap size c.class.ensures) in let a = sizes.0 in let b = sizes.1 in (let room = loads.range_room c.args.area.now c.args.wanted.now c.args.first c.args.end c.args.bytes.now c.requires.valid c.requires.within c.requires.len c.size-size.result (c.size-size.ensures ∙ ap size c.class.ensures) in record { fits = omega arith })

pub slice_bounds-load_run-end : goal.slice_bounds-load_run-end
slice_bounds-load_run-end g c = let sizes = loads.range_sizes c.args.area.now c.args.wanted.now c.args.first c.args.end c.args.bytes.now c.requires.valid c.requires.within c.requires.len c.min-stop.result c.loop-start.invariant.range c.in-Some.ensures (let m = c.min-stop.ensures in let a = c.run_end.ensures.after in let b = c.if-start-end.false in omega arith) (let m = c.min-stop.ensures in omega arith) (λ k low high. let m = c.min-stop.ensures in c.run_end.ensures.run k low (omega arith)) (c.size-size.ensures ∙ ap size c.class.ensures) in let a = sizes.0 in let b = sizes.1 in omega arith

pub load_run-requires : goal.load_run-requires
load_run-requires g c =
    let sizes = loads.range_sizes c.args.area.now c.args.wanted.now c.args.first c.args.end c.args.bytes.now c.requires.valid c.requires.within c.requires.len c.min-stop.result c.loop-start.invariant.range c.in-Some.ensures (let m = c.min-stop.ensures in let a = c.run_end.ensures.after in let b = c.if-start-end.false in omega arith) (let m = c.min-stop.ensures in omega arith) (λ k low high. let m = c.min-stop.ensures in c.run_end.ensures.run k low (omega arith)) (c.size-size.ensures ∙ ap size c.class.ensures) in let a = sizes.0 in let b = sizes.1 in
    let e = ap (λ x. c.in-Some.start * size x) (loads.range_exponent c.args.area.now c.args.wanted.now c.args.first c.args.end c.args.bytes.now c.requires.valid c.requires.within c.requires.len c.min-stop.result c.loop-start.invariant.range c.in-Some.ensures (let m = c.min-stop.ensures in let a = c.run_end.ensures.after in let b = c.if-start-end.false in omega arith) (let m = c.min-stop.ensures in omega arith) (λ k low high. let m = c.min-stop.ensures in c.run_end.ensures.run k low (omega arith))) in
    let s = ap (λ x. c.in-Some.start * x) (c.size-size.ensures ∙ ap size c.class.ensures) in
    let at = (c.in-Some.start - c.args.first) * c.size-size.result in
    let len = (c.min-stop.result - c.in-Some.start) * c.size-size.result in
    omega (arith, length-take (at + len - at) (drop at c.args.bytes.now))

pub loop-start-preserved : goal.loop-start-preserved
loop-start-preserved g c = record {
  valid = c.load_run.ensures.valid;
  range = loads.range_more c.args.area.now c.args.wanted.now c.args.first c.args.end c.args.bytes.now c.requires.valid c.requires.within c.requires.len c.min-stop.result c.loop-start.invariant.range c.in-Some.ensures (let m = c.min-stop.ensures in let a = c.run_end.ensures.after in let b = c.if-start-end.false in omega arith) (let m = c.min-stop.ensures in omega arith) (λ k low high. let m = c.min-stop.ensures in c.run_end.ensures.run k low (omega arith)) (c.size-size.ensures ∙ ap size c.class.ensures) refl refl refl c.loop-start.invariant.valid.content_len c.load_run.ensures.after;
}

pub returns-then-start-end-clause-loaded : goal.returns-then-start-end-clause-loaded
returns-then-start-end-clause-loaded g c =
    loads.range_all c.args.area.now c.args.wanted.now c.args.first c.args.end c.args.bytes.now c.requires.valid c.requires.within c.requires.len c.loop-start.invariant.range (λ k low high. let before = c.if-start-end.true in c.in-Some.ensures.least k low (omega arith))

pub returns-clause-loaded : goal.returns-clause-loaded
returns-clause-loaded g c =
    loads.range_all c.args.area.now c.args.wanted.now c.args.first c.args.end c.args.bytes.now c.requires.valid c.requires.within c.requires.len c.loop-start.invariant.range (λ k low high. c.in_default.ensures k low)
