use Rattle.std.proofs.Common.{ap, sym, ◌∙◌, ◌-◌, ◌*◌, arith}
use Rattle.dym_base.specs.Numbers.{size, per}
use Rattle.dym_heap.proofs.Sizes.{per_fits}
use Rattle.dym_heap.proofs.Parts.{length-part_of}
use Rattle.dym_heap.proofs.Loads as loads
use Rattle.dym_heap.proofs.chunk_load.load_runs.Goals as goal

pub next_set-requires : goal.next_set-requires
next_set-requires g c = let small = c.loop-start.invariant.small in let most = per_fits c.requires.valid.least in omega arith

pub run_end-end-requires-clause-within : goal.run_end-end-requires-clause-within
run_end-end-requires-clause-within g c = loads.first_below _ c.requires.valid.least c.requires.body c.in-Some.ensures.is_set

pub overflow_mul-len : goal.overflow_mul-len
overflow_mul-len g c = let fits = loads.one_size c.requires.wanted c.requires.valid c.requires.body c.loop-start.invariant.loaded c.in-Some.ensures c.run_end-end.ensures.after c.run_end-end.ensures.run _ (c.size-size.ensures ∙ ap size c.class.ensures) in omega arith

pub slice_bounds-load_range-end : goal.slice_bounds-load_range-end
slice_bounds-load_range-end g c = let fits = loads.one_fits c.requires.wanted c.requires.valid c.requires.body c.loop-start.invariant.loaded c.in-Some.ensures c.run_end-end.ensures.after c.run_end-end.ensures.run (c.size-size.ensures ∙ ap size c.class.ensures) c.loop-start.invariant.within in omega arith

pub load_range-requires-clause-within : goal.load_range-requires-clause-within
load_range-requires-clause-within g c =
    let top = loads.one_end c.requires.wanted c.requires.valid c.requires.body c.loop-start.invariant.loaded c.in-Some.ensures c.run_end-end.ensures.after c.run_end-end.ensures.run in
    let same = ap per (loads.one_exponent c.requires.wanted c.requires.valid c.requires.body c.loop-start.invariant.loaded c.in-Some.ensures c.run_end-end.ensures.after c.run_end-end.ensures.run) in
    omega arith

pub load_range-requires-clause-len : goal.load_range-requires-clause-len
load_range-requires-clause-len g c =
    let fits = loads.one_fits c.requires.wanted c.requires.valid c.requires.body c.loop-start.invariant.loaded c.in-Some.ensures c.run_end-end.ensures.after c.run_end-end.ensures.run (c.size-size.ensures ∙ ap size c.class.ensures) c.loop-start.invariant.within in
    length-part_of c.args.body.now c.loop-start.at ((c.run_end-end.result - c.in-Some.start) * c.size-size.result) fits
    ∙ ap (λ s. (c.run_end-end.result - c.in-Some.start) * s) (c.size-size.ensures ∙ ap size c.class.ensures)
    ∙ sym (ap (λ e. (c.run_end-end.result - c.in-Some.start) * size e) (loads.one_exponent c.requires.wanted c.requires.valid c.requires.body c.loop-start.invariant.loaded c.in-Some.ensures c.run_end-end.ensures.after c.run_end-end.ensures.run))

pub loop-start-preserved : goal.loop-start-preserved
loop-start-preserved g c = record {
  small = loads.one_end c.requires.wanted c.requires.valid c.requires.body c.loop-start.invariant.loaded c.in-Some.ensures c.run_end-end.ensures.after c.run_end-end.ensures.run;
  within = loads.one_fits c.requires.wanted c.requires.valid c.requires.body c.loop-start.invariant.loaded c.in-Some.ensures c.run_end-end.ensures.after c.run_end-end.ensures.run (c.size-size.ensures ∙ ap size c.class.ensures) c.loop-start.invariant.within;
  valid = c.load_range.ensures.valid;
  loaded = loads.one_more c.requires.wanted c.requires.valid c.requires.body c.loop-start.invariant.loaded c.in-Some.ensures c.run_end-end.ensures.after c.run_end-end.ensures.run _ _ (c.size-size.ensures ∙ ap size c.class.ensures) c.load_range.ensures.loaded;
}

pub returns-clause-loaded : goal.returns-clause-loaded
returns-clause-loaded g c = λ f is.
    loads.loaded_all _ c.args.area.now c.args.packed.now c.args.wanted.now c.args.body.now f is c.requires.wanted c.requires.valid (c.loop-start.invariant.loaded f is) (λ k low. loads.clear_too _ _ k (c.requires.wanted k) (c.in_default.ensures k low))
