use Rattle.std.proofs.Common.{ap, sym, ◌∙◌, ◌+◌, arith, cond, length, set}
use Rattle.std.specs.List.{between}
use Rattle.dym_base.specs.Numbers.{per}
use Rattle.dym_heap.proofs.Sizes.{per_fits}
use Rattle.dym_heap.proofs.Loads as loads
use Rattle.dym_heap.proofs.Skips as skips
use Rattle.dym_heap.proofs.chunk_load.load_sized.Goals as goal

pub next_set-requires : goal.next_set-requires
next_set-requires g c = let small = c.loop-i.invariant.small in let most = per_fits c.requires.valid.least in omega arith

pub packed_between-before-requires-clause-order : goal.packed_between-before-requires-clause-order
packed_between-before-requires-clause-order g c = c.in-Some.ensures.at_least

pub packed_between-before-requires-clause-within : goal.packed_between-before-requires-clause-within
packed_between-before-requires-clause-within g c =
    let below = loads.first_below _ c.requires.valid.least c.requires.body (c.requires.wanted c.in-Some.i c.in-Some.ensures.is_set) in
    omega arith

pub after_chunks-place-requires-clause-chunks : goal.after_chunks-place-requires-clause-chunks
after_chunks-place-requires-clause-chunks g c = skips.has_passed c.requires.wanted c.requires.valid c.loop-i.invariant.loaded c.in-Some.ensures _ c.packed_between-before.ensures c.requires.body

pub slice_bounds-number_in-end : goal.slice_bounds-number_in-end
slice_bounds-number_in-end g c =
    let before = skips.loaded_before c.requires.wanted c.requires.valid c.loop-i.invariant.loaded c.in-Some.ensures _ c.packed_between-before.ensures c.after_chunks-place.ensures.after in
    let here = skips.set_here c.args.packed.now c.in-Some.i (c.requires.wanted c.in-Some.i c.in-Some.ensures.is_set) in
    let fits = loads.two_four c.requires.wanted c.requires.valid c.requires.body before here c.after_chunks-place.ensures.within in
    omega arith

pub slice_bounds-load_chunk-end : goal.slice_bounds-load_chunk-end
slice_bounds-load_chunk-end g c =
    let before = skips.loaded_before c.requires.wanted c.requires.valid c.loop-i.invariant.loaded c.in-Some.ensures _ c.packed_between-before.ensures c.after_chunks-place.ensures.after in
    let here = skips.set_here c.args.packed.now c.in-Some.i (c.requires.wanted c.in-Some.i c.in-Some.ensures.is_set) in
    let fits = loads.two_whole c.requires.wanted c.requires.valid c.requires.body before here _ c.number_in-len.ensures c.after_chunks-place.ensures.within in
    omega arith

pub load_chunk-requires-clause-chunk : goal.load_chunk-requires-clause-chunk
load_chunk-requires-clause-chunk g c =
    let before = skips.loaded_before c.requires.wanted c.requires.valid c.loop-i.invariant.loaded c.in-Some.ensures _ c.packed_between-before.ensures c.after_chunks-place.ensures.after in
    let here = skips.set_here c.args.packed.now c.in-Some.i (c.requires.wanted c.in-Some.i c.in-Some.ensures.is_set) in
    let top = loads.two_end c.requires.wanted c.requires.valid c.requires.body before here in
    let same = ap per (loads.two_exponent c.requires.wanted c.requires.valid c.requires.body before here) in
    omega arith

pub load_chunk-requires-clause-fits : goal.load_chunk-requires-clause-fits
load_chunk-requires-clause-fits g c =
    let before = skips.loaded_before c.requires.wanted c.requires.valid c.loop-i.invariant.loaded c.in-Some.ensures _ c.packed_between-before.ensures c.after_chunks-place.ensures.after in
    let here = skips.set_here c.args.packed.now c.in-Some.i (c.requires.wanted c.in-Some.i c.in-Some.ensures.is_set) in
    loads.two_room c.requires.wanted c.requires.valid c.requires.body before here _ c.number_in-len.ensures

pub loop-i-preserved : goal.loop-i-preserved
loop-i-preserved g c =
    let before = skips.loaded_before c.requires.wanted c.requires.valid c.loop-i.invariant.loaded c.in-Some.ensures _ c.packed_between-before.ensures c.after_chunks-place.ensures.after in
    let here = skips.set_here c.args.packed.now c.in-Some.i (c.requires.wanted c.in-Some.i c.in-Some.ensures.is_set) in
    let top = loads.two_end c.requires.wanted c.requires.valid c.requires.body before here in
    let same = ap per (loads.two_exponent c.requires.wanted c.requires.valid c.requires.body before here) in
    let wanted = c.in-Some.ensures.is_set in
    let fits = loads.two_room c.requires.wanted c.requires.valid c.requires.body before here _ c.number_in-len.ensures in
    let range = loads.loaded_chunk c.loop-i.area c.load_chunk.new.area c.args.wanted.now c.in-Some.i _ c.loop-i.invariant.valid (omega arith) fits wanted c.load_chunk.ensures.loaded in
    record {
      small = top;
      within = loads.two_whole c.requires.wanted c.requires.valid c.requires.body before here _ c.number_in-len.ensures c.after_chunks-place.ensures.within;
      valid = c.load_chunk.ensures.valid;
      loaded = loads.two_more c.requires.wanted c.requires.valid c.requires.body before here _ _ c.number_in-len.ensures range;
      noted = λ f is.
          let below = loads.first_below _ c.requires.valid.least c.requires.body here.is_set in
          let whole = c.loop-i.lengths.whole in
          loads.two_noted c.requires.wanted c.requires.valid c.requires.body before here c.loop-i.lengths.table.items c.args.lengths.now.table.items (omega arith) c.number_in-len.ensures (loads.two_bytes c.requires.wanted c.requires.valid c.requires.body before here _ c.number_in-len.ensures) (c.load_chunk.ensures.noted ∙ sym (ap (λ b. cond b (set c.loop-i.lengths.table.items c.in-Some.i (length (between (c.after_chunks-place.result + 4) (c.after_chunks-place.result + 4 + c.number_in-len.result) c.args.body.now))) c.loop-i.lengths.table.items) wanted)) is
          (loads.noted_on c.args.lengths.now.table.items c.loop-i.lengths.table.items c.args.wanted.now f c.loop-i.from c.in-Some.i (c.loop-i.invariant.noted f is) c.in-Some.ensures.at_least c.in-Some.ensures.least);
    }

pub returns-clause-loaded : goal.returns-clause-loaded
returns-clause-loaded g c = λ f is.
    loads.loaded_all _ c.args.area.now c.args.packed.now c.args.wanted.now c.args.body.now f is c.requires.wanted c.requires.valid (c.loop-i.invariant.loaded f is) c.in_default.ensures

pub returns-clause-noted : goal.returns-clause-noted
returns-clause-noted g c = λ f is.
    loads.noted_all c.args.lengths.now.table.items c.loop-i.lengths.table.items c.args.wanted.now f c.loop-i.from (c.loop-i.invariant.noted f is) c.in_default.ensures
