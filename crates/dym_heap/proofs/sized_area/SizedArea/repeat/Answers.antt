use Rattle.std.proofs.Common.{arith, rules, ◌+◌, ◌≤◌, length, take, get_or, None, refl, subst, sym, length-take-le}
use Rattle.dym_heap.specs.Shelves.{FitsIn}
use Rattle.dym_heap.proofs.Fills.{fits_next, fill_next, fits_small}
use Rattle.dym_heap.proofs.sized_area.SizedArea.repeat.Goals as goal

pub overflow_add-at : goal.overflow_add-at
overflow_add-at g c =
    let fits = fits_next c.args.self.now c.loop-done.self c.args.i c.args.at c.loop-done.done 0 c.args.len _ c.requires.within c.loop-done.invariant.is (let f = c.loop-done.invariant.fits in omega arith) in
    let small = fits_small c.loop-done.self c.args.i (c.args.at + c.loop-done.done + 0) c.loop-done.invariant.valid fits in
    search rules

pub write-requires-in-loop-done-clause-within : goal.write-requires-in-loop-done-clause-within
write-requires-in-loop-done-clause-within g c =
    let m : c.min-more.result ≤ length c.args.block.now = search rules in
    let n : c.loop-done.done + c.min-more.result ≤ c.args.len = search rules in
    subst (λ k. FitsIn (get_or c.loop-done.self.chunks c.args.i None) (c.args.at + c.loop-done.done + k)) (sym (length-take-le c.min-more.result c.args.block.now m))
    (fits_next c.args.self.now c.loop-done.self c.args.i c.args.at c.loop-done.done c.min-more.result c.args.len _ c.requires.within c.loop-done.invariant.is n)

pub loop-done-preserved : goal.loop-done-preserved
loop-done-preserved g c =
    let m : c.min-more.result ≤ length c.args.block.now = search rules in
    let n : c.loop-done.done + c.min-more.result ≤ c.args.len = search rules in
    record {
      some = (let s = c.loop-done.invariant.some in omega arith);
      fits = n;
      is = fill_next c.args.self.now c.loop-done.self c.write-in-loop-done.new.self c.args.i c.args.at c.loop-done.done c.min-more.result c.args.len c.args.block.now (take c.min-more.result c.args.block.now)
          c.requires.block m refl c.requires.within n c.loop-done.invariant.is c.write-in-loop-done.ensures.written;
      valid = c.write-in-loop-done.ensures.valid;
    }
