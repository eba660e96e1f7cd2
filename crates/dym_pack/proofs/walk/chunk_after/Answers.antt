use Rattle.std.proofs.Common.{◌≡◌, suc, ◌+◌, ◌-◌, ◌≤◌, length, take, drop, ap, sym, subst, ◌∙◌, arith}
use Rattle.dym_pack.specs.ParsedAreas.{IsNth}
use Rattle.dym_pack.proofs.Walks.{here_more, here_last}
use Rattle.dym_pack.proofs.walk.chunk_after.Goals as goal

pub length_at-requires : goal.length_at-requires
length_at-requires c =
    let bytes = c.args.bytes.now in
    let left = c.args.n - c.loop-i._i - 1 in
    let more : c.args.n - c.loop-i._i ≡ suc left = omega arith in
    let x = c.requires.0 in
    let here = here_more bytes c.loop-i.at left x c.loop-i.invariant.within (subst (λ m. IsNth (drop c.loop-i.at bytes) m x) more (c.loop-i.invariant.left x c.requires.1)) in
    omega (arith, here.1.room)

pub loop-i-preserved : goal.loop-i-preserved
loop-i-preserved c =
    let bytes = c.args.bytes.now in
    let left = c.args.n - c.loop-i._i - 1 in
    let more : c.args.n - c.loop-i._i ≡ suc left = omega arith in
    let x = c.requires.0 in
    let here = here_more bytes c.loop-i.at left x c.loop-i.invariant.within (subst (λ m. IsNth (drop c.loop-i.at bytes) m x) more (c.loop-i.invariant.left x c.requires.1)) in
    let long : c.length_at.result ≡ here.0 = c.length_at.ensures ∙ here.1.long in
    record {
      within = omega (arith, here.1.room);
      left = λ y is. (
          let there = here_more bytes c.loop-i.at left y c.loop-i.invariant.within (subst (λ m. IsNth (drop c.loop-i.at bytes) m y) more (c.loop-i.invariant.left y is)) in
          let far : there.0 ≡ c.length_at.result = sym there.1.long ∙ sym c.length_at.ensures in
          let fewer : left ≡ c.args.n - (c.loop-i._i + 1) = omega arith in
          subst (λ m. IsNth (drop (c.loop-i.at + (4 + c.length_at.result)) bytes) m y) fewer (subst (λ len. IsNth (drop (c.loop-i.at + (4 + len)) bytes) left y) far there.2));
    }

pub length_at-requires-2 : goal.length_at-requires-2
length_at-requires-2 c =
    let bytes = c.args.bytes.now in
    let none : c.args.n - c.loop-i._i ≡ 0 = omega arith in
    let x = c.requires.0 in
    let here = here_last bytes c.loop-i.at x c.loop-i.invariant.within (subst (λ m. IsNth (drop c.loop-i.at bytes) m x) none (c.loop-i.invariant.left x c.requires.1)) in
    omega (arith, here.0.room)

pub slice_bounds-result-end : goal.slice_bounds-result-end
slice_bounds-result-end c =
    let bytes = c.args.bytes.now in
    let none : c.args.n - c.loop-i._i ≡ 0 = omega arith in
    let x = c.requires.0 in
    let here = here_last bytes c.loop-i.at x c.loop-i.invariant.within (subst (λ m. IsNth (drop c.loop-i.at bytes) m x) none (c.loop-i.invariant.left x c.requires.1)) in
    let long : c.length_at-2.result ≡ length x = c.length_at-2.ensures ∙ here.0.long in
    let short : c.loop-i.at + 4 + c.length_at-2.result ≤ length bytes = omega (arith, here.0.room) in
    short

pub returns : goal.returns
returns c x is =
    let bytes = c.args.bytes.now in
    let none : c.args.n - c.loop-i._i ≡ 0 = omega arith in
    let here = here_last bytes c.loop-i.at x c.loop-i.invariant.within (subst (λ m. IsNth (drop c.loop-i.at bytes) m x) none (c.loop-i.invariant.left x is)) in
    let long : c.length_at-2.result ≡ length x = c.length_at-2.ensures ∙ here.0.long in
    let n_is : c.loop-i.at + 4 + c.length_at-2.result - (c.loop-i.at + 4) ≡ length x = omega arith in
    ap (λ n. take n (drop (c.loop-i.at + 4) bytes)) n_is ∙ here.1
