-- One line more stands on the page.
use Rattle.std.proofs.Common.{◌≡◌, ◌+◌, ◌*◌, ◌/◌, ◌%◌, ◌≤◌, ◌++◌, take, ap, ◌∙◌, arith}
use Rattle.dym_gen.specs.Scripts.{command_lines}
use Rattle.dym_gen.proofs.Lines.{commands_more}
use Rattle.dym_gen.proofs.script.put_commands.Goals as goal

pub loop-i-preserved : goal.loop-i-preserved
loop-i-preserved c =
    let l = c.loop-i in
    let k = c.args.first + l._i in
    let inv = l.invariant in
    let next : k + 1 ≡ c.args.first + (l._i + 1) = omega arith in
    let short : c.put_line-end.result ≤ 40 * (l._i + 1) = omega (arith, inv.0, c.put_line-end.ensures.short) in
    let put = c.put_line-end.ensures.text c.args.objects k inv.1 inv.2 in
    let state = c.put_line-end.ensures.state c.args.objects k inv.1 inv.2 in
    let new = take c.put_line-end.result c.put_line-end.new.page in
    let y = c.put_line-end.new.draws.state in (
      short,
      c.next-place.ensures.object k inv.1 ∙ ap (λ n. n % c.args.objects) next,
      c.next-place.ensures.number k inv.1 inv.2 ∙ ap (λ n. n / c.args.objects) next,
      λ n. commands_more c.args.objects c.args.first c.args.draws.now.state l._i n k l.current.state y (take l.end l.page) new (inv.3 (n + 1)) put state
          ∙ ap (λ m. new ++ command_lines c.args.objects n m y) next,
    )
