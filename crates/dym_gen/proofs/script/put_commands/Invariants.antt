use Rattle.std.proofs.Common.{ℕ, ◌≡◌, ◌+◌, ◌*◌, ◌/◌, ◌%◌, ◌≤◌, ◌++◌, take}
use Rattle.dym_gen.specs.Scripts.{command_lines}
use Rattle.dym_gen.proofs.script.put_commands.Given as goal

abbrev pub invariant-loop-i : goal.invariant-loop-i
invariant-loop-i l =
    (l.end ≤ 40 * l._i) × (l.place.object ≡ (l.first + l._i) % l.objects) × (l.place.number ≡ (l.first + l._i) / l.objects)
    × ((n : ℕ) → command_lines l.objects (l._i + n) l.first l.initial.current.state ≡ take l.end l.page ++ command_lines l.objects n (l.first + l._i) l.current.state)
