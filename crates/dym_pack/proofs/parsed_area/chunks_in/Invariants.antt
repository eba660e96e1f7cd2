use Rattle.std.proofs.Common.{◌≡◌, ℕ, ◌+◌, ◌-◌, ◌≤◌, length, drop}
use Rattle.dym_base.specs.declared.command.Version.TheVariants.{Two}
use Rattle.dym_pack.specs.Contents.{IsBody}
use Rattle.dym_pack.proofs.parsed_area.chunks_in.Given as goal

abbrev pub invariant-loop-i : goal.invariant-loop-i
invariant-loop-i l = record {
  within : l.at ≤ length l.bytes;
  done : IsBody Two l.class.exp l._i l.bytes l.at;
  left : (len : ℕ) → IsBody Two l.class.exp l.count l.bytes len → (more : ℕ) × IsBody Two l.class.exp (l.count - l._i) (drop l.at l.bytes) more × (len ≡ l.at + more);
}
