use Rattle.std.proofs.Common.{◌≡◌, ℕ, ◌<◌, get_or}
use Rattle.dym_ckpt.proofs.Coverings.{left_of}
use Rattle.dym_ckpt.proofs.bit_cover.are_covered.Given as goal

abbrev pub invariant-loop-q : goal.invariant-loop-q
invariant-loop-q l = (p : ℕ) → p < l.q → left_of (get_or l.used p 0) (get_or l.packed p 0) (get_or l.before p 0) ≡ 0
