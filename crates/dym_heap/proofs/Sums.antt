-- How many bytes a chunk has at most.
use Rattle.std.proofs.Common.{◌≡◌, ℕ, ◌^◌, ◌≤◌, Some, List, length, is_some, ap, arith}
use Rattle.std.specs.FinMap.{get}
use Rattle.std.proofs.Math.Nat.{pow-le-pow_right}
use Rattle.dym_base.specs.Numbers.{exponent_of}
use Rattle.dym_base.specs.declared.command.Version.{Version}
use Rattle.dym_base.specs.declared.command.Version.TheVariants.{One, Two}
use Rattle.dym_base.proofs.Classes.{cls_class}
use Rattle.dym_heap.specs.Meaning.{HeapMeaning, IsSizeOf, IsSound}

-- the length of a chunk of a class
within_class : (v : Version) (e n : ℕ) → IsSizeOf v e n → n ≤ 2 ^ e
within_class One e n is = omega arith
within_class Two e n is = (cls_class n e is).2

-- a chunk has at most the bytes of a segment
pub chunk_fits : (h : HeapMeaning) (k : ℕ) (bytes : List ℕ) → IsSound h → get h.state.live k ≡ Some bytes → length bytes ≤ 65536
chunk_fits h k bytes sound is =
    let class : exponent_of k ≤ 16 = sound.most_class k (ap is_some is) in
    let within = within_class h.version (exponent_of k) (length bytes) (sound.sized k bytes is) in
    omega (arith, within, pow-le-pow_right {n = 2} (omega arith) {i = exponent_of k} {j = 16} class)
