-- What an undo log knows of a heap.
use Rattle.std.specs.Prelude.{◌≡◌, ℕ, length, is_some, refl}
use Rattle.std.proofs.Common.{ap, ◌∙◌}
use Rattle.dym_base.specs.Laws.{IsLengthOf}
use Rattle.dym_base.specs.Numbers.{exponent_of}
use Rattle.dym_base.specs.declared.command.Version.{Version}
use Rattle.dym_base.specs.declared.command.Version.TheVariants.{One, Two}
use Rattle.dym_heap.specs.Meaning.{HeapMeaning, IsSizeOf, IsSound}
use Rattle.dym_undo.specs.Heaps.{IsWithin}

-- the second heap is the first but for its chunks and the segments that it holds
abbrev pub KeepsRest : HeapMeaning → HeapMeaning → Type 0
KeepsRest a b = b ≡ record a { state = b.state; held_ids = b.held_ids }

-- both crates say alike which lengths a class has
pub length_of : (v : Version) (e n : ℕ) → IsSizeOf v e n → IsLengthOf v e n
length_of One e n is = is
length_of Two e n is = is

pub is_within : (h : HeapMeaning) → IsSound h → IsWithin h.version h.quota h.state
is_within h s = record {
  most = s.quota_most;
  within = s.within;
  sized = λ k bytes is. (s.least_class k (ap is_some is), s.most_class k (ap is_some is), length_of h.version (exponent_of k) (length bytes) (s.sized k bytes is));
}

pub itself : (h : HeapMeaning) → KeepsRest h h
itself h = refl

pub along : (a b c : HeapMeaning) → KeepsRest a b → KeepsRest b c → KeepsRest a c
along a b c first next = next ∙ ap (λ (x : HeapMeaning). record x { state = c.state; held_ids = c.held_ids }) first

pub version_same : (a b : HeapMeaning) → KeepsRest a b → b.version ≡ a.version
version_same a b rest = ap (λ (x : HeapMeaning). x.version) rest

pub quota_same : (a b : HeapMeaning) → KeepsRest a b → b.quota ≡ a.quota
quota_same a b rest = ap (λ (x : HeapMeaning). x.quota) rest
