use Rattle.std.proofs.Common.{ap, ◌∙◌}
use Rattle.dym_heap.specs.Meaning.{HeapMeaning}
use Rattle.dym_heap.proofs.Addresses.{begins}
use Rattle.dym_heap.proofs.address.Heap+FixedSupply.start.Goals as goal

pub returns-clause-region : goal.returns-clause-region
returns-clause-region c = (begins _ (c.supply.ensures ∙ ap (λ (x : HeapMeaning). x.origin) c.self.view_is) c.start.ensures).0

pub returns-clause-start : goal.returns-clause-start
returns-clause-start c = (begins _ (c.supply.ensures ∙ ap (λ (x : HeapMeaning). x.origin) c.self.view_is) c.start.ensures).1
