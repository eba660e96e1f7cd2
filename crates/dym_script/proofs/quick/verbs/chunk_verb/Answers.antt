use Rattle.std.proofs.Common.{◌++◌, codes, ap, ◌∙◌, refl}
use Rattle.std.proofs.lemmas.Option.{IfSome_then}
use Rattle.dym_script.specs.declared.verb.Verb.TheVariants as verb
use Rattle.dym_script.specs.Table.{Operand}
use Rattle.dym_script.proofs.Spelled.{demands, spells_end, spells_more}
use Rattle.dym_script.proofs.quick.verbs.chunk_verb.Goals as goal

pub returns-in_ok-len-in-Malloc : goal.returns-in_ok-len-in-Malloc
returns-in_ok-len-in-Malloc c = IfSome_then _ c.after_byte.ensures (λ after h.
    demands verb.Malloc _ _ _ _ (c.in_ok-len-in-Malloc.len, tt) c.in_ok-rest-in-Malloc.ensures
    (spells_more Operand.Num _ _ _ _ _ _ c.in_ok-len-in-Malloc.ensures (spells_end _ _ h)) refl)

pub returns-in_ok-len-in-Calloc : goal.returns-in_ok-len-in-Calloc
returns-in_ok-len-in-Calloc c = IfSome_then _ c.after_byte-in-Calloc.ensures (λ after h.
    demands verb.Calloc _ _ _ _ (c.in_ok-n-in-Calloc.n, (c.in_ok-len-in-Calloc.len, tt)) c.in_ok-rest-in-Calloc.ensures
    (spells_more Operand.Num _ _ _ _ _ _ c.in_ok-n-in-Calloc.ensures (spells_more Operand.Num _ _ _ _ _ _ c.in_ok-len-in-Calloc.ensures (spells_end _ _ h))) refl)

pub returns-in_ok-len-in-Realloc : goal.returns-in_ok-len-in-Realloc
returns-in_ok-len-in-Realloc c = IfSome_then _ c.after_byte-in-Realloc-2.ensures (λ after h.
    demands verb.Realloc _ _ _ _ (c.in_ok-h-in-Realloc.h, (c.in_ok-len-in-Realloc.len, tt)) (c.in_ok-end-in-Realloc.ensures
    ∙ ap (λ t. codes " reallo" ++ t) c.in_ok-rest-in-Realloc.ensures)
    (spells_more Operand.HandleOrNil _ _ _ _ _ _ c.in_ok-h-in-Realloc.ensures
    (spells_more Operand.Num _ _ _ _ _ _ c.in_ok-len-in-Realloc.ensures (spells_end _ _ h))) refl)

pub returns-in_ok-h-in-Free : goal.returns-in_ok-h-in-Free
returns-in_ok-h-in-Free c = IfSome_then _ c.after_byte-in-Free.ensures (λ after h.
    demands verb.Free _ _ _ _ (c.in_ok-h-in-Free.h, tt) c.in_ok-rest-in-Free.ensures
    (spells_more Operand.HandleOrNil _ _ _ _ _ _ c.in_ok-h-in-Free.ensures (spells_end _ _ h)) refl)
