use Rattle.std.proofs.Common.{refl}
use Rattle.std.proofs.lemmas.Option.{IfSome_then}
use Rattle.dym_script.specs.declared.verb.Verb.TheVariants as verb
use Rattle.dym_script.specs.Table.{Operand}
use Rattle.dym_script.proofs.Spelled.{demands, spells_end, spells_more}
use Rattle.dym_script.proofs.quick.verbs.link_verb.Goals as goal

pub returns-in_ok-to-in-Link : goal.returns-in_ok-to-in-Link
returns-in_ok-to-in-Link c = IfSome_then _ c.after_byte.ensures (λ after h.
    demands verb.Link _ _ _ _ (c.in_ok-h-in-Link.h, (c.in_ok-at-in-Link.at, (c.in_ok-to-in-Link.to, tt))) c.in_ok-rest-in-Link.ensures
    (spells_more Operand.OneHandle _ _ _ _ _ _ c.in_ok-h-in-Link.ensures
    (spells_more Operand.Num32 _ _ _ _ _ _ c.in_ok-at-in-Link.ensures
    (spells_more Operand.HandleOrNil _ _ _ _ _ _ c.in_ok-to-in-Link.ensures (spells_end _ _ h)))) refl)

pub returns-in_ok-at-in-Follow : goal.returns-in_ok-at-in-Follow
returns-in_ok-at-in-Follow c = IfSome_then _ c.after_byte-in-Follow.ensures (λ after h.
    demands verb.Follow _ _ _ _ (c.in_ok-h-in-Follow.h, (c.in_ok-at-in-Follow.at, tt)) c.in_ok-rest-in-Follow.ensures
    (spells_more Operand.OneHandle _ _ _ _ _ _ c.in_ok-h-in-Follow.ensures (spells_more Operand.Num32 _ _ _ _ _ _ c.in_ok-at-in-Follow.ensures (spells_end _ _ h))) refl)

pub returns-in_ok-h-in-Sum : goal.returns-in_ok-h-in-Sum
returns-in_ok-h-in-Sum c = IfSome_then _ c.after_byte-in-Sum.ensures (λ after h.
    demands verb.Sum _ _ _ _ (c.in_ok-h-in-Sum.h, tt) c.in_ok-rest-in-Sum.ensures
    (spells_more Operand.OneHandle _ _ _ _ _ _ c.in_ok-h-in-Sum.ensures (spells_end _ _ h)) refl)
