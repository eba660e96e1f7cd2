use Rattle.std.proofs.Common.{◌≡◌, ◌++◌, ◌∷◌, [], refl, sym, ap, ◌∙◌, length-append, append_assoc, arith, rules}
use Rattle.dym_base.specs.declared.limits.TheConstants.{MOST_COMMANDS}
use Rattle.dym_script.proofs.AheadParts.{own_none, own_inside, own_room, own_more}
use Rattle.dym_script.proofs.parts.PartCollector.append.Goals as goal

pub loop-commands-init : goal.loop-commands-init
loop-commands-init c = record { place = search rules; all = search rules; has = own_none c.args.self.now.parts.items }

pub append-requires : goal.append-requires
append-requires c =
    let l = c.loop-commands in
    let old = c.args.self.now.parts.items in
    let mid = l.self.parts.items in
    let all = c.args.own.items in
    let own = l.yielded in
    let rest = l.commands-iterator.rest.items in
    let x = c.in-Some.commands in
    let others = c.next.new.self.rest.items in
    let cut = c.in-Some.ensures.steps.0 in
    let inside = own_inside all own rest others x old mid l.place l.invariant.all cut l.invariant.place c.requires.within l.invariant.has in
    own_room MOST_COMMANDS all own rest others x old mid c.index_mut.result.now l.place l.invariant.all cut l.invariant.place inside c.index_mut.ensures.value
    l.invariant.has c.requires.room

pub loop-commands-preserved : goal.loop-commands-preserved
loop-commands-preserved c =
    let l = c.loop-commands in
    let old = c.args.self.now.parts.items in
    let mid = l.self.parts.items in
    let all = c.args.own.items in
    let own = l.yielded in
    let rest = l.commands-iterator.rest.items in
    let x = c.in-Some.commands in
    let others = c.next.new.self.rest.items in
    let cut = c.in-Some.ensures.steps.0 in
    let was = c.index_mut.result.now in
    let inside = own_inside all own rest others x old mid l.place l.invariant.all cut l.invariant.place c.requires.within l.invariant.has in
    let appended : c.append.new.self ≡ was.commands ++ x = search rules in
    record {
      place = omega (arith, l.invariant.place, length-append own (x ∷ []));
      all = l.invariant.all ∙ ap (λ cs. own ++ cs) cut ∙ sym (append_assoc own (x ∷ []) others);
      has = own_more own x old mid was (record was { commands = c.append.new.self }) l.place l.invariant.place inside c.index_mut.ensures.value refl
          appended l.invariant.has;
    }
