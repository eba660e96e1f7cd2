use Rattle.std.proofs.Common.{inl, sym, refl}
use Rattle.dym_slots.specs.Slots.{HasNumber}
use Rattle.dym_trace.proofs.Entries.{without_none}
use Rattle.dym_trace.proofs.machine.Machine.let_go.Goals as goal

pub returns-then-not-is_listed : goal.returns-then-not-is_listed
returns-then-not-is_listed c =
    let unlisted : ¬ HasNumber c.args.self.now.list.items c.args.held = λ has. let yes = c.is_listed.ensures.1 has in let no = c.if-not-is_listed.true in cc in
    (inl unlisted, refl, sym (without_none c.args.held c.args.self.now.list.items unlisted))
