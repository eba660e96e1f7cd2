use Rattle.std.proofs.Common.{refl}
use Rattle.dym_commands.specs.Requests.{asks}
use Rattle.dym_script.specs.declared.parts.Part.{Part}
use Rattle.dym_script.proofs.KeptParts.{part_within, part_room, parts_asked}
use Rattle.dym_script.proofs.parts.PartCollectorKeeper.ask.Goals as goal

pub push-requires : goal.push-requires
push-requires c = part_room c.args.self.now.parts.items c.args.object c.index_mut-part.result.now c.requires c.index_mut-part.ensures.value

pub returns : goal.returns
returns c =
    let parts = c.args.self.now.parts.items in
    let old : Part = c.index_mut-part.result.now in
    let new : Part = record { decl = old.decl; commands = c.push.new.self } in
    parts_asked parts c.args.object (asks c.args.asked.now) old new (part_within parts c.args.object c.requires) c.index_mut-part.ensures.value refl
    c.in_ok-push.ensures.pushed
