use Rattle.std.proofs.Common.{◌≡◌, ◌∙◌}
use Rattle.dym_script.specs.declared.script.Decl.{Decl}
use Rattle.dym_script.specs.declared.parts.Part.{Part}
use Rattle.dym_script.proofs.KeptParts.{parts_declared}
use Rattle.dym_script.proofs.parts.PartCollectorKeeper.declare.Goals as goal

pub returns : goal.returns
returns c =
    let decl : Decl = c.args.decl.now in
    let same : c.in-Some.name ≡ decl.name = c.in-Some.ensures.name ∙ c.bytes.ensures in
    let part : Part = record { decl = record { name = c.in-Some.name; quota = decl.quota; line = decl.line }; commands = c.new-commands.result } in
    rw c.in_ok-push.ensures.items (parts_declared c.args.self.now.parts.items part decl
    (λ i. record { name = same i; quota = decl.quota; line = decl.line }) c.new-commands.ensures)
