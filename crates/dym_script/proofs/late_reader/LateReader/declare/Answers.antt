use Rattle.std.proofs.Common.{refl}
use Rattle.dym_script.proofs.LateLines.{kept_declared}
use Rattle.dym_script.proofs.late_reader.LateReader.declare.Goals as goal

pub returns-clause-kept : goal.returns-clause-kept
returns-clause-kept c = kept_declared c.args.self.now _ c.requires c.in_ok-declare.ensures.kept c.in_ok-declare.ensures.version
    c.in_ok-declare.ensures.more c.in_ok-push.ensures.items refl
