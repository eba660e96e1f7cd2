use Rattle.std.proofs.Common.{◌∙◌, take, ap}
use Rattle.dymelor_top.proofs.ReadBlocks.{kept_end}
use Rattle.dymelor_top.proofs.blocks.keep_end.Goals as goal

pub returns : goal.returns
returns c = ap (take c.args.rest) c.copy_within.ensures.after ∙ kept_end c.args.block.now c.args.end c.args.rest c.requires.rest c.requires.end
