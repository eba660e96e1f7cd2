use Rattle.std.proofs.Common.{take-append-drop, sym}
use Rattle.dym_script.proofs.name_cache.any_name.Goals as goal

pub returns : goal.returns
returns c = rw (c.split_at.ensures.front, c.split_at.ensures.back) (sym (take-append-drop _ c.args.text.now))
