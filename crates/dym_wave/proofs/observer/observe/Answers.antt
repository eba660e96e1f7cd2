use Rattle.dym_wave.proofs.Onward.{looked_still, looked_more}
use Rattle.dym_wave.proofs.observer.observe.Goals as goal

pub loop-init : goal.loop-init
loop-init g c = (looked_still c.args.viewers.now.items, tt, tt)

pub loop-preserved : goal.loop-preserved
loop-preserved g c =
    (looked_more c.args.viewers.now.items c.loop.viewers.items c.observe_once.new.viewers.items c.loop.invariant.0 c.observe_once.ensures, tt, tt)

pub returns-then-asked-clause-looked : goal.returns-then-asked-clause-looked
returns-then-asked-clause-looked g c =
    looked_more c.args.viewers.now.items c.loop.viewers.items c.observe_once.new.viewers.items c.loop.invariant.0 c.observe_once.ensures
