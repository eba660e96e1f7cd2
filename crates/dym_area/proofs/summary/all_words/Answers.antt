use Rattle.dym_base.specs.Numbers.{per}
use Rattle.dym_area.proofs.Rooms.{all_marked}
use Rattle.dym_area.proofs.summary.all_words.Goals as goal

pub returns : goal.returns
returns c used clear =
    let words = c.words_of.ensures in
    all_marked used (per c.args.class.exp) c.words_of.result words.most words.enough words.begun clear
