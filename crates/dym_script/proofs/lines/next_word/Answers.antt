use Rattle.std.proofs.Common.{arith}
use Rattle.dym_script.proofs.WordCuts.{first_word, no_word}
use Rattle.dym_script.proofs.lines.next_word.Goals as goal

pub returns-then-is_empty : goal.returns-then-is_empty
returns-then-is_empty c = no_word _ _ _ c.spaces_before.ensures.value c.split_at.ensures.back (grind arith)

pub returns : goal.returns
returns c = rw (c.split_at-2.ensures.front, c.split_at-2.ensures.back)
    (first_word _ _ _ _ c.spaces_before.ensures.value c.split_at.ensures.back (grind arith) c.word_before.ensures.value)
