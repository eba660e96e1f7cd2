use denote.Text.{Utf8}
use denote.Shadow.{shadow}
use Rattle.timewarp.proofs.tests.ends_of.Given as goal

-- the last line is text
abbrev pub invariant-loop-line : goal.invariant-loop-line
invariant-loop-line l = shadow (Utf8 l.end)
