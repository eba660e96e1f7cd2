-- The tests of the names and the words are those of their texts.
use Rattle.std.proofs.Common.{ℕ, List, Bor, Global, String, arith}
use Rattle.std.specs.String.{string_bytes}
use Rattle.std.proofs.lemmas.Grind.{common_steps}
use Rattle.dym_words.proofs.Texts.{are_known-map, are_single-map}
use Rattle.dym_words.proofs.options.are_options.Goals as goal

pub returns-then-are_known : goal.returns-then-are_known
returns-then-are_known c =
    let known = are_known-map (λ (n : Bor (List ℕ)). n.now) (λ (w : String Global). string_bytes w) c.args.names.now c.args.words.now in
    let single = are_single-map (λ (n : Bor (List ℕ)). n.now) (λ (w : String Global). string_bytes w) c.args.names.now c.args.words.now in
    rw (known, single) (grind (arith, common_steps))

pub returns-else-are_known : goal.returns-else-are_known
returns-else-are_known c =
    let known = are_known-map (λ (n : Bor (List ℕ)). n.now) (λ (w : String Global). string_bytes w) c.args.names.now c.args.words.now in
    rw known (grind (arith, common_steps))
