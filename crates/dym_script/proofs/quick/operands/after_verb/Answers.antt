use Rattle.std.proofs.Common.{◌≡◌, ◌∙◌, ℕ, ◌<◌, length, get_or, refl, arith, rules}
use Rattle.dym_script.proofs.VerbFronts.{verb_front}
use Rattle.dym_script.proofs.quick.operands.after_verb.Goals as goal

pub returns : goal.returns
returns c =
    let eight : length c.args.padded.now ≡ 8 = search rules in
    let fits : (i : ℕ) → get_or c.args.padded.now i 0 < 256 = c.bytes_fit.ensures in
    verb_front c.args.text.now c.args.padded.now _ c.in_ok-word.word c.args.length (λ i. omega (arith, c.type_inv.text i)) c.in_ok-word.ensures.within
    c.in_ok-word.ensures.word c.requires.some c.requires.few eight fits (c.if-word-length.false ∙ c.from_le_bytes.ensures) refl
