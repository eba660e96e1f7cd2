use Rattle.std.proofs.Common.{◌-◌, ◌*◌, [], length, get_or, refl, ◌∙◌, ap, sym, arith, false}
use mathlib.Core.Path.{fun_ext}
use Rattle.dym_base.specs.Packed.{bitmap}
use Rattle.dym_bits.specs.Bits.{bits_of}
use Rattle.dym_bits.proofs.BitmapLemmas.{length_of_words, get_or-clear_after}
use Rattle.dym_bits.proofs.UsedWords.{zero_of_zeros, rest_after}
use Rattle.dym_bits.proofs.ByteBits.{word_from_bytes, bits_from_bytes, none_behind, bytes_from_bits, bitmap_from_bits}
use Rattle.std.proofs.lemmas.List.{take_all, length-set}
use Rattle.dym_bits.proofs.bitmap.Bits.set_bytes.Goals as goal

pub loop-q-init : goal.loop-q-init
unfolding bits_of
loop-q-init c = record { long = refl; same = sym (none_behind [] (64 * 0 - 8 * length c.args.bytes.now) (omega arith)); rest = λ p _. zero_of_zeros 32 p }

pub loop-q-preserved : goal.loop-q-preserved
loop-q-preserved c = record {
  long = length-set c.loop-q.self-inside.words _ _ ∙ c.loop-q.invariant.long;
  same = word_from_bytes c.loop-q.self-inside.words c.args.bytes.now c.loop-q.q c.word_at.result (omega arith) (omega arith) c.loop-q.invariant.same c.word_at.ensures;
  rest = rest_after c.loop-q.self-inside.words c.loop-q.q _ c.loop-q.invariant.rest;
}

pub invariant_of-self : goal.invariant_of-self
invariant_of-self c = (omega arith, λ p past. c.loop-q.invariant.rest p (omega arith))

pub returns-clause-after : goal.returns-clause-after
returns-clause-after c =
    bits_from_bytes c.loop-q.self-inside.words c.args.bytes.now c.loop-q.q c.loop-q.invariant.long (omega arith) (omega arith)
    c.loop-q.invariant.rest c.loop-q.invariant.same

pub returns-clause-bits : goal.returns-clause-bits
returns-clause-bits c i = ap (λ bits. get_or bits i false) (returns-clause-after c) ∙ get_or-clear_after (bits_of 8 c.args.bytes.now) (2048 - 8 * length c.args.bytes.now) i

pub returns-clause-len : goal.returns-clause-len
returns-clause-len c = length_of_words c.loop-q.self-inside.words c.loop-q.invariant.long

pub returns-clause-whole : goal.returns-clause-whole
returns-clause-whole c = λ n long clear.
    let bytes = c.args.bytes.now in
    sym (take_all (length bytes) bytes (omega arith))
    ∙ bytes_from_bits bytes (length bytes) (omega arith) c.bytes_fit.ensures
    ∙ bitmap_from_bits (bits_of 8 bytes) (length bytes) n long (λ i past. sym (returns-clause-bits c i) ∙ clear i past)
    ∙ ap (bitmap n) (fun_ext (λ i. sym (returns-clause-bits c i)))
