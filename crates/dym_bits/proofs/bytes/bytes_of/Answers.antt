use Rattle.std.proofs.Common.{◌*◌, length, refl, ◌∙◌, ap, sym, arith}
use Rattle.dym_bits.specs.Bits.{bits_of}
use Rattle.dym_bits.proofs.ByteBits.{word_to_bytes, length-put_mid}
use Rattle.std.proofs.lemmas.List.{take_all}
use Rattle.dym_bits.proofs.bytes.bytes_of.Goals as goal

pub loop-q-init : goal.loop-q-init
unfolding bits_of
loop-q-init c = record { long = refl; same = refl }

pub loop-q-preserved : goal.loop-q-preserved
loop-q-preserved c = record {
  long = length-put_mid (8 * c.loop-q.q) _ c.loop-q.room c.copy_from_slice.new.self (omega arith) (ap length (c.copy_from_slice.ensures.after ∙ c.to_le_bytes.ensures) ∙ omega arith) ∙ c.loop-q.invariant.long;
  same = word_to_bytes c.args.words.now c.loop-q.room c.copy_from_slice.new.self c.loop-q.q _ (omega arith) (omega arith)
      (c.copy_from_slice.ensures.after ∙ c.to_le_bytes.ensures) c.loop-q.invariant.same;
}

pub returns : goal.returns
returns c =
    ap (bits_of 8) (sym (take_all (8 * c.loop-q.q) c.loop-q.room (omega arith)))
    ∙ c.loop-q.invariant.same
    ∙ ap (bits_of 64) (take_all c.loop-q.q c.args.words.now (omega arith))
