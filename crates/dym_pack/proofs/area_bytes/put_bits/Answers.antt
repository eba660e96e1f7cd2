use Rattle.std.proofs.Common.{take, ◌∙◌, arith}
use Rattle.dym_base.specs.Packed.{bitmap}
use Rattle.dym_pack.proofs.Bitmaps.{bitmap_of_bits, clear_past}
use Rattle.dym_pack.proofs.Written.{appended}
use Rattle.dym_pack.proofs.area_bytes.put_bits.Goals as goal

pub returns : goal.returns
returns c n f long told =
    let whole = c.bytes.ensures.whole c.args.map n (omega arith) long (clear_past n c.args.bits.now f told) ∙ bitmap_of_bits n c.args.bits.now f told in
    appended c.extend_from_slice.result c.extend_from_slice.new.self.items c.args.out.now.items (take c.args.map c.bytes.result) (bitmap n f) whole c.extend_from_slice.ensures.items
