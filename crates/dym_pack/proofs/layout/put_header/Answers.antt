use Rattle.std.proofs.Common.{◌≡◌, ◌∙◌, ◌∷◌, [], ◌++◌, ap}
use Rattle.std.specs.Int.{w32, w64, to_le_bytes}
use Rattle.dym_base.specs.Packed.{kind_byte}
use Rattle.dym_pack.proofs.Written.{on_ok, appended, three_parts}
use Rattle.dym_pack.proofs.layout.put_header.Goals as goal

pub returns : goal.returns
returns c =
    let kind = kind_byte c.args.version c.args.kind in
    let time = to_le_bytes w64 c.args.time in
    let count = to_le_bytes w32 c.args.count in
    let first = c.in_ok-push.ensures.items ∙ ap (λ b. c.args.out.now.items ++ b ∷ []) c.byte_of_kind.ensures in
    let second = c.in_ok-extend_from_slice.ensures.items ∙ ap (λ bytes. c.push.new.self.items ++ bytes) c.to_le_bytes.ensures in
    on_ok c.extend_from_slice-2.result
    (c.extend_from_slice-2.new.self.items ≡ c.extend_from_slice.new.self.items ++ count)
    (c.extend_from_slice-2.new.self.items ≡ c.args.out.now.items ++ (kind ∷ time ++ count))
    (λ third. three_parts c.args.out.now.items c.push.new.self.items c.extend_from_slice.new.self.items c.extend_from_slice-2.new.self.items (kind ∷ []) time count first second third)
    (appended c.extend_from_slice-2.result c.extend_from_slice-2.new.self.items c.extend_from_slice.new.self.items c.to_le_bytes-2.result count c.to_le_bytes-2.ensures c.extend_from_slice-2.ensures.items)
