use Rattle.std.proofs.Common.{◌≡◌, ℕ, Bool, ◌/◌, max, ◌++◌, sym, ◌∙◌, ap}
use Rattle.std.specs.FinSet.{contains}
use Rattle.dym_base.specs.Numbers.{per}
use Rattle.dym_base.specs.Packed.{bitmap}
use Rattle.dym_pack.specs.Areas.{logged, area_at, chunks_of, chunk_number, is_used_at}
use Rattle.dym_pack.specs.Offsets.{name_bytes, area_head}
use Rattle.dym_pack.proofs.Written.{on_ok, three_parts}
use Rattle.dym_pack.proofs.area_bytes.put_head.Goals as goal

pub returns-in-Inc : goal.returns-in-Inc
returns-in-Inc g c =
    let m = g.A.Areas.meaning c.args.areas.now in
    let area = area_at m.live c.args.k in
    let n = chunks_of m.live c.args.k in
    let touched : ℕ → Bool = λ i. contains m.touched (chunk_number m.live c.args.k i) in
    let map : c.map_bytes-map.result ≡ max 1 (n / 8) = c.map_bytes-map.ensures.value ∙ ap (λ e. max 1 (per e / 8)) c.area_class-class.ensures in
    let name : c.name_of.result ≡ name_bytes area.exponent area.ordinal = c.name_of.ensures ∙ ap (λ e. name_bytes e c.area_ordinal.result) c.area_class-class.ensures ∙ ap (name_bytes area.exponent) c.area_ordinal.ensures in
    let first = c.in_ok-extend_from_slice.ensures.items ∙ ap (λ bytes. c.args.out.now.items ++ bytes) name in
    let second = c.in_ok-put_bits.ensures n (is_used_at m.live c.args.k) map c.used_bits.ensures in
    on_ok c.put_bits-in-Inc.result
    (c.put_bits-in-Inc.new.out.items ≡ c.put_bits.new.out.items ++ bitmap n touched)
    (c.put_bits-in-Inc.new.out.items ≡ c.args.out.now.items ++ area_head (logged m c.args.kind 0) c.args.k)
    (λ third.
    three_parts c.args.out.now.items c.extend_from_slice.new.self.items c.put_bits.new.out.items c.put_bits-in-Inc.new.out.items (name_bytes area.exponent area.ordinal) (bitmap n (is_used_at m.live c.args.k)) (bitmap n touched) first second third
    ∙ ap (λ d. c.args.out.now.items ++ area_head (logged m d 0) c.args.k) (sym c.in-Inc.is))
    (c.put_bits-in-Inc.ensures n touched map c.dirty_bits.ensures)
