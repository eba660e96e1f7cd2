use Rattle.std.proofs.Common.{◌≡◌, ◌+◌, ◌∷◌, ◌++◌, [], map, length, ap, sym, zero-add, ◌∙◌, arith}
use Rattle.std.specs.Int.{w32, w64, to_le_bytes}
use Rattle.std.specs.List.{range_with_len}
use Rattle.std.proofs.lemmas.List.FromFn.{map-range_with_len_more, length-map-range_with_len}
use Rattle.dym_base.specs.Packed.{packed, kind_byte}
use Rattle.dym_pack.specs.Areas.{logged, area_at}
use Rattle.dym_pack.specs.Layouts.{HasOffsets}
use Rattle.dym_pack.specs.Offsets.{front, start_of, starts_of, area_bytes}
use Rattle.dym_pack.proofs.Fronts.{front_none, front_more, front_all, area_at_any_time}
use Rattle.dym_pack.proofs.Logs.{recorded}
use Rattle.dym_pack.proofs.Unique.{same_starts}
use Rattle.dym_pack.proofs.packer.pack.Goals as goal

pub loop-k-init : goal.loop-k-init
loop-k-init g c =
    let m = g.A.Areas.meaning c.args.areas.now in
    record {
      done = c.in_ok-put_header.ensures
          ∙ ap (λ bytes. bytes ++ (kind_byte c.version.result c.args.kind ∷ to_le_bytes w64 c.args.time ++ to_le_bytes w32 c.area_count-count.result)) c.in_ok-bytes.ensures
          ∙ ap (λ v. kind_byte v c.args.kind ∷ to_le_bytes w64 c.args.time ++ to_le_bytes w32 c.area_count-count.result) c.version.ensures
          ∙ ap (λ n. kind_byte m.version c.args.kind ∷ to_le_bytes w64 c.args.time ++ to_le_bytes w32 n) c.area_count-count.ensures
          ∙ sym (front_none (logged m c.args.kind c.args.time));
      placed = c.in_ok-starts.ensures.items;
      room = omega (arith, c.in_ok-starts.ensures.capacity);
    }

pub push_reserved-requires : goal.push_reserved-requires
push_reserved-requires g c =
    let log = logged (g.A.Areas.meaning c.args.areas.now) c.args.kind c.args.time in
    let long = ap length c.loop-k.invariant.placed ∙ length-map-range_with_len (start_of log) 0 c.loop-k.k in
    (omega arith, omega (arith, long, c.loop-k.invariant.room))

pub push_reserved-requires-2 : goal.push_reserved-requires-2
push_reserved-requires-2 g c =
    let log = logged (g.A.Areas.meaning c.args.areas.now) c.args.kind c.args.time in
    let long = ap length c.loop-k.invariant.placed ∙ length-map-range_with_len (start_of log) 0 c.loop-k.k in
    (omega arith, omega (arith, long, c.loop-k.invariant.room))

pub loop-k-preserved : goal.loop-k-preserved
loop-k-preserved g c =
    let m = g.A.Areas.meaning c.args.areas.now in
    let log = logged m c.args.kind c.args.time in
    let area = area_at m.live c.loop-k.k in
    let long : c.len.result ≡ start_of log c.loop-k.k = omega (arith, c.len.ensures, ap length c.loop-k.invariant.done) in
    record {
      done = c.in_ok-put_area.ensures
          ∙ ap (λ bytes. bytes ++ area_bytes (logged m c.args.kind 0) area) c.loop-k.invariant.done
          ∙ ap (λ bytes. front log c.loop-k.k ++ bytes) (area_at_any_time m c.args.kind c.args.time area)
          ∙ sym (front_more log c.loop-k.k (omega arith));
      placed = c.push_reserved.ensures.items
          ∙ ap (λ xs. xs ++ c.len.result ∷ []) c.loop-k.invariant.placed
          ∙ ap (λ n. map (start_of log) (range_with_len 0 c.loop-k.k) ++ n ∷ []) long
          ∙ sym (map-range_with_len_more (start_of log) 0 c.loop-k.k c.loop-k.k (zero-add c.loop-k.k));
      room = omega (arith, c.push_reserved.ensures.capacity, c.loop-k.invariant.room);
    }

pub of-requires : goal.of-requires
of-requires g c =
    let log = logged (g.A.Areas.meaning c.args.areas.now) c.args.kind c.args.time in
    let firsts = map (start_of log) (range_with_len 0 c.loop-k.k) in
    let long : c.len-2.result ≡ length c.loop-k.bytes.items = omega (arith, c.len-2.ensures) in
    record {
      end = (
        firsts,
        c.as_slice.ensures
            ∙ c.push_reserved-2.ensures.items
            ∙ ap (λ xs. xs ++ c.len-2.result ∷ []) c.loop-k.invariant.placed
            ∙ ap (λ n. firsts ++ n ∷ []) long,
      );
    }

pub invariant_of-result : goal.invariant_of-result
unfolding starts_of
invariant_of-result g c =
    let m = g.A.Areas.meaning c.args.areas.now in
    let log = logged m c.args.kind c.args.time in
    let ok = recorded m c.args.kind c.args.time c.requires.packable (omega arith) in
    let k = c.loop-k.k in
    let bytes : c.loop-k.bytes.items ≡ packed log = c.loop-k.invariant.done ∙ front_all log k (omega arith) in
    let long : c.len-2.result ≡ start_of log k = omega (arith, c.len-2.ensures, ap length c.loop-k.invariant.done) in
    let all : k ≡ Rattle.dym_base.specs.Heaps.held m.live = omega arith in
    let starts : c.push_reserved-2.new.self.items ≡ starts_of log
    = c.push_reserved-2.ensures.items
    ∙ ap (λ xs. xs ++ c.len-2.result ∷ []) c.loop-k.invariant.placed
    ∙ ap (λ n. map (start_of log) (range_with_len 0 k) ++ n ∷ []) long
    ∙ sym (map-range_with_len_more (start_of log) 0 k k (zero-add k))
    ∙ ap (λ n. map (start_of log) (range_with_len 0 (n + 1))) all in
    let of_bytes = ap (λ (p : HasOffsets). p.bytes) c.in_ok-placed.ensures ∙ bytes in
    let of_starts = ap (λ (p : HasOffsets). p.offsets) c.in_ok-placed.ensures ∙ c.as_slice.ensures ∙ starts in
    record {
      is = (log, ok, sym of_bytes);
      placed = λ other rec same. of_starts ∙ same_starts log other ok rec (sym of_bytes ∙ sym same);
    }

pub returns : goal.returns
returns g c =
    ap (λ (p : HasOffsets). p.bytes) c.in_ok-placed.ensures
    ∙ c.loop-k.invariant.done
    ∙ front_all (logged (g.A.Areas.meaning c.args.areas.now) c.args.kind c.args.time) c.loop-k.k (omega arith)
