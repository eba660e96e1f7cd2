use Rattle.std.proofs.Common.{◌+◌, length, arith, refl, sym, subst, ◌∙◌}
use Rattle.dym_base.specs.HeapStep.{key}
use Rattle.dym_base.specs.Heaps.{Live}
use Rattle.dym_base.specs.Numbers.{exponent_of}
use Rattle.dym_base.specs.declared.command.Version.{Version}
use Rattle.dym_base.proofs.Sizes.{exponent_of_number}
use Rattle.dym_heap.specs.Meaning.{IsSizeOf}
use Rattle.dym_heap.specs.Replies.{after_key}
use Rattle.dym_undo.specs.HeapUndo.{itself, along, version_same, quota_same}
use Rattle.dym_undo_files.proofs.Bringing.{small_key, ArePut, put_more, among_more, within_more, put_all}
use Rattle.dym_undo_files.proofs.brought_heap.put_live.Goals as goal

pub loop-h-init : goal.loop-h-init
loop-h-init g c = record { put = λ q lt. absurd (omega (arith, lt)); among = c.requires.among; kept = c.requires.kept; logs = refl; rest = itself c.args.heap.now }

pub loop-h-smaller : goal.loop-h-smaller
loop-h-smaller g c =
    let most = small_key (key c.in-Some.h) (c.requires.other.sound.most_class (key c.in-Some.h) c.in-Some.ensures.is_live) in
    let next = c.in-Some.ensures.at_least in
    omega (arith, most, next)

pub put_chunk-requires-clause-kept : goal.put_chunk-requires-clause-kept
put_chunk-requires-clause-kept g c = c.loop-h.invariant.kept

pub put_chunk-requires-clause-least : goal.put_chunk-requires-clause-least
put_chunk-requires-clause-least g c =
    let class = exponent_of_number c.in-Some.h.exp c.in-Some.h.index (omega arith) in
    omega (arith, class, c.requires.other.sound.least_class (key c.in-Some.h) c.in-Some.ensures.is_live)

pub put_chunk-requires-clause-most : goal.put_chunk-requires-clause-most
put_chunk-requires-clause-most g c =
    let class = exponent_of_number c.in-Some.h.exp c.in-Some.h.index (omega arith) in
    omega (arith, class, c.requires.other.sound.most_class (key c.in-Some.h) c.in-Some.ensures.is_live)

pub put_chunk-requires-clause-sized : goal.put_chunk-requires-clause-sized
put_chunk-requires-clause-sized g c =
    let class = exponent_of_number c.in-Some.h.exp c.in-Some.h.index (omega arith) in
    let n = length c.in-Some-bytes.bytes.now in
    let fits = c.requires.other.sound.sized (key c.in-Some.h) c.in-Some-bytes.bytes.now c.in-Some-bytes.ensures in
    let same = c.requires.other.version_is ∙ sym (version_same c.args.heap.now c.loop-h.heap c.loop-h.invariant.rest) in
    subst (λ e. IsSizeOf c.loop-h.heap.version e n) class (subst (λ (v : Version). IsSizeOf v (exponent_of (key c.in-Some.h)) n) same fits)

pub put_chunk-requires-clause-within : goal.put_chunk-requires-clause-within
put_chunk-requires-clause-within g c =
    let inv = c.loop-h.invariant in
    let more = within_more c.loop-h.heap.state.live c.args.other.now.state.live (after_key c.loop-h.last) (key c.in-Some.h) c.in-Some-bytes.bytes.now inv.put inv.among
    c.in-Some-bytes.ensures c.in-Some.ensures.least in
    omega (arith, more, c.requires.other.sound.within, c.requires.other.quota_is, quota_same c.args.heap.now c.loop-h.heap inv.rest)

pub loop-h-preserved : goal.loop-h-preserved
loop-h-preserved g c =
    let inv = c.loop-h.invariant in
    let live = c.loop-h.heap.state.live in
    let other = c.args.other.now.state.live in
    let k = key c.in-Some.h in
    let bytes = c.in-Some-bytes.bytes.now in
    let least = c.in-Some.ensures.least in
    record {
      put = subst (λ (l : Live). ArePut l other (k + 1)) (sym c.put_chunk.ensures.live)
          (put_more live other (after_key c.loop-h.last) k bytes inv.put inv.among c.in-Some-bytes.ensures least);
      among = subst (λ (l : Live). Rattle.dym_undo_files.specs.BroughtHeaps.IsAmong l other) (sym c.put_chunk.ensures.live)
          (among_more live other (after_key c.loop-h.last) k bytes inv.put inv.among c.in-Some-bytes.ensures least);
      kept = c.put_chunk.ensures.kept;
      logs = c.put_chunk.ensures.logs ∙ inv.logs;
      rest = along c.args.heap.now c.loop-h.heap c.put_chunk.new.heap inv.rest c.put_chunk.ensures.rest;
    }

pub returns-clause-live : goal.returns-clause-live
returns-clause-live g c = put_all c.loop-h.heap.state.live c.args.other.now.state.live (after_key c.loop-h.last) c.loop-h.invariant.put c.loop-h.invariant.among
    c.in_default.ensures
