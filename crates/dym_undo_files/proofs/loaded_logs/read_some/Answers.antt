use Rattle.std.proofs.Common.{◌≡◌, ◌-◌, ◌<◌, List, [], ◌∷◌, ◌++◌, length, map, take, drop, refl, sym, ap, ◌∙◌, arith, append-nil, append_assoc}
use Rattle.dym_base.specs.Objects.{LogEntry}
use Rattle.dym_chain.specs.Chains.{ChainMeaning, all_logs}
use Rattle.dym_undo.specs.HeapUndo.{itself, along, version_same, quota_same}
use Rattle.dym_undo.specs.UndoLogs.{log_at, unfound}
use Rattle.dym_undo_files.proofs.Reading.{readable_as, brought_as, part_more}
use Rattle.dym_undo_files.proofs.loaded_logs.read_some.Goals as goal

pub loop-place-init : goal.loop-place-init
loop-place-init g c =
    let logs = c.args.undo.now.logs in
    let none : c.args.from - c.args.from ≡ 0 = omega arith in
    record {
      brought = c.requires.brought;
      logs = sym (append-nil logs) ∙ sym (ap (λ n. logs ++ map unfound (take n (drop c.args.from (all_logs c.args.chain.now)))) none);
      chain = refl;
      rest = itself c.args.heap.now;
    }

pub read_log-requires-clause-readable : goal.read_log-requires-clause-readable
read_log-requires-clause-readable g c =
    let inv = c.loop-place.invariant in
    readable_as _ _ _ _ _ _ (sym (version_same c.args.heap.now c.loop-place.heap inv.rest)) (sym (quota_same c.args.heap.now c.loop-place.heap inv.rest))
    (sym inv.chain) c.requires.readable

pub read_log-requires-clause-brought : goal.read_log-requires-clause-brought
read_log-requires-clause-brought g c =
    let inv = c.loop-place.invariant in
    brought_as _ _ _ _ _ _ _ _ _ _ (sym (version_same c.args.heap.now c.loop-place.heap inv.rest)) (sym (quota_same c.args.heap.now c.loop-place.heap inv.rest))
    (sym inv.chain) inv.brought

pub read_log-requires-clause-place : goal.read_log-requires-clause-place
read_log-requires-clause-place g c =
    omega (arith, c.requires.within, c.loop-place-test.true, ap (λ (x : ChainMeaning). length (all_logs x)) c.loop-place.invariant.chain)

pub loop-place-preserved : goal.loop-place-preserved
loop-place-preserved g c =
    let inv = c.loop-place.invariant in
    let logs = all_logs c.args.chain.now in
    let lt : c.loop-place.place < length logs = omega (arith, c.requires.within, c.loop-place-test.true) in
    record {
      brought = brought_as _ _ _ _ _ _ _ _ _ _ (version_same c.args.heap.now c.loop-place.heap inv.rest)
          (quota_same c.args.heap.now c.loop-place.heap inv.rest) inv.chain c.in_ok-read_log.ensures.brought;
      logs = c.in_ok-read_log.ensures.logs ∙ ap (λ (x : ChainMeaning). c.loop-place.undo.logs ++ unfound (log_at (all_logs x) c.loop-place.place) ∷ []) inv.chain
          ∙ ap (λ (l : List LogEntry). l ++ unfound (log_at logs c.loop-place.place) ∷ []) inv.logs
          ∙ append_assoc c.args.undo.now.logs (map unfound (take (c.loop-place.place - c.args.from) (drop c.args.from logs)))
          (unfound (log_at logs c.loop-place.place) ∷ [])
          ∙ ap (λ (l : List LogEntry). c.args.undo.now.logs ++ l) (sym (part_more c.args.from c.loop-place.place logs c.loop-place.auto.place lt));
      chain = c.read_log.ensures.chain ∙ inv.chain;
      rest = along c.args.heap.now c.loop-place.heap c.read_log.new.heap inv.rest c.read_log.ensures.rest;
    }
