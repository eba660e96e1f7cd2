use Rattle.std.proofs.Common.{◌≡◌, ℕ, ◌+◌, ◌-◌, ◌<◌, Some, option_map, List, [], ◌∷◌, ◌++◌, length, map, take, drop, sym, ap, subst, ◌∙◌}
use Rattle.std.proofs.Common.{arith, length-append}
use Rattle.dym_base.specs.Objects.{LogEntry, newest}
use Rattle.dym_base.specs.RunLaws.{EachFollows}
use Rattle.dym_base.proofs.Runs.{follows_take}
use Rattle.dym_chain.specs.Chains.{ChainMeaning, all_logs}
use Rattle.dym_ckpt.specs.FileReads.{heap_at}
use Rattle.dym_undo.specs.HeapUndo.{version_same, quota_same}
use Rattle.dym_undo.specs.UndoLogs.{UndoMeaning, Belongs, log_at, unfound}
use Rattle.dym_undo_files.specs.RecordedLogs.{AreBrought}
use Rattle.dym_base.specs.declared.command.Version.{Version}
use Rattle.dym_undo_files.proofs.Reading.{records_count, newest_take, follows_unfound, belongs_told, brought_as, newest_behind, none_kept}
use Rattle.dym_undo_files.proofs.Reading.{some_kept, told_alike, take_whole, brought_pruned}
use Rattle.dym_undo_files.proofs.loaded_logs.read_logs.Given as given
use Rattle.dym_undo_files.proofs.loaded_logs.read_logs.Goals.{After-slots-count, After-kept, After-keep_newest}
use Rattle.dym_undo_files.proofs.loaded_logs.read_logs.Goals as goal

module _ (g : given.Over) (c : After-slots-count g) where
  abbrev chain : ChainMeaning
  chain = c.args.chain.now

  count_is : c.slots-count.result ≡ length (all_logs chain)
  count_is = c.slots-count.ensures.records ∙ records_count c.args.heap.now.version chain.records (all_logs chain) c.requires.1.1.1.1.0.records

  seam : length (all_logs chain) ≡ length chain.base_logs + length chain.logs
  seam = length-append chain.base_logs chain.logs

pub returns-then-count-eq0-clause-state : goal.returns-then-count-eq0-clause-state
returns-then-count-eq0-clause-state g c =
    let a = (goal.at.returns-then-count-eq0-clause-state g c).After-slots-count in
    let none = none_kept c.args.chain.now.base_logs c.args.chain.now.logs (sym (count_is g a) ∙ c.if-count-eq0.true) in
    c.requires.1.1.1.1.1.0.heap_is ∙ sym (ap (λ (l : List LogEntry). heap_at (newest l)) none)

pub returns-then-count-eq0-clause-logs : goal.returns-then-count-eq0-clause-logs
returns-then-count-eq0-clause-logs g c =
    let a = (goal.at.returns-then-count-eq0-clause-logs g c).After-slots-count in
    c.requires.1.1.1.1.1.1 ∙ sym (none_kept c.args.chain.now.base_logs c.args.chain.now.logs (sym (count_is g a) ∙ c.if-count-eq0.true))

some : (g : given.Over) (c : After-slots-count g) → (c.slots-count.result ≡ 0 → ⊥) → 0 < length c.args.chain.now.logs
some g c more = some_kept c.args.chain.now.base_logs c.args.chain.now.logs c.requires.1.1.1.1.0.base (omega (arith, count_is g c, more))

pub overflow_sub-kept : goal.overflow_sub-kept
overflow_sub-kept g c =
    let a = (goal.at.overflow_sub-kept g c).After-slots-count in
    omega (arith, count_is g a, seam g a, c.kept.ensures)

module _ (g : given.Over) (c : After-kept g) where
  abbrev first : After-slots-count g
  first = (goal.at.After-kept g c).After-slots-count

  abbrev base : List LogEntry
  base = c.args.chain.now.base_logs

  abbrev logs : List LogEntry
  logs = c.args.chain.now.logs

  abbrev all : List LogEntry
  all = all_logs c.args.chain.now

  one : 0 < length logs
  one = some g first c.if-count-eq0.false

  kept_is : c.slots-count.result - c.kept.result + 1 ≡ length base + 1
  kept_is = omega (arith, count_is g first, seam g first, c.kept.ensures)

  lt : length base < length all
  lt = omega (arith, seam g first, one)

pub read_some-requires-clause-within : goal.read_some-requires-clause-within
read_some-requires-clause-within g c =
    let a = (goal.at.read_some-requires-clause-within g c).After-kept in
    omega (arith, kept_is g a, lt g a)

lists_are : (all u old : List LogEntry) (n : ℕ) → old ≡ [] → u ≡ old ++ map unfound (take (n - 0) (drop 0 all)) → u ≡ map unfound (take n all)
lists_are all u old n none is = is ∙ ap (λ (l : List LogEntry). l ++ map unfound (take (n - 0) (drop 0 all))) none ∙ ap (λ m. map unfound (take m all))
    (let e : n - 0 ≡ n = omega arith in e)

pub keep_newest-requires : goal.keep_newest-requires
keep_newest-requires g c =
    let a = (goal.at.keep_newest-requires g c).After-kept in
    let n = c.slots-count.result - c.kept.result + 1 in
    subst EachFollows (sym (lists_are (all g a) c.read_some.new.undo.logs c.args.undo.now.logs n c.requires.1.1.1.1.1.1 c.in_ok-read_some.ensures.logs))
    (follows_unfound (take n (all g a)) (follows_take n (all g a) c.requires.1.1.1.1.0.follows))

module _ (g : given.Over) (c : After-keep_newest g) where
  abbrev a : After-kept g
  a = (goal.at.After-keep_newest g c).After-kept

  abbrev n : ℕ
  n = c.slots-count.result - c.kept.result + 1

  abbrev x : LogEntry
  x = log_at (all g a) (length (base g a))

  last : newest (take n (all g a)) ≡ Some x
  last = ap (λ m. newest (take m (all g a))) (kept_is g a) ∙ newest_take (all g a) (length (base g a)) (lt g a)

  alone : c.keep_newest.new.undo.logs ≡ unfound x ∷ []
  alone = c.keep_newest.ensures.logs (unfound x) (c.in_ok-read_some.ensures.brought.newest_is ∙ ap (option_map unfound) last)

  pruned : AreBrought c.args.heap.now.version c.args.heap.now.quota (all g a) n c.read_some.new.heap c.read_some.new.scratch c.keep_newest.new.undo
  pruned = brought_pruned c.args.heap.now.version c.args.heap.now.quota n (all g a) c.read_some.new.heap c.read_some.new.scratch c.read_some.new.undo
      c.keep_newest.new.undo x c.in_ok-read_some.ensures.brought last alone
      (c.keep_newest.ensures.belongs c.args.heap.now.version c.args.heap.now.quota c.read_some.new.heap.state c.in_ok-read_some.ensures.brought.belongs)

pub read_some-requires-2-clause-brought : goal.read_some-requires-2-clause-brought
read_some-requires-2-clause-brought g c =
    let b = (goal.at.read_some-requires-2-clause-brought g c).After-keep_newest in
    brought_as _ _ _ _ _ _ _ _ _ _ (sym (version_same c.args.heap.now c.read_some.new.heap c.read_some.ensures.rest))
    (sym (quota_same c.args.heap.now c.read_some.new.heap c.read_some.ensures.rest)) (sym c.read_some.ensures.chain) (pruned g b)

-- the logs of both parts are the kept ones but for what they found
both_are : (c d : ChainMeaning) (told u2 u3 : List LogEntry) (n count : ℕ) → told ≡ c.logs → 0 < length c.logs → n ≡ length c.base_logs + 1
    → count ≡ length (all_logs c) → d ≡ c → u2 ≡ unfound (log_at (all_logs c) (length c.base_logs)) ∷ []
    → u3 ≡ u2 ++ map unfound (take (count - n) (drop n (all_logs d))) → map unfound told ≡ map unfound u3
both_are c d told u2 u3 n count told_is one first count_is same two three =
    ap (map unfound) told_is
    ∙ told_alike c.base_logs c.logs u3 n (count - n) one first (omega (arith, count_is))
    (three ∙ ap (λ (l : List LogEntry). l ++ map unfound (take (count - n) (drop n (all_logs d)))) two
    ∙ ap (λ (y : ChainMeaning). (unfound (log_at (all_logs c) (length c.base_logs)) ∷ []) ++ map unfound (take (count - n) (drop n (all_logs y)))) same)

pub tell_found-requires : goal.tell_found-requires
tell_found-requires g c =
    let b = (goal.at.tell_found-requires g c).After-keep_newest in
    let k = a g b in
    both_are c.args.chain.now c.read_some.new.chain g.told c.keep_newest.new.undo.logs c.read_some-2.new.undo.logs (n g b) c.slots-count.result
    c.requires.1.1.1.0 (one g k) (kept_is g k) (count_is g (first g k)) c.read_some.ensures.chain (alone g b) c.in_ok-read_some-2.ensures.logs

pub returns-clause-state : goal.returns-clause-state
returns-clause-state g c =
    let b = (goal.at.returns-clause-state g c).After-keep_newest in
    let k = a g b in
    let all = all_logs c.args.chain.now in
    c.in_ok-read_some-2.ensures.brought.heap_is
    ∙ ap (λ (y : ChainMeaning). heap_at (newest (take c.slots-count.result (all_logs y)))) c.read_some.ensures.chain
    ∙ ap (λ (l : List LogEntry). heap_at (newest l)) (take_whole c.slots-count.result all (omega (arith, count_is g (first g k))))
    ∙ ap heap_at (newest_behind c.args.chain.now.base_logs c.args.chain.now.logs (one g k))

pub returns-clause-logs : goal.returns-clause-logs
returns-clause-logs g c = ap (λ (u : UndoMeaning). u.logs) c.tell_found.ensures ∙ c.requires.1.1.1.0

pub returns-clause-belongs : goal.returns-clause-belongs
returns-clause-belongs g c =
    let b = (goal.at.returns-clause-belongs g c).After-keep_newest in
    let k = a g b in
    let alike = both_are c.args.chain.now c.read_some.new.chain g.told c.keep_newest.new.undo.logs c.read_some-2.new.undo.logs (n g b) c.slots-count.result
    c.requires.1.1.1.0 (one g k) (kept_is g k) (count_is g (first g k)) c.read_some.ensures.chain (alone g b) c.in_ok-read_some-2.ensures.logs in
    let is = c.in_ok-read_some-2.ensures.brought in
    let told = belongs_told c.read_some.new.heap.version c.read_some.new.heap.quota c.read_some-2.new.heap.state c.read_some-2.new.undo g.told alike is.belongs in
    subst (Belongs c.read_some-2.new.heap.version c.read_some-2.new.heap.quota c.read_some-2.new.heap.state) (sym c.tell_found.ensures)
    (subst (λ (w : Version). Belongs w c.read_some-2.new.heap.quota c.read_some-2.new.heap.state (record c.read_some-2.new.undo { logs = g.told }))
    (sym is.heap_of.version_is)
    (subst (λ m. Belongs c.read_some.new.heap.version m c.read_some-2.new.heap.state (record c.read_some-2.new.undo { logs = g.told })) (sym is.heap_of.quota_is) told))
