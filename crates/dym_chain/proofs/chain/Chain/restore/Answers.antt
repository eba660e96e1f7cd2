use Rattle.std.proofs.Common.{arith, ◌≡◌, ℕ, ◌+◌, ◌-◌, ◌<◌, ◌≤◌, None, Some, unwrap_or, [], length, take, drop, sym, ap, subst, ◌∙◌}
use Rattle.std.specs.FinSet as set
use Rattle.std.proofs.lemmas.List.{length-take, take-map}
use Rattle.std.proofs.lemmas.List.Elements.{All-from_recursion}
use Rattle.dym_base.specs.Heaps.{HeapState, held}
use Rattle.dym_base.specs.Objects.{LogEntry, ObjectAnswer, reached, restore, restore_to, record_of}
use Rattle.dym_base.specs.Recorded.{IsRecorded}
use Rattle.dym_base.specs.declared.command.Version.{Version}
use Rattle.dym_base.specs.declared.reply.Reply.TheVariants as reply
use Rattle.dym_heap.specs.Meaning.{HeapMeaning}
use Rattle.dym_pack.specs.ParsedAreas.{IsRecord, OfLog}
use Rattle.dym_slots.specs.Meanings.{KeepMeaning, record_at, up_to}
use Rattle.dym_chain.specs.Keeps.{bytes_of}
use Rattle.dym_chain.specs.Chains.{ChainMeaning, Belongs, StandsForCopies, no_entry, log_at, object_of}
use Rattle.dym_chain.specs.Lawful.{IsLawful, logged_of, entry_of}
use Rattle.dym_chain.specs.Loads.{HaveVersion, PacksTouched}
use Rattle.dym_chain.specs.Differences.{AreDifferences, difference_at}
use Rattle.dym_chain.specs.ChainInvariants.{chain_of}
use Rattle.dym_chain.specs.declared.entry.Entry.{Entry}
use Rattle.dym_chain.proofs.Lawfuls.{stands, fields_show}
use Rattle.dym_chain.proofs.Moves.{lawful_take, belongs_take}
use Rattle.dym_chain.proofs.Places.{count_same}
use Rattle.dym_chain.proofs.Prunes.{records_count}
use Rattle.dym_chain.proofs.DifferenceFacts.{are_recorded, differences_take}
use Rattle.dym_chain.proofs.Restores.{first_logs, none_restored, restored_is, last_of_first, Restoring, restoring, target_record, target_recorded, within_quota, part_version, restored_all, lowered, first_is, keeps_rest, heap_rest, log_record, log_recorded}
use Rattle.dym_chain.proofs.chain.Chain.restore.Given as given
use Rattle.dym_chain.proofs.chain.Chain.restore.Goals.{After-reached-kept, After-from-depth, After-len-count, After-drop_after, After-lift-rec, After-lower, After-fetch_down}
use Rattle.dym_chain.proofs.chain.Chain.restore.Goals as goal

-- ---- where no log is reached

module _ (g : given.Over) (c : After-reached-kept g) where
  abbrev chain : ChainMeaning
  chain = chain_of c.self.inside.ghost_copies.copies (g.K.LogKeep.meaning c.self.inside.keep)

  chain_stands : StandsForCopies chain
  chain_stands = stands chain c.self.invariant.chain.lawful

  count_is : c.reached-kept.result ≡ reached c.args.time chain.logs
  count_is = c.reached-kept.ensures.reached chain.logs (c.deref.ensures.value ∙ c.self.invariant.chain.shows.entries) c.self.invariant.chain.lawful.list.2

  none_is : c.reached-kept.result ≡ 0 → restore_to (object_of c.args.heap.now.state c.args.self.now) [] None ≡ restore (object_of c.args.heap.now.state c.args.self.now) c.args.time
  none_is none =
      sym (none_restored c.args.heap.now.state c.args.self.now c.args.time (ap (λ (x : ChainMeaning). reached c.args.time x.logs) (sym c.self.view_is) ∙ sym count_is ∙ none))

pub returns-then-kept-eq0-clause-answer : goal.returns-then-kept-eq0-clause-answer
returns-then-kept-eq0-clause-answer g c = ap (λ (a : ObjectAnswer). a.reply) (none_is g (goal.at.returns-then-kept-eq0-clause-answer g c).After-reached-kept c.if-kept-eq0.true)

pub returns-then-kept-eq0-clause-after : goal.returns-then-kept-eq0-clause-after
returns-then-kept-eq0-clause-after g c = ap (λ (a : ObjectAnswer). a.object) (none_is g (goal.at.returns-then-kept-eq0-clause-after g c).After-reached-kept c.if-kept-eq0.true)

pub returns-then-kept-eq0-clause-stands : goal.returns-then-kept-eq0-clause-stands
returns-then-kept-eq0-clause-stands g c = subst StandsForCopies c.self.view_is (chain_stands g (goal.at.returns-then-kept-eq0-clause-stands g c).After-reached-kept)

-- ---- the log that is restored, and what is left

module _ (g : given.Over) (c : After-from-depth g) where
  abbrev keep : KeepMeaning
  keep = g.K.LogKeep.meaning c.self.inside.keep

  abbrev whole : ChainMeaning
  whole = chain_of c.self.inside.ghost_copies.copies keep

  abbrev law : IsLawful whole
  law = c.self.invariant.chain.lawful

  abbrev v : Version
  v = c.args.heap.now.version

  abbrev n : ℕ
  n = c.reached-kept.result

  abbrev place : ℕ
  place = c.from-base.result + (n - 1)

  abbrev target : LogEntry
  target = log_at whole.logs (n - 1)

  abbrev first : ChainMeaning
  first = first_logs n whole

  abbrev restored : HeapState
  restored = record { live = target.copy; touched = set.empty }

  is : Restoring keep c.self.inside.ghost_copies.copies n c.from-base.result c.from-depth.result c.index-target.result.now.time
  is =
      let some : 0 < n = omega (arith, c.if-kept-eq0.false) in
      let items = ap length c.deref.ensures.value in
      let within : n ≤ length c.self.inside.entries.items = omega (arith, c.reached-kept.ensures.within) in
      restoring n c.from-base.result c.from-depth.result c.index-target.result.now.time c.index.result.now c.index-target.result.now c.self.invariant.chain some within
      (c.from-base.ensures ∙ ap (λ (e : Entry). e.depth) c.index.ensures) (c.from-depth.ensures ∙ ap (λ (e : Entry). e.depth) c.index-target.ensures)
      (ap (λ (e : Entry). e.time) c.index-target.ensures)

  answer_is : restore_to (object_of c.args.heap.now.state whole) first.logs (Some target) ≡ restore (object_of c.args.heap.now.state c.args.self.now) c.args.time
  answer_is =
      sym (restored_is c.args.heap.now.state whole c.args.time n (count_is g (goal.at.After-from-depth g c).After-reached-kept) is.some is.within)
      ∙ ap (λ (x : ChainMeaning). restore (object_of c.args.heap.now.state x) c.args.time) c.self.view_is

  belongs : Belongs v c.args.heap.now.quota c.args.heap.now.state whole
  belongs = subst (Belongs v c.args.heap.now.quota c.args.heap.now.state) (sym c.self.view_is) c.requires.belongs

  idle : keep.lifted ≡ None
  idle = ap (λ (x : ChainMeaning). x.lifted) c.self.view_is ∙ c.requires.idle

  recorded : IsRecorded (logged_of v target)
  recorded = target_recorded whole v n law belongs.records is.some is.within

  place_is : place + 1 ≡ length whole.base_logs + n
  place_is = (let h = is in omega (arith, h.some, h.base_is))

  from : place + 1 - (c.from-depth.result + 1) ≡ place - c.from-depth.result
  from = (let h = is in omega (arith, h.fits))

  -- what belongs to the first logs, whose last is the target
  first_belongs : Belongs v c.args.heap.now.quota restored first
  first_belongs = belongs_take whole v c.args.heap.now.quota n c.args.heap.now.state target belongs (last_of_first whole.logs n is.some is.within)

pub overflow_cast-place : goal.overflow_cast-place
overflow_cast-place g c = record { fits = omega (arith, (is g (goal.at.overflow_cast-place g c).After-from-depth).small) }

pub overflow_add-place : goal.overflow_add-place
overflow_add-place g c =
    let r = is g (goal.at.overflow_add-place g c).After-from-depth in
    record { fits = omega (arith, r.small, r.some) }

-- ---- what the dropped logs changed is touched

counted : (g : given.Over) (c : After-len-count g) → c.len-count.result ≡ length c.self.inside.ghost_copies.copies.logs
counted g c =
    c.len-count.ensures ∙ sym c.deref.ensures.len
    ∙ count_same c.self.inside.ghost_copies.copies.logs c.deref.result.now (c.deref.ensures.value ∙ c.self.invariant.chain.shows.entries)

pub mark_logs-requires-clause-within : goal.mark_logs-requires-clause-within
mark_logs-requires-clause-within g c =
    let at = goal.at.mark_logs-requires-clause-within g c in
    let r = is g at.After-from-depth in
    let l = records_count (whole g at.After-from-depth) c.self.invariant.chain.lawful in
    omega (arith, r.base_is, counted g at.After-len-count)

pub mark_logs-requires-clause-few : goal.mark_logs-requires-clause-few
mark_logs-requires-clause-few g c =
    let at = goal.at.mark_logs-requires-clause-few g c in
    let r = is g at.After-from-depth in
    omega (arith, c.self.invariant.chain.lawful.list.0, r.small, r.some, counted g at.After-len-count)

pub mark_logs-requires-clause-recorded : goal.mark_logs-requires-clause-recorded
mark_logs-requires-clause-recorded g c i low high =
    let at = goal.at.mark_logs-requires-clause-recorded g c in
    let a = at.After-from-depth in
    let r = is g a in
    let b = (belongs g a).records in
    let inside : i < length (whole g a).logs = omega (arith, high, counted g at.After-len-count) in
    subst (λ b. IsRecord (unwrap_or (difference_at c.self.inside.differences.items i) (record_at (keep g a).records (b + i)).bytes)) (sym r.base_is)
    (are_recorded (v g a) (whole g a).logs c.self.inside.differences.items i (record_at (keep g a).records (length (whole g a).base_logs + i)).bytes c.self.invariant.differences
    (omega (arith, r.some, low)) inside (log_recorded (whole g a) (v g a) (law g a) b i inside) (log_record (whole g a) (v g a) (law g a) b i inside))

-- ---- the later records are dropped, and the heap is shaped to the target's

pub drop_after-requires-clause-place : goal.drop_after-requires-clause-place
drop_after-requires-clause-place g c =
    let r = is g (goal.at.drop_after-requires-clause-place g c).After-from-depth in
    omega (arith, ap (λ (k : KeepMeaning). length k.records) c.mark_logs.ensures.keep, r.inside)

-- the keep without its later records
dropped : (g : given.Over) (c : After-drop_after g) → g.K.LogKeep.meaning c.drop_after.new.self ≡ up_to (g.K.LogKeep.meaning c.self.inside.keep) (c.from-base.result + (c.reached-kept.result - 1))
dropped g c = c.drop_after.ensures.after ∙ ap (λ (k : KeepMeaning). up_to k (c.from-base.result + (c.reached-kept.result - 1))) c.mark_logs.ensures.keep

pub lift-rec-requires-clause-place : goal.lift-rec-requires-clause-place
lift-rec-requires-clause-place g c =
    let at = goal.at.lift-rec-requires-clause-place g c in
    let a = at.After-from-depth in
    let r = is g a in
    let len = length-take (place g a + 1) (keep g a).records in
    omega (arith, ap (λ (k : KeepMeaning). length k.records) (dropped g at.After-drop_after), r.inside)

-- the record that is out is the target's
lifted : (g : given.Over) (c : After-lift-rec g) → c.lift-rec.result ≡ record_of c.args.heap.now.version (log_at c.self.inside.ghost_copies.copies.logs (c.reached-kept.result - 1))
lifted g c =
    let at = goal.at.After-lift-rec g c in
    let a = at.After-from-depth in
    let r = is g a in
    c.lift-rec.ensures.bytes
    ∙ ap (λ (k : KeepMeaning). (record_at k.records (place g a)).bytes) (dropped g at.After-drop_after)
    ∙ target_record (whole g a) (v g a) (law g a) (belongs g a).records (n g a) c.from-base.result r.some r.within r.base_is

pub reshape-requires : goal.reshape-requires
reshape-requires g c =
    let at = goal.at.reshape-requires g c in
    let a = at.After-from-depth in
    let r = is g a in
    let quota = c.args.heap.now.quota in
    record {
      within = subst (λ q. OfLog c.lift-rec.result (λ log. held log.copy ≤ q)) (sym (ap (λ (h : HeapMeaning). h.quota) c.mark_logs.ensures.same))
          (within_quota c.lift-rec.result (v g a) (target g a) quota (recorded g a)
          (All-from_recursion (λ (x : LogEntry). held x.copy ≤ quota) (whole g a).logs (belongs g a).within (n g a - 1) no_entry (omega (arith, r.some, r.within))) (lifted g at.After-lift-rec));
    }

pub overflow_add-depth : goal.overflow_add-depth
overflow_add-depth g c = record { fits = omega (arith, (is g (goal.at.overflow_add-depth g c).After-from-depth).shallow) }

-- ---- what is wanted is fetched

-- the keep that the records are fetched from
low : (g : given.Over) (c : After-lower g) → g.K.LogKeep.meaning c.lower.new.self ≡ up_to (g.K.LogKeep.meaning c.self.inside.keep) (c.from-base.result + (c.reached-kept.result - 1))
low g c =
    let at = goal.at.After-lower g c in
    lowered (keep g at.After-from-depth) (place g at.After-from-depth) (dropped g at.After-drop_after) c.lift-rec.ensures.after c.lower.ensures.after (idle g at.After-from-depth)

-- its records that are fetched: those from the target's last full one up to its own
fetched : (g : given.Over) (c : After-lower g) → take (c.from-depth.result + 1) (drop (c.from-base.result + (c.reached-kept.result - 1) + 1 - (c.from-depth.result + 1)) (bytes_of (g.K.LogKeep.meaning c.lower.new.self).records))
    ≡ take (c.from-depth.result + 1) (drop (c.from-base.result + (c.reached-kept.result - 1) - c.from-depth.result)
    (bytes_of (first_logs c.reached-kept.result (chain_of c.self.inside.ghost_copies.copies (g.K.LogKeep.meaning c.self.inside.keep))).records))
fetched g c =
    let a = (goal.at.After-lower g c).After-from-depth in
    let depth = c.from-depth.result in
    ap (λ b. take (depth + 1) (drop b (bytes_of (g.K.LogKeep.meaning c.lower.new.self).records))) (from g a)
    ∙ ap (λ (k : KeepMeaning). take (depth + 1) (drop (place g a - depth) (bytes_of k.records))) (low g c)
    ∙ ap (λ m. take (depth + 1) (drop (place g a - depth) (bytes_of (take m (keep g a).records)))) (place_is g a)

pub fetch_down-requires-clause-within : goal.fetch_down-requires-clause-within
fetch_down-requires-clause-within g c =
    let at = goal.at.fetch_down-requires-clause-within g c in
    let a = at.After-from-depth in
    let r = is g a in
    let len = length-take (place g a + 1) (keep g a).records in
    omega (arith, ap (λ (k : KeepMeaning). length k.records) (low g at.After-lower), r.inside, r.fits)

pub fetch_down-requires-clause-there : goal.fetch_down-requires-clause-there
fetch_down-requires-clause-there g c = omega (arith, (is g (goal.at.fetch_down-requires-clause-there g c).After-from-depth).fits)

pub fetch_down-requires-clause-version : goal.fetch_down-requires-clause-version
fetch_down-requires-clause-version g c =
    let at = goal.at.fetch_down-requires-clause-version g c in
    let a = at.After-from-depth in
    let depth = c.from-depth.result in
    subst (λ (w : Version). HaveVersion w (take (depth + 1) (drop (place g a + 1 - (depth + 1)) (bytes_of (g.K.LogKeep.meaning c.lower.new.self).records))))
    (sym (ap (λ (h : HeapMeaning). h.version) c.reshape.ensures.same ∙ ap (λ (h : HeapMeaning). h.version) c.mark_logs.ensures.same))
    (subst (HaveVersion (v g a)) (sym (fetched g at.After-lower)) (part_version (first g a) (v g a) (depth + 1) (place g a - depth) (first_belongs g a).records))

-- ---- the end

module _ (g : given.Over) (c : After-fetch_down g) where
  abbrev a : After-from-depth g
  a = (goal.at.After-fetch_down g c).After-from-depth

  abbrev now : ChainMeaning
  now = chain_of c.cut.result.copies (g.K.LogKeep.meaning c.fetch_down.new.keep)

  -- the chain's first logs are left
  view : now ≡ first g a
  view =
      let r = is g a in
      first_is (keep g a) c.self.inside.ghost_copies.copies (n g a) c.from-base.result r.some r.base_is (c.fetch_down.ensures.keep ∙ low g (goal.at.After-fetch_down g c).After-lower) c.cut.ensures

  -- the heap is the target's copy
  state : c.fetch_down.new.heap.state ≡ restored g a
  state =
      let at = goal.at.After-fetch_down g c in
      let r = is g a in
      let depth = c.from-depth.result in
      let m = c.mark_logs.new.heap.state in
      let keep : KeepMeaning = keep g a in
      let differences = c.self.inside.differences.items in
      let counted = counted g at.After-len-count in
      restored_all (whole g a) (v g a) c.args.heap.now.quota (n g a) c.args.heap.now.state (law g a) (belongs g a) r.some r.within
      depth differences m c.reshape.new.self.state c.fetch_down.new.heap.state c.self.invariant.differences r.depth_is
      (λ i low inside.
      subst (λ b. OfLog (unwrap_or (difference_at differences i) (record_at keep.records (b + i)).bytes) (PacksTouched m)) r.base_is
      (c.mark_logs.ensures.marked i low (omega (arith, inside, counted))))
      c.mark_logs.ensures.unmodified
      (c.reshape.ensures.shaped (logged_of (v g a) (target g a)) (recorded g a) (sym (lifted g at.After-lift-rec)))
      (λ logs every are. c.fetch_down.ensures.fetched logs every
      (are ∙ ap (λ b. take (depth + 1) (drop (b + (n g a - 1) - depth) (bytes_of (first g a).records))) (sym r.base_is) ∙ sym (fetched g at.After-lower)))

pub invariant_of-self : goal.invariant_of-self
invariant_of-self g c =
    let there = (goal.at.invariant_of-self g c).After-fetch_down in
    let b = a g there in
    fields_show (first g b) (view g there) (lawful_take (whole g b) (n g b) (is g b).some (law g b))
    (c.truncate.ensures.items ∙ ap (take (n g b)) c.self.invariant.chain.shows.entries ∙ take-map entry_of (n g b) (whole g b).logs)
    (omega (arith, c.self.invariant.chain.shows.room, c.truncate.ensures.capacity))
    (subst (AreDifferences (first g b).logs) (sym c.truncate-2.ensures.items) (differences_take (n g b) (whole g b).logs c.self.inside.differences.items c.self.invariant.differences))

pub returns-clause-answer : goal.returns-clause-answer
returns-clause-answer g c =
    let b = (goal.at.returns-clause-answer g c).After-from-depth in
    ap reply.At (is g b).time_is ∙ ap (λ (a : ObjectAnswer). a.reply) (answer_is g b)

pub returns-clause-after : goal.returns-clause-after
returns-clause-after g c =
    let there = (goal.at.returns-clause-after g c).After-fetch_down in
    (λ i. object_of (state g there i) (view g there i)) ∙ ap (λ (a : ObjectAnswer). a.object) (answer_is g (a g there))

pub returns-clause-chain : goal.returns-clause-chain
returns-clause-chain g c = keeps_rest c.reached-kept.result (view g (goal.at.returns-clause-chain g c).After-fetch_down) c.self.view_is

pub returns-clause-heap : goal.returns-clause-heap
returns-clause-heap g c = heap_rest c.args.heap.now c.mark_logs.ensures.same c.reshape.ensures.same c.fetch_down.ensures.same

pub returns-clause-belongs : goal.returns-clause-belongs
returns-clause-belongs g c =
    let there = (goal.at.returns-clause-belongs g c).After-fetch_down in
    subst (λ (h : HeapMeaning). Belongs h.version h.quota c.fetch_down.new.heap.state (now g there)) (sym (returns-clause-heap g c))
    (subst (λ (x : HeapState). Belongs c.args.heap.now.version c.args.heap.now.quota x (now g there)) (sym (state g there))
    (subst (Belongs c.args.heap.now.version c.args.heap.now.quota (restored g (a g there))) (sym (view g there)) (first_belongs g (a g there))))

pub returns-clause-stands : goal.returns-clause-stands
returns-clause-stands g c =
    let there = (goal.at.returns-clause-stands g c).After-fetch_down in
    let b = a g there in
    subst StandsForCopies (sym (view g there)) (stands (first g b) (lawful_take (whole g b) (n g b) (is g b).some (law g b)))
