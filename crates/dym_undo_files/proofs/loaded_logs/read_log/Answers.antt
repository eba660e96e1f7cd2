use Rattle.std.proofs.Common.{◌≡◌, ℕ, ◌≤◌, Option, None, Some, option_map, List, [], ◌∷◌, ◌++◌, take, refl, sym, ap, subst, ◌∙◌, arith}
use Rattle.std.proofs.lemmas.List.Elements.{All-from_recursion}
use Rattle.std.specs.FinSet as set
use Rattle.dym_base.specs.Heaps.{Live, HeapState, held}
use Rattle.dym_base.specs.Objects.{LogEntry, ObjectState, newest, log, new_entry, record_of}
use Rattle.dym_base.specs.LawfulLists.{IsRecordOf}
use Rattle.dym_base.specs.Recorded.{IsRecorded}
use Rattle.dym_base.specs.declared.command.Kind.{Kind}
use Rattle.dym_base.specs.declared.command.Version.{Version}
use Rattle.dym_base.specs.declared.reply.Reply.TheVariants as reply
use Rattle.dym_heap.specs.Meaning.{HeapMeaning}
use Rattle.dym_chain.specs.Answers.{IsLogged}
use Rattle.dym_chain.specs.Chains.{all_logs}
use Rattle.dym_chain.specs.Lawful.{logged_of}
use Rattle.dym_ckpt.specs.FileReads.{heap_at}
use Rattle.dym_undo.specs.UndoLogs.{UndoMeaning, Belongs, log_at, no_entry, object_of, unfound}
use Rattle.dym_undo_files.proofs.Logging.{log_taken, newest_push}
use Rattle.dym_undo_files.proofs.Reading.{record_bytes, records_count, newest_take, stands_at, depth_at, entry_is}
use Rattle.dym_undo_files.proofs.TakenLists.{heap_as}
use Rattle.dym_undo_files.proofs.loaded_logs.read_log.Given as given
use Rattle.dym_undo_files.proofs.loaded_logs.read_log.Goals.{After-lift-rec, After-bring_to}
use Rattle.dym_undo_files.proofs.loaded_logs.read_log.Goals as goal

pub lift-rec-requires-clause-place : goal.lift-rec-requires-clause-place
lift-rec-requires-clause-place g c =
    omega (arith, c.requires.place, records_count c.args.heap.now.version c.args.chain.now.records (all_logs c.args.chain.now) c.requires.readable.records)

module _ (g : given.Over) (c : After-lift-rec g) where
  abbrev v : Version
  v = c.args.heap.now.version

  abbrev q : ℕ
  q = c.args.heap.now.quota

  abbrev logs : List LogEntry
  logs = all_logs c.args.chain.now

  abbrev e : LogEntry
  e = log_at logs c.args.place

  abbrev before : Option LogEntry
  before = newest (take c.args.place logs)

  recorded : IsRecorded (logged_of v e)
  recorded = All-from_recursion (λ (x : LogEntry). IsRecorded (logged_of v x)) logs c.requires.readable.recorded c.args.place no_entry c.requires.place

  within : held e.copy ≤ q
  within = All-from_recursion (λ (x : LogEntry). held x.copy ≤ q) logs c.requires.readable.within c.args.place no_entry c.requires.place

  rec_is : c.lift-rec.result ≡ record_of v e
  rec_is = c.lift-rec.ensures.bytes ∙ record_bytes v c.args.chain.now.records logs c.args.place c.requires.readable.records c.requires.place

pub bring_record-requires-clause-heap : goal.bring_record-requires-clause-heap
bring_record-requires-clause-heap g c =
    let of = c.requires.brought.scratch_of in
    record { version_is = refl; quota_is = refl; sound = of.sound }

pub bring_record-requires-clause-rec : goal.bring_record-requires-clause-rec
bring_record-requires-clause-rec g c =
    let a = (goal.at.bring_record-requires-clause-rec g c).After-lift-rec in
    let of = c.requires.brought.scratch_of in
    let s = c.args.scratch.now in
    subst (λ (w : Version). IsRecordOf w s.quota c.lift-rec.result) (sym of.version_is)
    (subst (λ n. IsRecordOf (v g a) n c.lift-rec.result) (sym of.quota_is)
    (logged_of (v g a) (e g a), record { recorded = recorded g a; version = refl; within = within g a }, sym (rec_is g a)))

at_untouched : (o : Option LogEntry) → (heap_at o).touched ≡ set.empty
at_untouched None = refl
at_untouched (Some f) = refl

pub bring_to-requires-clause-kept : goal.bring_to-requires-clause-kept
bring_to-requires-clause-kept g c =
    let is = c.requires.brought in
    record {
      sound = is.heap_of.sound;
      belongs = is.belongs;
      untouched = ap (λ (s : HeapState). s.touched) is.heap_is
          ∙ at_untouched (newest (take c.args.place (all_logs c.args.chain.now)));
    }

pub bring_to-requires-clause-other : goal.bring_to-requires-clause-other
bring_to-requires-clause-other g c =
    let of = c.requires.brought.scratch_of in
    heap_as _ _ _ _ c.bring_record.new.heap of.version_is of.quota_is c.bring_record.ensures.heap

module _ (g : given.Over) (c : After-bring_to g) where
  abbrev a : After-lift-rec g
  a = (goal.at.After-bring_to g c).After-lift-rec

  abbrev s : HeapState
  s = c.bring_to.new.heap.state

  scratch_is : c.bring_record.new.heap.state ≡ heap_at (Some (e g a))
  scratch_is = c.bring_record.ensures.after (v g a) (before g a) (e g a) (recorded g a) (rec_is g a) c.requires.brought.scratch_is
      (stands_at (logs g a) c.args.place c.requires.place c.requires.readable.full c.requires.readable.keeps)

  live : s.live ≡ (e g a).copy
  live = c.bring_to.ensures.live ∙ ap (λ (x : HeapState). x.live) scratch_is

  none : s.touched ≡ set.empty
  none = c.bring_to.ensures.kept.untouched

  entry : new_entry (object_of s c.bring_to.new.undo) c.time-time.result c.kind-kind.result ≡ unfound (e g a)
  entry = entry_is (e g a) s c.bring_to.new.undo.logs c.time-time.result c.kind-kind.result (before g a)
      (c.time-time.ensures (logged_of (v g a) (e g a)) (recorded g a) (sym (rec_is g a)))
      (c.kind-kind.ensures (logged_of (v g a) (e g a)) (recorded g a) (sym (rec_is g a)))
      (ap newest c.bring_to.ensures.logs ∙ c.requires.brought.newest_is)
      (depth_at (logs g a) c.args.place c.requires.place c.requires.readable.full c.requires.readable.follows c.requires.readable.shallow) live none

  version : c.bring_to.new.heap.version ≡ v g a
  version = ap (λ (h : HeapMeaning). h.version) c.bring_to.ensures.rest

  quota : c.bring_to.new.heap.quota ≡ q g a
  quota = ap (λ (h : HeapMeaning). h.quota) c.bring_to.ensures.rest

-- what a log that was taken leaves
logged_lists : (v : Version) (s : HeapState) (u w : UndoMeaning) (t : HeapState) (time : ℕ) (kind told : Kind) (x : LogEntry)
    → ((n : ℕ) × ((log v (object_of s u) time kind).reply ≡ reply.Logged told n))
    → object_of t w ≡ (log v (object_of s u) time kind).object → new_entry (object_of s u) time kind ≡ x → (w.logs ≡ u.logs ++ x ∷ [])
    × (t ≡ record { live = s.live; touched = set.empty })
logged_lists v s u w t time kind told x answer after is =
    let object = after ∙ log_taken v (object_of s u) time kind (subst IsLogged (sym answer.1) tt) in
    (ap (λ (o : ObjectState). o.logs) object ∙ ap (λ (y : LogEntry). u.logs ++ y ∷ []) is, ap (λ (o : ObjectState). o.heap) object)

pub returns-in-Ok-clause-logs : goal.returns-in-Ok-clause-logs
returns-in-Ok-clause-logs g c =
    let b = (goal.at.returns-in-Ok-clause-logs g c).After-bring_to in
    let left = logged_lists c.bring_to.new.heap.version (s g b) c.bring_to.new.undo c.log.new.self c.log.new.heap.state c.time-time.result c.kind-kind.result _
    (unfound (e g (a g b))) c.in-Ok.ensures.answer c.in-Ok.ensures.after (entry g b) in
    left.0 ∙ ap (λ (l : List LogEntry). l ++ unfound (e g (a g b)) ∷ []) c.bring_to.ensures.logs

pub returns-in-Ok-clause-brought : goal.returns-in-Ok-clause-brought
returns-in-Ok-clause-brought g c =
    let b = (goal.at.returns-in-Ok-clause-brought g c).After-bring_to in
    let f = a g b in
    let left = logged_lists c.bring_to.new.heap.version (s g b) c.bring_to.new.undo c.log.new.self c.log.new.heap.state c.time-time.result c.kind-kind.result _
    (unfound (e g f)) c.in-Ok.ensures.answer c.in-Ok.ensures.after (entry g b) in
    let next = newest_take (logs g f) c.args.place c.requires.place in
    let version = ap (λ (h : HeapMeaning). h.version) c.in-Ok.ensures.rest ∙ version g b in
    let quota = ap (λ (h : HeapMeaning). h.quota) c.in-Ok.ensures.rest ∙ quota g b in
    record {
      heap_of = record { version_is = version; quota_is = quota; sound = c.in-Ok.ensures.sound };
      scratch_of = heap_as _ _ _ _ c.bring_record.new.heap c.requires.brought.scratch_of.version_is c.requires.brought.scratch_of.quota_is c.bring_record.ensures.heap;
      heap_is = left.1 ∙ ap (λ (l : Live). record { live = l; touched = set.empty }) (live g b) ∙ sym (ap heap_at next);
      scratch_is = scratch_is g b ∙ sym (ap heap_at next);
      newest_is = ap newest left.0 ∙ newest_push c.bring_to.new.undo.logs (unfound (e g f)) ∙ sym (ap (option_map unfound) next);
      belongs = subst (λ (w : Version). Belongs w (q g f) c.log.new.heap.state c.log.new.self) version
          (subst (λ n. Belongs c.log.new.heap.version n c.log.new.heap.state c.log.new.self) quota c.in-Ok.ensures.belongs);
    }
