use Rattle.std.proofs.Common.{arith, ◌≡◌, ℕ, ◌≤◌, None, Some, List, length, map, option_map, refl, sym, ap, subst, ◌∙◌}
use Rattle.std.specs.FinSet as set
use Rattle.dym_base.specs.Heaps.{HeapState}
use Rattle.dym_base.specs.Objects.{LogEntry, ObjectAnswer, newest, next_depth, new_entry, record_of, log}
use Rattle.dym_base.specs.declared.command.Version.{Version}
use Rattle.dym_base.specs.declared.command.Kind.{Kind}
use Rattle.dym_base.specs.declared.reply.Reply.TheVariants as reply
use Rattle.dym_base.proofs.Runs.{all_newest}
use Rattle.dym_heap.specs.RecordLoads.{areas_of}
use Rattle.dym_heap.specs.Meaning.{HeapMeaning}
use Rattle.dym_pack.specs.Areas.{IsPackable, logged}
use Rattle.dym_base.specs.Packed.{packed}
use Rattle.dym_chain.specs.Chains.{ChainMeaning, Belongs, StandsForCopies, object_of}
use Rattle.dym_chain.specs.Chains as chains
use Rattle.dym_chain.specs.Answers.{log_refusal, IsLogged}
use Rattle.dym_chain.specs.Lawful.{IsLawful, entry_of}
use Rattle.dym_chain.specs.ChainInvariants.{chain_of}
use Rattle.dym_chain.proofs.Lawfuls.{stands, fields_show}
use Rattle.dym_chain.proofs.Moves.{ComesNext, lawful_push, belongs_push}
use Rattle.dym_chain.proofs.Places.{count_same}
use Rattle.dym_chain.proofs.Logs.{refused_is, taken_is, has_room, comes_next, record_is, keeps_by, log_of, room_left, taken_view, taken_entries, taken_reply, may_be_short}
use Rattle.dym_base.specs.declared.command.Kind.TheVariants.{Inc}
use Rattle.dym_chain.specs.Differences.{HasOneMore, TellsChanges}
use Rattle.dym_chain.proofs.DifferenceFacts.{differences_push, differences_same, tells_found}
use Rattle.dym_chain.proofs.chain.Chain.log.Given as given
use Rattle.dym_chain.proofs.chain.Chain.log.Goals.{After-refusal_of, After-depth_of_next-depth, In-Ok, After-len-count, After-put}
use Rattle.dym_chain.proofs.chain.Chain.log.Goals as goal

module _ (g : given.Over) (c : After-refusal_of g) where
  abbrev whole : ChainMeaning
  whole = chain_of c.self.inside.ghost_copies.copies (g.K.LogKeep.meaning c.self.inside.keep)

  entries : c.deref.result.now ≡ map entry_of whole.logs
  entries = c.deref.ensures.value ∙ c.self.invariant.chain.shows.entries

  last : c.newest_of-newest.result ≡ option_map entry_of (newest whole.logs)
  last = c.newest_of-newest.ensures whole.logs entries

  refusal : c.refusal_of.result ≡ log_refusal c.args.time whole.logs
  refusal = c.refusal_of.ensures whole.logs last (c.len.ensures ∙ sym c.deref.ensures.len ∙ count_same whole.logs c.deref.result.now entries)

  unchanged_stands : StandsForCopies c.args.self.now
  unchanged_stands = subst StandsForCopies c.self.view_is (stands whole c.self.invariant.chain.lawful)

pub returns-in-Some-clause-stands : goal.returns-in-Some-clause-stands
returns-in-Some-clause-stands g c = unchanged_stands g (goal.at.returns-in-Some-clause-stands g c).After-refusal_of

pub returns-in_default-pack-clause-stands : goal.returns-in_default-pack-clause-stands
returns-in_default-pack-clause-stands g c = unchanged_stands g (goal.at.returns-in_default-pack-clause-stands g c).After-refusal_of

pub returns-in-Some-clause-answer : goal.returns-in-Some-clause-answer
returns-in-Some-clause-answer g c =
    let refused = ap (λ (x : ChainMeaning). log_refusal c.args.time x.logs) (sym c.self.view_is) ∙ sym (refusal g (goal.at.returns-in-Some-clause-answer g c).After-refusal_of) ∙ c.in-Some.is in
    ap (λ (a : ObjectAnswer). a.reply) (refused_is c.args.heap.now.version (object_of c.args.heap.now.state c.args.self.now) c.args.time c.args.want c.in-Some.why refused)

-- ---- where the log isn't refused

module _ (g : given.Over) (c : After-depth_of_next-depth g) where
  abbrev before : After-refusal_of g
  before = (goal.at.After-depth_of_next-depth g c).After-refusal_of

  free : log_refusal c.args.time (whole g before).logs ≡ None
  free = sym (refusal g before) ∙ c.in_default.is

  depth_is : c.depth_of_next-depth.result ≡ next_depth c.args.want (newest (whole g before).logs)
  depth_is =
      let logs = (whole g before).logs in
      c.depth_of_next-depth.ensures (newest logs) (last g before) (λ e is. all_newest (λ (f : LogEntry). f.depth ≤ 31) logs e c.self.invariant.chain.lawful.list.1 is)

  short : IsLogged (log c.args.heap.now.version (object_of c.args.heap.now.state c.args.self.now) c.args.time c.args.want).reply
  short =
      may_be_short c.args.heap.now.version c.args.heap.now.state c.args.self.now c.args.time c.args.want
      (ap (λ (x : ChainMeaning). log_refusal c.args.time x.logs) (sym c.self.view_is) ∙ free)

counted : (g : given.Over) (c : After-len-count g) → c.len-count.result ≡ length c.self.inside.ghost_copies.copies.logs
counted g c =
    c.len-count.ensures ∙ sym c.deref.ensures.len ∙ count_same c.self.inside.ghost_copies.copies.logs c.deref.result.now (entries g (goal.at.After-len-count g c).After-refusal_of)

pub keep_difference-requires-clause-few : goal.keep_difference-requires-clause-few
keep_difference-requires-clause-few g c =
    omega (arith, counted g (goal.at.keep_difference-requires-clause-few g c).After-len-count, c.self.invariant.differences.few)

pub returns-in_default-keep_difference-clause-stands : goal.returns-in_default-keep_difference-clause-stands
returns-in_default-keep_difference-clause-stands g c =
    stands (chain_of c.self.inside.ghost_copies.copies (g.K.LogKeep.meaning c.self.inside.keep)) c.self.invariant.chain.lawful

pub invariant_of-self : goal.invariant_of-self
invariant_of-self g c =
    let counted = counted g (goal.at.invariant_of-self g c).After-len-count in
    record {
      chain = c.self.invariant.chain;
      differences = differences_same c.self.inside.ghost_copies.copies.logs c.self.inside.differences.items c.keep_difference.new.differences.items c.self.invariant.differences
          (omega (arith, counted, c.in_default-keep_difference.ensures.few)) c.in_default-keep_difference.ensures.same;
    }

pub returns-in_default-keep_difference-clause-answer : goal.returns-in_default-keep_difference-clause-answer
returns-in_default-keep_difference-clause-answer g c = short g (goal.at.returns-in_default-keep_difference-clause-answer g c).After-depth_of_next-depth

pub returns-in_default-pack-clause-answer : goal.returns-in_default-pack-clause-answer
returns-in_default-pack-clause-answer g c = short g (goal.at.returns-in_default-pack-clause-answer g c).After-depth_of_next-depth

pub put-requires-clause-room : goal.put-requires-clause-room
put-requires-clause-room g c =
    let copies = c.self.inside.ghost_copies.copies in
    room_left (chain_of copies (g.K.LogKeep.meaning c.self.inside.keep)) c.self.invariant.chain.lawful
    (has_room c.args.time copies.logs (free g (goal.at.put-requires-clause-room g c).After-depth_of_next-depth))

pub push_reserved-requires : goal.push_reserved-requires
push_reserved-requires g c =
    let at = goal.at.push_reserved-requires g c in
    let logs = c.self.inside.ghost_copies.copies.logs in
    let room = has_room c.args.time logs (free g at.After-depth_of_next-depth) in
    let vec = count_same logs c.deref.result.now (entries g at.After-refusal_of) in
    omega (arith, room, vec, c.deref.ensures.len, c.self.invariant.chain.lawful.list.0, c.self.invariant.chain.shows.room)

-- ---- the log that is put

module _ (g : given.Over) (c : In-Ok g) where
  abbrev chain : ChainMeaning
  chain = chain_of c.self.inside.ghost_copies.copies (g.K.LogKeep.meaning c.self.inside.keep)

  abbrev law : IsLawful chain
  law = c.self.invariant.chain.lawful

  abbrev v : Version
  v = c.args.heap.now.version

  abbrev s : HeapState
  s = c.args.heap.now.state

  abbrev depth : ℕ
  depth = c.depth_of_next-depth.result

  abbrev entry : LogEntry
  entry = new_entry (object_of s chain) c.args.time c.args.want

  packable : IsPackable (areas_of c.args.heap.now)
  packable = c.heaps_are_packable.ensures c.args.heap.now c.requires.sound

  record_put : c.in-Ok.rec ≡ record_of v (log_of s c.args.time depth)
  record_put =
      let areas = areas_of c.args.heap.now in
      c.in-Ok.ensures ∙ ap (λ (k : Kind). packed (logged areas k c.args.time)) c.kind_at-kind.ensures ∙ record_is areas c.args.time depth

  belongs : Belongs v c.args.heap.now.quota s chain
  belongs = subst (Belongs v c.args.heap.now.quota s) (sym c.self.view_is) c.requires.belongs

  free_now : log_refusal c.args.time chain.logs ≡ None
  free_now = free g (goal.at.In-Ok g c).After-depth_of_next-depth

  deep : depth ≡ next_depth c.args.want (newest chain.logs)
  deep = depth_is g (goal.at.In-Ok g c).After-depth_of_next-depth

  -- the log comes next
  next : ComesNext chain v entry
  next = comes_next chain v c.args.heap.now.quota s c.args.time c.args.want law belongs packable c.ranges.time.fits free_now

  after_law : IsLawful (chains.logged v entry chain)
  after_law = lawful_push chain v entry law belongs.records next

  tells : (before : LogEntry) → newest chain.logs ≡ Some before → TellsChanges before entry (packed (logged (areas_of c.args.heap.now) Inc c.args.time))
  tells before is = tells_found v s c.args.time before entry (keeps_by s before (newest chain.logs) is belongs.untouched) packable c.ranges.time.fits refl

-- the chain with the log
view : (g : given.Over) (c : After-put g) → chain_of c.logged.result.copies (g.K.LogKeep.meaning c.put.new.self) ≡ chains.logged (v g (goal.at.After-put g c).In-Ok) (entry g (goal.at.After-put g c).In-Ok) (chain g (goal.at.After-put g c).In-Ok)
view g c =
    let o = (goal.at.After-put g c).In-Ok in
    taken_view (g.K.LogKeep.meaning c.self.inside.keep) c.self.inside.ghost_copies.copies (v g o) (s g o) c.args.time (depth g o) c.args.want c.in-Ok.rec (deep g o) (record_put g o) c.put.ensures.after c.logged.ensures

pub invariant_of-self-2 : goal.invariant_of-self-2
invariant_of-self-2 g c =
    let at = goal.at.invariant_of-self-2 g c in
    let o = at.In-Ok in
    let logs = (chain g o).logs in
    let differences = c.self.inside.differences.items in
    let after = c.keep_difference.new.differences.items in
    let bytes : List ℕ = packed (logged (areas_of c.args.heap.now) Inc c.args.time) in
    let more : HasOneMore differences after (length logs) bytes = subst (λ m. HasOneMore differences after m bytes) (counted g at.After-len-count) c.in-Ok-keep_difference.ensures.more in
    fields_show (chains.logged (v g o) (entry g o) (chain g o)) (view g at.After-put) (after_law g o)
    (taken_entries c.self.inside.entries.items c.push_reserved.new.self.items logs (s g o) c.args.time (depth g o) c.args.want c.self.invariant.chain.shows.entries c.push_reserved.ensures.items (deep g o))
    (omega (arith, c.self.invariant.chain.shows.room, c.push_reserved.ensures.capacity))
    (differences_push logs differences after (entry g o) bytes c.self.invariant.differences more (tells g o))

pub returns-clause-answer : goal.returns-clause-answer
returns-clause-answer g c =
    let o = (goal.at.returns-clause-answer g c).In-Ok in
    subst (λ (x : ChainMeaning). (log (v g o) (object_of (s g o) x) c.args.time c.args.want).reply ≡ reply.Logged c.kind_at-kind.result c.len-len.result) c.self.view_is
    (taken_reply (v g o) (s g o) (chain g o) c.args.time (depth g o) c.len-len.result c.args.want c.kind_at-kind.result c.in-Ok.rec (free_now g o) (deep g o) c.kind_at-kind.ensures (record_put g o) c.len-len.ensures)

pub returns-clause-after : goal.returns-clause-after
returns-clause-after g c =
    let at = goal.at.returns-clause-after g c in
    let o = at.In-Ok in
    ap (λ (h : HeapMeaning). object_of h.state (chain_of c.logged.result.copies (g.K.LogKeep.meaning c.put.new.self))) c.clear_dirty.ensures.cleared
    ∙ ap (object_of (record { live = (s g o).live; touched = set.empty })) (view g at.After-put)
    ∙ sym (ap (λ (a : ObjectAnswer). a.object) (taken_is (v g o) (object_of (s g o) (chain g o)) c.args.time c.args.want (free_now g o)))
    ∙ ap (λ (x : ChainMeaning). (log (v g o) (object_of (s g o) x) c.args.time c.args.want).object) c.self.view_is

pub returns-clause-put : goal.returns-clause-put
returns-clause-put g c =
    view g (goal.at.returns-clause-put g c).After-put
    ∙ ap (λ (x : ChainMeaning). chains.logged c.args.heap.now.version (new_entry (object_of c.args.heap.now.state x) c.args.time c.args.want) x) c.self.view_is

pub returns-clause-belongs : goal.returns-clause-belongs
returns-clause-belongs g c =
    let at = goal.at.returns-clause-belongs g c in
    let o = at.In-Ok in
    let quota = c.args.heap.now.quota in
    subst (λ (h : HeapMeaning). Belongs h.version h.quota h.state (chain_of c.logged.result.copies (g.K.LogKeep.meaning c.put.new.self))) (sym c.clear_dirty.ensures.cleared)
    (subst (Belongs (v g o) quota (record { live = (s g o).live; touched = set.empty })) (sym (view g at.After-put))
    (belongs_push (chain g o) (v g o) quota (s g o) (entry g o) (belongs g o) (next g o) refl c.requires.sound.within))

pub returns-clause-stands : goal.returns-clause-stands
returns-clause-stands g c =
    let at = goal.at.returns-clause-stands g c in
    let o = at.In-Ok in
    subst StandsForCopies (sym (view g at.After-put)) (stands (chains.logged (v g o) (entry g o) (chain g o)) (after_law g o))
