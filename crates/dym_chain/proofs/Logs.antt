-- A log that is taken, and one that is refused.
use Rattle.std.proofs.Common.{◌≡◌, ℕ, ◌+◌, ◌<◌, ◌≤◌, ◌^◌, ◌⊎◌, inl, inr, Bool, true, false, cond, nat_le, ◌==◌, Option, Some, None, List, [], ◌∷◌, ◌++◌, length, refl, sym, ap, subst, ◌∙◌, arith, length-append, map}
use Rattle.std.specs.Ordering.{nat_cmp}
use Rattle.std.specs.FinSet as set
use Rattle.std.specs.FinMap.{contains_key}
use Rattle.std.proofs.lemmas.Bool.{cond_both, leb-false, eqb-false, true≢false}
use Rattle.std.proofs.lemmas.Option.{same_Some, none-some}
use Rattle.dym_base.specs.Heaps.{Live, Touched, HeapState}
use Rattle.dym_base.specs.Objects.{LogEntry, ObjectState, ObjectAnswer, newest, next_depth, found_touched, new_entry, kind_of, record_of, unchanged, log_more, log_after, log}
use Rattle.dym_base.specs.Packed.{packed}
use Rattle.dym_base.specs.declared.command.Version.{Version}
use Rattle.dym_base.specs.declared.command.Kind.{Kind}
use Rattle.dym_base.specs.declared.command.Kind.TheVariants.{Full, Inc}
use Rattle.dym_base.specs.declared.reply.Reply.TheVariants as reply
use Rattle.dym_base.specs.declared.reply.Refusal.{Refusal}
use Rattle.dym_base.specs.declared.reply.Refusal.TheVariants.{NotAfter, LogsFull}
use Rattle.dym_base.proofs.Runs.{NewestBefore, all_push, all_newest, follows_push}
use Rattle.dym_pack.specs.Areas.{AreasMeaning, IsPackable, logged}
use Rattle.dym_chain.specs.Chains.{ChainMeaning, KeepsUntouched, KeepsFromNewest, Belongs, object_of}
use Rattle.dym_chain.specs.Chains as chains
use Rattle.dym_chain.specs.Lawful.{IsLawful, entry_of}
use Rattle.dym_chain.specs.Answers.{log_refusal, refusal_after, refusal_if_full, IsLogged}
use Rattle.dym_chain.proofs.Moves.{ComesNext}
use Rattle.std.proofs.lemmas.List.{map-append}
use Rattle.dym_slots.specs.Meanings.{KeepMeaning, with_record}
use Rattle.dym_chain.specs.Copies.{ChainCopies}
use Rattle.dym_chain.specs.ChainInvariants.{chain_of}
use Rattle.dym_chain.specs.declared.entry.Entry.{Entry}
use Rattle.dym_chain.proofs.KeptLists.{oldest_small}
use Rattle.dym_chain.proofs.Prunes.{records_count}

-- the answer of a log that is taken
abbrev pub taken : Version → ObjectState → ℕ → Kind → ObjectAnswer
taken v s t kind = record {
  object = record { heap = record { live = s.heap.live; touched = set.empty }; logs = s.logs ++ new_entry s t kind ∷ [] };
  reply = reply.Logged (kind_of (new_entry s t kind)) (length (record_of v (new_entry s t kind)));
}

refused_one : (b : Bool) (first why : Refusal) (rest : Option Refusal) (s : ObjectState) (other : ObjectAnswer) → (rest ≡ Some why → other ≡ unchanged s (reply.Refused why)) → cond b (Some first) rest ≡ Some why → cond b (unchanged s (reply.Refused first)) other ≡ unchanged s (reply.Refused why)
refused_one true first why rest s other next is = ap (λ w. unchanged s (reply.Refused w)) (same_Some first why is)
refused_one false first why rest s other next is = next is

refused_full : (v : Version) (s : ObjectState) (t : ℕ) (kind : Kind) (why : Refusal) → refusal_if_full s.logs ≡ Some why → log_more v s t kind ≡ unchanged s (reply.Refused why)
refused_full v s t kind why is = refused_one (length s.logs == 256) LogsFull why None s (taken v s t kind) (λ none. absurd (none-some why none)) is

refused_after : (v : Version) (s : ObjectState) (t : ℕ) (kind : Kind) (why : Refusal) (o : Option LogEntry) → refusal_after t s.logs o ≡ Some why → log_after v s t kind o ≡ unchanged s (reply.Refused why)
refused_after v s t kind why None is = refused_full v s t kind why is
refused_after v s t kind why (Some e) is = refused_one (nat_le t e.time) (NotAfter e.time) why (refusal_if_full s.logs) s (log_more v s t kind) (refused_full v s t kind why) is

pub refused_is : (v : Version) (s : ObjectState) (t : ℕ) (kind : Kind) (why : Refusal) → log_refusal t s.logs ≡ Some why → log v s t kind ≡ unchanged s (reply.Refused why)
refused_is v s t kind why is = refused_after v s t kind why (newest s.logs) is

not_first : (b : Bool) (first : Refusal) (rest : Option Refusal) → cond b (Some first) rest ≡ None → (b ≡ false) × (rest ≡ None)
not_first true first rest is = absurd (none-some first (sym is))
not_first false first rest is = (refl, is)

taken_full : (v : Version) (s : ObjectState) (t : ℕ) (kind : Kind) → refusal_if_full s.logs ≡ None → log_more v s t kind ≡ taken v s t kind
taken_full v s t kind is = ap (λ b. cond b (unchanged s (reply.Refused LogsFull)) (taken v s t kind)) (not_first (length s.logs == 256) LogsFull None is).0

taken_after : (v : Version) (s : ObjectState) (t : ℕ) (kind : Kind) (o : Option LogEntry) → refusal_after t s.logs o ≡ None → log_after v s t kind o ≡ taken v s t kind
taken_after v s t kind None is = taken_full v s t kind is
taken_after v s t kind (Some e) is =
    let both = not_first (nat_le t e.time) (NotAfter e.time) (refusal_if_full s.logs) is in
    ap (λ b. cond b (unchanged s (reply.Refused (NotAfter e.time))) (log_more v s t kind)) both.0 ∙ taken_full v s t kind both.1

pub taken_is : (v : Version) (s : ObjectState) (t : ℕ) (kind : Kind) → log_refusal t s.logs ≡ None → log v s t kind ≡ taken v s t kind
taken_is v s t kind is = taken_after v s t kind (newest s.logs) is

-- what is true where nothing is refused

room_by : (t : ℕ) (logs : List LogEntry) (o : Option LogEntry) → refusal_after t logs o ≡ None → length logs ≡ 256 → ⊥
room_by t logs None is = eqb-false (length logs) 256 (not_first (length logs == 256) LogsFull None is).0
room_by t logs (Some e) is = eqb-false (length logs) 256 (not_first (length logs == 256) LogsFull None (not_first (nat_le t e.time) (NotAfter e.time) (refusal_if_full logs) is).1).0

pub has_room : (t : ℕ) (logs : List LogEntry) → log_refusal t logs ≡ None → length logs ≡ 256 → ⊥
has_room t logs is = room_by t logs (newest logs) is

depth_next : (kind : Kind) (e : LogEntry) → (next_depth kind (Some e) ≡ 0) ⊎ (next_depth kind (Some e) ≡ e.depth + 1)
depth_next Full e = inl refl
depth_next Inc e = cond_both (e.depth == 31) 0 (e.depth + 1) (λ n. (n ≡ 0) ⊎ (n ≡ e.depth + 1)) (λ _. inl refl) (λ _. inr refl)

before_by : (s : ObjectState) (t : ℕ) (kind : Kind) (o : Option LogEntry) → newest s.logs ≡ o → refusal_after t s.logs o ≡ None → NewestBefore o (new_entry s t kind)
before_by s t kind None last is = tt
before_by s t kind (Some e) last is = (
  leb-false t e.time (not_first (nat_le t e.time) (NotAfter e.time) (refusal_if_full s.logs) is).0,
  subst (λ o. (next_depth kind o ≡ 0) ⊎ (next_depth kind o ≡ e.depth + 1)) (sym last) (depth_next kind e),
)

depth_small : (kind : Kind) (o : Option LogEntry) → ((e : LogEntry) → o ≡ Some e → e.depth ≤ 31) → next_depth kind o ≤ 31
depth_small Full o small = omega arith
depth_small Inc None small = omega arith
depth_small Inc (Some e) small =
    let low : e.depth ≤ 31 = small e refl in
    cond_both (e.depth == 31) 0 (e.depth + 1) (λ n. n ≤ 31) (λ _. omega arith) (λ less. (let apart = eqb-false e.depth 31 less in omega (arith, low, apart)))

depth_none : (kind : Kind) (o : Option LogEntry) → o ≡ None → next_depth kind o ≡ 0
depth_none Full o none = refl
depth_none Inc None none = refl
depth_none Inc (Some e) none = absurd (none-some e (sym none))

found_live : (live : Live) (depth : ℕ) (touched : Touched) → ((k : ℕ) → set.contains touched k ≡ true → contains_key live k ≡ true) → (k : ℕ) → set.contains (found_touched depth touched) k ≡ true → contains_key live k ≡ true
found_live live depth touched each k =
    cond_both (depth == 0) set.empty touched (λ (t : Touched). set.contains t k ≡ true → contains_key live k ≡ true)
    (λ _ is. absurd (true≢false (sym is ∙ set.contains-empty nat_cmp k)))
    (λ _ is. each k is)

found_deep : (depth : ℕ) (touched : Touched) → 0 < depth → found_touched depth touched ≡ touched
found_deep depth touched deep = cond_both (depth == 0) set.empty touched (λ (t : Touched). t ≡ touched) (λ none. (let zero_depth = Rattle.std.proofs.lemmas.Bool.eqb-true depth 0 none in absurd (omega (arith, zero_depth, deep)))) (λ _. refl)

pub keeps_by : (s : HeapState) (f : LogEntry) (o : Option LogEntry) → o ≡ Some f → KeepsFromNewest s o → KeepsUntouched s.live s.touched f.copy
keeps_by s f None is keeps = absurd (none-some f is)
keeps_by s f (Some e) is keeps = subst (λ (x : LogEntry). KeepsUntouched s.live s.touched x.copy) (same_Some e f is) keeps

pub comes_next : (c : ChainMeaning) (v : Version) (quota : ℕ) (s : HeapState) (t : ℕ) (kind : Kind) → IsLawful c → Belongs v quota s c → IsPackable (record { version = v; live = s.live; touched = s.touched }) → t < 2 ^ 64 → log_refusal t c.logs ≡ None → ComesNext c v (new_entry (object_of s c) t kind)
comes_next c v quota s t kind law belongs packable fits free =
    let o : ObjectState = object_of s c in
    let e : LogEntry = new_entry o t kind in
    let room = has_room t c.logs free in
    let before : NewestBefore (newest c.logs) e = before_by o t kind (newest c.logs) refl free in
    let Small : LogEntry → Type 0 = λ f. f.depth ≤ 31 in
    let small : e.depth ≤ 31 = depth_small kind (newest c.logs) (λ f is. all_newest Small c.logs f law.list.1 is) in
    record {
      recorded = record { sized = packable.sized; found_live = found_live s.live e.depth s.touched packable.touched_live; few = packable.few; time = fits };
      list = (rw length-append (omega (arith, room, law.list.0)), all_push Small c.logs e law.list.1 small, follows_push c.logs e law.list.2 before);
      before = before;
      keeps = λ f is deep. subst (λ (found : Touched). KeepsUntouched s.live found f.copy) (sym (found_deep e.depth s.touched deep)) (keeps_by s f (newest c.logs) is belongs.untouched);
      first = λ none. depth_none kind (newest c.logs) none;
    }

-- the record that is put is that of the new log

packed_by : (b : Bool) (m : AreasMeaning) (t : ℕ) → logged m (cond b Full Inc) t ≡ record { version = m.version; kind = cond b Full Inc; time = t; copy = m.live; found = cond b set.empty m.touched }
packed_by true m t = refl
packed_by false m t = refl

pub record_is : (m : AreasMeaning) (t depth : ℕ) → packed (logged m (cond (depth == 0) Full Inc) t) ≡ record_of m.version (record { time = t; depth = depth; copy = m.live; found = found_touched depth m.touched })
record_is m t depth = ap packed (packed_by (depth == 0) m t)

-- ---- the fields of a chain as a log is taken

-- there is room for one record more
pub room_left : (c : ChainMeaning) → IsLawful c → (length c.logs ≡ 256 → ⊥) → length c.records < 288
room_left c law room =
    let count = records_count c law in
    let low = oldest_small c.logs law.list.1 in
    omega (arith, count, law.base, low, law.list.0, room)

-- the log of a heap at a depth
abbrev pub log_of : HeapState → ℕ → ℕ → LogEntry
log_of s t depth = record { time = t; depth = depth; copy = s.live; found = found_touched depth s.touched }

-- the chain that the fields then show
pub taken_view : {keep' : KeepMeaning} {copies' : ChainCopies} (keep : KeepMeaning) (copies : ChainCopies) (v : Version) (s : HeapState) (t depth : ℕ) (want : Kind) (rec : List ℕ) → depth ≡ next_depth want (newest copies.logs) → rec ≡ record_of v (log_of s t depth) → keep' ≡ with_record keep rec
    → copies' ≡ record { base_logs = copies.base_logs; logs = copies.logs ++ log_of s t depth ∷ [] } → chain_of copies' keep' ≡ chains.logged v (new_entry (object_of s (chain_of copies keep)) t want) (chain_of copies keep)
taken_view {keep' = keep'} keep copies v s t depth want rec depth_is rec_is keep_is told_is =
    let told : ChainCopies = record { base_logs = copies.base_logs; logs = copies.logs ++ log_of s t depth ∷ [] } in
    ap (λ (x : ChainCopies). chain_of x keep') told_is
    ∙ ap (chain_of told) keep_is
    ∙ ap (λ (b : List ℕ). chain_of told (with_record keep b)) rec_is
    ∙ ap (λ d. chains.logged v (log_of s t d) (chain_of copies keep)) depth_is

-- its entry
pub taken_entries : (kept kept' : List Entry) (logs : List LogEntry) (s : HeapState) (t depth : ℕ) (want : Kind) → kept ≡ map entry_of logs → kept' ≡ kept ++ record { time = t; depth = depth } ∷ [] → depth ≡ next_depth want (newest logs)
    → kept' ≡ map entry_of (logs ++ new_entry (record { heap = s; logs = logs }) t want ∷ [])
taken_entries kept kept' logs s t depth want are more depth_is =
    more ∙ (λ i. are i ++ record { time = t; depth = depth_is i } ∷ []) ∙ sym (map-append entry_of logs (new_entry (record { heap = s; logs = logs }) t want ∷ []))

-- its reply
pub taken_reply : (v : Version) (s : HeapState) (c : ChainMeaning) (t depth len : ℕ) (want kind : Kind) (rec : List ℕ) → log_refusal t c.logs ≡ None → depth ≡ next_depth want (newest c.logs) → kind ≡ cond (depth == 0) Full Inc → rec ≡ record_of v (log_of s t depth) → len ≡ length rec → (log v (object_of s c) t want).reply ≡ reply.Logged kind len
taken_reply v s c t depth len want kind rec free depth_is kind_is rec_is len_is =
    ap (λ (a : ObjectAnswer). a.reply) (taken_is v (object_of s c) t want free)
    ∙ ap (λ d. reply.Logged (cond (d == 0) Full Inc) (length (record_of v (log_of s t d)))) (sym depth_is)
    ∙ ap (λ (k : Kind). reply.Logged k (length (record_of v (log_of s t depth)))) (sym kind_is)
    ∙ ap (λ n. reply.Logged kind n) (ap length (sym rec_is) ∙ sym len_is)

pub may_be_short : (v : Version) (s : HeapState) (c : ChainMeaning) (t : ℕ) (want : Kind) → log_refusal t c.logs ≡ None → IsLogged (log v (object_of s c) t want).reply
may_be_short v s c t want free = subst (λ (a : ObjectAnswer). IsLogged a.reply) (sym (taken_is v (object_of s c) t want free)) tt
