-- What a command changes of a heap: the one chunk that it names or makes.
use Rattle.std.proofs.Common.{◌≡◌, ℕ, Bool, true, false, cond, ◌&&◌, ◌||◌, ◌==◌, nat_lt, ◌+◌, List, [], ◌∷◌, length, replicate, Option, None, Some, is_some}
use Rattle.std.proofs.Common.{Result, Ok, Err, refl, sym, ap, subst, ◌∙◌, true≢false}
use Rattle.std.specs.Result.{result_ok}
use Rattle.std.specs.FinMap.{get, contains_key}
use Rattle.std.specs.FinSet as set
use Rattle.std.specs.FinSet.{contains, contains-insert, contains-remove}
use Rattle.std.specs.Cmp.{nat_cmp_total, unsigned_tied}
use Rattle.dym_base.specs.Numbers.{number, cls}
use Rattle.dym_base.specs.Heaps.{Live, Touched, HeapState, fresh}
use Rattle.dym_base.specs.HeapStep.{HeapAnswer, key, refused, with_chunk, without_chunk, held_with_fresh, new_len, malloc_in, malloc, free_live, free, splice}
use Rattle.dym_base.specs.HeapStep.{written, write_live, write}
use Rattle.dym_base.specs.declared.handle.Handle.{Handle}
use Rattle.dym_base.specs.declared.command.Version.{Version}
use Rattle.dym_base.specs.declared.reply.Reply.{Reply}
use Rattle.dym_base.specs.declared.reply.Reply.TheVariants.{Done, Chunk, Refused}
use Rattle.dym_base.specs.declared.reply.Refusal.{Refusal}
use Rattle.dym_base.specs.declared.reply.Refusal.TheVariants.{TooLarge, Quota, Range}
use Rattle.dym_base.proofs.Maps.{get_insert, get_remove}
use Rattle.dym_base.proofs.Heaps.{fresh_free}
use Rattle.dym_heap.specs.Replies.{chunk_reply}
use Rattle.dym_heap.specs.Touches.{with_touch}
use Rattle.dym_undo.specs.UndoLogs.{UndoMeaning, Belongs, DiffersAt}
use Rattle.dym_undo_object.specs.Keeps.{Differs, IsLiveIn, IsDeadIn}

-- ---- sets, and tests

pub contains_insert : (touched : Touched) (k q : ℕ) → (q == k) ≡ false → contains (set.insert touched k) q ≡ contains touched q
contains_insert touched k q apart = contains-insert nat_cmp_total touched k q ∙ ap (λ b. b || contains touched q) (unsigned_tied q k ∙ apart)

pub of_removed : (touched : Touched) (k q : ℕ) → contains (set.remove touched k) q ≡ true → contains touched q ≡ true
of_removed touched k q has = and_right _ _ (sym (contains-remove nat_cmp_total touched k q) ∙ has)
  where
    and_right : (a b : Bool) → (a && b) ≡ true → b ≡ true
    and_right true b e = e
    and_right false b e = absurd (true≢false (sym e))

-- ---- one chunk differs

pub same_differs : (k : ℕ) (s : HeapState) → DiffersAt k s s
same_differs k s = record { live = λ q apart. refl; touched = λ q apart has. has }

pub with_differs : (s : HeapState) (k : ℕ) (bytes : List ℕ) → DiffersAt k s (with_chunk s k bytes)
with_differs s k bytes = record {
  live = λ q apart. get_insert s.live k bytes q ∙ ap (λ b. cond b (Some bytes) (get s.live q)) apart;
  touched = λ q apart has. sym (contains_insert s.touched k q apart) ∙ has;
}

pub touch_differs : (s : HeapState) (k : ℕ) → DiffersAt k s (with_touch s k)
touch_differs s k = record { live = λ q apart. refl; touched = λ q apart has. sym (contains_insert s.touched k q apart) ∙ has }

pub without_differs : (s : HeapState) (k : ℕ) → DiffersAt k s (without_chunk s k)
without_differs s k = record {
  live = λ q apart. get_remove s.live k q ∙ ap (λ b. cond b None (get s.live q)) apart;
  touched = λ q apart has. of_removed s.touched k q has;
}

-- ---- a call that changes a live chunk, or nothing

pub record ChangesLive (k : ℕ) (s t : HeapState) : Type 0 where
  pub live : contains_key s.live k ≡ true → DiffersAt k s t
  pub dead : contains_key s.live k ≡ false → t ≡ s

-- whatever is kept of the chunk, the log belongs to the heap after it
pub belongs_after : (v : Version) (quota k : ℕ) (s t : HeapState) (u : UndoMeaning) → Belongs v quota s u
    → (contains_key s.live k ≡ true → (x : HeapState) → DiffersAt k s x → Belongs v quota x u) → ChangesLive k s t → Belongs v quota t u
belongs_after v quota k s t u before kept changes = by (contains_key s.live k) refl
  where
    by : (b : Bool) → contains_key s.live k ≡ b → Belongs v quota t u
    by true is = kept is t (changes.live is)
    by false is = subst (λ (x : HeapState). Belongs v quota x u) (sym (changes.dead is)) before

unchanged_or : (s t : HeapState) (b : Bool) (x y : HeapAnswer) (P : HeapState → Type 0) → P x.heap → P y.heap → P (cond b x y).heap
unchanged_or s t true x y P p q = p
unchanged_or s t false x y P p q = q

dead_none : (o : Option (List ℕ)) → is_some o ≡ false → o ≡ None
dead_none None is = refl
dead_none (Some x) is = absurd (true≢false is)

written_differs : (s : HeapState) (k at : ℕ) (bytes old : List ℕ) → DiffersAt k s (written s k at bytes old)
written_differs s k at [] old = same_differs k s
written_differs s k at (b ∷ bs) old = with_differs s k (splice at (b ∷ bs) old)

write_live_differs : (s : HeapState) (h : Handle) (at : ℕ) (bytes : List ℕ) (o : Option (List ℕ)) → DiffersAt (key h) s (write_live s h at bytes o).heap
write_live_differs s h at bytes None = same_differs (key h) s
write_live_differs s h at bytes (Some old) =
    unchanged_or s s (nat_lt (length old) (at + length bytes)) (refused s Range) (record { heap = written s (key h) at bytes old; reply = Done }) (DiffersAt (key h) s)
    (same_differs (key h) s) (written_differs s (key h) at bytes old)

pub writes : (s : HeapState) (h : Handle) (at : ℕ) (bytes : List ℕ) → ChangesLive (key h) s (write s h at bytes).heap
writes s h at bytes = record {
  live = λ is. write_live_differs s h at bytes (get s.live (key h));
  dead = λ is. ap (λ (o : Option (List ℕ)). (write_live s h at bytes o).heap) (dead_none (get s.live (key h)) is);
}

free_live_differs : (s : HeapState) (h : Handle) (r : Reply) (o : Option (List ℕ)) → DiffersAt (key h) s (free_live s h r o).heap
free_live_differs s h r None = same_differs (key h) s
free_live_differs s h r (Some old) = without_differs s (key h)

pub frees : (s : HeapState) (h : Handle) → ChangesLive (key h) s (free s (Some h)).heap
frees s h = record {
  live = λ is. free_live_differs s h Done (get s.live (key h));
  dead = λ is. ap (λ (o : Option (List ℕ)). (free_live s h Done o).heap) (dead_none (get s.live (key h)) is);
}

-- a free of nil frees nothing
pub belongs_freed : (v : Version) (quota : ℕ) (s : HeapState) (h : Option Handle) (u : UndoMeaning) → Belongs v quota s u
    → (IsLiveIn s h → (x : HeapState) → Differs h s x → Belongs v quota x u) → Belongs v quota (free s h).heap u
belongs_freed v quota s None u before kept = before
belongs_freed v quota s (Some h) u before kept = belongs_after v quota (key h) s (free s (Some h)).heap u before kept (frees s h)

-- ---- a call that makes a chunk, or nothing

-- the chunk was dead, is live, and nothing else changed
pub record Makes (made : Option Handle) (s t : HeapState) : Type 0 where
  pub dead : IsDeadIn s made
  pub differs : Differs made s t
  pub live : IsLiveIn t made

abbrev pub made_of : {T : Type 0} → Result T Refusal → Option T
made_of (Ok x) = Some x
made_of (Err why) = None

abbrev pub chunk_or : Handle → Reply → Handle
chunk_or d (Chunk h) = h
chunk_or d _ = d

pub fresh_none : (live : Live) (e : ℕ) → get live (number e (fresh live e)) ≡ None
fresh_none live e = dead_none (get live (number e (fresh live e))) (fresh_free live e)

pub with_live : (s : HeapState) (k : ℕ) (bytes : List ℕ) → contains_key (with_chunk s k bytes).live k ≡ true
with_live s k bytes = ap is_some (get_insert s.live k bytes k) ∙ here (k == k) (Rattle.std.proofs.Common.eq-eqb k k refl)
  where
    here : (b : Bool) → b ≡ true → is_some (cond b (Some bytes) (get s.live k)) ≡ true
    here true is = refl
    here false is = absurd (true≢false (sym is))

makes_fresh : (s : HeapState) (e : ℕ) (bytes : List ℕ) (h : Handle) → key h ≡ number e (fresh s.live e)
    → Makes (Some h) s (with_chunk s (number e (fresh s.live e)) bytes)
makes_fresh s e bytes h is = record {
  dead = ap (get s.live) is ∙ fresh_none s.live e;
  differs = subst (λ k. DiffersAt k s (with_chunk s (number e (fresh s.live e)) bytes)) (sym is) (with_differs s (number e (fresh s.live e)) bytes);
  live = subst (λ k. contains_key (with_chunk s (number e (fresh s.live e)) bytes).live k ≡ true) (sym is) (with_live s (number e (fresh s.live e)) bytes);
}

made_or : (s : HeapState) (e : ℕ) (bytes : List ℕ) (b : Bool) (answer : Result Handle Refusal)
    → chunk_reply answer ≡ (cond b (refused s Quota)
    (record { heap = with_chunk s (number e (fresh s.live e)) bytes; reply = Chunk (record { exp = e; index = fresh s.live e }) })).reply
    → Makes (made_of answer) s (cond b (refused s Quota)
    (record { heap = with_chunk s (number e (fresh s.live e)) bytes; reply = Chunk (record { exp = e; index = fresh s.live e }) })).heap
made_or s e bytes true (Ok h) is = absurd (let x : Chunk h ≡ Refused Quota = is in cc)
made_or s e bytes true (Err why) is = record { dead = tt; differs = refl; live = tt }
made_or s e bytes false (Ok h) is = makes_fresh s e bytes h (ap (λ (r : Reply). key (chunk_or h r)) is)
made_or s e bytes false (Err why) is = absurd (let x : Refused why ≡ Chunk (record { exp = e; index = fresh s.live e }) = is in cc)

malloc_in_makes : (v : Version) (quota : ℕ) (s : HeapState) (n : ℕ) (o : Option ℕ) (answer : Result Handle Refusal) → chunk_reply answer
    ≡ (malloc_in v quota s n o).reply → Makes (made_of answer) s (malloc_in v quota s n o).heap
malloc_in_makes v quota s n None (Ok h) is = absurd (let x : Chunk h ≡ Refused TooLarge = is in cc)
malloc_in_makes v quota s n None (Err why) is = record { dead = tt; differs = refl; live = tt }
malloc_in_makes v quota s n (Some e) answer is = made_or s e (replicate (new_len v e n) 0) (nat_lt quota (held_with_fresh s.live e)) answer is

pub mallocs : (v : Version) (quota : ℕ) (s : HeapState) (n : ℕ) (answer : Result Handle Refusal) → chunk_reply answer ≡ (malloc v quota s n).reply
    → Makes (made_of answer) s (malloc v quota s n).heap
mallocs v quota s n answer is = malloc_in_makes v quota s n (cls n) answer is

pub made_ok : {T : Type 0} → (answer : Result T Refusal) → result_ok answer ≡ made_of answer
made_ok (Ok x) = refl
made_ok (Err why) = refl
