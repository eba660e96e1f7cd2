-- What a realloc changes of a heap: the chunk that it names, and then the one that it makes.
use Rattle.std.proofs.Common.{◌≡◌, ℕ, Bool, true, false, cond, not, ◌&&◌, ◌==◌, nat_lt, List, length, Option, None, Some, is_some, Result, Ok, Err, ◌⊎◌, inl}
use Rattle.std.proofs.Common.{inr, refl, sym, ap, subst, ◌∙◌, true≢false, eq-eqb, eqb-true}
use Rattle.std.specs.Result.{result_unwrap_or}
use Rattle.std.specs.FinMap.{get, contains_key}
use Rattle.std.specs.FinSet as set
use Rattle.std.specs.FinSet.{contains, contains-remove}
use Rattle.std.specs.Cmp.{nat_cmp_total, unsigned_tied}
use Rattle.std.specs.Ordering.{nat_cmp, eq_by_cmp}
use Rattle.dym_base.specs.Numbers.{number, cls}
use Rattle.dym_base.specs.Heaps.{HeapState, fresh}
use Rattle.dym_base.specs.HeapStep.{key, refused, with_chunk, without_chunk, held_with_fresh, fitted, new_len, malloc_in, free_live, resize, move_to}
use Rattle.dym_base.specs.HeapStep.{realloc_in, realloc_live, realloc}
use Rattle.dym_base.specs.declared.handle.Handle.{Handle}
use Rattle.dym_base.specs.declared.command.Version.{Version}
use Rattle.dym_base.specs.declared.command.Version.TheVariants.{One, Two}
use Rattle.dym_base.specs.declared.reply.Reply.{Reply}
use Rattle.dym_base.specs.declared.reply.Reply.TheVariants.{Chunk, Nil, Refused}
use Rattle.dym_base.specs.declared.reply.Refusal.{Refusal}
use Rattle.dym_base.specs.declared.reply.Refusal.TheVariants.{TooLarge, Quota, Dead}
use Rattle.dym_base.proofs.Maps.{get_remove}
use Rattle.dym_heap.specs.Replies.{moved_reply}
use Rattle.dym_undo.specs.UndoLogs.{UndoMeaning, Belongs, DiffersAt}
use Rattle.dym_undo_object.specs.Keeps.{Differs, IsLiveIn}
use Rattle.dym_undo_object.proofs.HeapChanges.{Makes, mallocs, contains_insert, same_differs, with_differs, without_differs, with_live, fresh_none, chunk_or}

pub record Moves (named made : Option Handle) (s t : HeapState) : Type 0 where
  pub between : HeapState
  pub first : (between ≡ s) ⊎ (IsLiveIn s named × Differs named s between)
  pub makes : Makes made between t

abbrev pub made_moved : Result (Option Handle) Refusal → Option Handle
made_moved (Ok o) = o
made_moved (Err why) = None

-- the log belongs to the heap on the way
pub belongs_between : (v : Version) (quota : ℕ) (named : Option Handle) (s x : HeapState) (u : UndoMeaning) → Belongs v quota s u
    → (IsLiveIn s named → (t : HeapState) → Differs named s t → Belongs v quota t u)
    → (x ≡ s) ⊎ (IsLiveIn s named × Differs named s x) → Belongs v quota x u
belongs_between v quota named s x u before kept (inl same) = subst (λ (t : HeapState). Belongs v quota t u) (sym same) before
belongs_between v quota named s x u before kept (inr changed) = kept changed.0 x changed.1

nothing : (named : Option Handle) (s : HeapState) → Moves named None s s
nothing named s = record { between = s; first = inl refl; makes = record { dead = tt; differs = refl; live = tt } }

no_nil : (v : Version) (quota : ℕ) (s : HeapState) (n : ℕ) (o : Option ℕ) → Nil ≡ (malloc_in v quota s n o).reply → ⊥
no_nil v quota s n None is = (let x : Nil ≡ Refused TooLarge = is in cc)
no_nil v quota s n (Some e) is = by (nat_lt quota (held_with_fresh s.live e)) is
  where
    by : (b : Bool) → Nil ≡ (cond b (refused s Quota)
        (record {
          heap = with_chunk s (number e (fresh s.live e)) (Rattle.std.proofs.Common.replicate (new_len v e n) 0);
          reply = Chunk (record { exp = e; index = fresh s.live e });
        })).reply → ⊥
    by true e = (let x : Nil ≡ Refused Quota = e in cc)
    by false e = (let x : Nil ≡ Chunk _ = e in cc)

of_nil : (v : Version) (quota : ℕ) (s : HeapState) (n : ℕ) (answer : Result (Option Handle) Refusal) → moved_reply answer ≡ (realloc v quota s None n).reply
    → Moves None (made_moved answer) s (realloc v quota s None n).heap
of_nil v quota s n (Ok None) is = absurd (no_nil v quota s n (cls n) is)
of_nil v quota s n (Ok (Some g)) is = record { between = s; first = inl refl; makes = mallocs v quota s n (Ok g) is }
of_nil v quota s n (Err why) is = record { between = s; first = inl refl; makes = mallocs v quota s n (Err why) is }

-- ---- of a chunk that is live

refused_moves : (named : Option Handle) (s : HeapState) (why : Refusal) (answer : Result (Option Handle) Refusal) → moved_reply answer ≡ Refused why
    → Moves named (made_moved answer) s s
refused_moves named s why (Ok None) is = absurd (let x : Nil ≡ Refused why = is in cc)
refused_moves named s why (Ok (Some g)) is = absurd (let x : Chunk g ≡ Refused why = is in cc)
refused_moves named s why (Err other) is = nothing named s

freed_moves : (s : HeapState) (h : Handle) (o : Option (List ℕ)) (answer : Result (Option Handle) Refusal) → is_some (get s.live (key h)) ≡ is_some o
    → moved_reply answer ≡ (free_live s h Nil o).reply → Moves (Some h) (made_moved answer) s (free_live s h Nil o).heap
freed_moves s h None answer live is = refused_moves (Some h) s Dead answer is
freed_moves s h (Some old) (Ok None) live is = record {
  between = without_chunk s (key h);
  first = inr (live, without_differs s (key h));
  makes = record { dead = tt; differs = refl; live = tt };
}
freed_moves s h (Some old) (Ok (Some g)) live is = absurd (let x : Chunk g ≡ Nil = is in cc)
freed_moves s h (Some old) (Err why) live is = absurd (let x : Refused why ≡ Nil = is in cc)

module _ (s : HeapState) (h : Handle) (live : contains_key s.live (key h) ≡ true) where
  gone : get (without_chunk s (key h)).live (key h) ≡ None
  gone = get_remove s.live (key h) (key h) ∙ ap (λ b. cond b None (get s.live (key h))) (eq-eqb (key h) (key h) refl)

  -- the chunk is there again
  again : (t : HeapState) → DiffersAt (key h) s t → contains_key t.live (key h) ≡ true → Makes (Some h) (without_chunk s (key h)) t
  again t differ there = record {
    dead = gone;
    differs = record {
      live = λ q apart. differ.live q apart ∙ sym ((without_differs s (key h)).live q apart);
      touched = λ q apart has. contains-remove nat_cmp_total s.touched (key h) q ∙ ap (λ b. not b && contains s.touched q) (unsigned_tied q (key h) ∙ apart)
          ∙ differ.touched q apart has;
    };
    live = there;
  }

  resized : (v : Version) (n : ℕ) (old : List ℕ) → DiffersAt (key h) s (resize v s h n old) × (contains_key (resize v s h n old).live (key h) ≡ true)
  resized One n old = (same_differs (key h) s, live)
  resized Two n old = by (n == length old)
    where
      by : (b : Bool) → DiffersAt (key h) s (cond b s (with_chunk s (key h) (fitted n old)))
          × (contains_key (cond b s (with_chunk s (key h) (fitted n old))).live (key h) ≡ true)
      by true = (same_differs (key h) s, live)
      by false = (with_differs s (key h) (fitted n old), with_live s (key h) (fitted n old))

  same_place : (v : Version) (n : ℕ) (old : List ℕ) (answer : Result (Option Handle) Refusal) → moved_reply answer ≡ Chunk h → Moves (Some h) (made_moved answer) s
      (resize v s h n old)
  same_place v n old (Ok None) is = absurd (let x : Nil ≡ Chunk h = is in cc)
  same_place v n old (Err why) is = absurd (let x : Refused why ≡ Chunk h = is in cc)
  same_place v n old (Ok (Some g)) is = record {
    between = without_chunk s (key h);
    first = inr (live, without_differs s (key h));
    makes = subst (λ (x : Handle). Makes (Some x) (without_chunk s (key h)) (resize v s h n old)) (sym (ap (chunk_or g) is))
        (again (resize v s h n old) (resized v n old).0 (resized v n old).1);
  }

  -- another chunk is made, and this one is gone
  module _ (e : ℕ) (bytes : List ℕ) where
    abbrev f : ℕ
    f = number e (fresh s.live e)

    abbrev t : HeapState
    t = without_chunk (with_chunk s f bytes) (key h)

    apart_by : (b : Bool) → (f == key h) ≡ b → (f == key h) ≡ false
    apart_by true same = absurd (true≢false (sym live ∙ ap (λ k. is_some (get s.live k)) (sym (eqb-true f (key h) same)) ∙ ap is_some (fresh_none s.live e)))
    apart_by false same = same

    apart : (f == key h) ≡ false
    apart = apart_by (f == key h) refl

    moved : (g : Handle) → key g ≡ number e (fresh s.live e) → Makes (Some g) (without_chunk s (key h))
        (without_chunk (with_chunk s (number e (fresh s.live e)) bytes) (key h))
    moved g is = record {
      dead = ap (get (without_chunk s (key h)).live) is ∙ get_remove s.live (key h) f ∙ ap (λ b. cond b None (get s.live f)) apart ∙ fresh_none s.live e;
      differs = subst (λ k. DiffersAt k (without_chunk s (key h)) t) (sym is) (record {
        live = λ q other. get_remove (with_chunk s f bytes).live (key h) q ∙ ap (λ (o : Option (List ℕ)). cond (q == key h) None o)
            ((with_differs s f bytes).live q other) ∙ sym (get_remove s.live (key h) q);
        touched = λ q other has.
            contains-remove nat_cmp_total s.touched (key h) q ∙ ap (λ b. not (eq_by_cmp nat_cmp q (key h)) && b) (sym (contains_insert s.touched f q other))
            ∙ sym (contains-remove nat_cmp_total (set.insert s.touched f) (key h) q) ∙ has;
      });
      live = subst (λ k. contains_key t.live k ≡ true) (sym is)
          (ap is_some (get_remove (with_chunk s f bytes).live (key h) f) ∙ ap (λ b. is_some (cond b None (get (with_chunk s f bytes).live f))) apart
          ∙ with_live s f bytes);
    }

  move_moves : (v : Version) (quota n : ℕ) (old : List ℕ) (e : ℕ) (b : Bool) (answer : Result (Option Handle) Refusal)
      → moved_reply answer ≡ (cond b (refused s Quota)
      (record {
        heap = without_chunk (with_chunk s (number e (fresh s.live e)) (fitted (new_len v e n) old)) (key h);
        reply = Chunk (record { exp = e; index = fresh s.live e });
      })).reply
      → Moves (Some h) (made_moved answer) s (cond b (refused s Quota)
      (record {
        heap = without_chunk (with_chunk s (number e (fresh s.live e)) (fitted (new_len v e n) old)) (key h);
        reply = Chunk (record { exp = e; index = fresh s.live e });
      })).heap
  move_moves v quota n old e true answer is = refused_moves (Some h) s Quota answer is
  move_moves v quota n old e false (Ok None) is = absurd (let x : Nil ≡ Chunk _ = is in cc)
  move_moves v quota n old e false (Err why) is = absurd (let x : Refused why ≡ Chunk _ = is in cc)
  move_moves v quota n old e false (Ok (Some g)) is = record {
    between = without_chunk s (key h);
    first = inr (live, without_differs s (key h));
    makes = moved e (fitted (new_len v e n) old) g (ap (λ (r : Reply). key (chunk_or h r)) is);
  }

  sized_moves : (v : Version) (quota n : ℕ) (old : List ℕ) (e : ℕ) (b : Bool) (answer : Result (Option Handle) Refusal)
      → moved_reply answer ≡ (cond b (record { heap = resize v s h n old; reply = Chunk h }) (move_to v quota s h n old e)).reply → Moves (Some h) (made_moved answer) s
      (cond b (record { heap = resize v s h n old; reply = Chunk h }) (move_to v quota s h n old e)).heap
  sized_moves v quota n old e true answer is = same_place v n old answer is
  sized_moves v quota n old e false answer is = move_moves v quota n old e (nat_lt quota (held_with_fresh s.live e)) answer is

  in_moves : (v : Version) (quota n : ℕ) (old : List ℕ) (o : Option ℕ) (answer : Result (Option Handle) Refusal) → moved_reply answer
      ≡ (realloc_in v quota s h n old o).reply → Moves (Some h) (made_moved answer) s (realloc_in v quota s h n old o).heap
  in_moves v quota n old None answer is = refused_moves (Some h) s TooLarge answer is
  in_moves v quota n old (Some e) answer is = sized_moves v quota n old e (e == h.exp) answer is

live_moves : (v : Version) (quota : ℕ) (s : HeapState) (h : Handle) (n : ℕ) (o : Option (List ℕ)) (answer : Result (Option Handle) Refusal)
    → is_some (get s.live (key h)) ≡ is_some o → moved_reply answer ≡ (realloc_live v quota s h n o).reply → Moves (Some h) (made_moved answer) s
    (realloc_live v quota s h n o).heap
live_moves v quota s h n None answer live is = refused_moves (Some h) s Dead answer is
live_moves v quota s h n (Some old) answer live is = in_moves s h live v quota n old (cls n) answer is

by_length : (v : Version) (quota : ℕ) (s : HeapState) (h : Handle) (n : ℕ) (b : Bool) (answer : Result (Option Handle) Refusal)
    → moved_reply answer ≡ (cond b (free_live s h Nil (get s.live (key h))) (realloc_live v quota s h n (get s.live (key h)))).reply
    → Moves (Some h) (made_moved answer) s (cond b (free_live s h Nil (get s.live (key h))) (realloc_live v quota s h n (get s.live (key h)))).heap
by_length v quota s h n true answer is = freed_moves s h (get s.live (key h)) answer refl is
by_length v quota s h n false answer is = live_moves v quota s h n (get s.live (key h)) answer refl is

pub reallocs : (v : Version) (quota : ℕ) (s : HeapState) (h : Option Handle) (n : ℕ) (answer : Result (Option Handle) Refusal) → moved_reply answer
    ≡ (realloc v quota s h n).reply → Moves h (made_moved answer) s (realloc v quota s h n).heap
reallocs v quota s None n answer is = of_nil v quota s n answer is
reallocs v quota s (Some h) n answer is = by_length v quota s h n (n == 0) answer is

pub unwrapped : (answer : Result (Option Handle) Refusal) → result_unwrap_or answer None ≡ made_moved answer
unwrapped (Ok o) = refl
unwrapped (Err why) = refl
