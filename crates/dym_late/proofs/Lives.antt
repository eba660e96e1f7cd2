-- A step of a heap, as far as its chunks and its reply go, comes of its chunks alone, whatever was touched.
use Rattle.std.proofs.Common.{◌≡◌, ℕ, ◌+◌, ◌==◌, true, false, Bool, cond, nat_lt, length, Option, Some, None, List, [], ◌∷◌, refl, subst, replicate}
use Rattle.std.specs.Int.{w64, to_le_bytes}
use Rattle.std.specs.FinMap as map
use Rattle.dym_base.specs.Numbers.{cls}
use Rattle.dym_base.specs.Heaps.{Live, Touched, HeapState}
use Rattle.dym_base.specs.HeapStep.{HeapAnswer, heap_step, key, new_len, fitted, with_chunk, held_with_fresh, add_fresh, malloc_in, free_live, free, resize, move_to, realloc_in, realloc_live, realloc, written, write_live, read, follow, sum_of, link_number}
use Rattle.dym_base.specs.declared.handle.Handle.{Handle}
use Rattle.dym_base.specs.declared.command.Version.{Version}
use Rattle.dym_base.specs.declared.command.Version.TheVariants.{One, Two}
use Rattle.dym_base.specs.declared.command.Command.{Command}
use Rattle.dym_base.specs.declared.command.Command.TheVariants.{Malloc, Calloc, Realloc, Free, Write, Fill, Read, Link, Follow, Sum, Log, Ilog, Restore, Prune, Logs}
use Rattle.dym_base.specs.declared.reply.Reply.{Reply}

-- two answers are the same but for what is touched
pub record AreAlike (a b : HeapAnswer) : Type 0 where
  pub live : a.heap.live ≡ b.heap.live
  pub reply : a.reply ≡ b.reply

alike_by : (b : Bool) (x y z w : HeapAnswer) → AreAlike x z → AreAlike y w → AreAlike (cond b x y) (cond b z w)
alike_by true x y z w first second = first
alike_by false x y z w first second = second

module _ (l : Live) (t u : Touched) where
  abbrev s : HeapState
  s = record { live = l; touched = t }

  abbrev r : HeapState
  r = record { live = l; touched = u }

  add_alike : (quota e : ℕ) (bytes : List ℕ) → AreAlike (add_fresh quota s e bytes) (add_fresh quota r e bytes)
  add_alike quota e bytes =
      alike_by (nat_lt quota (held_with_fresh l e)) _ _ _ _ (record { live = refl; reply = refl }) (record { live = refl; reply = refl })

  malloc_in_alike : (v : Version) (quota n : ℕ) (o : Option ℕ) → AreAlike (malloc_in v quota s n o) (malloc_in v quota r n o)
  malloc_in_alike v quota n None = record { live = refl; reply = refl }
  malloc_in_alike v quota n (Some e) = add_alike quota e (replicate (new_len v e n) 0)

  free_live_alike : (h : Handle) (reply : Reply) (o : Option (List ℕ)) → AreAlike (free_live s h reply o) (free_live r h reply o)
  free_live_alike h reply None = record { live = refl; reply = refl }
  free_live_alike h reply (Some old) = record { live = refl; reply = refl }

  free_alike : (h : Option Handle) → AreAlike (free s h) (free r h)
  free_alike None = record { live = refl; reply = refl }
  free_alike (Some h) = free_live_alike h _ (map.get l (key h))

  move_alike : (v : Version) (quota : ℕ) (h : Handle) (n : ℕ) (old : List ℕ) (e : ℕ) → AreAlike (move_to v quota s h n old e) (move_to v quota r h n old e)
  move_alike v quota h n old e =
      alike_by (nat_lt quota (held_with_fresh l e)) _ _ _ _ (record { live = refl; reply = refl }) (record { live = refl; reply = refl })

  resized_alike : (b : Bool) (s' r' : HeapState) → s'.live ≡ r'.live → (cond b s s').live ≡ (cond b r r').live
  resized_alike true s' r' same = refl
  resized_alike false s' r' same = same

  resize_alike : (v : Version) (h : Handle) (n : ℕ) (old : List ℕ) → (resize v s h n old).live ≡ (resize v r h n old).live
  resize_alike One h n old = refl
  resize_alike Two h n old =
      resized_alike (n == length old) (with_chunk s (key h) (fitted n old)) (with_chunk r (key h) (fitted n old)) refl

  realloc_in_alike : (v : Version) (quota : ℕ) (h : Handle) (n : ℕ) (old : List ℕ) (o : Option ℕ) → AreAlike (realloc_in v quota s h n old o) (realloc_in v quota r h n old o)
  realloc_in_alike v quota h n old None = record { live = refl; reply = refl }
  realloc_in_alike v quota h n old (Some e) =
      alike_by (e == h.exp) _ _ _ _ (record { live = resize_alike v h n old; reply = refl }) (move_alike v quota h n old e)

  realloc_live_alike : (v : Version) (quota : ℕ) (h : Handle) (n : ℕ) (o : Option (List ℕ)) → AreAlike (realloc_live v quota s h n o) (realloc_live v quota r h n o)
  realloc_live_alike v quota h n None = record { live = refl; reply = refl }
  realloc_live_alike v quota h n (Some old) = realloc_in_alike v quota h n old (cls n)

  realloc_alike : (v : Version) (quota : ℕ) (h : Option Handle) (n : ℕ) → AreAlike (realloc v quota s h n) (realloc v quota r h n)
  realloc_alike v quota None n = malloc_in_alike v quota n (cls n)
  realloc_alike v quota (Some h) n =
      alike_by (n == 0) _ _ _ _ (free_live_alike h _ (map.get l (key h))) (realloc_live_alike v quota h n (map.get l (key h)))

  written_alike : (k at : ℕ) (bytes old : List ℕ) → (written s k at bytes old).live ≡ (written r k at bytes old).live
  written_alike k at [] old = refl
  written_alike k at (b ∷ bs) old = refl

  write_live_alike : (h : Handle) (at : ℕ) (bytes : List ℕ) (o : Option (List ℕ)) → AreAlike (write_live s h at bytes o) (write_live r h at bytes o)
  write_live_alike h at bytes None = record { live = refl; reply = refl }
  write_live_alike h at bytes (Some old) =
      alike_by (nat_lt (length old) (at + length bytes)) _ _ _ _ (record { live = refl; reply = refl }) (record { live = written_alike (key h) at bytes old; reply = refl })

  read_alike : (at n : ℕ) (o : Option (List ℕ)) → AreAlike (read s at n o) (read r at n o)
  read_alike at n None = record { live = refl; reply = refl }
  read_alike at n (Some bytes) =
      alike_by (nat_lt (length bytes) (at + n)) _ _ _ _ (record { live = refl; reply = refl }) (record { live = refl; reply = refl })

  follow_alike : (at : ℕ) (o : Option (List ℕ)) → AreAlike (follow s at o) (follow r at o)
  follow_alike at None = record { live = refl; reply = refl }
  follow_alike at (Some bytes) =
      alike_by (nat_lt (length bytes) (at + 8)) _ _ _ _ (record { live = refl; reply = refl }) (record { live = refl; reply = refl })

  sum_alike : (o : Option (List ℕ)) → AreAlike (sum_of s o) (sum_of r o)
  sum_alike None = record { live = refl; reply = refl }
  sum_alike (Some bytes) = record { live = refl; reply = refl }

  alike : (v : Version) (quota : ℕ) (c : Command) → AreAlike (heap_step v quota s c) (heap_step v quota r c)
  alike v quota (Malloc n) = malloc_in_alike v quota n (cls n)
  alike v quota (Calloc m n) = malloc_in_alike v quota _ (cls _)
  alike v quota (Realloc h n) = realloc_alike v quota h n
  alike v quota (Free h) = free_alike h
  alike v quota (Write h at bytes) = write_live_alike h at bytes (map.get l (key h))
  alike v quota (Fill h at n byte) = write_live_alike h at (replicate n byte) (map.get l (key h))
  alike v quota (Read h at n) = read_alike at n (map.get l (key h))
  alike v quota (Link h at to) = write_live_alike h at (to_le_bytes w64 (link_number to)) (map.get l (key h))
  alike v quota (Follow h at) = follow_alike at (map.get l (key h))
  alike v quota (Sum h) = sum_alike (map.get l (key h))
  alike v quota (Log t') = record { live = refl; reply = refl }
  alike v quota (Ilog t') = record { live = refl; reply = refl }
  alike v quota (Restore t') = record { live = refl; reply = refl }
  alike v quota (Prune g) = record { live = refl; reply = refl }
  alike v quota Logs = record { live = refl; reply = refl }

-- heaps of the same chunks give the same chunks and reply
pub steps_alike : (v : Version) (quota : ℕ) (s r : HeapState) (c : Command) → s.live ≡ r.live → AreAlike (heap_step v quota s c) (heap_step v quota r c)
steps_alike v quota s r c same =
    subst (λ (l : Live). AreAlike (heap_step v quota s c) (heap_step v quota (record { live = l; touched = r.touched }) c)) same (alike s.live s.touched r.touched v quota c)
