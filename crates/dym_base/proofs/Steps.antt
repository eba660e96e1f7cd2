-- What one command can make of a heap: nothing, a chunk gone, a chunk with new bytes, a new chunk, or a chunk that moved.
use Rattle.std.proofs.Common.{◌≡◌, ℕ, ◌+◌, ◌*◌, ◌≤◌, ◌⊎◌, inl, inr, nat_lt, Option, Some, None, List, [], ◌∷◌, ◌==◌, length, replicate, refl, ap, ◌∙◌, arith, length-append, length-drop}
use Rattle.std.specs.Int.{w64, to_le_bytes}
use Rattle.std.specs.FinMap as map
use Rattle.std.proofs.lemmas.Bool.{cond_both, ltb-false, eqb-true}
use Rattle.std.proofs.lemmas.List.{length-take, length-replicate}
use Rattle.dym_base.specs.Numbers.{number, cls}
use Rattle.dym_base.specs.Heaps.{HeapState, fresh}
use Rattle.dym_base.specs.HeapStep.{HeapAnswer, key, new_len, fitted, splice, with_chunk, without_chunk, held_with_fresh, malloc_in, free_live, resize, move_to, realloc_in, realloc_live, realloc, written, write_live, read, follow, sum_of, link_number, heap_step}
use Rattle.dym_base.specs.declared.handle.Handle.{Handle}
use Rattle.dym_base.specs.declared.command.Version.{Version}
use Rattle.dym_base.specs.declared.command.Version.TheVariants.{One, Two}
use Rattle.dym_base.specs.declared.command.Command.{Command}
use Rattle.dym_base.specs.declared.command.Command.TheVariants.{Malloc, Calloc, Realloc, Free, Write, Fill, Read, Link, Follow, Sum, Log, Ilog, Restore, Prune, Logs}
use Rattle.dym_base.specs.declared.reply.Reply.{Reply}
use Rattle.dym_base.specs.declared.reply.Reply.TheVariants.{Done, Chunk, Nil, Refused}
use Rattle.dym_base.specs.declared.reply.Refusal.TheVariants.{TooLarge, Quota, Dead, Range}
use Rattle.dym_base.proofs.Maps.{Has, has_some}

-- the bytes of a new chunk have the length that was asked for
pub length_fitted : (n : ℕ) (bytes : List ℕ) → length (fitted n bytes) ≡ n
length_fitted n bytes = simp (length-append, length-take, length-replicate) (omega arith)

-- bytes written inside keep the length
pub length_splice : (at : ℕ) (new old : List ℕ) → at + length new ≤ length old → length (splice at new old) ≡ length old
length_splice at new old fits = simp (length-append, length-take, length-drop) (omega arith)

-- how a chunk's new length comes about: it is the old one, or in version 2 a realloc asked for it
abbrev pub NewLength : Version → Command → Handle → ℕ → ℕ → Type 0
NewLength v c h old new = (new ≡ old) ⊎ ((v ≡ Two) × (c ≡ Realloc (Some h) new) × (cls new ≡ Some h.exp))

module _ (v : Version) (quota : ℕ) (s : HeapState) (c : Command) (P : HeapAnswer → Type 0)
    (same : (r : Reply) → P (record { heap = s; reply = r }))
    (gone : (k : ℕ) (r : Reply) → Has s.live k → P (record { heap = without_chunk s k; reply = r }))
    (changed : (h : Handle) (old bytes : List ℕ) (r : Reply) → map.get s.live (key h) ≡ Some old → NewLength v c h (length old) (length bytes) → P (record { heap = with_chunk s (key h) bytes; reply = r }))
    (made : (e n : ℕ) (bytes : List ℕ) (r : Reply) → cls n ≡ Some e → length bytes ≡ new_len v e n → held_with_fresh s.live e ≤ quota → P (record { heap = with_chunk s (number e (fresh s.live e)) bytes; reply = r }))
    (moved : (h : Handle) (e n : ℕ) (bytes : List ℕ) (r : Reply) → Has s.live (key h) → cls n ≡ Some e → length bytes ≡ new_len v e n → held_with_fresh s.live e ≤ quota → P (record { heap = without_chunk (with_chunk s (number e (fresh s.live e)) bytes) (key h); reply = r })) where
  malloc_by : (n : ℕ) (o : Option ℕ) → cls n ≡ o → P (malloc_in v quota s n o)
  malloc_by n None is = same (Refused TooLarge)
  malloc_by n (Some e) is =
      cond_both (nat_lt quota (held_with_fresh s.live e)) _ _ P
      (λ _. same (Refused Quota))
      (λ fits. made e n (replicate (new_len v e n) 0) _ is (length-replicate _ _) (ltb-false _ _ fits))

  free_by : (h : Handle) (r : Reply) (o : Option (List ℕ)) → map.get s.live (key h) ≡ o → P (free_live s h r o)
  free_by h r None is = same (Refused Dead)
  free_by h r (Some old) is = gone (key h) r (has_some s.live (key h) old is)

  resize_by : (w : Version) (h : Handle) (n : ℕ) (old : List ℕ) → v ≡ w → c ≡ Realloc (Some h) n → map.get s.live (key h) ≡ Some old → cls n ≡ Some h.exp → P (record { heap = resize w s h n old; reply = Chunk h })
  resize_by One h n old version command is class = same (Chunk h)
  resize_by Two h n old version command is class =
      cond_both (n == length old) s _ (λ (t : HeapState). P (record { heap = t; reply = Chunk h }))
      (λ _. same (Chunk h))
      (λ _. changed h old (fitted n old) (Chunk h) is (rw (length_fitted n old) (inr (version, command, class))))

  move_by : (h : Handle) (n : ℕ) (old : List ℕ) (e : ℕ) → map.get s.live (key h) ≡ Some old → cls n ≡ Some e → P (move_to v quota s h n old e)
  move_by h n old e is class =
      cond_both (nat_lt quota (held_with_fresh s.live e)) _ _ P
      (λ _. same (Refused Quota))
      (λ fits. moved h e n (fitted (new_len v e n) old) _ (has_some s.live (key h) old is) class (length_fitted _ _) (ltb-false _ _ fits))

  realloc_in_by : (h : Handle) (n : ℕ) (old : List ℕ) (o : Option ℕ) → c ≡ Realloc (Some h) n → map.get s.live (key h) ≡ Some old → cls n ≡ o → P (realloc_in v quota s h n old o)
  realloc_in_by h n old None command is class = same (Refused TooLarge)
  realloc_in_by h n old (Some e) command is class =
      cond_both (e == h.exp) _ _ P
      (λ own. resize_by v h n old refl command is (class ∙ ap Some (eqb-true e h.exp own)))
      (λ other. move_by h n old e is class)

  realloc_live_by : (h : Handle) (n : ℕ) (o : Option (List ℕ)) → c ≡ Realloc (Some h) n → map.get s.live (key h) ≡ o → P (realloc_live v quota s h n o)
  realloc_live_by h n None command is = same (Refused Dead)
  realloc_live_by h n (Some old) command is = realloc_in_by h n old (cls n) command is refl

  realloc_by : (h : Option Handle) (n : ℕ) → c ≡ Realloc h n → P (realloc v quota s h n)
  realloc_by None n command = malloc_by n (cls n) refl
  realloc_by (Some h) n command =
      cond_both (n == 0) _ _ P
      (λ _. free_by h Nil (map.get s.live (key h)) refl)
      (λ _. realloc_live_by h n (map.get s.live (key h)) command refl)

  written_by : (h : Handle) (at : ℕ) (bytes old : List ℕ) → map.get s.live (key h) ≡ Some old → at + length bytes ≤ length old → P (record { heap = written s (key h) at bytes old; reply = Done })
  written_by h at [] old is fits = same Done
  written_by h at (b ∷ bs) old is fits = changed h old (splice at (b ∷ bs) old) Done is (inl (length_splice at (b ∷ bs) old fits))

  write_by : (h : Handle) (at : ℕ) (bytes : List ℕ) (o : Option (List ℕ)) → map.get s.live (key h) ≡ o → P (write_live s h at bytes o)
  write_by h at bytes None is = same (Refused Dead)
  write_by h at bytes (Some old) is =
      cond_both (nat_lt (length old) (at + length bytes)) _ _ P
      (λ _. same (Refused Range))
      (λ fits. written_by h at bytes old is (ltb-false _ _ fits))

  read_by : (at n : ℕ) (o : Option (List ℕ)) → P (read s at n o)
  read_by at n None = same (Refused Dead)
  read_by at n (Some bytes) = cond_both (nat_lt (length bytes) (at + n)) _ _ P (λ _. same (Refused Range)) (λ _. same _)

  follow_by : (at : ℕ) (o : Option (List ℕ)) → P (follow s at o)
  follow_by at None = same (Refused Dead)
  follow_by at (Some bytes) = cond_both (nat_lt (length bytes) (at + 8)) _ _ P (λ _. same (Refused Range)) (λ _. same _)

  sum_by_live : (o : Option (List ℕ)) → P (sum_of s o)
  sum_by_live None = same (Refused Dead)
  sum_by_live (Some bytes) = same _

  step_by : (d : Command) → c ≡ d → P (heap_step v quota s d)
  step_by (Malloc n) is = malloc_by n (cls n) refl
  step_by (Calloc m n) is = malloc_by (m * n) (cls (m * n)) refl
  step_by (Realloc h n) is = realloc_by h n is
  step_by (Free None) is = same Done
  step_by (Free (Some h)) is = free_by h Done (map.get s.live (key h)) refl
  step_by (Write h at bytes) is = write_by h at bytes (map.get s.live (key h)) refl
  step_by (Fill h at n byte) is = write_by h at (replicate n byte) (map.get s.live (key h)) refl
  step_by (Read h at n) is = read_by at n (map.get s.live (key h))
  step_by (Link h at to) is = write_by h at (to_le_bytes w64 (link_number to)) (map.get s.live (key h)) refl
  step_by (Follow h at) is = follow_by at (map.get s.live (key h))
  step_by (Sum h) is = sum_by_live (map.get s.live (key h))
  step_by (Log t) is = same Done
  step_by (Ilog t) is = same Done
  step_by (Restore t) is = same Done
  step_by (Prune g) is = same Done
  step_by Logs is = same Done

  -- what holds of each of the five outcomes holds of the step
  pub heap_step_by : P (heap_step v quota s c)
  heap_step_by = step_by c refl
