-- How many bytes the reply to a command tells: no more than a read asks for, and none where those are more than any chunk has.
use Rattle.std.proofs.Common.{◌≡◌, ℕ, ◌+◌, ◌*◌, ◌≤◌, nat_le, nat_lt, if◌then◌else◌, true, false, Option, None, Some, List, [], length, take, drop, replicate, refl, sym, ap, subst, arith}
use Rattle.std.proofs.lemmas.Bool.Decides.{nat_tests}
use Rattle.std.proofs.lemmas.List.{length-take}
use Rattle.std.specs.Int.{w64, to_le_bytes}
use Rattle.std.specs.FinMap as map
use Rattle.dym_base.specs.Numbers.{cls}
use Rattle.dym_base.specs.Heaps.{HeapState}
use Rattle.dym_base.specs.HeapStep.{key, refused, malloc_in, free_live, free, realloc_in, realloc_live, realloc, write_live, read, follow, sum_of, link_number}
use Rattle.dym_base.specs.Objects.{ObjectState, LogEntry, newest, reached, log_after, restore_to, object_step}
use Rattle.dym_base.specs.declared.handle.Handle.{Handle}
use Rattle.dym_base.specs.declared.command.Version.{Version}
use Rattle.dym_base.specs.declared.command.Kind.{Kind}
use Rattle.dym_base.specs.declared.command.Kind.TheVariants.{Full, Inc}
use Rattle.dym_base.specs.declared.command.Command.{Command}
use Rattle.dym_base.specs.declared.command.Command.TheVariants.{Malloc, Calloc, Realloc, Free, Write, Fill, Read, Link, Follow, Sum, Log, Ilog, Restore, Prune, Logs}
use Rattle.dym_base.specs.declared.reply.Reply.{Reply}
use Rattle.dym_base.specs.declared.reply.Reply.TheVariants as reply
use Rattle.dym_base.specs.declared.reply.Refusal.TheVariants.{Range}
use Rattle.dym_commands.specs.Reads.{read_room}
use Rattle.dym_heap.proofs.Sums.{chunk_fits}
use Rattle.dym_object.specs.Meaning.{ObjectMeaning, IsWhole}
use Rattle.dym_commands.specs.Replies.{bytes_of}
use Rattle.dym_object.specs.Turns.{Ran}

-- only a read is told bytes
module _ (v : Version) (quota : ℕ) (s : HeapState) where
  of_malloc : (n : ℕ) (o : Option ℕ) → bytes_of (malloc_in v quota s n o).reply ≡ []
  of_malloc n None = refl
  of_malloc n (Some e) = grind arith

  of_free_live : (h : Handle) (r : Reply) (o : Option (List ℕ)) → bytes_of r ≡ [] → bytes_of (free_live s h r o).reply ≡ []
  of_free_live h r None none = refl
  of_free_live h r (Some old) none = none

  of_free : (h : Option Handle) → bytes_of (free s h).reply ≡ []
  of_free None = refl
  of_free (Some h) = of_free_live h reply.Done (map.get s.live (key h)) refl

  of_realloc_in : (h : Handle) (n : ℕ) (old : List ℕ) (o : Option ℕ) → bytes_of (realloc_in v quota s h n old o).reply ≡ []
  of_realloc_in h n old None = refl
  of_realloc_in h n old (Some e) = grind arith

  of_realloc_live : (h : Handle) (n : ℕ) (o : Option (List ℕ)) → bytes_of (realloc_live v quota s h n o).reply ≡ []
  of_realloc_live h n None = refl
  of_realloc_live h n (Some old) = of_realloc_in h n old (cls n)

  of_realloc : (h : Option Handle) (n : ℕ) → bytes_of (realloc v quota s h n).reply ≡ []
  of_realloc None n = of_malloc n (cls n)
  of_realloc (Some h) n =
      let freed = of_free_live h reply.Nil (map.get s.live (key h)) refl in
      let sized = of_realloc_live h n (map.get s.live (key h)) in
      grind (arith, freed, sized)

  of_write : (h : Handle) (at : ℕ) (bytes : List ℕ) (o : Option (List ℕ)) → bytes_of (write_live s h at bytes o).reply ≡ []
  of_write h at bytes None = refl
  of_write h at bytes (Some old) = grind arith

  of_follow : (at : ℕ) (o : Option (List ℕ)) → bytes_of (follow s at o).reply ≡ []
  of_follow at None = refl
  of_follow at (Some bytes) = grind arith

  of_sum : (o : Option (List ℕ)) → bytes_of (sum_of s o).reply ≡ []
  of_sum None = refl
  of_sum (Some bytes) = refl

  of_read : (at n : ℕ) (o : Option (List ℕ)) → ((bytes : List ℕ) → o ≡ Some bytes → length bytes ≤ 65536) → length (bytes_of (read s at n o).reply) ≤ (if nat_le n 65536 then n else 0)
  of_read at n None small = omega arith
  of_read at n (Some bytes) small =
      elim (nat_lt (length bytes) (at + n)) as (λ b. nat_lt (length bytes) (at + n) ≡ b
      → length (bytes_of (if b then refused s Range else record { heap = s; reply = reply.Bytes (take n (drop at bytes)) }).reply) ≤ (if nat_le n 65536 then n else 0)) [
        | true ↦ λ is. omega arith
        | false ↦ λ is.
            let less : n ≤ 65536 = grind (arith, nat_tests, is, small bytes refl) in
            let test : nat_le n 65536 ≡ true = grind (arith, nat_tests, less) in
            rw test (omega (arith, length-take n (drop at bytes)))
      ] refl

of_log : (v : Version) (s : ObjectState) (t : ℕ) (kind : Kind) (o : Option LogEntry) → bytes_of (log_after v s t kind o).reply ≡ []
of_log v s t kind None = grind arith
of_log v s t kind (Some e) = grind arith

of_restore : (s : ObjectState) (logs : List LogEntry) (o : Option LogEntry) → bytes_of (restore_to s logs o).reply ≡ []
of_restore s logs None = refl
of_restore s logs (Some e) = refl

-- no chunk has more than 65,536 bytes
module _ (v : Version) (quota : ℕ) (s : ObjectState) (small : (k : ℕ) (bytes : List ℕ) → map.get s.heap.live k ≡ Some bytes → length bytes ≤ 65536) where
  step_room : (c : Command) → length (bytes_of (object_step v quota s c).reply) ≤ read_room c
  step_room (Malloc n) = omega (arith, ap length (of_malloc v quota s.heap n (cls n)))
  step_room (Calloc m n) = omega (arith, ap length (of_malloc v quota s.heap (m * n) (cls (m * n))))
  step_room (Realloc h n) = omega (arith, ap length (of_realloc v quota s.heap h n))
  step_room (Free h) = omega (arith, ap length (of_free v quota s.heap h))
  step_room (Write h at bytes) = omega (arith, ap length (of_write v quota s.heap h at bytes (map.get s.heap.live (key h))))
  step_room (Fill h at n byte) = omega (arith, ap length (of_write v quota s.heap h at (replicate n byte) (map.get s.heap.live (key h))))
  step_room (Read h at n) = of_read v quota s.heap at n (map.get s.heap.live (key h)) (small (key h))
  step_room (Link h at to) = omega (arith, ap length (of_write v quota s.heap h at (to_le_bytes w64 (link_number to)) (map.get s.heap.live (key h))))
  step_room (Follow h at) = omega (arith, ap length (of_follow v quota s.heap at (map.get s.heap.live (key h))))
  step_room (Sum h) = omega (arith, ap length (of_sum v quota s.heap (map.get s.heap.live (key h))))
  step_room (Log t) = omega (arith, ap length (of_log v s t Full (newest s.logs)))
  step_room (Ilog t) = omega (arith, ap length (of_log v s t Inc (newest s.logs)))
  step_room (Restore t) = omega (arith, ap length (of_restore s (take (reached t s.logs) s.logs) (newest (take (reached t s.logs) s.logs))))
  step_room (Prune g) = omega arith
  step_room Logs = omega arith

-- what the reply to a command tells is no more than the command's room
pub reply_room : (old : ObjectMeaning) (c : Command) (new : ObjectMeaning) (said : Reply) → IsWhole old → Ran old c new said → length (bytes_of said) ≤ read_room c
reply_room old c new said whole ran =
    subst (λ (r : Reply). length (bytes_of r) ≤ read_room c) (sym ran.reply)
    (step_room old.heap.version old.heap.quota _ (λ k bytes is. chunk_fits old.heap k bytes whole.sound is) c)

-- which is no more than a chunk has
pub room_small : (c : Command) → read_room c ≤ 65536
room_small (Read h at n) = grind (arith, nat_tests)
room_small c = omega arith
