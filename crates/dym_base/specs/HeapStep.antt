-- One command to a heap. A command is judged by the first row that fits it; the first refusal whose condition holds is the
-- reply, and nothing else then changes.
use Rattle.std.specs.Prelude.{⊤, ℕ, ◌+◌, ◌-◌, ◌*◌, List, [], ◌∷◌, ◌++◌, length, take, drop, replicate, sum, ◌==◌, nat_lt, if◌then◌else◌, Option, None, Some}
use Rattle.std.specs.Int.{w64, to_le_bytes, from_le_bytes}
use Rattle.std.specs.FinMap as map
use Rattle.std.specs.FinSet as set
use Rattle.dym_base.specs.Numbers.{size, number, exponent_of, index_of, cls}
use Rattle.dym_base.specs.Heaps.{Live, HeapState, fresh, held}
use Rattle.dym_base.specs.declared.handle.Handle.{Handle}
use Rattle.dym_base.specs.declared.command.Version.{Version}
use Rattle.dym_base.specs.declared.command.Version.TheVariants.{One, Two}
use Rattle.dym_base.specs.declared.command.Command.{Command}
use Rattle.dym_base.specs.declared.command.Command.TheVariants.{Malloc, Calloc, Realloc, Free, Write, Fill, Read, Link, Follow, Sum, Log, Ilog, Restore, Prune, Logs}
use Rattle.dym_base.specs.declared.reply.Reply.{Reply}
use Rattle.dym_base.specs.declared.reply.Reply.TheVariants.{Done, Chunk, Nil, Loose, Bytes, Total, Refused}
use Rattle.dym_base.specs.declared.reply.Refusal.{Refusal}
use Rattle.dym_base.specs.declared.reply.Refusal.TheVariants.{TooLarge, Quota, Dead, Range}

-- the heap after a command, and the reply
pub record HeapAnswer : Type 0 where
  pub heap : HeapState
  pub reply : Reply

-- the number of a handle, by which live has it
abbrev pub key : Handle → ℕ
key h = number h.exp h.index

-- the handle of a number
abbrev pub handle_of : ℕ → Handle
handle_of n = record { exp = exponent_of n; index = index_of n }

-- the bytes of a new chunk of class e for which n bytes were asked
abbrev pub new_len : Version → ℕ → ℕ → ℕ
new_len One e n = size e
new_len Two e n = n

-- the first n bytes, and zeros where there are fewer
abbrev pub fitted : ℕ → List ℕ → List ℕ
fitted n bytes = take n bytes ++ replicate (n - length bytes) 0

-- the bytes with these from `at` on
abbrev pub splice : ℕ → List ℕ → List ℕ → List ℕ
splice at new old = take at old ++ new ++ drop (at + length new) old

abbrev pub refused : HeapState → Refusal → HeapAnswer
refused s why = record { heap = s; reply = Refused why }

-- the chunk of number k has these bytes, and is touched
abbrev pub with_chunk : HeapState → ℕ → List ℕ → HeapState
with_chunk s k bytes = record { live = map.insert s.live k bytes; touched = set.insert s.touched k }

-- the chunk of number k is gone
abbrev pub without_chunk : HeapState → ℕ → HeapState
without_chunk s k = record { live = map.remove s.live k; touched = set.remove s.touched k }

-- the segments that the heap needs with a fresh chunk of class e, whatever its bytes
abbrev pub held_with_fresh : Live → ℕ → ℕ
held_with_fresh live e = held (map.insert live (number e (fresh live e)) [])

-- adds the fresh chunk of class e with these bytes, where the quota allows it
abbrev pub add_fresh : ℕ → HeapState → ℕ → List ℕ → HeapAnswer
add_fresh quota s e bytes =
    if nat_lt quota (held_with_fresh s.live e)
    then refused s Quota
    else record { heap = with_chunk s (number e (fresh s.live e)) bytes; reply = Chunk (record { exp = e; index = fresh s.live e }) }

abbrev pub malloc_in : Version → ℕ → HeapState → ℕ → Option ℕ → HeapAnswer
malloc_in v quota s n None = refused s TooLarge
malloc_in v quota s n (Some e) = add_fresh quota s e (replicate (new_len v e n) 0)

-- n bytes, zero
abbrev pub malloc : Version → ℕ → HeapState → ℕ → HeapAnswer
malloc v quota s n = malloc_in v quota s n (cls n)

-- the chunk is freed
abbrev pub free_live : HeapState → Handle → Reply → Option (List ℕ) → HeapAnswer
free_live s h reply None = refused s Dead
free_live s h reply (Some old) = record { heap = without_chunk s (key h); reply = reply }

abbrev pub free : HeapState → Option Handle → HeapAnswer
free s None = record { heap = s; reply = Done }
free s (Some h) = free_live s h Done (map.get s.live (key h))

-- a chunk of its own class keeps its place; in version 1 it has its length already
abbrev pub resize : Version → HeapState → Handle → ℕ → List ℕ → HeapState
resize One s h n old = s
resize Two s h n old = if n == length old then s else with_chunk s (key h) (fitted n old)

-- a chunk of another class moves, where the quota allows both for a moment
abbrev pub move_to : Version → ℕ → HeapState → Handle → ℕ → List ℕ → ℕ → HeapAnswer
move_to v quota s h n old e =
    if nat_lt quota (held_with_fresh s.live e)
    then refused s Quota
    else record {
      heap = without_chunk (with_chunk s (number e (fresh s.live e)) (fitted (new_len v e n) old)) (key h);
      reply = Chunk (record { exp = e; index = fresh s.live e });
    }

abbrev pub realloc_in : Version → ℕ → HeapState → Handle → ℕ → List ℕ → Option ℕ → HeapAnswer
realloc_in v quota s h n old None = refused s TooLarge
realloc_in v quota s h n old (Some e) =
    if e == h.exp then record { heap = resize v s h n old; reply = Chunk h } else move_to v quota s h n old e

abbrev pub realloc_live : Version → ℕ → HeapState → Handle → ℕ → Option (List ℕ) → HeapAnswer
realloc_live v quota s h n None = refused s Dead
realloc_live v quota s h n (Some old) = realloc_in v quota s h n old (cls n)

abbrev pub realloc : Version → ℕ → HeapState → Option Handle → ℕ → HeapAnswer
realloc v quota s None n = malloc v quota s n
realloc v quota s (Some h) n =
    if n == 0
    then free_live s h Nil (map.get s.live (key h))
    else realloc_live v quota s h n (map.get s.live (key h))

-- the bytes stand from `at`, and the chunk is touched where there is at least one
abbrev pub written : HeapState → ℕ → ℕ → List ℕ → List ℕ → HeapState
written s k at [] old = s
written s k at (b ∷ bs) old = with_chunk s k (splice at (b ∷ bs) old)

abbrev pub write_live : HeapState → Handle → ℕ → List ℕ → Option (List ℕ) → HeapAnswer
write_live s h at bytes None = refused s Dead
write_live s h at bytes (Some old) =
    if nat_lt (length old) (at + length bytes)
    then refused s Range
    else record { heap = written s (key h) at bytes old; reply = Done }

abbrev pub write : HeapState → Handle → ℕ → List ℕ → HeapAnswer
write s h at bytes = write_live s h at bytes (map.get s.live (key h))

abbrev pub read : HeapState → ℕ → ℕ → Option (List ℕ) → HeapAnswer
read s at n None = refused s Dead
read s at n (Some bytes) =
    if nat_lt (length bytes) (at + n) then refused s Range else record { heap = s; reply = Bytes (take n (drop at bytes)) }

-- what a number names: nothing, a live chunk, or neither
abbrev pub found_at : HeapState → ℕ → Reply
found_at s n = if n == 0 then Nil else (if map.contains_key s.live n then Chunk (handle_of n) else Loose n)

abbrev pub follow : HeapState → ℕ → Option (List ℕ) → HeapAnswer
follow s at None = refused s Dead
follow s at (Some bytes) =
    if nat_lt (length bytes) (at + 8)
    then refused s Range
    else record { heap = s; reply = found_at s (from_le_bytes w64 (take 8 (drop at bytes))) }

abbrev pub sum_of : HeapState → Option (List ℕ) → HeapAnswer
sum_of s None = refused s Dead
sum_of s (Some bytes) = record { heap = s; reply = Total (sum bytes) }

-- the number that stands for a handle or nil in a chunk's bytes
abbrev pub link_number : Option Handle → ℕ
link_number None = 0
link_number (Some h) = key h

-- one command to a heap of a version, within a quota. The commands about logs are no commands to a heap: they change nothing
abbrev pub heap_step : Version → ℕ → HeapState → Command → HeapAnswer
heap_step v quota s (Malloc n) = malloc v quota s n
heap_step v quota s (Calloc m n) = malloc v quota s (m * n)
heap_step v quota s (Realloc h n) = realloc v quota s h n
heap_step v quota s (Free h) = free s h
heap_step v quota s (Write h at bytes) = write s h at bytes
heap_step v quota s (Fill h at n byte) = write s h at (replicate n byte)
heap_step v quota s (Read h at n) = read s at n (map.get s.live (key h))
heap_step v quota s (Link h at to) = write s h at (to_le_bytes w64 (link_number to))
heap_step v quota s (Follow h at) = follow s at (map.get s.live (key h))
heap_step v quota s (Sum h) = sum_of s (map.get s.live (key h))
heap_step v quota s (Log t) = record { heap = s; reply = Done }
heap_step v quota s (Ilog t) = record { heap = s; reply = Done }
heap_step v quota s (Restore t) = record { heap = s; reply = Done }
heap_step v quota s (Prune g) = record { heap = s; reply = Done }
heap_step v quota s Logs = record { heap = s; reply = Done }

-- every command but those about logs
abbrev pub IsHeapCommand : Command → Type 0
IsHeapCommand (Log t) = ⊥
IsHeapCommand (Ilog t) = ⊥
IsHeapCommand (Restore t) = ⊥
IsHeapCommand (Prune g) = ⊥
IsHeapCommand Logs = ⊥
IsHeapCommand _ = ⊤
