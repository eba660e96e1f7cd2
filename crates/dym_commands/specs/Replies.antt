-- Replies that are kept in little memory, and what they mean.
use Rattle.std.specs.Prelude.{◌≡◌, ◌+◌, ◌^◌, ◌≤◌, ◌<◌, ℕ, Bool, true, false, List, [], length, take, drop, map, count_by, All}
use Rattle.dym_base.specs.declared.reply.Reply.{Reply}
use Rattle.dym_base.specs.declared.reply.Reply.TheVariants as reply
use Rattle.dym_base.specs.declared.reply.Refusal.TheVariants as refusal
use Rattle.dym_commands.specs.declared.replies.StoredReply.{StoredReply}
use Rattle.dym_commands.specs.declared.replies.StoredReply.TheVariants as stored

-- replies to commands: the list of them, for how many more there is room, and for how many more bytes that reads tell
pub record RepliesMeaning : Type 0 where
  pub replies : List Reply
  pub room : ℕ
  pub byte_room : ℕ

abbrev pub replies_with : List Reply → ℕ → ℕ → RepliesMeaning
replies_with replies room byte_room = record { replies = replies; room = room; byte_room = byte_room }

-- the bytes that a reply tells: those that were read
abbrev pub bytes_of : Reply → List ℕ
bytes_of (reply.Bytes bytes) = bytes
bytes_of _ = []

-- there is room for a reply more. No reply tells as many as 2 ^ 32 bytes
pub record HasRoomFor (stored : RepliesMeaning) (reply : Reply) : Type 0 where
  pub one : 0 < stored.room
  pub bytes : length (bytes_of reply) ≤ stored.byte_room
  pub short : length (bytes_of reply) < 2 ^ 32

abbrev pub is_refusal : Reply → Bool
is_refusal (reply.Refused why) = true
is_refusal _ = false

-- the reply that is kept, where the table has these bytes
abbrev pub reply_of_stored : List ℕ → StoredReply → Reply
reply_of_stored bytes stored.Done = reply.Done
reply_of_stored bytes (stored.Chunk handle) = reply.Chunk handle
reply_of_stored bytes stored.Nil = reply.Nil
reply_of_stored bytes (stored.Loose number) = reply.Loose number
reply_of_stored bytes (stored.Bytes len place) = reply.Bytes (take len (drop place bytes))
reply_of_stored bytes (stored.Total total) = reply.Total total
reply_of_stored bytes (stored.Logged kind len) = reply.Logged kind len
reply_of_stored bytes (stored.At time) = reply.At time
reply_of_stored bytes (stored.Dropped count) = reply.Dropped count
reply_of_stored bytes (stored.Slots logs slots) = reply.Slots logs slots
reply_of_stored bytes stored.TooLarge = reply.Refused refusal.TooLarge
reply_of_stored bytes stored.Quota = reply.Refused refusal.Quota
reply_of_stored bytes stored.Dead = reply.Refused refusal.Dead
reply_of_stored bytes stored.Range = reply.Refused refusal.Range
reply_of_stored bytes (stored.NotAfter newest) = reply.Refused (refusal.NotAfter newest)
reply_of_stored bytes stored.LogsFull = reply.Refused refusal.LogsFull
reply_of_stored bytes stored.NoLog = reply.Refused refusal.NoLog

-- the replies that are kept
abbrev pub replies_of_stored : List ℕ → List StoredReply → List Reply
replies_of_stored bytes stored_list = map (reply_of_stored bytes) stored_list

-- the bytes that a kept reply tells stand in the table
abbrev pub IsStored : List ℕ → StoredReply → Type 0
IsStored bytes (stored.Bytes len place) = place + len ≤ length bytes
IsStored bytes _ = Unit {0}

-- the bytes of all stand in the table, and so many of them are refusals
pub record AreStored (bytes : List ℕ) (stored_list : List StoredReply) (refused : ℕ) : Type 0 where
  pub each : All (IsStored bytes) stored_list
  pub count : refused ≡ count_by is_refusal (replies_of_stored bytes stored_list)

-- a kept reply that isn't one of bytes that were read
abbrev pub IsPlain : StoredReply → Type 0
IsPlain (stored.Bytes len place) = ⊥
IsPlain _ = Unit {0}
