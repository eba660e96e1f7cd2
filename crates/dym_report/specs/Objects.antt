-- The report of one object as text.
use Rattle.std.specs.Prelude.{ℕ, List, ◌++◌, length, codes, decimal, flat_map}
use Rattle.std.specs.FinMap.{entries, len}
use Rattle.dym_base.specs.Heaps.{Live, held}
use Rattle.dym_base.specs.HeapStep.{handle_of}
use Rattle.dym_base.specs.declared.command.Version.{Version}
use Rattle.dym_base.specs.declared.command.Version.TheVariants.{One, Two}
use Rattle.dym_base.specs.declared.handle.Handle.{Handle}
use Rattle.dym_base.specs.declared.reply.Reply.{Reply}
use Rattle.dym_report.specs.Handles.{handle_text}
use Rattle.dym_report.specs.Hex.{hex_text, trimmed}
use Rattle.dym_report.specs.Replies.{reply_line}

-- object NAME
abbrev pub heading : List ℕ → List ℕ
heading name = codes "object " ++ name ++ codes "\n"

-- heap C S: how many chunks are live, and how many segments they need
abbrev pub heap_line : ℕ → ℕ → List ℕ
heap_line chunks segments = codes "heap " ++ decimal chunks ++ codes " " ++ decimal segments ++ codes "\n"

-- the length of a chunk, which is named where it isn't that of its class
abbrev pub length_text : Version → ℕ → List ℕ
length_text One n = codes " "
length_text Two n = codes " " ++ decimal n ++ codes " "

-- a chunk's bytes without the zero bytes at their end
abbrev pub image_text : List ℕ → List ℕ
image_text bytes = hex_text (trimmed bytes)

-- HANDLE IMAGE, and in version 2 HANDLE LENGTH IMAGE
abbrev pub image_line : Version → Handle → List ℕ → List ℕ
image_line version h bytes = handle_text h ++ length_text version (length bytes) ++ image_text bytes ++ codes "\n"

-- logs K P: how many logs are kept, and how many records they take
abbrev pub logs_line : ℕ → ℕ → List ℕ
logs_line kept slots = codes "logs " ++ decimal kept ++ codes " " ++ decimal slots ++ codes "\n"

-- the live chunks in the order of their handles
abbrev pub images_text : Version → Live → List ℕ
images_text version live = flat_map (λ e. image_line version (handle_of e.0) e.1) (entries live)

-- what stands behind an object's replies: its counts, its live chunks and its logs
abbrev pub state_text : Version → Live → ℕ → ℕ → List ℕ
state_text version live kept slots = heap_line (len live) (held live) ++ images_text version live ++ logs_line kept slots

-- the whole part of one object
unfoldable pub object_text : Version → List ℕ → List Reply → Live → ℕ → ℕ → List ℕ
object_text version name replies live kept slots = heading name ++ flat_map reply_line replies ++ state_text version live kept slots
