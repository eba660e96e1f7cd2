-- What is asked of an object, as a command.
use Rattle.std.specs.Prelude.{ℕ, List}
use denote.Ref.{Bor}
use Rattle.dym_base.specs.declared.command.Command.{Command}
use Rattle.dym_base.specs.declared.command.Command.TheVariants.{Write}
use Rattle.dym_commands.specs.declared.request.Request.{Request}
use Rattle.dym_commands.specs.declared.request.Request.TheVariants as request

-- the command that is asked, by what the bytes of a write are
abbrev pub asks_by : {Bytes : Type 0} → (Bytes → List ℕ) → Request Bytes → Command
asks_by bytes_of (request.Plain command) = command
asks_by bytes_of (request.Write h at bytes) = Write h at (bytes_of bytes)

-- the command that is asked, where the bytes are held as the word of a line
abbrev pub asks : Request (List ℕ) → Command
asks asked = asks_by (λ bytes. bytes) asked

-- the command that is asked, where the bytes are borrowed
abbrev pub asks_borrowed : Request (Bor (List ℕ)) → Command
asks_borrowed asked = asks_by (λ bytes. bytes.now) asked
