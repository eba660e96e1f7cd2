use Rattle.std.proofs.Common.{rules}
use Rattle.dym_script.proofs.reader.Reader.say.Goals as goal
use Rattle.dym_script.proofs.reader.Reader.say.Goals.{in-Plain+in-Write+in-Heap-1, in-Plain+in-Write+in-Inline-1, in-Plain+in-Malloc-1, in-Write-1}

pub returns-in_err-object-clause-read : goal.returns-in_err-object-clause-read
returns-in_err-object-clause-read c =
    elim c.match-asked.branch [
      | in-Plain+in-Write+in-Heap-1 w ↦ search rules
      | in-Plain+in-Write+in-Inline-1 w ↦ search rules
      | in-Plain+in-Malloc-1
          w ↦ search rules
      | in-Write-1 w ↦ search rules
    ]
