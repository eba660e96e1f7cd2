-- What a viewer answers, by the commits that it knows.
use Rattle.std.specs.Prelude.{ℕ, List, length, Option, None, Some, unwrap_or}
use Rattle.std.specs.FinMap.{len}
use Rattle.dym_base.specs.declared.handle.Handle.{Handle}
use Rattle.dym_view.specs.Commits.{CommitMeaning, total_of, part_in}
use Rattle.dym_view.specs.Histories.{last_commit}
use Rattle.dym_view.specs.declared.glance.Glance.{Glance}
use Rattle.dym_view.specs.declared.glance.Seen.{Seen}
use Rattle.dym_view.specs.declared.glance.Seen.TheVariants.{Nothing, Missing, Bytes}

-- the commit of number n, at a glance
abbrev pub glance_at : ℕ → CommitMeaning → Glance
glance_at n c = record { number = n; time = c.time; chunks = len c.copy; total = total_of c.copy }

-- the last commit at a glance; its number is how many there are
abbrev pub glance_of_last : ℕ → Option CommitMeaning → Option Glance
glance_of_last n None = None
glance_of_last n (Some c) = Some (glance_at n c)

abbrev pub glance_of : List CommitMeaning → Option Glance
glance_of commits = glance_of_last (length commits) (last_commit commits)

-- n bytes of a chunk of the last commit from `at` on, where there is one and its copy has them
abbrev pub part_of_last : Option CommitMeaning → Handle → ℕ → ℕ → Option (List ℕ)
part_of_last None h at n = None
part_of_last (Some c) h at n = part_in c.copy h at n

-- what a read of commit number n answers
abbrev pub seen_part : ℕ → Option (List ℕ) → Seen
seen_part n None = Missing n
seen_part n (Some bytes) = Bytes n

abbrev pub seen_of_last : ℕ → Option CommitMeaning → Handle → ℕ → ℕ → Seen
seen_of_last number None h at n = Nothing
seen_of_last number (Some c) h at n = seen_part number (part_in c.copy h at n)

-- nothing where there is no commit; missing where the last one's copy hasn't these bytes
abbrev pub seen_of : List CommitMeaning → Handle → ℕ → ℕ → Seen
seen_of commits h at n = seen_of_last (length commits) (last_commit commits) h at n

-- what then stands in the place of `out`
abbrev pub read_of : List CommitMeaning → Handle → ℕ → List ℕ → List ℕ
read_of commits h at out = unwrap_or (part_of_last (last_commit commits) h at (length out)) out
