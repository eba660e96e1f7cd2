use Rattle.dym_quota.proofs.steps.part.Given as goal

abbrev pub ghosts-part_by : goal.ghosts-part_by
ghosts-part_by a = record { amount = a.quota }
