-- What the orders print besides the reports of objects.
use Rattle.std.specs.Prelude.{ℕ, List, [], ◌∷◌, ◌++◌, codes, decimal, flat_map}
use Rattle.dym_base.specs.BadKinds.{text_of}
use Rattle.dym_base.specs.declared.bad_kind.BadKind.{BadKind}
use Rattle.dym_report.specs.declared.totals.Totals.{Totals}

-- the last line of a report
abbrev pub end_text : List ℕ
end_text = codes "end\n"

-- the summary in place of a report: eight numbers, each behind its name
abbrev pub summary_text : Totals → List ℕ
summary_text t =
    flat_map (λ part. part) (codes "summary"
    ∷ (codes " objects " ++ decimal t.objects)
    ∷ (codes " commands " ++ decimal t.commands)
    ∷ (codes " ok " ++ decimal t.ok)
    ∷ (codes " refused " ++ decimal t.refused)
    ∷ (codes " chunks " ++ decimal t.chunks)
    ∷ (codes " segments " ++ decimal t.segments)
    ∷ (codes " kept " ++ decimal t.kept)
    ∷ (codes " slots " ++ decimal t.slots)
    ∷ codes "\n"
    ∷ [])

-- the order check: how many objects and commands a good script has
abbrev pub counts_text : ℕ → ℕ → List ℕ
counts_text objects commands = codes "ok " ++ decimal objects ++ codes " " ++ decimal commands ++ codes "\n"

-- the order trace: how many events a good trace has
abbrev pub events_text : ℕ → List ℕ
events_text events = codes "ok " ++ decimal events ++ codes "\n"

-- a bad input: the first bad line, and what is wrong with it
abbrev pub error_text : ℕ → BadKind → List ℕ
error_text line kind = codes "error line " ++ decimal line ++ codes ": " ++ text_of kind ++ codes "\n"

-- words of no order
abbrev pub usage_text : List ℕ
usage_text = codes "usage\n"
