-- A name and a number that stand behind others.
use Rattle.std.proofs.Common.{◌≡◌, ℕ, List, ◌++◌, ap, ◌∙◌, append_assoc}

pub named_behind : (before name digits all rest : List ℕ) → all ≡ before ++ name ++ digits → all ++ rest ≡ before ++ (name ++ digits ++ rest)
named_behind before name digits all rest put =
    ap (λ l. l ++ rest) (put ∙ append_assoc before name digits) ∙ append_assoc before (name ++ digits) rest
