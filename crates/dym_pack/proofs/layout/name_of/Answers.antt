use Rattle.std.proofs.Common.{◌∙◌, ◌∷◌, ap}
use Rattle.std.proofs.lemmas.List.{append-nil}
use Rattle.dym_pack.proofs.layout.name_of.Goals as goal

pub returns : goal.returns
returns c =
    ap (λ ys. c.args.exp ∷ ys) (append-nil c.copy_from_slice.new.self ∙ c.copy_from_slice.ensures.after ∙ c.to_le_bytes.ensures)
