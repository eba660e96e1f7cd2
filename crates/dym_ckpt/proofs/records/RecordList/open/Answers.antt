use Rattle.std.proofs.Common.{sym, subst, refl, List, [], ◌∷◌, ◌≡◌, map}
use Rattle.dym_base.specs.Packed.{Logged, packed}
use Rattle.dym_ckpt.specs.Lists.{IsListed, last_depth}
use Rattle.dym_ckpt.proofs.Lists.{nothing_lawful}
use Rattle.dym_ckpt.proofs.records.RecordList.open.Goals as goal

none_behind : (logs : List Logged) → map packed logs ≡ [] → 0 ≡ last_depth 0 logs
none_behind [] none = refl
none_behind (log ∷ logs) none = cc

pub returns-clause-record_list : goal.returns-clause-record_list
returns-clause-record_list c v d =
    subst (λ keep. IsListed v d (record { keep = keep; depth = 0 })) (sym c.in_ok-open.ensures)
    (record { idle = refl; made = refl; own_room = refl; lawful = nothing_lawful v d; depth = λ logs recorded none. none_behind logs none })
