-- `closed` owns nothing.
use Rattle.std.proofs.Common.{◌≡◌, [], ◌∷◌, refl, None, Option}
use mir.Syntax.{a_type, dcons, dnil}
use mir.MapTy.{inst_fn}
use base.Logic.{emp}
use base.Fml.{ftrue, flft}
use contract.BorrowLft.{◌⊑◌}
use contract.Monad.{fact, fact_i}
use contract.Running.{tables}
use types.Kit.{‵, raw, ◌⊛◌, ◌$◌, ◌∵◌, !, qed, by, keep, split, use0}
use types.Run.{no_more, and_then, returns, enter, lit}
use types.ByLocal.{alloc_all, pass_all, free_all, look_at, sets}
use types.Part.{agg}
use denote.Param.{bounded, param}
use denote.RattleType.{RattleType}
use denote.RawPtr.{null_ptr}
use denote.Steps.{nothing}
use denote.Triple.Walked.{Stays, walk_of}
use Rattle.std.proofs.raw_atomic.Walks.{proved_at, leaves}
use Rattle.dym_c.proofs.KeptSteps.{word, null_typed, closed_in}
use Rattle.dym_c.specs.contracts.kept.Kept.closed as f
use Rattle.dym_c.proofs.kept.Kept.closed.Statement.{statement}
use Rattle.dym_c.proofs.kept.Kept.closed.Code as code

pub closed_spec : {M : Type 1} → statement M
closed_spec 𝓤 𝓛 𝓜 𝓡 wired X LX dx glue =
    let H = 𝓛.H in let 𝓣 = tables 𝓤 H 𝓜 𝓡 𝓡.env in let R : RattleType = param 0 X in let En = f.ended X dx in let c = f.clauses X dx 𝓛 𝓜.mem 𝓡.returns in
    let args = bounded (a_type ∷ []) (X, tt) (dcons dx dnil) in let fn = inst_fn args code.function in let hs : Stays En.signature.params En.kept = tt in
    let none : Option R.Denot = None in
    proved_at 𝓛 En hs c 𝓜 𝓡 tt (f.Key.name args) fn (code.unfolded 𝓤 H 𝓜 𝓡 wired (X, tt) dx) (λ z are.
    let κs = z.0.0 in let qs = z.0.1 in let Post = (walk_of 𝓛 En hs c).post z in
    qed 𝓛 (((‵ (flft κs.0 qs.0) ⊛ ‵ ftrue) ⊛ ‵ ftrue) ∷ (raw (fact 𝓤 (κs.0 ⊑ X.lives)) ⊛ ‵ ftrue) ∷ []) ∵ split ! $ keep ! (0 ∷ []) $
    enter ! 𝓣.C 𝓣.Λ fn [] Post $ alloc_all ! (λ l. pass_all ! refl tt $
    sets ! (agg ! (and_then ! (lit ! tt) (no_more !))) refl (null_typed R) $ closed_in R ! $
    use0 𝓛 (raw (fact 𝓤 (none ≡ none))) (fact_i 𝓤 (none ≡ none) (emp 𝓤) refl) $ nothing ! $
    returns ! (look_at ! 0 refl) $ free_all ! refl $ keep ! (3 ∷ 0 ∷ 2 ∷ 1 ∷ []) $ by !
    (leaves 𝓛 En hs c z (word null_ptr) (record { at = null_ptr; value = none }) tt tt)))
