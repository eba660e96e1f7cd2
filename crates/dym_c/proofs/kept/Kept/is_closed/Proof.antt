-- `is_closed` tests the pointer, and leaves it.
use Rattle.std.proofs.Common.{List, [], ◌∷◌, refl}
use mir.Syntax.{named, a_type, dcons, dnil}
use mir.MapTy.{inst_fn}
use mir.Val.{Val, vbool, vnull, ptr_same}
use base.Fraction.{full_share}
use base.Fml.{ftrue, flft}
use contract.BorrowLft.{◌⊑◌}
use contract.Monad.{fact}
use types.Kit.{‵, raw, ◌⊛◌, ◌$◌, ◌∵◌, !, qed, done, move, keep, split, join, fsplit3, rewrite, suffices, frame, group}
use types.Part.{whole, sub, look_in}
use types.Run.{enter, of_opd, lit, bin, load, stop, fld, returns}
use types.ByLocal.{alloc_all, pass_all, free_all, look_at, get, through, sets}
use denote.Builtin.{bool}
use denote.Memory.{cell_at}
use denote.Param.{bounded, param}
use denote.Plain.{bool_Makes}
use denote.RattleType.{RattleType}
use denote.RawPtr.{ptr_val, rawptr_Lawful}
use denote.Ref.{MutRef, mut_vals, mut_Tells}
use denote.Signature.{plain}
use denote.Steps.{nothing, owned, opens, closes}
use denote.Triple.Walked.{Stays, walk_of, stay_ref, Goes-ref, ends_at}
use Rattle.core.proofs.mem.Facts.{says_two}
use Rattle.std.proofs.raw_atomic.Walks.{proved}
use Rattle.dym_c.proofs.KeptSteps.{Row, word, told, out, made}
use Rattle.dym_c.specs.contracts.kept.Kept.is_closed as f
use Rattle.dym_c.proofs.kept.Kept.is_closed.Statement.{statement}
use Rattle.dym_c.proofs.kept.Kept.is_closed.Code as code

pub is_closed_spec : {M : Type 1} → statement M
is_closed_spec 𝓤 𝓛 𝓜 𝓡 wired X LX dx glue =
    let R : RattleType = param 0 X in let K = Row R in let En = f.ended X dx in let c = f.clauses X dx 𝓛 𝓜.mem 𝓡.returns in
    let args = bounded (a_type ∷ []) (X, tt) (dcons dx dnil) in let fn = inst_fn args code.function in
    let hs : Stays En.signature.params En.kept = (stay_ref (0 ∷ []) tt (plain (λ _. K)), tt) in let W = walk_of 𝓛 En hs c in
    proved 𝓛 En hs c 𝓜 𝓡 (Goes-ref 𝓛 2 0 tt (plain (λ _. K)), tt) (f.Key.name args) fn (code.unfolded 𝓤 𝓛.H 𝓜 𝓡 wired (X, tt) dx)
    (λ κs. (mut_vals, tt)) (λ κs. (mut_Tells (named 0) κs.0 K, tt)) (λ κs qs bounds a _ are.
    let b = a.0.ref_ptr.0 in let o = a.0.ref_ptr.1 in let d = a.0.now in let vs = mut_vals a.0 in let y : W.Ghost = ((κs, qs, bounds, a, (vs, tt)), tt) in
    let Cell = λ (ws : List Val). ‵ (cell_at full_share K.mir ws b o) in
    qed 𝓛 (((‵ (flft κs.0 qs.0) ⊛ ‵ (flft κs.1.0 qs.1.0) ⊛ ‵ ftrue) ⊛ ‵ ((MutRef (named 0) κs.0 K).own_val a.0 vs) ⊛ ‵ ftrue) ∷ (raw (fact 𝓤 (κs.1.0 ⊑ X.lives)) ⊛ ‵ ftrue) ∷ []) ∵
    split ! $ split ! $ move ! (2 ∷ []) $ split ! $ keep ! (0 ∷ 2 ∷ 3 ∷ []) $ enter ! _ _ _ _ _ $ alloc_all ! (λ l. pass_all ! refl ((tt, tt), tt) $
    fsplit3 ! $ move ! (1 ∷ 2 ∷ 3 ∷ []) $ opens ! tt K b o (λ us. move ! (1 ∷ []) $ out R ! d us (λ is. told R ! d.at d.value (λ ok tells.
    -- [what it owns; its cell; the open borrow, in three entries]
    rewrite ! 1 Cell is refl $ let fits = ((rawptr_Lawful 𝓛).typed d.at _ refl).0 in
    sets ! (of_opd ! (load ! (through ! refl (fld ! refl (stop !))) (look_in ! 1 (sub ! 0 refl (whole !))))) refl fits $
    sets ! (bin ! (get ! refl) (lit ! tt) ok) refl (tt, tt) $
    made R ! d.at d.value $ move ! (1 ∷ 0 ∷ []) $ closes ! tt K d (word d.at ∷ []) b o $ returns ! (look_at ! 0 refl) $ free_all ! refl $ move ! (3 ∷ []) $
    suffices ! _ (ends_at 𝓛 En hs c y (vbool (ptr_same (ptr_val d.at) vnull)) (ptr_same (ptr_val d.at) vnull) (d, tt) (tt, tt)) $ says_two ! (tells, refl) $
    group ! 3 $ nothing ! $ move ! (1 ∷ 0 ∷ []) $ join ! $ move ! (1 ∷ 2 ∷ []) $ join ! $ frame ! $ frame ! $
    owned ! bool _ (bool_Makes 𝓛) (ptr_same (ptr_val d.at) vnull) _ refl $ done !)))))
