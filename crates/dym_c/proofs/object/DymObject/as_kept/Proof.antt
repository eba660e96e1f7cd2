-- `as_kept` lends the object as what it is.
use Rattle.std.proofs.Common.{List, [], ◌∷◌, refl}
use mir.Syntax.{named}
use mir.Val.{Val, vptr}
use base.Fraction.{full_share}
use base.Logic.{fst∗}
use base.Fml.{GName, ftrue, fsep, flft}
use contract.Running.{tables}
use types.Logic.{sem}
use types.Kit.{‵, ◌⊛◌, some, later, at_ret, ◌$◌, ◌∵◌, !, qed, done, move, keep, use1, split, split3, join, pick, await, fsplit3, fjoin}
use types.Kit.{fpack, suffices, frame, group}
use types.Run.{enter, of_opd, stop, addr, first, blocks, exec, returns}
use types.ByLocal.{alloc_all, pass_all, free_all, look_at, get, through, sets, sets_last, env}
use denote.Exit.{no}
use denote.Follow.{follows, lends_Part}
use denote.Memory.{mem, cell_at, part_of}
use denote.Ref.{MutBor, MutRef, mut_vals, mut_Tells}
use denote.Signature.{plain, mut_ref_to}
use denote.Steps.{nothing, opens}
use denote.Triple.Walked.{Stays, walk_of, says, stay_dropped, Goes-spent_ref, ends_at}
use Rattle.std.proofs.VecSteps.Shapes.{after}
use Rattle.std.proofs.raw_atomic.Walks.{proved}
use Rattle.dym_c.specs.contracts.object.DymObject as object
use Rattle.dym_c.specs.contracts.object_content.ObjectContent.{the_row as R}
use Rattle.dym_c.proofs.KeptSteps.{Row}
use Rattle.dym_c.specs.contracts.object.DymObject.as_kept as f
use Rattle.dym_c.proofs.object.DymObject.as_kept.Statement.{statement}
use Rattle.dym_c.proofs.object.DymObject.as_kept.Code as code

abbrev stayed : Stays f.ended.signature.params f.ended.kept
stayed = (stay_dropped (mut_ref_to (0 ∷ []) tt (plain (λ _. object.the_row))) no, tt)

abbrev of_kept : (Row R).Denot → object.the_row.Denot
of_kept k = record { at = k.at; value = k.value }

pub as_kept_spec : {M : Type 1} → statement M
unfolding part_of
as_kept_spec 𝓤 𝓛 𝓜 𝓡 wired =
    let c = f.clauses 𝓛 𝓜.mem 𝓡.returns in let W = walk_of 𝓛 f.ended stayed c in let 𝓣 = tables 𝓤 𝓛.H 𝓜 𝓡 𝓡.env in let O = object.the_row in let K = Row R in
    proved 𝓛 f.ended stayed c 𝓜 𝓡 (Goes-spent_ref 𝓛 1 (0 ∷ []) tt (plain (λ _. O)), tt) f.Key.name code.function (code.unfolded 𝓤 𝓛.H 𝓜 𝓡 wired)
    (λ κs. (mut_vals, tt)) (λ κs. (mut_Tells (named 0) κs.0 O, tt)) (λ κs qs bounds a _ are.
    let κ = κs.0 in let q = qs.0 in let γ = a.0.ghost_name in let b = a.0.ref_ptr.0 in let o = a.0.ref_ptr.1 in let d = a.0.now in let vs = mut_vals a.0 in
    let y : W.Ghost = ((κs, qs, bounds, a, (vs, tt)), tt) in
    qed 𝓛 (((‵ (flft κ q) ⊛ ‵ ftrue) ⊛ ‵ ((MutRef (named 0) κ O).own_val a.0 vs) ⊛ ‵ ftrue) ∷ ‵ ftrue ∷ []) ∵
    split ! $ split ! $ move ! (2 ∷ []) $ split ! $ keep ! (0 ∷ 2 ∷ []) $ enter ! _ _ _ _ _ $
    alloc_all ! (λ l. pass_all ! refl ((tt, tt), tt) $ fsplit3 ! $ move ! (1 ∷ 2 ∷ 3 ∷ []) $ opens ! tt O b o (λ us.
    -- [the pointer's cell; what it owns; the open borrow, in three entries]
    first ! $ blocks ! $
    sets ! (addr ! (through ! refl (stop !))) refl (tt, tt) $ sets ! (of_opd ! (get ! refl)) refl (tt, tt) $
    sets_last ! (addr ! (through ! refl (stop !))) refl (tt, tt) $ exec ! 𝓣.C 𝓣.Λ (env code.Mir.locals l) (after 1 (code.function).body) (at_ret _ (W.post y)) $
    sets ! (of_opd ! (get ! refl)) refl (tt, tt) $ fjoin ! $
    let k : K.Denot = record { at = d.at; value = d.value } in
    fpack ! (List Val) (λ us'. fsep (cell_at full_share K.mir us' b o) (K.own_val k us')) us $ nothing ! $ move ! (2 ∷ 3 ∷ 4 ∷ 1 ∷ 0 ∷ []) $ group ! 5 $
    let r : GName → MutBor K.Denot = λ γ'. record { ref_ptr = (b, o); ghost_name = γ'; now = k } in
    use1 𝓛 (later (some (λ (γ' : GName). ‵ ((MutRef (named 0) κ K).own_val (r γ') (vptr b o ∷ [])) ⊛ ‵ (flft κ q) ⊛ ‵ (follows O K γ γ' of_kept))))
    (lends_Part 𝓛 O K of_kept (named 0) κ q b o b o γ (sem 𝓛 ftrue) (λ w. fst∗ 𝓤 (sem 𝓛 ((mem K).own_at w b o)) (sem 𝓛 ftrue)) (O.coded.code d) (O.coded.code d) k) $
    await ! tt $ pick ! (λ γ'. split3 ! $
    returns ! (look_at ! 0 refl) $ free_all ! refl $ keep ! (0 ∷ 1 ∷ 2 ∷ []) $ suffices ! _ (ends_at 𝓛 f.ended stayed c y (vptr b o) (r γ') (tt, tt) (tt, tt)) $
    nothing ! $ nothing ! $ fjoin ! $ join ! $ nothing ! $ move ! (2 ∷ 0 ∷ []) $ join ! $ join ! $ frame ! $ says ! refl $ done !))))
