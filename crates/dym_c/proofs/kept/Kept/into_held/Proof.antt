-- `into_held` tests the pointer: at null there was nothing, elsewhere what was owned goes to the held box.
use Rattle.std.proofs.Common.{◌≡◌, ◌∙◌, List, [], ◌∷◌, ◌++◌, refl, sym, ap, subst, None, Some, lit<}
use mir.Syntax.{Ty, a_type, dcons, dnil}
use mir.MapTy.{inst_fn}
use mir.Val.{Val, vcons, vnil, has_ty, WT}
use base.Logic.{SProp, ent, emp, id⊢}
use base.Fml.{ftrue, fsep, flft}
use prog.Wp.{WpFn}
use contract.BorrowLft.{◌⊑◌}
use contract.Monad.{fact, fact_i}
use contract.Running.{tables}
use types.Kit.{‵, raw, ◌⊛◌, ◌$◌, ◌∵◌, !, at_ret, qed, by, keep, move, split, fsplit, fjoin, use0, use1, suffices}
use types.Run.{stop, fld, lit, bin, of_opd, no_more, and_then, first, branches, exec, returns, enter}
use types.ByLocal.{alloc_all, pass_all, free_all, look_at, get, get_in, sets, sets_last, env}
use types.Part.{agg, sub, whole}
use types.Match.{live}
use denote.Exit.{no, yes}
use denote.RattleType.{RattleType}
use lib.Dec.{T}
use denote.Param.{bounded, layout, param}
use denote.RawPtr.{Ptr, block_ptr, null_ptr, tests_null}
use denote.Signature.{plain, type_at}
use denote.Steps.{nothing}
use denote.Triple.Walked.{Stays, walk_of, stay_dropped, Goes-dropped}
use Rattle.std.proofs.raw_atomic.Walks.{proved_at, leaves}
use Rattle.std.proofs.VecSteps.Shapes.{after}
use Rattle.std.proofs.alloc.Calls.{Goes-blank, handle_tells}
use Rattle.std.proofs.option.Made.{Some-of, none_of}
use Rattle.std_alloc.proofs.ResultValues.{and_tt}
use Rattle.std.specs.contracts.alloc.Global as global
use Rattle.std.proofs.alloc.Global.TheLaws as global_laws
use Rattle.std.specs.contracts.impls.GlobalAllocator.TheImpl.{ghosts}
use Rattle.dym_c.proofs.HeldSteps as held
use Rattle.dym_c.proofs.KeptSteps as kept
use Rattle.dym_c.proofs.KeptSteps.{word, null_typed, out, kept_cases}
use Rattle.dym_c.specs.contracts.kept.Kept.into_held as f
use Rattle.dym_c.proofs.kept.Kept.into_held.Statement.{statement}
use Rattle.dym_c.proofs.kept.Kept.into_held.Code as code

abbrev Good : Ty → Val → Type 0
Good τ v = T (has_ty τ v) × WT v

pub into_held_spec : {M : Type 1} → statement M
into_held_spec 𝓤 𝓛 𝓜 𝓡 wired X LX dx glue =
    let H = 𝓛.H in let 𝓣 = tables 𝓤 H 𝓜 𝓡 𝓡.env in let R : RattleType = param 0 X in let En = f.ended X dx in let c = f.clauses X dx 𝓛 𝓜.mem 𝓡.returns in
    let args = bounded (a_type ∷ []) (X, tt) (dcons dx dnil) in let fn = inst_fn args code.function in let Z = global.the_row in let L = global_laws.the_row_laws in
    let Row = held.Row R Z L ghosts in let K = kept.Row R in
    let hs : Stays En.signature.params En.kept = (stay_dropped (plain (λ _. K)) no, (stay_dropped (plain (λ _. Z)) yes, tt)) in
    proved_at 𝓛 En hs c 𝓜 𝓡 (Goes-blank 𝓛 1 (plain (λ _. K)) no (λ κs x w. tt), (Goes-dropped 𝓛 1 (plain (λ _. Z)) yes (λ κs x w. refl), tt))
    (f.Key.name args) fn (code.unfolded 𝓤 H 𝓜 𝓡 wired (X, tt) dx) (λ z are.
    let κs = z.0.0 in let qs = z.0.1 in let v = z.0.3.0 in let a = z.0.3.1.0 in let Post : Val → SProp 𝓤 = (walk_of 𝓛 En hs c).post z in
    let Run : List Val → SProp 𝓤 = λ ws. WpFn 𝓤 H 𝓣.C 𝓣.Λ fn ws Post in
    let Out : RattleType = type_at (f.signature X).result κs in
    qed 𝓛 (((‵ (flft κs.0 qs.0) ⊛ ‵ ftrue) ⊛ ‵ (fsep (K.own_val v z.0.4.0) (fsep (Z.own_val a z.0.4.1.0) ftrue))) ∷ (raw (fact 𝓤 (κs.0 ⊑ X.lives)) ⊛ ‵ ftrue) ∷ []) ∵
    split ! $ move ! (1 ∷ []) $ fsplit ! $
    out R ! v z.0.4.0 (λ ws. move ! (1 ∷ []) $ fsplit ! $ handle_tells (held.al R Z L ghosts) ! a z.0.4.1.0 (λ h hs' fits.
    let body = fn.body in
    -- [the handle; nothing; what was kept; the tokens; what is asked]
    move ! (2 ∷ 0 ∷ []) $ kept_cases R ! v.at v.value
    (λ is_null is_none. let w = word null_ptr in keep ! (2 ∷ []) $
    suffices ! (Run (w ∷ h ∷ [])) (subst (λ (us : List Val). ent 𝓤 (Run (w ∷ h ∷ [])) (Run us))
    (sym (λ i. (ws ∙ ap (λ (p : Ptr). word p ∷ []) is_null) i ++ (hs' i ++ []))) (id⊢ 𝓤 (Run (w ∷ h ∷ [])))) $
    enter ! 𝓣.C 𝓣.Λ fn (w ∷ h ∷ []) Post $ alloc_all ! (λ l. pass_all ! refl (null_typed R, (fits, tt)) $ let Ev = env fn.locals l in
    sets ! (of_opd ! (get_in ! (fld ! refl (stop !)) (sub ! 0 refl (whole !)))) refl (tt, record { fits = lit< tt }) $ sets ! (bin ! (get ! refl) (lit ! tt) tt) refl
    (tt, tt) $
    first ! $ branches ! (get ! refl)
    (λ _. sets_last ! (agg ! (and_then ! (lit ! tt) (no_more !))) refl (tt, (record { fits = lit< tt }, tt)) $ exec ! 𝓣.C 𝓣.Λ Ev (after 3 body) (at_ret Ev Post) $
    sets ! (of_opd ! (get ! refl)) refl (tt, (record { fits = lit< tt }, tt)) $ use0 𝓛 (‵ (Out.own_val None (live 0 vnil ∷ []))) (none_of 𝓛 Row) $
    use0 𝓛 (raw (fact 𝓤 (v.value ≡ None))) (fact_i 𝓤 (v.value ≡ None) (emp 𝓤) is_none) $ nothing ! $ nothing ! $ fjoin ! $ nothing ! $ fjoin ! $
    returns ! (look_at ! 0 refl) $ free_all ! refl $ keep ! (3 ∷ 0 ∷ 2 ∷ 1 ∷ []) $ by ! (leaves 𝓛 En hs c z (live 0 vnil) None (tt, (tt, tt)) (tt, (tt, tt))))
    (λ wrong. absurd wrong)))
    (λ b o x is_block is_some ok. let w = word (block_ptr b o) in let typed = held.held_typed R Z L ghosts b o h fits in let made : Val = held.word b o h in let
    gives : Val = live 1 (vcons made vnil) in
    let d : Row.Denot = record { at = block_ptr b o; alloc = a; value = x } in let good : Good (layout Out) gives =
    (and_tt _ typed.0, (record { fits = lit< tt }, (typed.1, tt))) in keep ! (0 ∷ 1 ∷ 3 ∷ []) $
    suffices ! (Run (w ∷ h ∷ [])) (subst (λ (us : List Val). ent 𝓤 (Run (w ∷ h ∷ [])) (Run us))
    (sym (λ i. (ws ∙ ap (λ (p : Ptr). word p ∷ []) is_block) i ++ (hs' i ++ []))) (id⊢ 𝓤 (Run (w ∷ h ∷ [])))) $
    enter ! 𝓣.C 𝓣.Λ fn (w ∷ h ∷ []) Post $ alloc_all ! (λ l. pass_all ! refl ((tt, (tt, tt)), (fits, tt)) $ let Ev = env fn.locals l in
    sets ! (of_opd ! (get_in ! (fld ! refl (stop !)) (sub ! 0 refl (whole !)))) refl (tt, tt) $ sets ! (bin ! (get ! refl) (lit ! tt) (tests_null (block_ptr b o) ok))
    refl (tt, tt) $
    first ! $ branches ! (get ! refl) (λ wrong. absurd wrong)
    (λ _. sets ! (agg ! (and_then ! (get ! refl) (and_then ! (get ! refl) (no_more !)))) refl typed $
    sets_last ! (agg ! (and_then ! (lit ! tt) (and_then ! (get ! refl) (no_more !)))) refl good $ exec ! 𝓣.C 𝓣.Λ Ev (after 3 body) (at_ret Ev Post) $ sets !
    (of_opd ! (get ! refl)) refl good $
    held.held_in R Z L ghosts ! b o h a x $ use1 𝓛 (‵ (Out.own_val (Some d) (gives ∷ []))) (Some-of 𝓛 Row d made) $
    use0 𝓛 (raw (fact 𝓤 (v.value ≡ Some x))) (fact_i 𝓤 (v.value ≡ Some x) (emp 𝓤) is_some) $ nothing ! $ nothing ! $ fjoin ! $ nothing ! $ fjoin ! $
    returns ! (look_at ! 0 refl) $ free_all ! refl $ keep ! (3 ∷ 0 ∷ 2 ∷ 1 ∷ []) $ by ! (leaves 𝓛 En hs c z gives (Some d) (tt, (tt, tt)) (tt, (tt, tt)))))))))
