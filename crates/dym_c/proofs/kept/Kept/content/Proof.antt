-- `content` lends what the box has, and what C keeps ends with it.
use Rattle.std.proofs.Common.{◌≡◌, ℕ, List, [], ◌∷◌, refl, sym, ◌∙◌, ap, IsSome, Some}
use seplogic.Ra.Ura.{Ura}
use mir.Syntax.{named, a_type, dcons, dnil}
use mir.MapTy.{inst_fn}
use mir.Raw.{raw as bare}
use mir.Val.{Val, vptr}
use base.Fraction.{full_share}
use base.Logic.{ent, sep}
use base.Fml.{Fml, GName, ftrue, fsep, flft}
use contract.BorrowLft.{◌⊑◌}
use contract.Monad.{fact}
use contract.Running.{tables}
use types.Logic.{Logic, sem}
use types.Kit.{‵, raw, ◌⊛◌, some, later, at_ret, ◌$◌, ◌∵◌, !, qed, done, move, keep, use1, split, split3, join, pick, await, fsplit, fsplit3, fjoin}
use types.Kit.{fpack, rewrite, suffices, frame, group}
use types.Part.{whole, sub, look_in}
use types.Run.{enter, of_opd, stop, fld, hop, addr, first, blocks, exec, returns}
use types.ByLocal.{alloc_all, pass_all, free_all, look_at, get, through, sets, sets_last, env}
use denote.Exit.{no}
use denote.Follow.{follows, lends_Part}
use denote.Memory.{lone, mem, cell_at, part_at, part_of}
use denote.Param.{bounded, param}
use denote.RattleType.{RattleType}
use denote.RawPtr.{Ptr, block_ptr}
use denote.Ref.{MutBor, MutRef, mut_vals, mut_Tells}
use denote.Signature.{plain, mut_ref_to}
use denote.Steps.{nothing, opens, heard}
use denote.Triple.Walked.{Stays, walk_of, says, stay_dropped, Goes-spent_ref, ends_at}
use Rattle.std.proofs.VecSteps.Shapes.{after}
use Rattle.std.proofs.raw_atomic.Walks.{proved}
use Rattle.std.specs.contracts.impls.GlobalAllocator.TheImpl.{ghosts}
use Rattle.dym_c.specs.Ownership.{heap}
use Rattle.dym_c.proofs.KeptSteps.{Row, word, out, open_in, some_cases}
use Rattle.dym_c.specs.contracts.kept.Kept.content as f
use Rattle.dym_c.proofs.kept.Kept.content.Statement.{statement}
use Rattle.dym_c.proofs.kept.Kept.content.Code as code

module _ (R : RattleType) where
  abbrev with_content : (Row R).Denot → R.Denot → (Row R).Denot
  with_content d w = record d { value = Some w }

  -- all that is owned but what is inside
  abbrev Rest : ℕ → ℕ → ℕ → ℕ → Fml
  Rest b o b' o' = fsep (ghosts.dealloc_token heap (bare (lone R.mir)) (block_ptr b' o')) (cell_at full_share (Row R).mir (word (block_ptr b' o') ∷ []) b o)

  back : {M : Type 1} {𝓤 : Ura M} (𝓛 : Logic 𝓤) (d : (Row R).Denot) (b o b' o' : ℕ) → d.at ≡ block_ptr b' o' → (w : R.Denot)
      → ent 𝓤 (sep 𝓤 (sem 𝓛 ((mem R).own_at w b' o')) (sem 𝓛 (Rest b o b' o'))) (sem 𝓛 ((mem (Row R)).own_at (with_content d w) b o))
  unfolding part_of
  back {𝓤 = 𝓤} 𝓛 d b o b' o' at w =
      qed 𝓛 (‵ (part_at R full_share w b' o') ∷ ‵ (Rest b o b' o') ∷ []) ∵ move ! (1 ∷ []) $ fsplit ! $ move ! (2 ∷ 0 ∷ []) $ fjoin ! $ open_in R ! b' o' w $
      rewrite ! 0 (λ (p : Ptr). ‵ ((Row R).own_val (record { at = p; value = Some w }) (word (block_ptr b' o') ∷ []))) (sym at) refl $ move ! (1 ∷ 0 ∷ []) $ fjoin ! $
      fpack ! (List Val) (λ us. fsep (cell_at full_share (Row R).mir us b o) ((Row R).own_val (with_content d w) us)) (word (block_ptr b' o') ∷ []) $ done !

pub content_spec : {M : Type 1} → statement M
content_spec 𝓤 𝓛 𝓜 𝓡 wired X LX dx glue =
    let R : RattleType = param 0 X in let K = Row R in let En = f.ended X dx in let c = f.clauses X dx 𝓛 𝓜.mem 𝓡.returns in let 𝓣 = tables 𝓤 𝓛.H 𝓜 𝓡 𝓡.env in
    let args = bounded (a_type ∷ []) (X, tt) (dcons dx dnil) in let fn = inst_fn args code.function in
    let hs : Stays En.signature.params En.kept = (stay_dropped (mut_ref_to (0 ∷ []) tt (plain (λ _. K))) no, tt) in let W = walk_of 𝓛 En hs c in
    proved 𝓛 En hs c 𝓜 𝓡 (Goes-spent_ref 𝓛 2 (0 ∷ []) tt (plain (λ _. K)), tt) (f.Key.name args) fn (code.unfolded 𝓤 𝓛.H 𝓜 𝓡 wired (X, tt) dx)
    (λ κs. (mut_vals, tt)) (λ κs. (mut_Tells (named 0) κs.0 K, tt)) (λ κs qs bounds a _ are.
    let κ = κs.0 in let q = qs.0 in let γ = a.0.ghost_name in let b = a.0.ref_ptr.0 in let o = a.0.ref_ptr.1 in let d = a.0.now in let vs = mut_vals a.0 in
    let y : W.Ghost = ((κs, qs, bounds, a, (vs, tt)), tt) in
    qed 𝓛 (((‵ (flft κ q) ⊛ ‵ (flft κs.1.0 qs.1.0) ⊛ ‵ ftrue) ⊛ ‵ ((MutRef (named 0) κ K).own_val a.0 vs) ⊛ ‵ ftrue) ∷
    (raw (fact 𝓤 (κs.1.0 ⊑ X.lives)) ⊛ raw (fact 𝓤 (IsSome d.value))) ∷ []) ∵
    move ! (1 ∷ []) $ split ! $ move ! (1 ∷ []) $ heard ! _ (λ has. move ! (1 ∷ []) $ split ! $ split ! $ move ! (2 ∷ []) $ split ! $
    keep ! (0 ∷ 2 ∷ 3 ∷ []) $ enter ! _ _ _ _ _ $
    alloc_all ! (λ l. pass_all ! refl ((tt, tt), tt) $ fsplit3 ! $ move ! (1 ∷ 2 ∷ 3 ∷ []) $ opens ! tt K b o (λ us. move ! (1 ∷ []) $
    out R ! d us (λ is. some_cases R ! d.at d.value has (λ b' o' x at is_some. fsplit ! $
    rewrite ! 2 (λ (ws : List Val). ‵ (cell_at full_share K.mir ws b o)) (is ∙ ap (λ (p : Ptr). word p ∷ []) at) refl $
    -- [what is inside; the right to free it; the pointer's cell; the open borrow, in three entries]
    first ! $ blocks ! $
    sets_last ! (addr ! (through ! refl (fld ! refl (hop ! (look_in ! 2 (sub ! 0 refl (whole !))) (stop !))))) refl (tt, tt) $ exec ! 𝓣.C 𝓣.Λ (env fn.locals l) (after 1 fn.body) (at_ret _ (W.post y)) $
    sets ! (of_opd ! (get ! refl)) refl (tt, tt) $ move ! (1 ∷ 2 ∷ []) $ fjoin ! $ move ! (2 ∷ 3 ∷ 4 ∷ 1 ∷ 0 ∷ []) $ group ! 5 $
    let r : GName → MutBor R.Denot = λ γ'. record { ref_ptr = (b', o'); ghost_name = γ'; now = x } in
    use1 𝓛 (later (some (λ (γ' : GName). ‵ ((MutRef (named 0) κ R).own_val (r γ') (vptr b' o' ∷ [])) ⊛ ‵ (flft κ q) ⊛ ‵ (follows K R γ γ' (with_content R d)))))
    (lends_Part 𝓛 K R (with_content R d) (named 0) κ q b o b' o' γ (sem 𝓛 (Rest R b o b' o')) (back R 𝓛 d b o b' o' at) (K.coded.code d) (K.coded.code d) x) $
    await ! tt $ pick ! (λ γ'. split3 ! $
    returns ! (look_at ! 0 refl) $ free_all ! refl $ keep ! (0 ∷ 1 ∷ 2 ∷ 4 ∷ []) $ suffices ! _ (ends_at 𝓛 En hs c y (vptr b' o') (r γ') (tt, tt) (tt, tt)) $
    nothing ! $ nothing ! $ fjoin ! $ join ! $ move ! (1 ∷ 3 ∷ []) $ join ! $ join ! $ frame ! $ says ! is_some $ done !)))))))
