-- `put_back`: the room comes out of the lodged vector, and the claim makes a vector in the heap of it. Assumes `Logic`.
use Rattle.std.proofs.Common.{◌≡◌, ℕ, List, [], ◌∷◌, ◌++◌, refl, sym, ap, ◌∙◌}
use mir.Val.{Val, vstruct, of_list}
use base.Fraction.{full_share}
use base.Fml.{Fml, fsep, feq, fex, fat}
use base.Logic.{emp, apply∗}
use contract.Monad.{fact, fact_i}
use contract.Running.{tables}
use prog.Wp.{WpFn}
use types.Logic.{sem}
use types.Kit.{Goal, ‵, raw, ◌⊛◌, prop, ◌$◌, ◌∵◌, !, qed, done, move, drop, use2, split, fsplit, fpick, feq_l, rewrite, suffices}
use types.Part as Part
use types.Part.{sub}
use types.Run.{enter, returns, of_opd, and_then, no_more, fld, stop}
use types.ByLocal.{alloc_all, pass_all, free_all, look_at, get, get_in, sets, lands_as, take_at, give_at}
use denote.RattleType.{owns}
use denote.Builtin.{u8}
use denote.RawPtr.{block_ptr, block_of, count_of}
use denote.Signature.{types_at}
use denote.Param.{layout}
use denote.Steps.{heard, only}
use denote.Triple.Entry.{alive}
use denote.Triple.Table.{framed}
use denote.Triple.Walked.{walk_of}
use Rattle.std.proofs.alloc.Calls.{handle_tells}
use Rattle.std.proofs.raw_atomic.Walks.{proved_at}
use Rattle.std_alloc.proofs.vec.lodged.Vec+T+Lodged.dislodge.Met.{met as dislodge_met}
use Rattle.dym_region.specs.Block.{room_in}
use Rattle.dym_region.specs.contracts.block.Claim as Claim
use Rattle.dym_region.specs.contracts.block.Claim.TheInside.{the_row as Fields}
use Rattle.dym_region.specs.declared.block.Claim.TheInside.{Inside}
use Rattle.dym_region.proofs.block.Claim.TheLaws as Claim_laws
use Rattle.dym_region.specs.contracts.block.put_back as F
use Rattle.dym_region.proofs.Arguments.{used_up, all_go, answers, opens, passed, handed}
use Rattle.dym_region.proofs.ByteVecs.{in_heap, in_part, vector, as_handed}
use Rattle.dym_region.proofs.LodgeCalls.{lifts}
use Rattle.dym_region.proofs.block.put_back.Statement.{statement}
use Rattle.dym_region.proofs.block.put_back.Code as code

pub put_back_spec : {M : Type 1} → statement M
put_back_spec 𝓤 𝓛 𝓜 𝓡 wired =
    let T = F.ended in
    let params = T.signature.params in
    let c = F.clauses 𝓛 𝓜.mem 𝓡.returns in
    let 𝓣 = tables 𝓤 𝓛.H 𝓜 𝓡 𝓡.env in
    let dislodges = dislodge_met 𝓤 𝓛 𝓜 𝓡 (code.calls-std_alloc::vec::lodged::Vec+T+Lodged::dislodge 𝓡.env wired) u8 in_heap.laws in
    proved_at 𝓛 T (used_up params T.kept) c 𝓜 𝓡 (all_go 𝓛 0 params T.kept ((λ κs x f. tt), ((λ κs x f. tt), tt))) F.Key.name code.function (code.unfolded 𝓤 𝓛.H 𝓜 𝓡 wired) (λ y are.
    let bytes = y.0.3.0 in let claim = y.0.3.1.0 in
    let vss = y.0.4 in
    let Runs : List Val → Goal 𝓤 𝓛.H = λ us. prop (WpFn 𝓤 𝓛.H 𝓣.C 𝓣.Λ code.function us ((walk_of 𝓛 T (used_up params T.kept) c).post y)) in
    let Start : Type 0 = bytes.ptr ≡ block_ptr claim.block 0 in
    let All : Type 0 = bytes.cap ≡ claim.size in
    let Back : Fml = room_in claim.block 0 claim.size in
    qed 𝓛 ((raw (alive 𝓛 T.signature y.0.0 y.0.1) ⊛ ‵ (owns (types_at params y.0.0) y.0.3 vss)) ∷ (raw (fact 𝓤 Start) ⊛ raw (fact 𝓤 All)) ∷ []) ∵
    move ! (1 ∷ []) $ split ! $ heard ! Start (λ start. heard ! All (λ all. split ! $ move ! (1 ∷ []) $ fsplit ! $ move ! (1 ∷ []) $ fsplit ! $ move ! (1 ∷ []) $ drop ! $ move ! (1 ∷ 0 ∷ []) $
    -- [what the vector owns; what the claim owns; the tokens]
    passed (as_handed in_part) bytes ! vss.0 (λ us. Runs (us ++ (vss.1.0 ++ []))) refl (λ u fits. move ! (1 ∷ []) $
    passed (handed Claim.the_row Claim_laws.the_row_laws) claim ! vss.1.0 (λ us. Runs (u ∷ (us ++ []))) refl (λ w fits_w. move ! (1 ∷ []) $
    enter ! _ _ _ _ _ $ alloc_all ! (λ l. pass_all ! refl (fits, (fits_w, tt)) $
    sets ! (of_opd ! (get ! refl)) refl fits $
    lifts 𝓜.mem 𝓡.returns ! (framed 𝓤 𝓛.H 𝓜 𝓣) dislodges bytes u (and_then ! (get ! refl) (no_more !)) (λ b o there small.
    lands_as ! refl refl (tt, record { fits = small }) $
    let Made : Fml = fex Inside (λ it. fsep (feq (List ℕ) it.hollow.items []) (fsep (feq ℕ it.hollow.cap claim.size) (Fields.own_val it (w ∷ [])))) in
    rewrite ! 0 (λ p. ‵ (room_in (block_of p) (count_of p) bytes.cap)) (sym there ∙ start) refl $ rewrite ! 0 (λ k. ‵ (room_in claim.block 0 k)) all refl $
    move ! (1 ∷ []) $ fsplit ! $ drop ! $ move ! (1 ∷ 0 ∷ []) $
    use2 𝓛 (‵ Made) (apply∗ 𝓤 (sem 𝓛 Back) (sem 𝓛 Made)) $ fpick ! (λ it. fsplit ! $ feq_l ! (λ empty. fsplit ! $ feq_l ! (λ room.
    opens ! (vector in_heap ∷ []) (it.hollow, tt) (w ∷ []) (λ parts whole. fsplit ! $ move ! (1 ∷ []) $ drop ! $ handle_tells (as_handed in_heap) ! it.hollow parts.0 (λ v one fits_v.
    let shape : w ≡ vstruct (of_list (v ∷ [])) = ap only (whole ∙ ap (λ us. vstruct (of_list (us ++ [])) ∷ []) one) in
    take_at ! 2 $ rewrite ! 0 (λ z. ‵ (fat full_share (layout Claim.the_row) (l 2) 0 z)) shape refl $ give_at ! 2 $
    sets ! (of_opd ! (get_in ! (fld ! refl (stop !)) (sub ! 0 refl (Part.whole !)))) refl fits_v $ sets ! (of_opd ! (get ! refl)) refl fits_v $
    returns ! (look_at ! 0 refl) $ free_all ! refl $
    suffices ! _ (answers 𝓛 T c y v it.hollow (tt, (tt, tt)) (fact_i 𝓤 _ (emp 𝓤) (empty, room ∙ sym all))) $ move ! (1 ∷ 0 ∷ []) $ done !))))))))))))
