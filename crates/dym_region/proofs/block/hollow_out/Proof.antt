-- `hollow_out`: the vector becomes its room and a claim, and the room goes into a lodged vector. Assumes `Logic`.
use Rattle.std.proofs.Common.{◌≡◌, ◌<◌, List, [], ◌∷◌, ◌++◌, refl, sym, ◌∙◌, arith}
use mir.Syntax.{w64}
use mir.Val.{Val, vint, vstruct, of_list}
use base.Fml.{ftrue}
use base.Logic.{emp}
use contract.Monad.{fact, fact_i}
use contract.Running.{tables}
use prog.Wp.{WpFn}
use types.Kit.{Goal, ‵, raw, ◌⊛◌, prop, ◌$◌, ◌∵◌, !, qed, done, move, drop, split, fsplit, fjoin, fpack, regoal, rewrite, suffices}
use types.Part.{agg}
use types.Run.{enter, returns, of_opd, and_then, lit, no_more}
use types.ByLocal.{alloc_all, pass_all, free_all, look_at, get, sets, lands_as}
use denote.Laws.{Typed}
use denote.RattleType.{owns}
use denote.Builtin.{u8}
use denote.Param.{layout}
use denote.RawPtr.{ptr_val, rawptr_Lawful}
use denote.Signature.{types_at}
use denote.Steps.{heard, nothing}
use denote.Struct.Struct.{as_fields}
use denote.Triple.Entry.{alive}
use denote.Triple.Table.{framed}
use denote.Triple.Walked.{walk_of}
use Rattle.std.proofs.raw_atomic.Walks.{proved_at}
use Rattle.std_alloc.proofs.vec.lodge.Met.{met as lodge_met}
use Rattle.dym_region.specs.Block.{room_in}
use Rattle.dym_region.specs.contracts.block.Claim as Claim
use Rattle.dym_region.specs.contracts.block.hollow_out as F
use Rattle.dym_region.proofs.Arguments.{used_up, all_go, answers, makes, passed}
use Rattle.dym_region.proofs.ByteVecs.{in_heap, in_part, vector, as_handed}
use Rattle.dym_region.proofs.Claims.{claim_of, claims}
use Rattle.dym_region.proofs.LodgeCalls.{Piece, lays}
use Rattle.dym_region.proofs.block.hollow_out.Statement.{statement}
use Rattle.dym_region.proofs.block.hollow_out.Code as code

pub hollow_out_spec : {M : Type 1} → statement M
hollow_out_spec 𝓤 𝓛 𝓜 𝓡 wired =
    let T = F.ended in
    let params = T.signature.params in
    let c = F.clauses 𝓛 𝓜.mem 𝓡.returns in
    let 𝓣 = tables 𝓤 𝓛.H 𝓜 𝓡 𝓡.env in
    let lodges = lodge_met 𝓤 𝓛 𝓜 𝓡 (code.calls-std_alloc::vec::lodge 𝓡.env wired) u8 in_heap.laws in
    proved_at 𝓛 T (used_up params T.kept) c 𝓜 𝓡 (all_go 𝓛 0 params T.kept ((λ κs x f. tt), ((λ κs x f. tt), ((λ κs x f. tt), tt)))) F.Key.name code.function (code.unfolded 𝓤 𝓛.H 𝓜 𝓡 wired) (λ y are.
    let whole = y.0.3.0 in let start = y.0.3.1.0 in let size = y.0.3.1.1.0 in
    let vss = y.0.4 in
    let Runs : List Val → Goal 𝓤 𝓛.H = λ us. prop (WpFn 𝓤 𝓛.H 𝓣.C 𝓣.Λ code.function us ((walk_of 𝓛 T (used_up params T.kept) c).post y)) in
    let Asked : Type 0 = (start ≡ whole.ptr) × (whole.len ≡ 0) × (size ≡ whole.cap) × (0 < size) in
    qed 𝓛 ((raw (alive 𝓛 T.signature y.0.0 y.0.1) ⊛ ‵ (owns (types_at params y.0.0) y.0.3 vss)) ∷ raw (fact 𝓤 Asked) ∷ []) ∵
    move ! (1 ∷ []) $ heard ! Asked (λ asked. split ! $ move ! (1 ∷ []) $ fsplit ! $ move ! (1 ∷ []) $ drop ! $
    let others : vss.1.0 ++ (vss.1.1.0 ++ []) ≡ ptr_val start ∷ vint w64 size ∷ [] = λ i. are.1.0 i ++ (are.1.1.0.0 i ++ []) in
    regoal ! (λ us. Runs (vss.0 ++ us)) others refl $ passed (as_handed in_heap) whole ! vss.0 (λ us. Runs (us ++ (ptr_val start ∷ vint w64 size ∷ []))) refl (λ u fits.
    claims ! whole u asked.1 (omega (arith, asked.2, asked.3)) (λ b first.
    let claim : (Claim.the_row).Denot = claim_of whole b in
    let made = as_fields (layout (vector in_heap) ∷ []) (u ∷ []) (fits, tt) in
    let hollow = vstruct (of_list (u ∷ [])) in
    let run : Piece = record { block = b; at = 0; size = size; small = omega (arith, asked.2, whole.small) } in
    rewrite ! 0 (λ k. ‵ (room_in b 0 k)) (sym asked.2) refl $ enter ! _ _ _ _ _ $ alloc_all ! (λ l. pass_all ! refl (fits, (((rawptr_Lawful 𝓛).typed start _ refl).0, ((tt, record { fits = are.1.1.0.1 }), tt))) $
    lays 𝓜.mem 𝓡.returns ! (framed 𝓤 𝓛.H 𝓜 𝓣) lodges run start (asked.0 ∙ first) (and_then ! (get ! refl) (and_then ! (lit ! tt) (and_then ! (get ! refl) (no_more !)))) (λ v r is fits_v.
    lands_as ! refl refl fits_v $ sets ! (of_opd ! (get ! refl)) refl fits $ sets ! (agg ! (and_then ! (get ! refl) (no_more !))) refl made $
    sets ! (agg ! (and_then ! (get ! refl) (and_then ! (get ! refl) (no_more !)))) refl (as_fields (layout (vector in_part) ∷ layout Claim.the_row ∷ []) (v ∷ hollow ∷ []) (fits_v, (made, tt))) $
    -- [the lodged vector; the claim; the tokens]
    move ! (1 ∷ []) $ nothing ! $ fpack ! (Typed (Claim.the_row).mir (hollow ∷ [])) (λ _. ftrue) (made, tt) $ fjoin ! $ nothing ! $ move ! (1 ∷ 0 ∷ 2 ∷ []) $ fjoin ! $ move ! (1 ∷ 0 ∷ []) $ fjoin ! $
    makes ! (vector in_part ∷ Claim.the_row ∷ []) (r, (claim, tt)) (v ∷ [], (hollow ∷ [], tt)) $
    returns ! (look_at ! 0 refl) $ free_all ! refl $
    suffices ! _ (answers 𝓛 T c y (vstruct (of_list (v ∷ hollow ∷ []))) (r, claim) (tt, (tt, (tt, tt))) (fact_i 𝓤 _ (emp 𝓤) (is.0, is.1, is.2, sym asked.2))) $ move ! (1 ∷ 0 ∷ []) $ done !))))))
