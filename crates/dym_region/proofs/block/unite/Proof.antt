-- `unite`: the room comes out of both vectors, and all of it goes into one. Assumes `Logic`.
use Rattle.std.proofs.Common.{◌≡◌, ◌+◌, ◌<◌, ◌^◌, List, [], ◌∷◌, ◌++◌, refl, sym, ap, ◌∙◌}
use mir.Syntax.{w64}
use mir.Val.{Val, vint}
use base.Logic.{emp}
use contract.Monad.{fact, fact_i}
use contract.Running.{tables}
use prog.Wp.{WpFn}
use types.Kit.{Goal, ‵, raw, ◌⊛◌, prop, ◌$◌, ◌∵◌, !, qed, done, move, drop, split, fsplit, regoal, rewrite, suffices}
use types.Run.{enter, returns, of_opd, and_then, lit, no_more}
use types.ByLocal.{alloc_all, pass_all, free_all, look_at, get, sets, lands_as}
use denote.RattleType.{owns}
use denote.Builtin.{u8}
use denote.RawPtr.{◌+ₚ◌, block_ptr, block_of, count_of, ptr_val, rawptr_Lawful}
use denote.Signature.{types_at}
use denote.Steps.{heard}
use denote.Triple.Entry.{alive}
use denote.Triple.Table.{framed}
use denote.Triple.Walked.{walk_of}
use Rattle.std.proofs.raw_atomic.Walks.{proved_at}
use Rattle.std_alloc.proofs.vec.lodge.Met.{met as lodge_met}
use Rattle.std_alloc.proofs.vec.lodged.Vec+T+Lodged.dislodge.Met.{met as dislodge_met}
use Rattle.dym_region.specs.Block.{room_in}
use Rattle.dym_region.specs.contracts.block.unite as F
use Rattle.dym_region.proofs.Arguments.{used_up, all_go, answers, passed}
use Rattle.dym_region.proofs.ByteVecs.{in_heap, in_part, joined, as_handed}
use Rattle.dym_region.proofs.LodgeCalls.{Piece, lays, lifts}
use Rattle.dym_region.proofs.block.unite.Statement.{statement}
use Rattle.dym_region.proofs.block.unite.Code as code

pub unite_spec : {M : Type 1} → statement M
unite_spec 𝓤 𝓛 𝓜 𝓡 wired =
    let T = F.ended in
    let params = T.signature.params in
    let c = F.clauses 𝓛 𝓜.mem 𝓡.returns in
    let 𝓣 = tables 𝓤 𝓛.H 𝓜 𝓡 𝓡.env in
    let lodges = lodge_met 𝓤 𝓛 𝓜 𝓡 (code.calls-std_alloc::vec::lodge 𝓡.env wired) u8 in_heap.laws in
    let dislodges = dislodge_met 𝓤 𝓛 𝓜 𝓡 (code.calls-std_alloc::vec::lodged::Vec+T+Lodged::dislodge 𝓡.env wired) u8 in_heap.laws in
    proved_at 𝓛 T (used_up params T.kept) c 𝓜 𝓡 (all_go 𝓛 0 params T.kept ((λ κs x f. tt), ((λ κs x f. tt), ((λ κs x f. tt), ((λ κs x f. tt), tt))))) F.Key.name code.function (code.unfolded 𝓤 𝓛.H 𝓜 𝓡 wired) (λ y are.
    let front = y.0.3.0 in let back = y.0.3.1.0 in let start = y.0.3.1.1.0 in let size = y.0.3.1.1.1.0 in
    let vss = y.0.4 in
    let Runs : List Val → Goal 𝓤 𝓛.H = λ us. prop (WpFn 𝓤 𝓛.H 𝓣.C 𝓣.Λ code.function us ((walk_of 𝓛 T (used_up params T.kept) c).post y)) in
    let Asked : Type 0 = (start ≡ front.ptr) × (back.ptr ≡ start +ₚ front.cap) × (size ≡ front.cap + back.cap) × (size < 2 ^ 63) in
    qed 𝓛 ((raw (alive 𝓛 T.signature y.0.0 y.0.1) ⊛ ‵ (owns (types_at params y.0.0) y.0.3 vss)) ∷ raw (fact 𝓤 Asked) ∷ []) ∵
    move ! (1 ∷ []) $ heard ! Asked (λ asked. split ! $ move ! (1 ∷ []) $ fsplit ! $ move ! (1 ∷ []) $ fsplit ! $ move ! (1 ∷ []) $ drop ! $ move ! (1 ∷ 0 ∷ []) $
    -- [what the first vector owns; what the second owns; the tokens]
    let others : vss.1.1.0 ++ (vss.1.1.1.0 ++ []) ≡ ptr_val start ∷ vint w64 size ∷ [] = λ i. are.1.1.0 i ++ (are.1.1.1.0.0 i ++ []) in
    regoal ! (λ us. Runs (vss.0 ++ (vss.1.0 ++ us))) others refl $ passed (as_handed in_part) front ! vss.0 (λ us. Runs (us ++ (vss.1.0 ++ (ptr_val start ∷ vint w64 size ∷ [])))) refl (λ u fits.
    move ! (1 ∷ []) $ passed (as_handed in_part) back ! vss.1.0 (λ us. Runs (u ∷ (us ++ (ptr_val start ∷ vint w64 size ∷ [])))) refl (λ u' fits'. move ! (1 ∷ []) $
    enter ! _ _ _ _ _ $ alloc_all ! (λ l. pass_all ! refl (fits, (fits', (((rawptr_Lawful 𝓛).typed start _ refl).0, ((tt, record { fits = are.1.1.1.0.1 }), tt)))) $
    sets ! (of_opd ! (get ! refl)) refl fits $
    lifts 𝓜.mem 𝓡.returns ! (framed 𝓤 𝓛.H 𝓜 𝓣) dislodges front u (and_then ! (get ! refl) (no_more !)) (λ b o there small.
    lands_as ! refl refl (tt, record { fits = small }) $ sets ! (of_opd ! (get ! refl)) refl fits' $ move ! (1 ∷ []) $
    lifts 𝓜.mem 𝓡.returns ! (framed 𝓤 𝓛.H 𝓜 𝓣) dislodges back u' (and_then ! (get ! refl) (no_more !)) (λ b' o' there' small'.
    lands_as ! refl refl (tt, record { fits = small' }) $
    let lies = asked.0 ∙ there in
    let beside : block_ptr b' o' ≡ block_ptr b (o + front.cap) = sym there' ∙ asked.1 ∙ ap (λ p. p +ₚ front.cap) lies in
    let all : Piece = record { block = b; at = o; size = size; small = asked.3 } in
    rewrite ! 0 (λ p. ‵ (room_in (block_of p) (count_of p) back.cap)) beside refl $ move ! (1 ∷ 0 ∷ []) $ joined ! b o front.cap back.cap $
    rewrite ! 0 (λ k. ‵ (room_in b o k)) (sym asked.2) refl $
    lays 𝓜.mem 𝓡.returns ! (framed 𝓤 𝓛.H 𝓜 𝓣) lodges all start lies (and_then ! (get ! refl) (and_then ! (lit ! tt) (and_then ! (get ! refl) (no_more !)))) (λ v r is fits_v.
    lands_as ! refl refl fits_v $ returns ! (look_at ! 0 refl) $ free_all ! refl $
    suffices ! _ (answers 𝓛 T c y v r (tt, (tt, (tt, (tt, tt)))) (fact_i 𝓤 _ (emp 𝓤) (is.0, is.1, is.2 ∙ sym lies))) $ move ! (1 ∷ 0 ∷ []) $ done !))))))))
