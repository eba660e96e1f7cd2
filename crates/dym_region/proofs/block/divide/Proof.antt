-- `divide`: the room comes out of the vector, is parted, and each part goes into a vector of its own. Assumes `Logic`.
use Rattle.std.proofs.Common.{◌≡◌, ◌+◌, List, [], ◌∷◌, ◌++◌, refl, sym, ap, ◌∙◌, arith}
use mir.Syntax.{w64}
use mir.Val.{Val, vint, vstruct, of_list}
use base.Logic.{emp}
use contract.Monad.{fact, fact_i}
use contract.Running.{tables}
use prog.Wp.{WpFn}
use types.Kit.{Goal, ‵, raw, ◌⊛◌, prop, ◌$◌, ◌∵◌, !, qed, done, move, drop, split, fsplit, fjoin, regoal, rewrite, suffices}
use types.Part.{agg}
use types.Run.{enter, returns, of_opd, and_then, lit, no_more}
use types.ByLocal.{alloc_all, pass_all, free_all, look_at, get, sets, lands_as}
use denote.RattleType.{owns}
use denote.Builtin.{u8}
use denote.RawPtr.{◌+ₚ◌, ptr_val, rawptr_Lawful}
use denote.Signature.{types_at}
use denote.Steps.{nothing, heard}
use denote.Struct.Struct.{as_fields}
use denote.Param.{layout}
use denote.Triple.Entry.{alive}
use denote.Triple.Table.{framed}
use denote.Triple.Walked.{walk_of}
use Rattle.std.proofs.raw_atomic.Walks.{proved_at}
use Rattle.std_alloc.proofs.vec.lodge.Met.{met as lodge_met}
use Rattle.std_alloc.proofs.vec.lodged.Vec+T+Lodged.dislodge.Met.{met as dislodge_met}
use Rattle.dym_region.specs.Block.{room_in}
use Rattle.dym_region.specs.contracts.block.divide as F
use Rattle.dym_region.proofs.Arguments.{used_up, all_go, answers, makes, passed}
use Rattle.dym_region.proofs.ByteVecs.{in_heap, in_part, parted, vector, as_handed}
use Rattle.dym_region.proofs.LodgeCalls.{Piece, lays, lifts}
use Rattle.dym_region.proofs.block.divide.Statement.{statement}
use Rattle.dym_region.proofs.block.divide.Code as code

pub divide_spec : {M : Type 1} → statement M
divide_spec 𝓤 𝓛 𝓜 𝓡 wired =
    let T = F.ended in
    let params = T.signature.params in
    let c = F.clauses 𝓛 𝓜.mem 𝓡.returns in
    let 𝓣 = tables 𝓤 𝓛.H 𝓜 𝓡 𝓡.env in
    let lodges = lodge_met 𝓤 𝓛 𝓜 𝓡 (code.calls-std_alloc::vec::lodge 𝓡.env wired) u8 in_heap.laws in
    let dislodges = dislodge_met 𝓤 𝓛 𝓜 𝓡 (code.calls-std_alloc::vec::lodged::Vec+T+Lodged::dislodge 𝓡.env wired) u8 in_heap.laws in
    proved_at 𝓛 T (used_up params T.kept) c 𝓜 𝓡 (all_go 𝓛 0 params T.kept ((λ κs x f. tt), ((λ κs x f. tt), ((λ κs x f. tt), ((λ κs x f. tt), ((λ κs x f. tt), tt)))))) F.Key.name code.function (code.unfolded 𝓤 𝓛.H 𝓜 𝓡 wired) (λ y are.
    let bytes = y.0.3.0 in let at = y.0.3.1.0 in let rest = y.0.3.1.1.0 in let start = y.0.3.1.1.1.0 in let middle = y.0.3.1.1.1.1.0 in
    let vss = y.0.4 in
    let Runs : List Val → Goal 𝓤 𝓛.H = λ (us : List Val). prop (WpFn 𝓤 𝓛.H 𝓣.C 𝓣.Λ code.function us ((walk_of 𝓛 T (used_up params T.kept) c).post y)) in
    let Asked : Type 0 = (start ≡ bytes.ptr) × (middle ≡ start +ₚ at) × (at + rest ≡ bytes.cap) in
    qed 𝓛 ((raw (alive 𝓛 T.signature y.0.0 y.0.1) ⊛ ‵ (owns (types_at params y.0.0) y.0.3 vss)) ∷ raw (fact 𝓤 Asked) ∷ []) ∵
    move ! (1 ∷ []) $ heard ! Asked (λ asked. split ! $ move ! (1 ∷ []) $ fsplit ! $ move ! (1 ∷ []) $ drop ! $
    let others : vss.1.0 ++ (vss.1.1.0 ++ (vss.1.1.1.0 ++ (vss.1.1.1.1.0 ++ []))) ≡ vint w64 at ∷ vint w64 rest ∷ ptr_val start ∷ ptr_val middle ∷ [] = λ i. are.1.0.0 i ++ (are.1.1.0.0 i ++ (are.1.1.1.0 i ++ (are.1.1.1.1.0 i ++ []))) in
    regoal ! (λ us. Runs (vss.0 ++ us)) others refl $ passed (as_handed in_part) bytes ! vss.0 (λ us. Runs (us ++ (vint w64 at ∷ vint w64 rest ∷ ptr_val start ∷ ptr_val middle ∷ []))) refl (λ u fits.
    enter ! _ _ _ _ _ $ alloc_all ! (λ l. pass_all ! refl (fits, ((tt, record { fits = are.1.0.1 }), ((tt, record { fits = are.1.1.0.1 }), (((rawptr_Lawful 𝓛).typed start _ refl).0, (((rawptr_Lawful 𝓛).typed middle _ refl).0, tt))))) $
    sets ! (of_opd ! (get ! refl)) refl fits $
    lifts 𝓜.mem 𝓡.returns ! (framed 𝓤 𝓛.H 𝓜 𝓣) dislodges bytes u (and_then ! (get ! refl) (no_more !)) (λ b o there small.
    lands_as ! refl refl (tt, record { fits = small }) $
    let lies = asked.0 ∙ there in
    let front : Piece = record { block = b; at = o; size = at; small = omega (arith, asked.2, bytes.small) } in
    let back : Piece = record { block = b; at = o + at; size = rest; small = omega (arith, asked.2, bytes.small) } in
    rewrite ! 0 (λ k. ‵ (room_in b o k)) (sym asked.2) refl $ parted ! b o at rest $
    lays 𝓜.mem 𝓡.returns ! (framed 𝓤 𝓛.H 𝓜 𝓣) lodges front start lies (and_then ! (get ! refl) (and_then ! (lit ! tt) (and_then ! (get ! refl) (no_more !)))) (λ v r is_front fits_v.
    lands_as ! refl refl fits_v $ move ! (1 ∷ []) $
    lays 𝓜.mem 𝓡.returns ! (framed 𝓤 𝓛.H 𝓜 𝓣) lodges back middle (asked.1 ∙ ap (λ p. p +ₚ at) lies) (and_then ! (get ! refl) (and_then ! (lit ! tt) (and_then ! (get ! refl) (no_more !)))) (λ w s is_back fits_w.
    lands_as ! refl refl fits_w $
    sets ! (agg ! (and_then ! (get ! refl) (and_then ! (get ! refl) (no_more !)))) refl (as_fields (layout (vector in_part) ∷ layout (vector in_part) ∷ []) (v ∷ w ∷ []) (fits_v, (fits_w, tt))) $
    nothing ! $ move ! (1 ∷ 0 ∷ []) $ fjoin ! $ move ! (1 ∷ 0 ∷ []) $ fjoin ! $ makes ! (vector in_part ∷ vector in_part ∷ []) (r, (s, tt)) (v ∷ [], (w ∷ [], tt)) $
    returns ! (look_at ! 0 refl) $ free_all ! refl $
    suffices ! _ (answers 𝓛 T c y (vstruct (of_list (v ∷ w ∷ []))) (r, s) (tt, (tt, (tt, (tt, (tt, tt))))) (fact_i 𝓤 _ (emp 𝓤) (is_front.0, is_front.1, is_front.2 ∙ sym lies, is_back.0, is_back.1, is_back.2 ∙ sym (asked.1 ∙ ap (λ p. p +ₚ at) lies)))) $
    move ! (1 ∷ 0 ∷ []) $ done !)))))))
