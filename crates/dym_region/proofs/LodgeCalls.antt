-- `dislodge` and `lodge` at room of a block, as steps of a walk. Assumes `Logic`.
use Rattle.std.proofs.Common.{◌≡◌, ℕ, ◌*◌, ◌<◌, ◌≤◌, ◌^◌, List, [], ◌∷◌, length, refl, ap, ◌∙◌, subst, arith}
use seplogic.Ra.Ura.{Ura}
use mir.Syntax.{w64, Callee, Place, Opd as Operand, Body, seq, call}
use mir.Val.{Val, vint, vptr}
use base.Fraction.{full_share}
use base.Logic.{SProp, never, wand, id⊢}
use base.Fml.{ftrue}
use prog.Memory.{Memory}
use prog.Routine.{Routine}
use prog.Wp.{Env, Calls, Loops}
use contract.Monad.{Fun, fact}
use contract.BorrowLft.{◌⊑◌, ⊑_refl}
use sound.WpLaws.{FmC}
use types.Logic.{Logic, sem}
use types.Kit.{Item, Post, Seq, runs, lands, mean, ‵, raw, ◌⊛◌, some, given, later, ◌$◌, ◌∵◌, !, qed, move, drop, use0, use1, split, join, group, frame, fsplit, fjoin, feq_l, flt_l, flt_i, pick, learn, suffices, each, assume, updating, now, show, check, await, regoal, done}
use types.Run.{Opds}
use denote.RattleType.{owns}
use denote.Builtin.{u8, usize}
use denote.Laws.{owns_make}
use denote.Plain.{uint_Makes}
use denote.RawPtr.{Ptr, block_ptr, ptr_val, rawptr_Makes, in_block, in_a_block}
use denote.Signature.{types_at}
use denote.Steps.{heard, nothing, only}
use denote.Triple.Call.{calls_from}
use denote.Triple.Clauses.{Lasts, lasts}
use denote.Triple.Entry.{alive}
use denote.Triple.Spec.{triple_of}
use denote.Triple.Statement.{Contract, Triple, FmF, ask_at, implied}
use Rattle.std.proofs.alloc.Calls.{Fits}
use Rattle.std.specs.Allocator.{block_with_items}
use Rattle.std_alloc.specs.Vec.Ownership.{lodged, owns_if, has_block}
use Rattle.std_alloc.specs.contracts.vec.lodge as L
use Rattle.std_alloc.specs.contracts.vec.lodged.Vec+T+Lodged.dislodge as D
use Rattle.dym_region.specs.Block.{room_in}
use Rattle.dym_region.proofs.Arguments.{suits, so, lasting}
use Rattle.dym_region.proofs.ByteVecs.{in_part, vector, as_handed, laid_out, freed}

module _ {M : Type 1} {𝓤 : Ura M} (𝓛 : Logic 𝓤) (at_mem : Memory → SProp 𝓤) (run : Routine → Fun 𝓤) where
  open 𝓛 use {H}

  abbrev pub OfDislodge : Contract 𝓤
  OfDislodge = triple_of 𝓛 (D.signature u8) (D.spec u8 𝓛 at_mem run)

  abbrev dislodge_at : (vector in_part).Denot × Val → OfDislodge.Ghost
  dislodge_at it = ((([], tt), (full_share, tt), tt, (it.0, tt), (it.1 ∷ [], tt)), tt)

  abbrev lifted : (vector in_part).Denot → Val → Item 𝓤
  lifted d v = later (some (λ (at : ℕ × ℕ). given ((d.ptr ≡ block_ptr at.0 at.1) × (v ≡ vint w64 d.len) × (d.len < 2 ^ 64)) (‵ (room_in at.0 at.1 d.cap))))

  -- `dislodge` as it is used here: a vector goes in, and its room comes out, with the place where it lies
  abbrev pub Lift : Contract 𝓤
  Lift = record {
    Ghost = (vector in_part).Denot × Val;
    args = λ it. it.1 ∷ [];
    pre = λ it. sem 𝓛 ((vector in_part).own_val it.0 (it.1 ∷ []));
    post = λ it v. mean 𝓛 (lifted it.0 v);
  }

  lift_meets : (C : Fun 𝓤) → FmF 𝓤 C → Triple 𝓤 C OfDislodge → Triple 𝓤 C Lift
  lift_meets C fm met = implied 𝓤 OfDislodge Lift (λ it.
      let y = dislodge_at it in
      let d = it.0 in
      let Block = λ (p : Ptr). in_block p (owns_if (has_block d.cap) (block_with_items (λ _ _. ftrue) u8 p d.len d.cap d.items)) in
      qed 𝓛 (‵ ((vector in_part).own_val d (it.1 ∷ [])) ∷ []) ∵ suffices ! _ (ask_at 𝓤 OfDislodge y (λ v. mean 𝓛 (lifted d v))) $
      nothing ! $ move ! (1 ∷ 0 ∷ []) $ fjoin ! $ lasting ! $ join ! $ nothing ! $ so ! ([] ⊑ []) (⊑_refl []) $ join ! $ move ! (1 ∷ 0 ∷ []) $ join ! $ frame ! $
      each ! (λ v. wand 𝓤 (OfDislodge.post y v) (mean 𝓛 (lifted d v))) (λ v. assume ! (raw (OfDislodge.post y v)) $ updating ! $
      use1 𝓛 (later (some (λ (r : ℕ). (raw (alive 𝓛 (D.signature u8) y.0.0 y.0.1) ⊛ ‵ (usize.own_val r (v ∷ [])))
      ⊛ some (λ (ws : Lasts (D.ended u8) y.0.0 y.0.3). ‵ (lasts (D.ended u8) y.0.0 y.0.3 ws) ⊛ raw (fact 𝓤 (r ≡ d.len)) ⊛ ‵ (lodged u8 d.ptr d.len d.cap d.items))))) (id⊢ 𝓤 _) $
      await ! tt $ pick ! (λ r. split ! $ split ! $ drop ! $ fsplit ! $ feq_l ! (λ one. flt_l ! (λ fits. pick ! (λ ws. split ! $ drop ! $ split ! $ heard ! _ (λ is. fsplit ! $ drop ! $
      in_a_block ! d.ptr Block (id⊢ 𝓤 (never 𝓤)) (λ b o there. freed ! d.len d.cap b o d.items d.ok.1 $ now ! $
      show ! (λ (at : ℕ × ℕ). mean 𝓛 (given ((d.ptr ≡ block_ptr at.0 at.1) × (v ≡ vint w64 d.len) × (d.len < 2 ^ 64)) (‵ (room_in at.0 at.1 d.cap)))) (b, o) $
      check ! (there, ap only one ∙ ap (vint w64) is, subst (λ k. k < 2 ^ 64) is fits) $ done !)))))))) C fm met

-- room in a block, for a number of bytes that is a word of the machine
pub record Piece : Type 0 where
  pub block : ℕ
  pub at : ℕ
  pub size : ℕ
  pub small : size < 2 ^ 63

-- an empty vector that has just that room
abbrev pub IsPiece : Piece → (vector in_part).Denot → Type 0
IsPiece s r = (r.items ≡ []) × (r.cap ≡ s.size) × (r.ptr ≡ block_ptr s.block s.at)

module _ {M : Type 1} {𝓤 : Ura M} (𝓛 : Logic 𝓤) (at_mem : Memory → SProp 𝓤) (run : Routine → Fun 𝓤) where
  open 𝓛 use {H}

  abbrev pub OfLodge : Contract 𝓤
  OfLodge = triple_of 𝓛 (L.signature u8) (L.spec u8 𝓛 at_mem run)

  abbrev lodge_at : Piece → OfLodge.Ghost
  lodge_at s = ((([], tt), (full_share, tt), tt, (block_ptr s.block s.at, (0, (s.size, tt))), (vptr s.block s.at ∷ [], (vint w64 0 ∷ [], (vint w64 s.size ∷ [], tt)))), [])

  abbrev laid : Piece → Val → Item 𝓤
  laid s v = later (some (λ (r : (vector in_part).Denot). given (IsPiece s r × Fits (as_handed in_part) v) (‵ ((vector in_part).own_val r (v ∷ [])))))

  -- `lodge` as it is used here: a piece goes in, and an empty vector that has it comes out
  abbrev pub Lay : Contract 𝓤
  Lay = record {
    Ghost = Piece;
    args = λ s. OfLodge.args (lodge_at s);
    pre = λ s. sem 𝓛 (room_in s.block s.at s.size);
    post = λ s v. mean 𝓛 (laid s v);
  }

  lay_meets : (C : Fun 𝓤) → FmF 𝓤 C → Triple 𝓤 C OfLodge → Triple 𝓤 C Lay
  lay_meets C fm met = implied 𝓤 OfLodge Lay (λ s.
      let y = lodge_at s in
      let n = s.size in
      let params = types_at (L.signature u8).params y.0.0 in
      qed 𝓛 (‵ (room_in s.block s.at s.size) ∷ []) ∵ suffices ! _ (ask_at 𝓤 OfLodge y (λ v. mean 𝓛 (laid s v))) $
      laid_out ! n s.block s.at $ flt_i ! (n * 1) (2 ^ 63) (omega (arith, s.small)) $ fjoin ! $
      so ! ((0 ≡ length {A = ℕ} []) × (0 ≤ n) × (n < 2 ^ 63)) (refl, omega arith, s.small) $ so ! ([] ⊑ []) (⊑_refl []) $ group ! 3 $
      use0 𝓛 (‵ (owns params y.0.3 y.0.4)) (owns_make 𝓛 params _ (rawptr_Makes 𝓛, (uint_Makes 𝓛 w64, (uint_Makes 𝓛 w64, tt))) y.0.3 y.0.4 (refl, ((refl, omega arith), ((refl, omega (arith, s.small)), tt)))) $
      lasting ! $ join ! $ join ! $ frame ! $
      each ! (λ v. wand 𝓤 (OfLodge.post y v) (mean 𝓛 (laid s v))) (λ v. assume ! (raw (OfLodge.post y v)) $ updating ! $
      use1 𝓛 (later (some (λ (r : (vector in_part).Denot). (raw (alive 𝓛 (L.signature u8) y.0.0 y.0.1) ⊛ ‵ ((vector in_part).own_val r (v ∷ [])))
      ⊛ some (λ (ws : Lasts (L.ended u8) y.0.0 y.0.3). ‵ (lasts (L.ended u8) y.0.0 y.0.3 ws) ⊛ raw (fact 𝓤 ((r.items ≡ []) × (r.len ≡ 0) × (r.cap ≡ n) × (r.ptr ≡ block_ptr s.block s.at))))))) (id⊢ 𝓤 _) $
      await ! tt $ pick ! (λ r. split ! $ split ! $ drop ! $ suits (as_handed in_part) r ! v (λ fits. move ! (1 ∷ []) $ pick ! (λ ws. split ! $ drop ! $ heard ! _ (λ is. now ! $
      show ! (λ g. mean 𝓛 (given (IsPiece s g × Fits (as_handed in_part) v) (‵ ((vector in_part).own_val g (v ∷ []))))) r $ check ! ((is.0, is.2, is.3), fits) $ done !)))))) C fm met

-- the two calls in a walk
module _ {M : Type 1} {𝓤 : Ura M} {𝓛 : Logic 𝓤} {K : Type 0} {Γ : List (Item 𝓤)} {E : Env 𝓤 𝓛.H} {C : Calls 𝓤 𝓛.H} {f : Callee} {xs : List Operand} {Λ : Loops 𝓤 𝓛.H} {q : Post 𝓤 𝓛.H} {to : Place} {rest : Body}
    (at_mem : Memory → SProp 𝓤) (run : Routine → Fun 𝓤) where
  pub lifts : K → FmC 𝓤 𝓛.H 𝓛.laws C → Triple 𝓤 (C f) (OfDislodge 𝓛 at_mem run) → (d : (vector in_part).Denot) (u : Val) → Opds K 𝓛 (‵ ((vector in_part).own_val d (u ∷ [])) ∷ Γ) E xs (u ∷ [])
      → ((b o : ℕ) → d.ptr ≡ block_ptr b o → d.len < 2 ^ 64 → Seq K 𝓛 (‵ (room_in b o d.cap) ∷ Γ) (lands C Λ E to (vint w64 d.len) rest q))
      → Seq K 𝓛 (‵ ((vector in_part).own_val d (u ∷ [])) ∷ Γ) (runs C Λ E (seq (call f xs to) rest) q)
  lifts t fm met d u args then =
      calls_from t fm (‵ ((vector in_part).own_val d (u ∷ []))) (u ∷ []) ((Lift 𝓛 at_mem run).post (d, u)) (lift_meets 𝓛 at_mem run (C f) (fm f) met (d, u)) args (λ v.
      use1 𝓛 (lifted 𝓛 at_mem run d v) (id⊢ 𝓤 _) $ await t tt $ pick t (λ at. learn t (λ is. regoal t (λ w. lands C Λ E to w rest q) is.1 refl $ then at.0 at.1 is.0 is.2)))

  pub lays : K → FmC 𝓤 𝓛.H 𝓛.laws C → Triple 𝓤 (C f) (OfLodge 𝓛 at_mem run) → (s : Piece) (p : Ptr) → p ≡ block_ptr s.block s.at
      → Opds K 𝓛 (‵ (room_in s.block s.at s.size) ∷ Γ) E xs (ptr_val p ∷ vint w64 0 ∷ vint w64 s.size ∷ [])
      → ((v : Val) (r : (vector in_part).Denot) → IsPiece s r → Fits (as_handed in_part) v → Seq K 𝓛 (‵ ((vector in_part).own_val r (v ∷ [])) ∷ Γ) (lands C Λ E to v rest q))
      → Seq K 𝓛 (‵ (room_in s.block s.at s.size) ∷ Γ) (runs C Λ E (seq (call f xs to) rest) q)
  lays t fm met s p there args then =
      let Room = ‵ (room_in s.block s.at s.size) in
      let args' = subst (λ z. Opds K 𝓛 (Room ∷ Γ) E xs (ptr_val z ∷ vint w64 0 ∷ vint w64 s.size ∷ [])) there args in
      calls_from t fm Room ((Lay 𝓛 at_mem run).args s) ((Lay 𝓛 at_mem run).post s) (lay_meets 𝓛 at_mem run (C f) (fm f) met s) args' (λ v.
      use1 𝓛 (laid 𝓛 at_mem run s v) (id⊢ 𝓤 _) $ await t tt $ pick t (λ r. learn t (λ is. then v r is.0 is.1)))
