-- How an empty vector in the heap becomes its room and a claim. Assumes `Logic`.
use Rattle.std.proofs.Common.{◌≡◌, ℕ, ◌-◌, ◌*◌, ◌<◌, ◌^◌, List, [], ◌∷◌, refl, sym, ap, ◌∙◌, arith}
use seplogic.Ra.Ura.{Ura}
use mir.Syntax.{w8, ty_int, ty_array}
use mir.Val.{Val, vstruct, of_list}
use mir.Raw.{raw as bare}
use base.Logic.{ent, sep, guard_i}
use base.Fml.{Fml, fsep, feq, fex}
use contract.Monad.{fact_use}
use types.Logic.{Logic, sem}
use types.Kit.{Goal, Item, Seq, ‵, given, ◌$◌, ◌∵◌, !, qed, move, use1, use2, learn, rewrite, fjoin, fpack, feq_i, assume, done}
use denote.RawPtr.{block_ptr}
use denote.Steps.{nothing, only}
use Rattle.std.proofs.GlobalToken.{dealloc_token_start}
use Rattle.std.proofs.alloc.Calls.{token}
use Rattle.std_alloc.proofs.VecSteps.El.{handle, vec_val, el_make}
use Rattle.std_alloc.proofs.VecSteps.Opens.{vec_had, vec_made, blk_out, blk_in}
use Rattle.dym_region.specs.Block.{room_in}
use Rattle.dym_region.specs.contracts.block.Claim as Claim
use Rattle.dym_region.specs.contracts.block.Claim.TheInside.{the_row as Fields}
use Rattle.dym_region.specs.declared.block.Claim.TheInside.{Inside}
use Rattle.dym_region.proofs.Arguments.{makes}
use Rattle.dym_region.proofs.ByteVecs.{in_heap, vector, forgotten, none_there}

-- the right to free the block of a vector
abbrev Freeing : (vector in_heap).Denot → ℕ → ℕ → Fml
Freeing d b o = token in_heap.al d.alloc (bare (ty_array (ty_int w8) d.cap)) (block_ptr b o)

-- what is seen of the claim to its room
abbrev pub claim_of : (vector in_heap).Denot → ℕ → (Claim.the_row).Denot
claim_of d b = record { block = b; size = d.cap }

-- with that right, the room makes an empty vector
waits : {M : Type 1} {𝓤 : Ura M} (𝓛 : Logic 𝓤) (d : (vector in_heap).Denot) (b : ℕ) (hv : Val) → 0 < d.cap → d.cap < 2 ^ 64 → d.cap * 1 < 2 ^ 63
    → ent 𝓤 (sep 𝓤 (sem 𝓛 (Freeing d b 0)) (sem 𝓛 (handle in_heap d.alloc hv)))
    (sem 𝓛 (Claim.the_own (claim_of d b) (vstruct (of_list (vec_val in_heap hv b 0 0 d.cap ∷ [])) ∷ [])))
waits {𝓤 = 𝓤} 𝓛 d b hv some small_cap small =
    let w = vec_val in_heap hv b 0 0 d.cap in
    let v = vstruct (of_list (w ∷ [])) in
    let Made : Inside → Fml = λ it. fsep (feq (List ℕ) it.hollow.items []) (fsep (feq ℕ it.hollow.cap d.cap) (Fields.own_val it (v ∷ []))) in
    qed 𝓛 (‵ (Freeing d b 0) ∷ ‵ (handle in_heap d.alloc hv) ∷ []) ∵
    assume {P = sem 𝓛 (fex Inside Made)} ! (‵ (room_in b 0 d.cap)) $
    let new = (el_make in_heap d.alloc (block_ptr b 0) 0 d.cap [] (refl, omega arith) d.small).0 in
    let all : d.cap ≡ d.cap - 0 = omega arith in
    rewrite ! 0 (λ k. ‵ (room_in b 0 k)) all refl $ none_there ! b 0 $ blk_in in_heap ! d.alloc b 0 0 d.cap [] some $
    vec_made in_heap ! new b 0 0 d.cap [] (refl, refl, refl, refl) (omega arith) small_cap small $
    nothing ! $ move ! (1 ∷ 0 ∷ []) $ fjoin ! $ makes ! (vector in_heap ∷ []) (new, tt) (w ∷ [], tt) $
    feq_i ! ℕ d.cap d.cap refl $ fjoin ! $ feq_i ! (List ℕ) [] [] refl $ fjoin ! $ fpack ! Inside Made (record { hollow = new }) $ done !

module _ {M : Type 1} {𝓤 : Ura M} {𝓛 : Logic 𝓤} {K : Type 0} {Γ : List (Item 𝓤)} {G : Goal 𝓤 𝓛.H} where
  pub claims : K → (d : (vector in_heap).Denot) (u : Val) → d.len ≡ 0 → 0 < d.cap
      → ((b : ℕ) → d.ptr ≡ block_ptr b 0 → Seq K 𝓛 (‵ (room_in b 0 d.cap) ∷ ‵ (Claim.the_own (claim_of d b) (vstruct (of_list (u ∷ [])) ∷ [])) ∷ Γ) G)
      → Seq K 𝓛 (‵ ((vector in_heap).own_val d (u ∷ [])) ∷ Γ) G
  claims t d u empty some then = vec_had in_heap t d (u ∷ []) (λ b o hv there is small_len small_cap small _.
      blk_out in_heap t d.alloc b o d.len d.cap d.items some $ forgotten t d.len d.cap b o d.items d.ok.1 $
      -- [the room; the right to free; the handle]
      move t (1 ∷ []) $ use1 𝓛 (given (o ≡ 0) (‵ (Freeing d b o))) (fact_use 𝓤 (o ≡ 0) (dealloc_token_start 𝓛 d.alloc _ (block_ptr b o)) (λ e. guard_i 𝓤 (o ≡ 0) (sem 𝓛 (Freeing d b o)) e)) $ learn t (λ first.
      rewrite t 0 (λ k. ‵ (Freeing d b k)) first refl $ rewrite t 1 (λ k. ‵ (room_in b k d.cap)) first refl $
      move t (0 ∷ 2 ∷ []) $ use2 𝓛 (‵ (Claim.the_own (claim_of d b) (vstruct (of_list (vec_val in_heap hv b 0 0 d.cap ∷ [])) ∷ []))) (waits 𝓛 d b hv some small_cap small) $
      let word : vec_val in_heap hv b 0 0 d.cap ≡ u = sym (ap only is ∙ ap (λ k. vec_val in_heap hv b k d.len d.cap) first ∙ ap (λ n. vec_val in_heap hv b 0 n d.cap) empty) in
      rewrite t 0 (λ w. ‵ (Claim.the_own (claim_of d b) (vstruct (of_list (w ∷ [])) ∷ []))) word refl $
      move t (1 ∷ 0 ∷ []) $ then b (there ∙ ap (block_ptr b) first)))
