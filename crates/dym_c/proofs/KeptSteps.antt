-- What C keeps, at a proof's steps. Assumes `Logic`.
--     kept_cases       by its pointer: closed, or a box of its value, whose pointer may be compared with null
--     some_cases       the same of one that is open
--     told             the same before a test of its pointer: what the machine asks of the test, and what it answers
--     out              by value it is what it owns, and its machine value is its pointer's
--     made             it is made of what it owns. closed_in, open_in: of nothing, and of what a box owns
use Rattle.std.proofs.Common.{◌≡◌, ℕ, List, [], ◌∷◌, ◌++◌, refl, subst, Option, None, Some, IsSome, is_none}
use seplogic.Ra.Ura.{Ura}
use lib.Dec.{T, lit<}
use mir.Syntax.{Ty}
use denote.Param.{layout}
use mir.Raw.{raw as bare}
use mir.Val.{Val, vnull, ptr_eq_ok, ptr_same, vstruct, vcons, vnil, of_list, has_ty, WT}
use base.Logic.{via, never, never_e, snd∗, id⊢, guard_i}
use base.Fml.{ffalse, ftrue}
use types.Logic.{Logic, sem}
use types.Kit.{Item, Goal, Seq, Step, step, ‵, given, ◌$◌, drop, use1, learn, fsplit, fjoin, fpick, fpack, feq_i, feq_l}
use contract.Monad.{fact_use}
use denote.RattleType.{RattleType, Valss}
use denote.Memory.{lone}
use denote.RawPtr.{Ptr, RawPtr, block_ptr, null_ptr, ptr_val, lies_at, Testable, tests_null}
use base.Fraction.{full_share}
use denote.Steps.{nothing}
use denote.Struct.Struct.{within}
use denote.Struct.Owning.{shape}
use Rattle.std.specs.contracts.impls.GlobalAllocator.TheImpl.{ghosts}
use Rattle.std.proofs.GlobalToken.{dealloc_token-Testable}
use Rattle.std_alloc.proofs.Flags.{never_true}
use Rattle.std_alloc.specs.Box.Ownership.{box_owns}
use Rattle.dym_c.specs.Ownership.{kept_owns, heap}
use Rattle.dym_c.specs.contracts.kept.Kept as kept

abbrev pub word : Ptr → Val
word p = vstruct (vcons (ptr_val p) vnil)

module _ (R : RattleType) where
  abbrev pub Row : RattleType
  Row = kept.the_row R

  abbrev kept_ty : Ty
  kept_ty = layout Row

  pub null_typed : T (has_ty kept_ty (word null_ptr)) × WT (word null_ptr)
  null_typed = (tt, (record { fits = lit< tt }, tt))

  abbrev pub owned : Ptr → R.Denot → base.Fml.Fml
  owned p x = box_owns (ghosts.dealloc_token heap) R p x

  module _ {M : Type 1} {𝓤 : Ura M} {𝓛 : Logic 𝓤} {K : Type 0} {Γ : List (Item 𝓤)} {G : Goal 𝓤 𝓛.H} where
    never_so : K → Seq K 𝓛 (‵ ffalse ∷ Γ) G
    never_so t = use1 𝓛 (given ⊥ (‵ ftrue)) (via 𝓤 (never 𝓤) (id⊢ 𝓤 _) (never_e 𝓤 _)) $ learn t (λ z. absurd z)

    -- the pointer of a box may be compared with null
    tests : K → (p : Ptr) (x : R.Denot) → (Testable p → Seq K 𝓛 (‵ (owned p x) ∷ Γ) G) → Seq K 𝓛 (‵ (owned p x) ∷ Γ) G
    tests t p x k =
        use1 𝓛 (given (Testable p) (‵ (owned p x))) (fact_use 𝓤 (Testable p)
        (via 𝓤 _ (snd∗ 𝓤 (sem 𝓛 (lies_at R full_share p x)) (sem 𝓛 (ghosts.dealloc_token heap (bare (lone R.mir)) p)))
        (dealloc_token-Testable 𝓛 heap (bare (lone R.mir)) p))
        (guard_i 𝓤 (Testable p) (sem 𝓛 (owned p x)))) $ learn t k

    pub kept_cases : K → (p : Ptr) (v : Option R.Denot) → (p ≡ null_ptr → v ≡ None → Seq K 𝓛 Γ G)
        → ((b o : ℕ) (x : R.Denot) → p ≡ block_ptr b o → v ≡ Some x → Testable (block_ptr b o) → Seq K 𝓛 (‵ (owned (block_ptr b o) x) ∷ Γ) G)
        → Seq K 𝓛 (‵ (kept_owns R p v) ∷ Γ) G
    kept_cases t null_ptr None none some = drop t $ none refl refl
    kept_cases t null_ptr (Some x) none some = never_so t
    kept_cases t (block_ptr b o) None none some = never_so t
    kept_cases t (block_ptr b o) (Some x) none some = tests t (block_ptr b o) x (λ ok. some b o x refl refl ok)

    pub some_cases : K → (p : Ptr) (v : Option R.Denot) → IsSome v
        → ((b o : ℕ) (x : R.Denot) → p ≡ block_ptr b o → v ≡ Some x → Seq K 𝓛 (‵ (owned (block_ptr b o) x) ∷ Γ) G)
        → Seq K 𝓛 (‵ (kept_owns R p v) ∷ Γ) G
    some_cases t p None has k = absurd (never_true {X = ⊥} has)
    some_cases t null_ptr (Some x) has k = never_so t
    some_cases t (block_ptr b o) (Some x) has k = k b o x refl refl

    pub told : K → (p : Ptr) (v : Option R.Denot) → (T (ptr_eq_ok (ptr_val p) vnull) → ptr_same (ptr_val p) vnull ≡ is_none v → Seq K 𝓛 (‵ (kept_owns R p v) ∷ Γ) G)
        → Seq K 𝓛 (‵ (kept_owns R p v) ∷ Γ) G
    told t null_ptr None k = k tt refl
    told t null_ptr (Some x) k = never_so t
    told t (block_ptr b o) None k = never_so t
    told t (block_ptr b o) (Some x) k = tests t (block_ptr b o) x (λ ok. k (tests_null (block_ptr b o) ok) refl)

    pub out : K → (d : Row.Denot) (vs : List Val) → (vs ≡ word d.at ∷ [] → Seq K 𝓛 (‵ (kept_owns R d.at d.value) ∷ Γ) G)
        → Seq K 𝓛 (‵ (Row.own_val d vs) ∷ Γ) G
    out t d vs k = fsplit t $ fpick t (λ vss. fsplit t $ feq_l t (λ ev. fsplit t $ feq_l t (λ ep. drop t $
        k (subst (λ (ps : List Val). vs ≡ vstruct (of_list (ps ++ [])) ∷ []) ep ev))))

    pub made : K → (p : Ptr) (v : Option R.Denot)
        → Step K 𝓛 (‵ (Row.own_val (record { at = p; value = v }) (word p ∷ [])) ∷ Γ) G (‵ (kept_owns R p v) ∷ Γ) G
    made t p v = step (λ s.
        nothing t $ feq_i t (List Val) (ptr_val p ∷ []) (ptr_val p ∷ []) refl $ fjoin t $ feq_i t (List Val) (word p ∷ []) (word p ∷ []) refl $ fjoin t $
        fpack t (Valss (RawPtr ∷ [])) (within (shape (kept.the_type R)) (p, tt) (word p ∷ [])) (ptr_val p ∷ [], tt) $ fjoin t $ s)

    pub closed_in : K → Step K 𝓛 (‵ (Row.own_val (record { at = null_ptr; value = None }) (word null_ptr ∷ [])) ∷ Γ) G Γ G
    closed_in t = step (λ s. nothing t $ made t null_ptr None $ s)

    pub open_in : K → (b o : ℕ) (x : R.Denot)
        → Step K 𝓛 (‵ (Row.own_val (record { at = block_ptr b o; value = Some x }) (word (block_ptr b o) ∷ [])) ∷ Γ) G (‵ (owned (block_ptr b o) x) ∷ Γ) G
    open_in t b o x = step (λ s. made t (block_ptr b o) (Some x) $ s)
