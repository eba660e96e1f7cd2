-- Vectors of bytes, in the heap and in a part of a block, and the room that they own. Assumes `Logic`.
use Rattle.std.proofs.Common.{◌≡◌, ℕ, zero, suc, ◌+◌, ◌-◌, ◌*◌, ◌≤◌, Bool, true, false, List, [], ◌∷◌, length, refl, subst, arith}
use seplogic.Ra.Ura.{Ura}
use mir.Syntax.{w8, ty_int, ty_array, given as dict_at}
use base.Fraction.{full_share}
use base.Fml.{Fml, ftrue, fsep, feq, froom}
use base.Logic.{ent, sep}
use types.Logic.{Logic, sem}
use types.Kit.{Goal, Item, Step, step, ‵, ◌⊛◌, ◌$◌, move, drop, use0, use1, use2, split, fsplit, fjoin, feq_l, feq_i, rewrite}
use denote.RattleType.{RattleType}
use denote.Builtin.{u8}
use denote.Array.{Array}
use denote.Memory.{part_at}
use denote.Param.Laws.{of_field}
use denote.Param.Shared.{copy_shared}
use denote.RawPtr.{block_ptr}
use denote.RawPtr.Bytes.{bytes, bytes_apart, bytes_whole, bytes-room}
use denote.RawPtr.Room.{room_cut, room_glue, past_bytes}
use denote.Steps.{nothing}
use denote.Struct.Field.{u8-field}
use denote.Struct.Laws.{u8-laws, u8-copy}
use Rattle.std.specs.Allocator.{block_with_items}
use Rattle.std.specs.contracts.alloc.Global as G
use Rattle.std.specs.contracts.impls.GlobalAllocator.TheImpl.{ghosts}
use Rattle.std.proofs.alloc.Calls.{Al}
use Rattle.std.proofs.alloc.Global.TheLaws as global_laws
use Rattle.std_alloc.specs.Vec.Ownership.{owns_if, has_block}
use Rattle.std_alloc.specs.contracts.vec.Vec as V
use Rattle.std_alloc.proofs.vec.Vec.TheLaws as vec_laws
use Rattle.std_alloc.proofs.OfLodged.{lodging}
use Rattle.std_alloc.proofs.VecSteps.El.{El}
use Rattle.std_alloc.proofs.VecSteps.Opens.{is_live}
use Rattle.dym_region.specs.Block.{room_in}
use Rattle.dym_region.proofs.Arguments.{handed}

-- what the steps of the library take of a vector in the heap, and of one in a part of a block
abbrev pub in_heap : El
in_heap = record {
  row = u8;
  laws = of_field u8-field u8-laws refl (copy_shared u8-field u8-copy);
  al = record { row = G.the_row; laws = global_laws.the_row_laws; g = ghosts; d = dict_at 0; drops = dict_at 0 };
}

abbrev pub in_part : El
in_part = lodging u8 in_heap.laws

-- `Vec<u8>` and `Vec<u8, Lodged>`
abbrev pub vector : El → RattleType
vector E = V.the_row u8 E.al.row E.al.g

abbrev pub as_handed : El → Al
as_handed E = handed (vector E) (vec_laws.the_row_laws u8 E.al.row E.al.g in_heap.laws E.al.laws)

-- a block of `c` bytes, of which the first `n` are xs, with no right to free it
abbrev block : ℕ → ℕ → ℕ → ℕ → List ℕ → Fml
block n c b o = block_with_items (λ _ _. ftrue) u8 (block_ptr b o) n c

module _ {M : Type 1} {𝓤 : Ura M} (𝓛 : Logic 𝓤) where
  -- room for some bytes, and behind it room for others, is room for all
  pub rooms_glue : (b o m n : ℕ) → ent 𝓤 (sep 𝓤 (sem 𝓛 (room_in b o m)) (sem 𝓛 (room_in b (o + m) n))) (sem 𝓛 (room_in b o (m + n)))
  rooms_glue b o m n = subst (λ k. ent 𝓤 (sep 𝓤 (sem 𝓛 (room_in b o m)) (sem 𝓛 (room_in b k n))) (sem 𝓛 (room_in b o (m + n)))) (past_bytes m o) (room_glue 𝓛 (ty_int w8) m n b o)

  -- and back
  pub rooms_cut : (b o m n : ℕ) → ent 𝓤 (sem 𝓛 (room_in b o (m + n))) (sep 𝓤 (sem 𝓛 (room_in b o m)) (sem 𝓛 (room_in b (o + m) n)))
  rooms_cut b o m n = subst (λ k. ent 𝓤 (sem 𝓛 (room_in b o (m + n))) (sep 𝓤 (sem 𝓛 (room_in b o m)) (sem 𝓛 (room_in b k n)))) (past_bytes m o) (room_cut 𝓛 (ty_int w8) m n b o)

module _ {M : Type 1} {𝓤 : Ura M} {𝓛 : Logic 𝓤} {K : Type 0} {Γ : List (Item 𝓤)} {G : Goal 𝓤 𝓛.H} where
  -- room side by side is one room, and back
  pub joined : K → (b o m n : ℕ) → Step K 𝓛 (‵ (room_in b o (m + n)) ∷ Γ) G (‵ (room_in b o m) ∷ ‵ (room_in b (o + m) n) ∷ Γ) G
  joined t b o m n = step (λ then. use2 𝓛 (‵ (room_in b o (m + n))) (rooms_glue 𝓛 b o m n) $ then)

  pub parted : K → (b o m n : ℕ) → Step K 𝓛 (‵ (room_in b o m) ∷ ‵ (room_in b (o + m) n) ∷ Γ) G (‵ (room_in b o (m + n)) ∷ Γ) G
  parted t b o m n = step (λ then. use1 𝓛 (‵ (room_in b o m) ⊛ ‵ (room_in b (o + m) n)) (rooms_cut 𝓛 b o m n) $ split t $ then)

  -- no room is had of nothing
  pub no_room : K → (b o : ℕ) → Step K 𝓛 (‵ (room_in b o 0) ∷ Γ) G Γ G
  no_room t b o = step (λ then. use0 𝓛 (‵ (room_in b o 0)) (𝓛.laws.room_nil (ty_int w8) b o) $ then)

  -- what is owned may be asked for under a test
  under : K → (y : Bool) (F : Fml) → Step K 𝓛 (‵ (owns_if y F) ∷ Γ) G (‵ F ∷ Γ) G
  under t true F = step (λ then. then)
  under t false F = step (λ then. drop t $ nothing t $ then)

module _ {M : Type 1} {𝓤 : Ura M} {𝓛 : Logic 𝓤} {K : Type 0} {Γ : List (Item 𝓤)} {G : Goal 𝓤 𝓛.H} where
  -- an array of bytes, and the room behind it, is room once the bytes are forgotten
  pub forgotten : K → (n c b o : ℕ) (xs : List ℕ) → n ≤ c
      → Step K 𝓛 (‵ (room_in b o c) ∷ Γ) G (‵ (part_at (Array u8 n) full_share xs b o) ∷ ‵ (froom (ty_array (ty_int w8) (c - n)) b (o + n * 1)) ∷ Γ) G
  forgotten t n c b o xs fits = step (λ then.
      use1 𝓛 (‵ (fsep (feq ℕ (length xs) n) (bytes full_share xs b o))) (bytes_apart 𝓛 full_share n xs b o) $ fsplit t $ feq_l t (λ long.
      use1 𝓛 (‵ (room_in b o (length xs))) (bytes-room 𝓛 xs b o) $ rewrite t 0 (λ k. ‵ (room_in b o k)) long refl $
      let at : o + n * 1 ≡ o + n = omega arith in
      let all : n + (c - n) ≡ c = omega (arith, fits) in
      rewrite t 1 (λ k. ‵ (room_in b k (c - n))) at refl $ joined t b o n (c - n) $ rewrite t 0 (λ k. ‵ (room_in b o k)) all refl $ then))

  -- the room of a vector that has a block or none; where it has none, it has no room
  pub freed : K → (n c b o : ℕ) (xs : List ℕ) → n ≤ c
      → Step K 𝓛 (‵ (room_in b o c) ∷ Γ) G (‵ (owns_if (has_block c) (block n c b o xs)) ∷ Γ) G
  freed t n zero b o xs fits = step (λ then. drop t $ no_room t b o $ then)
  freed t n (suc c) b o xs fits = step (λ then.
      rewrite t 0 (λ y. ‵ (owns_if y (block n (suc c) b o xs))) (is_live (suc c) (omega arith)) refl $ fsplit t $ move t (1 ∷ []) $ fsplit t $ move t (1 ∷ []) $ drop t $
      move t (1 ∷ 0 ∷ []) $ forgotten t n (suc c) b o xs fits $ then)

module _ {M : Type 1} {𝓤 : Ura M} {𝓛 : Logic 𝓤} {K : Type 0} {Γ : List (Item 𝓤)} {G : Goal 𝓤 𝓛.H} where
  -- an array of no bytes is had of nothing
  pub none_there : K → (b o : ℕ) → Step K 𝓛 (‵ (part_at (Array u8 0) full_share [] b o) ∷ Γ) G Γ G
  none_there t b o = step (λ then.
      nothing t $ feq_i t ℕ (length {A = ℕ} []) 0 refl $ fjoin t $ use1 𝓛 (‵ (part_at (Array u8 0) full_share [] b o)) (bytes_whole 𝓛 full_share 0 [] b o) $ then)

module _ {M : Type 1} {𝓤 : Ura M} {𝓛 : Logic 𝓤} {K : Type 0} {Γ : List (Item 𝓤)} {G : Goal 𝓤 𝓛.H} where
  -- room as a block in which nothing is written
  pub laid_out : K → (c b o : ℕ) → Step K 𝓛 (‵ (owns_if (has_block c) (block 0 c b o [])) ∷ Γ) G (‵ (room_in b o c) ∷ Γ) G
  laid_out t c b o = step (λ then.
      let at : o ≡ o + 0 * 1 = omega arith in
      let all : c ≡ c - 0 = omega arith in
      rewrite t 0 (λ k. ‵ (room_in b k c)) at refl $ rewrite t 0 (λ k. ‵ (room_in b (o + 0 * 1) k)) all refl $
      nothing t $ move t (1 ∷ 0 ∷ []) $ fjoin t $ none_there t b o $ fjoin t $ under t (has_block c) (block 0 c b o []) $ then)
