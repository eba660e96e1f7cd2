-- The index of the declared names: what a new name leaves of it, and what a name that is found is.
use Rattle.std.proofs.Common.{◌≡◌, ℕ, ◌+◌, ◌<◌, Bool, true, false, cond, List, [], ◌∷◌, ◌++◌, length, Option, Some, None, IsTrue, refl, sym, ap, subst, ◌∙◌, arith, add-zero, All, rules, IfSome, get_or, nat_lt, length-append}
use Rattle.std.proofs.Math.ListN.{get_or-append}
use Rattle.std.proofs.Math.Seq.{get_or-append_seam}
use Rattle.std.proofs.lemmas.Bool.Decides.{nat_tests}
use Rattle.std.specs.List.{position_from}
use Rattle.std.specs.Str.{bytes_eq}
use Rattle.std.specs.Map.{lookup, KeepsOthers}
use Rattle.std.specs.Cmp.Lexicographic.{bytes_decides, nat_list_eq_equiv}
use Rattle.std.proofs.lemmas.List.Elements.{All-head, All-tail}
use Rattle.dym_base.specs.Names.{is_name}
use Rattle.dym_script.specs.declared.script.Decl.{Decl}
use Rattle.dym_script.specs.Scripts.{object_of}

-- the place of a name among declarations to which one more is added
abbrev pub with_last : Option ℕ → Bool → ℕ → Option ℕ
with_last (Some i) last n = Some i
with_last None last n = cond last (Some n) None

pub with_last_no : (o : Option ℕ) (n : ℕ) → with_last o false n ≡ o
with_last_no None n = refl
with_last_no (Some i) n = refl

position_from_push : (test : Decl → Bool) (i : ℕ) (ds : List Decl) (d : Decl)
    → position_from test i (ds ++ d ∷ []) ≡ with_last (position_from test i ds) (test d) (i + length ds)
position_from_push test i [] d = ap (λ n. cond (test d) (Some n) None) (sym (add-zero i))
position_from_push test i (e ∷ ds) d =
    elim (test e) as (λ b. cond b (Some i) (position_from test (i + 1) (ds ++ d ∷ [])) ≡ with_last (cond b (Some i) (position_from test (i + 1) ds))
    (test d) (i + length (e ∷ ds))) [
      | true ↦ refl
      | false ↦ position_from_push test (i + 1) ds d ∙ ap (with_last (position_from test (i + 1) ds) (test d)) (omega arith)
    ]

pub object_of_push : (ds : List Decl) (d : Decl) (name : List ℕ) → object_of (ds ++ d ∷ []) name ≡ with_last (object_of ds name) (bytes_eq d.name name) (length ds)
unfolding object_of
object_of_push ds d name = position_from_push (λ e. bytes_eq e.name name) 0 ds d
    ∙ ap (with_last (position_from (λ e. bytes_eq e.name name) 0 ds) (bytes_eq d.name name)) (omega arith)

-- a new name leaves each declaration the first of its name, and the new one is
pub first_push : (ds : List Decl) (d : Decl) → ((k : ℕ) (e : Decl) → k < length ds → object_of ds (get_or ds k e).name ≡ Some k) → object_of ds d.name ≡ None
    → (k : ℕ) (e : Decl) → k < length (ds ++ d ∷ []) → object_of (ds ++ d ∷ []) (get_or (ds ++ d ∷ []) k e).name ≡ Some k
first_push ds d first fresh k e below =
    elim (nat_lt k (length ds)) as (λ b. nat_lt k (length ds) ≡ b → object_of (ds ++ d ∷ []) (get_or (ds ++ d ∷ []) k e).name ≡ Some k) [
      | true ↦ λ old.
          let inside : k < length ds = grind (arith, nat_tests) in
          ap (λ (x : Decl). object_of (ds ++ d ∷ []) x.name) (get_or-append ds (d ∷ []) e k inside)
          ∙ object_of_push ds d (get_or ds k e).name ∙ ap (λ o. with_last o (bytes_eq d.name (get_or ds k e).name) (length ds)) (first k e inside)
      | false ↦ λ new.
          let last : k ≡ length ds = grind (arith, nat_tests, length-append ds (d ∷ [])) in
          let same : bytes_eq d.name d.name ≡ true = (bytes_decides d.name d.name).1 refl in
          ap (λ (x : Decl). object_of (ds ++ d ∷ []) x.name) (ap (λ n. get_or (ds ++ d ∷ []) n e) last ∙ get_or-append_seam ds d [] e)
          ∙ object_of_push ds d d.name ∙ ap (λ o. with_last o (bytes_eq d.name d.name) (length ds)) fresh
          ∙ ap (λ b. with_last None b (length ds)) same ∙ ap (λ n. Some n) (sym last)
    ] refl

position_from_within : (test : Decl → Bool) (i : ℕ) (ds : List Decl) (k : ℕ) → position_from test i ds ≡ Some k → k < i + length ds
position_from_within test i [] k found = absurd (cc)
position_from_within test i (d ∷ ds) k found = elim (test d) as (λ b. cond b (Some i) (position_from test (i + 1) ds) ≡ Some k → k < i + length (d ∷ ds)) [
  | true ↦ λ here. let same : i ≡ k = cc in omega arith
  | false ↦ λ later. omega (arith, position_from_within test (i + 1) ds k later)
] found

-- a name that is found is that of a declaration
pub object_of_within : (ds : List Decl) (name : List ℕ) (k : ℕ) → object_of ds name ≡ Some k → k < length ds
unfolding object_of
object_of_within ds name k found = omega (arith, position_from_within (λ d. bytes_eq d.name name) 0 ds k found)

position_from_name : (name : List ℕ) (i : ℕ) (ds : List Decl) (k : ℕ) → All (λ d. IsTrue (is_name d.name)) ds
    → position_from (λ d. bytes_eq d.name name) i ds ≡ Some k → IsTrue (is_name name)
position_from_name name i [] k names found = absurd (cc)
position_from_name name i (d ∷ ds) k names found =
    elim (bytes_eq d.name name) as (λ b. bytes_eq d.name name ≡ b → cond b (Some i) (position_from (λ e. bytes_eq e.name name) (i + 1) ds) ≡ Some k
    → IsTrue (is_name name)) [
      | true ↦ λ same here. subst (λ n. IsTrue (is_name n)) ((bytes_decides d.name name).0 same) (All-head (λ e. IsTrue (is_name e.name)) d ds names)
      | false ↦ λ other later. position_from_name name (i + 1) ds k (All-tail (λ e. IsTrue (is_name e.name)) d ds names) later
    ] refl found

-- a name that is declared is a name
pub object_of_name : (ds : List Decl) (name : List ℕ) (k : ℕ) → All (λ d. IsTrue (is_name d.name)) ds → object_of ds name ≡ Some k → IsTrue (is_name name)
unfolding object_of
object_of_name ds name k names found = position_from_name name 0 ds k names found

module _ {K X : Type 0} (bytes : K → List ℕ) (key cs : List ℕ) (old new : List (K × X)) where
  -- other bytes than the key's are found as before
  pub other_bytes : KeepsOthers (λ x y. bytes_eq (bytes x) (bytes y)) (λ y. bytes_eq key (bytes y)) old new → bytes_eq key cs ≡ false
      → lookup (λ y. bytes_eq cs (bytes y)) new ≡ lookup (λ y. bytes_eq cs (bytes y)) old
  unfolding KeepsOthers
  other_bytes keeps other = keeps (λ y. bytes_eq cs (bytes y)) (λ x y. nat_list_eq_equiv.congr cs (bytes x) (bytes y))
      (λ y same. nat_list_eq_equiv.symm cs (bytes y) ∙ sym (nat_list_eq_equiv.congr key (bytes y) cs same) ∙ other)

pub found_within : (ds : List Decl) (name : List ℕ) (r : Option ℕ) → r ≡ object_of ds name → IfSome r (λ k. k < length ds)
found_within ds name None found = tt
found_within ds name (Some k) found = object_of_within ds name k (sym found)

pub found_name : (ds : List Decl) (name : List ℕ) (r : Option ℕ) → All (λ d. IsTrue (is_name d.name)) ds → r ≡ object_of ds name → IfSome r (λ _. is_name name ≡ true)
found_name ds name None names found = tt
found_name ds name (Some k) names found = search (rules, object_of_name ds name k names (sym found))

-- nothing is found where nothing is declared
pub object_of_none : (name : List ℕ) → object_of [] name ≡ None
unfolding object_of
object_of_none name = refl

position_from_more : (test : Decl → Bool) (i : ℕ) (ds more : List Decl) (k : ℕ) → position_from test i ds ≡ Some k → position_from test i (ds ++ more) ≡ Some k
position_from_more test i [] more k found = absurd (cc)
position_from_more test i (d ∷ ds) more k found =
    elim (test d) as (λ b. cond b (Some i) (position_from test (i + 1) ds) ≡ Some k
    → cond b (Some i) (position_from test (i + 1) (ds ++ more)) ≡ Some k) [
      | true ↦ λ here. here
      | false ↦ λ later. position_from_more test (i + 1) ds more k later
    ] found

-- a name that is found keeps its place, whatever is declared behind
pub object_of_more : (ds more : List Decl) (name : List ℕ) (k : ℕ) → object_of ds name ≡ Some k → object_of (ds ++ more) name ≡ Some k
unfolding object_of
object_of_more ds more name k found = position_from_more (λ d. bytes_eq d.name name) 0 ds more k found
