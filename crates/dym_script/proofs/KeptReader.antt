-- What the reader of lines keeps between two lines.
use Rattle.std.proofs.Common.{◌≡◌, ℕ, ◌<◌, ◌≤◌, true, false, List, [], ◌∷◌, ◌++◌, length, Some, None, IsTrue, refl, sym, ap, subst, ◌∙◌, arith, Vec, Global, length-append}
use Rattle.std.specs.Bool.{nat_eq}
use Rattle.std.specs.Str.{bytes_eq}
use Rattle.std.specs.HashMap.{get_by, Updates}
use Rattle.std.specs.Cmp.Lexicographic.{pointwise, bytes_decides}
use Rattle.std.proofs.lemmas.List.Elements.{All-nil, All-push, All-weaker}
use Rattle.dym_base.specs.Names.{is_name}
use Rattle.dym_base.specs.declared.limits.TheConstants.{MOST_OBJECTS, MOST_QUOTA}
use Rattle.dym_script.specs.declared.script.Decl.{Decl}
use Rattle.dym_script.specs.declared.reader.Reader.{Reader}
use Rattle.dym_script.specs.Scripts.{ScriptMeaning, object_of}
use Rattle.dym_script.specs.Answers.{IsLawful}
use Rattle.dym_script.specs.Readers.{IsValidReader}
use Rattle.dym_script.proofs.Index.{with_last, with_last_no, object_of_none, object_of_push, other_bytes}

-- nothing is read yet
pub kept_start : (r : Reader) → r.names.entries ≡ [] → r.objects.items ≡ [] → IsValidReader r
kept_start r names objects = record {
  indexed = λ name. rw (names, objects) (sym (object_of_none name));
  first = rw objects (λ k d below. absurd (omega arith));
  valid = record {
    objects = rw objects (omega arith);
    lines = omega arith;
    names = rw objects (All-nil (λ d. IsTrue (is_name d.name)));
    quotas = rw objects (All-nil (λ d. (1 ≤ d.quota) × (d.quota ≤ MOST_QUOTA)));
    declared = All-nil (λ line. line.object < length r.objects.items);
  };
}

-- one declaration more is lawful
pub lawful_declare : (s : ScriptMeaning) (d : Decl) → IsLawful s → length s.objects < MOST_OBJECTS → IsTrue (is_name d.name) → 1 ≤ d.quota
    → d.quota ≤ MOST_QUOTA → IsLawful (record s { objects = s.objects ++ d ∷ [] })
lawful_declare s d valid room name low high = record {
  objects = omega (arith, length-append s.objects (d ∷ []));
  lines = valid.lines;
  names = All-push (λ e. IsTrue (is_name e.name)) s.objects d valid.names name;
  quotas = All-push (λ e. (1 ≤ e.quota) × (e.quota ≤ MOST_QUOTA)) s.objects d valid.quotas (low, high);
  declared = All-weaker (λ line. line.object < length s.objects) (λ line. line.object < length (s.objects ++ d ∷ []))
      (λ line below. omega (arith, length-append s.objects (d ∷ []))) s.lines valid.declared;
}

-- a new key is found, and other bytes as before
pub put_bytes : (r s : Reader) (key : Vec ℕ Global) (place : ℕ) (bytes : List ℕ) → key.items ≡ bytes
    → Updates (λ x y. pointwise nat_eq x.items y.items) r.names s.names key (Some place)
    → (get_by (λ k. bytes_eq bytes k.items) s.names ≡ Some place) × ((name : List ℕ) → bytes_eq bytes name ≡ false
    → get_by (λ k. bytes_eq name k.items) s.names ≡ get_by (λ k. bytes_eq name k.items) r.names)
put_bytes r s key place bytes same updates =
    let P : List ℕ → Type 0 = λ bs. (get_by (λ k. bytes_eq bs k.items) s.names ≡ Some place) × ((name : List ℕ) → bytes_eq bs name ≡ false
    → get_by (λ k. bytes_eq name k.items) s.names ≡ get_by (λ k. bytes_eq name k.items) r.names) in
    subst P same (updates.1, λ name other. other_bytes (λ (k : Vec ℕ Global). k.items) key.items name r.names.entries s.names.entries updates.3 other)

-- the index finds one name more
pub indexed_declare : (r s : Reader) (d : Decl) → IsValidReader r → object_of r.objects.items d.name ≡ None
    → get_by (λ k. bytes_eq d.name k.items) s.names ≡ Some (length r.objects.items)
    → ((name : List ℕ) → bytes_eq d.name name ≡ false → get_by (λ k. bytes_eq name k.items) s.names ≡ get_by (λ k. bytes_eq name k.items) r.names)
    → s.objects.items ≡ r.objects.items ++ d ∷ [] → (name : List ℕ) → get_by (λ k. bytes_eq name k.items) s.names ≡ object_of s.objects.items name
indexed_declare r s d kept absent found others objects name =
    let old = r.objects.items in
    let P : List ℕ → Type 0 = λ n. get_by (λ k. bytes_eq n k.items) s.names ≡ with_last (object_of old n) (bytes_eq d.name n) (length old) in
    let same : bytes_eq d.name d.name ≡ true = (bytes_decides d.name d.name).1 refl in
    let here : P d.name = found ∙ sym (ap (λ o. with_last o (bytes_eq d.name d.name) (length old)) absent ∙ ap (λ b. with_last None b (length old)) same) in
    rw objects (elim (bytes_eq d.name name) as (λ b. bytes_eq d.name name ≡ b → get_by (λ k. bytes_eq name k.items) s.names ≡ object_of (old ++ d ∷ []) name) [
      | true ↦ λ equal. subst P ((bytes_decides d.name name).0 equal) here ∙ sym (object_of_push old d name)
      | false ↦ λ other. others name other ∙ kept.indexed name
          ∙ sym (object_of_push old d name ∙ ap (λ b. with_last (object_of old name) b (length old)) other
          ∙ with_last_no (object_of old name) (length old))
    ] refl)
