-- The area that bytes begin with, by its parts.
use Rattle.std.proofs.Common.{◌≡◌, ℕ, zero, suc, ◌+◌, ◌-◌, ◌^◌, ◌<◌, ◌≤◌, Bool, true, Some, None, is_some, List, [], ◌∷◌, ◌++◌, length, map, take, drop, get_or, replicate, refl, sym, ap, subst, ◌∙◌, arith, inl, inr}
use Rattle.std.specs.Int.{w32, from_le_bytes}
use Rattle.std.specs.List.{flat_map}
use Rattle.std.proofs.lemmas.List.{append_assoc, length-append, length-map, length-take, take-append-drop, drop_at, drop-drop, length-replicate}
use Rattle.std.proofs.lemmas.List.Elements.{All-from_recursion}
use Rattle.std.proofs.lemmas.Bool.{cases_Bool, cases_eq, cond-true, cond-false, true≢false}
use Rattle.std.proofs.lemmas.Nat.{le_bytes_4}
use Rattle.std.proofs.Math.Nat.{pow-suc}
use Rattle.std.proofs.lemmas.Nat.{pow_pos}
use Rattle.dym_base.specs.Numbers.{size, per, cls}
use Rattle.dym_base.specs.Laws.{IsLengthOf}
use Rattle.dym_base.specs.Packed.{bitmap, touched_bits, packed_chunk}
use Rattle.dym_base.specs.declared.command.Version.{Version}
use Rattle.dym_base.specs.declared.command.Version.TheVariants.{One, Two}
use Rattle.dym_base.specs.declared.command.Kind.{Kind}
use Rattle.dym_base.specs.declared.command.Kind.TheVariants.{Full, Inc}
use Rattle.dym_base.proofs.Classes.{cls_is}
use Rattle.dym_pack.specs.Offsets.{name_bytes}
use Rattle.dym_pack.specs.Contents.{Content, IsContent, picks, picked, has_some, content_body, content_bytes, IsMaps, IsBody, IsSeen}
use Rattle.dym_pack.specs.declared.parsed_area.ParsedMaps.{ParsedMaps}
use Rattle.dym_pack.specs.declared.parsed_area.ParsedArea.{ParsedArea}
use Rattle.dym_pack.proofs.Ranges.{all_picked}
use Rattle.dym_pack.proofs.Picked.{chunk_by, chunks_picked, chunks_of_picked, rank_less}
use Rattle.dym_pack.proofs.MapsRead.{made}

-- ---- answers

pub not_none : {X A : Type 0} (x : X) → None ≡ Some x → A
not_none x is = absurd (true≢false (sym (ap is_some is)))

-- the name of an area, from its bytes
pub name_is : (bytes : List ℕ) (n : ℕ) → ((i : ℕ) → get_or bytes i 0 < 256) → 5 ≤ length bytes → n ≡ from_le_bytes w32 (take 4 (drop 1 bytes)) → bytes ≡ name_bytes (get_or bytes 0 0) n ++ drop 5 bytes
name_is [] n small room is = absurd (omega arith)
name_is (b ∷ bs) n small room is =
    ap (λ ys. b ∷ ys)
    (sym (take-append-drop 4 bs)
    ∙ ap (λ ys. ys ++ drop 4 bs) (sym (le_bytes_4 (take 4 bs) n (length-take 4 bs ∙ omega arith) (front_small bs (λ i. small (suc i)) 4) is)))
  where
    front_small : (bytes : List ℕ) → ((i : ℕ) → get_or bytes i 0 < 256) → (n i : ℕ) → get_or (take n bytes) i 0 < 256
    front_small bytes small zero i = omega arith
    front_small [] small (suc n) i = omega arith
    front_small (c ∷ bytes) small (suc n) zero = small 0
    front_small (c ∷ bytes) small (suc n) (suc i) = front_small bytes (λ j. small (suc j)) n i

-- ---- the parts of an area's bytes

abbrev pub use_part : Content → List ℕ
use_part a = bitmap (per a.exponent) a.used

abbrev pub touched_part : Kind → Content → List ℕ
touched_part kind a = touched_bits kind (per a.exponent) a.touched

pub content_parts : (v : Version) (kind : Kind) (a : Content) (rest : List ℕ) → content_bytes v kind a ++ rest ≡ name_bytes a.exponent a.ordinal ++ (use_part a ++ (touched_part kind a ++ (content_body v kind a ++ rest)))
unfolding content_bytes
content_parts v kind a rest =
    let name = name_bytes a.exponent a.ordinal in
    append_assoc name (use_part a ++ (touched_part kind a ++ content_body v kind a)) rest
    ∙ ap (λ ys. name ++ ys)
    (append_assoc (use_part a) (touched_part kind a ++ content_body v kind a) rest
    ∙ ap (λ ys. use_part a ++ ys) (append_assoc (touched_part kind a) (content_body v kind a) rest))

pub content_len : (v : Version) (kind : Kind) (a : Content) → length (content_bytes v kind a) ≡ 5 + (length (use_part a) + length (touched_part kind a)) + length (content_body v kind a)
unfolding content_bytes
content_len v kind a =
    omega (arith, length-append (use_part a) (touched_part kind a ++ content_body v kind a), length-append (touched_part kind a) (content_body v kind a), length-append (name_bytes a.exponent a.ordinal) (use_part a ++ (touched_part kind a ++ content_body v kind a)))

maps_left : (kind : Kind) (e : ℕ) (bytes : List ℕ) (parsed : ParsedMaps) (is : IsMaps kind e bytes parsed) → drop parsed.len bytes ≡ is.rest
maps_left kind e bytes parsed is =
    let used = bitmap (per e) is.used in
    let touched = touched_bits kind (per e) is.touched in
    ap (drop parsed.len) (is.are ∙ sym (append_assoc used touched is.rest))
    ∙ drop_at (used ++ touched) is.rest parsed.len (length-append used touched ∙ sym is.long)

-- ---- an area from its parts

pub picks_used : (kind : Kind) (used touched : ℕ → Bool) (i : ℕ) → (touched i ≡ true → used i ≡ true) → picks kind used touched i ≡ true → used i ≡ true
picks_used Full used touched i within is = is
picks_used Inc used touched i within is = within is

abbrev zeros : ℕ → List ℕ
zeros n = replicate {A = ℕ} n 0

zeros_long : (n : ℕ) → length (zeros n) ≡ n
zeros_long n = (let none : ℕ = 0 in length-replicate n none)

size_fits : (v : Version) (e : ℕ) → 5 ≤ e → e ≤ 16 → IsLengthOf v e (length (zeros (size e)))
size_fits One e least most = zeros_long (size e)
size_fits Two e least most =
    ap cls (zeros_long (size e))
    ∙ cls_is (size e) e least most (elim (cases_eq e 5) [
      | inl same ↦ inl same
      | inr other ↦ inr (let more : e ≡ suc (e - 1) = omega arith in subst (λ x. 2 ^ (e - 1) < 2 ^ x) (sym more) (let one : 1 ≤ 2 ^ (e - 1) = pow_pos (e - 1) in omega (arith, pow-suc 2 (e - 1))))
    ]) (omega arith)

abbrev pub seen_made : ℕ → ℕ → Bool → ℕ → ParsedArea
seen_made e o used len = record { exp = e; ordinal = o; used = used; len = len }

pub seen_is : (v : Version) (kind : Kind) (bytes : List ℕ) (e o : ℕ) (maps : ParsedMaps) (len : ℕ) → 5 ≤ e → e ≤ 16 → o < 2 ^ 32 → bytes ≡ name_bytes e o ++ drop 5 bytes → IsMaps kind e (drop 5 bytes) maps → IsBody v e maps.packed (drop (5 + maps.len) bytes) len → IsSeen v kind bytes (seen_made e o maps.used (5 + maps.len + len))
seen_is v kind bytes e o maps len least most small named m b =
    let n = per e in
    let p = picks kind m.used m.touched in
    let other = zeros (size e) in
    let count : length b.chunks ≡ length (picked n p) = b.count ∙ m.count in
    let a : Content = record { exponent = e; ordinal = o; used = m.used; touched = m.touched; chunk = chunk_by p b.chunks other } in
    let body : content_body v kind a ≡ flat_map (packed_chunk v) b.chunks = chunks_picked (packed_chunk v) p b.chunks other n count in
    let left : m.rest ≡ content_body v kind a ++ b.rest
    = sym (maps_left kind e (drop 5 bytes) maps m) ∙ drop-drop maps.len 5 bytes ∙ b.are ∙ ap (λ ys. ys ++ b.rest) (sym body) in
    record {
      content = a;
      rest = b.rest;
      is = record {
        least = least;
        most = most;
        small = small;
        sized = λ i below used. elim (cases_Bool (p i)) [
          | inl hit ↦ subst (λ x. IsLengthOf v e (length x)) (sym (cond-true (p i) _ _ hit))
              (All-from_recursion (λ (x : List ℕ). IsLengthOf v e (length x)) b.chunks b.sized (length (picked i p)) [] (omega (arith, rank_less p n i below hit)))
          | inr miss ↦ subst (λ x. IsLengthOf v e (length x)) (sym (cond-false (p i) _ _ miss)) (size_fits v e least most)
        ];
        touched = m.within;
      };
      are = named
          ∙ ap (λ ys. name_bytes e o ++ ys) m.are
          ∙ ap (λ ys. name_bytes e o ++ (use_part a ++ (touched_part kind a ++ ys))) left
          ∙ sym (content_parts v kind a b.rest);
      exp = refl;
      ordinal = refl;
      used = m.some;
      len = omega (arith, content_len v kind a, m.long, b.long, ap length body);
    }

-- ---- the parts of an area

abbrev pub maps_of : Kind → Content → ParsedMaps
maps_of kind a = made (has_some (per a.exponent) a.used) (length (picked (per a.exponent) (picks kind a.used a.touched))) (length (use_part a) + length (touched_part kind a))

pub record Parts (v : Version) (kind : Kind) (bytes : List ℕ) (a : Content) : Type 0 where
  pub tail : List ℕ
  pub named : bytes ≡ name_bytes a.exponent a.ordinal ++ tail
  pub maps : IsMaps kind a.exponent (drop 5 bytes) (maps_of kind a)
  pub body : IsBody v a.exponent (maps_of kind a).packed (drop (5 + (maps_of kind a).len) bytes) (length (content_body v kind a))

pub seen_parts : (v : Version) (kind : Kind) (bytes : List ℕ) (a : Content) (rest : List ℕ) → IsContent v a → bytes ≡ content_bytes v kind a ++ rest → Parts v kind bytes a
seen_parts v kind bytes a rest is are =
    let n = per a.exponent in
    let p = picks kind a.used a.touched in
    let apart = are ∙ content_parts v kind a rest in
    let behind = use_part a ++ (touched_part kind a ++ (content_body v kind a ++ rest)) in
    let five : drop 5 bytes ≡ behind = ap (drop 5) apart in
    let chunks = map a.chunk (picked n p) in
    let body : flat_map (packed_chunk v) chunks ≡ content_body v kind a = chunks_of_picked (packed_chunk v) a.chunk (picked n p) in
    let maps : IsMaps kind a.exponent (drop 5 bytes) (maps_of kind a) = record {
      used = a.used;
      touched = a.touched;
      rest = content_body v kind a ++ rest;
      within = is.touched;
      are = five;
      some = refl;
      count = refl;
      long = refl;
    } in
    record {
      tail = behind;
      named = apart;
      maps = maps;
      body = record {
        chunks = chunks;
        rest = rest;
        count = length-map (picked n p) a.chunk;
        sized = all_picked (λ x. IsLengthOf v a.exponent (length x)) a.chunk p n 0 (λ i low high hit. is.sized i (omega arith) (picks_used kind a.used a.touched i (is.touched i (omega arith)) hit));
        are = sym (drop-drop (maps_of kind a).len 5 bytes) ∙ maps_left kind a.exponent (drop 5 bytes) (maps_of kind a) maps ∙ ap (λ ys. ys ++ rest) (sym body);
        long = ap length (sym body);
      };
    }

pub same_seen : (s t : ParsedArea) → s.exp ≡ t.exp → s.ordinal ≡ t.ordinal → s.used ≡ t.used → s.len ≡ t.len → s ≡ t
same_seen s t exp ordinal used len = λ i. seen_made (exp i) (ordinal i) (used i) (len i)
