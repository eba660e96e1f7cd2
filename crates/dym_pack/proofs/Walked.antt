-- Areas that are read one after the other.
use Rattle.std.proofs.Common.{◌≡◌, ℕ, zero, suc, ◌+◌, ◌≤◌, Bool, true, List, [], ◌∷◌, ◌++◌, length, drop, refl, sym, ap, subst, ◌∙◌, arith, inl, inr}
use Rattle.std.specs.List.{AllByRecursion}
use Rattle.std.proofs.lemmas.List.{append_assoc, append-nil, length-append, drop_at, drop-drop}
use Rattle.std.proofs.lemmas.List.Concat.{flat_map-append}
use Rattle.dym_base.specs.Numbers.{per}
use Rattle.dym_base.specs.declared.command.Version.{Version}
use Rattle.dym_base.specs.declared.command.Kind.{Kind}
use Rattle.dym_pack.specs.Contents.{Content, IsContent, has_some, Follows, AreOrdered, content_bytes, contents_bytes, starts_from, IsSeen, AreLeft, HaveOffsets, AreRead}
use Rattle.dym_pack.specs.declared.parsed_area.ParsedArea.{ParsedArea}
use Rattle.dym_pack.proofs.Seen.{seen_made}

abbrev pub seen_of : Version → Kind → Content → ParsedArea
seen_of v kind a = seen_made a.exponent a.ordinal (has_some (per a.exponent) a.used) (length (content_bytes v kind a))

-- ---- what is left

pub record First (v : Version) (kind : Kind) (bytes : List ℕ) (count exponent next : ℕ) (used : Bool) : Type 0 where
  pub area : Content
  pub parsed : IsSeen v kind bytes (seen_of v kind area)
  pub follows : Follows exponent next used area.exponent area.ordinal
  pub left : AreLeft v kind (drop (length (content_bytes v kind area)) bytes) count area.exponent (area.ordinal + 1) (has_some (per area.exponent) area.used)

pub left_split : (v : Version) (kind : Kind) (bytes : List ℕ) (count exponent next : ℕ) (used : Bool) → AreLeft v kind bytes (suc count) exponent next used → First v kind bytes count exponent next used
left_split v kind bytes count exponent next used is = split is.contents is.many is.each is.ordered is.are
  where
    split : (contents : List Content) → length contents ≡ suc count → AllByRecursion (IsContent v) contents → AreOrdered exponent next used contents → bytes ≡ contents_bytes v kind contents → First v kind bytes count exponent next used
    split [] many each ordered are = absurd (omega arith)
    split (a ∷ others) many each ordered are = record {
      area = a;
      parsed = record { content = a; rest = contents_bytes v kind others; is = each.0; are = are; exp = refl; ordinal = refl; used = refl; len = refl };
      follows = ordered.0;
      left = record {
        contents = others;
        many = omega arith;
        each = each.1;
        ordered = ordered.1;
        are = ap (drop (length (content_bytes v kind a))) are ∙ drop_at (content_bytes v kind a) (contents_bytes v kind others) (length (content_bytes v kind a)) refl;
      };
    }

pub seen_within : (v : Version) (kind : Kind) (bytes : List ℕ) (parsed : ParsedArea) → IsSeen v kind bytes parsed → parsed.len ≤ length bytes
seen_within v kind bytes parsed is = omega (arith, is.len, ap length is.are, length-append (content_bytes v kind is.content) is.rest)

pub next_few : (exponent next : ℕ) (used : Bool) (e o k : ℕ) → Follows exponent next used e o → next ≤ k → o ≤ k
next_few exponent next used e o k is few = elim is [ inl same ↦ omega (arith, same.1) | inr higher ↦ omega (arith, higher.2) ]

-- ---- what was read

each_append : (v : Version) (xs ys : List Content) → AllByRecursion (IsContent v) xs → AllByRecursion (IsContent v) ys → AllByRecursion (IsContent v) (xs ++ ys)
each_append v [] ys each others = others
each_append v (x ∷ xs) ys each others = (each.0, each_append v xs ys each.1 others)

bytes_more : (v : Version) (kind : Kind) (xs : List Content) (a : Content) → contents_bytes v kind (xs ++ a ∷ []) ≡ contents_bytes v kind xs ++ content_bytes v kind a
bytes_more v kind xs a = flat_map-append (content_bytes v kind) xs (a ∷ []) ∙ ap (λ ys. contents_bytes v kind xs ++ ys) (append-nil (content_bytes v kind a))

starts_more : (v : Version) (kind : Kind) (xs : List Content) (a : Content) (p : ℕ) → starts_from v kind p (xs ++ a ∷ []) ≡ starts_from v kind p xs ++ (p + length (contents_bytes v kind xs) + length (content_bytes v kind a)) ∷ []
starts_more v kind [] a p = (let none : p + length (content_bytes v kind a) ≡ p + 0 + length (content_bytes v kind a) = omega arith in ap (λ q. p ∷ q ∷ []) none)
starts_more v kind (x ∷ xs) a p =
    let all : p + length (content_bytes v kind x) + length (contents_bytes v kind xs) + length (content_bytes v kind a) ≡ p + length (contents_bytes v kind (x ∷ xs)) + length (content_bytes v kind a)
    = omega (arith, length-append (content_bytes v kind x) (contents_bytes v kind xs)) in
    ap (λ ys. p ∷ ys) (starts_more v kind xs a (p + length (content_bytes v kind x)) ∙ ap (λ q. starts_from v kind (p + length (content_bytes v kind x)) xs ++ q ∷ []) all)

pub read_more : (v : Version) (kind : Kind) (bytes : List ℕ) (at count exponent next : ℕ) (used : Bool) (starts : List ℕ) (parsed : ParsedArea) → AreRead v kind bytes at count exponent next used starts → IsSeen v kind (drop at bytes) parsed → Follows exponent next used parsed.exp parsed.ordinal → AreRead v kind bytes (at + parsed.len) (count + 1) parsed.exp (parsed.ordinal + 1) parsed.used (starts ++ at ∷ [])
read_more v kind bytes at count exponent next used starts parsed read is follows =
    let a = is.content in
    let done = read.contents in
    let more = bytes_more v kind done a in
    let rest : is.rest ≡ drop (at + parsed.len) bytes
    = sym (ap (drop parsed.len) is.are ∙ drop_at (content_bytes v kind a) is.rest parsed.len (sym is.len)) ∙ drop-drop parsed.len at bytes in
    let end : at + parsed.len ≡ 13 + length (contents_bytes v kind done) + length (content_bytes v kind a) = omega (arith, read.behind, is.len) in
    record {
      contents = done ++ a ∷ [];
      many = length-append done (a ∷ []) ∙ omega (arith, read.many);
      each = each_append v done (a ∷ []) read.each (is.is, tt);
      ordered = λ others ordered.
          subst (AreOrdered 5 0 true) (sym (append_assoc done (a ∷ []) others))
          (read.ordered (a ∷ others) (
            subst (λ e. Follows exponent next used e a.ordinal) is.exp (subst (λ o. Follows exponent next used parsed.exp o) is.ordinal follows),
            subst (λ e. AreOrdered e (a.ordinal + 1) (has_some (per a.exponent) a.used) others) is.exp
                (subst (λ o. AreOrdered parsed.exp (o + 1) (has_some (per a.exponent) a.used) others) is.ordinal
                (subst (λ u. AreOrdered parsed.exp (parsed.ordinal + 1) u others) is.used ordered)),
          ));
      are = read.are
          ∙ ap (λ ys. contents_bytes v kind done ++ ys) (is.are ∙ ap (λ ys. content_bytes v kind a ++ ys) rest)
          ∙ sym (append_assoc (contents_bytes v kind done) (content_bytes v kind a) (drop (at + parsed.len) bytes))
          ∙ ap (λ ys. ys ++ drop (at + parsed.len) bytes) (sym more);
      placed = ap (λ ys. ys ++ (at + parsed.len) ∷ []) read.placed
          ∙ ap (λ q. starts_from v kind 13 done ++ q ∷ []) end
          ∙ sym (starts_more v kind done a 13);
      behind = omega (arith, end, ap length more, length-append (contents_bytes v kind done) (content_bytes v kind a));
    }

pub read_all : (v : Version) (kind : Kind) (bytes : List ℕ) (at count exponent next : ℕ) (starts : List ℕ) → AreRead v kind bytes at count exponent next true starts → drop at bytes ≡ [] → HaveOffsets v kind bytes count (starts ++ at ∷ [])
read_all v kind bytes at count exponent next starts read none = record {
  contents = read.contents;
  many = read.many;
  each = read.each;
  ordered = subst (AreOrdered 5 0 true) (append-nil read.contents) (read.ordered [] refl);
  are = read.are ∙ ap (λ ys. contents_bytes v kind read.contents ++ ys) none ∙ append-nil (contents_bytes v kind read.contents);
  placed = read.placed;
}

pub drop_end : (xs : List ℕ) (n : ℕ) → length xs ≤ n → drop n xs ≡ []
drop_end [] zero past = refl
drop_end [] (suc n) past = refl
drop_end (x ∷ xs) zero past = absurd (omega arith)
drop_end (x ∷ xs) (suc n) past = drop_end xs n (omega arith)
