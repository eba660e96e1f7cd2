-- The texts of a file, part by part.
use Rattle.std.proofs.Common.{◌≡◌, ℕ, ◌+◌, ◌^◌, ◌<◌, ◌≤◌, List, [], ◌∷◌, ◌++◌, length, drop, codes, refl, sym, ap, subst, ◌∙◌, arith, add-one}
use Rattle.std.specs.Int.{w32, to_le_bytes}
use Rattle.std.specs.List.{flat_map}
use Rattle.std.proofs.Math.ListN.{get_or-map}
use Rattle.std.proofs.Math.Seq.{drop-cons}
use Rattle.std.proofs.lemmas.List.{append-nil, length-append, length-map, length-drop}
use Rattle.std.proofs.lemmas.List.Elements.{All-from_recursion}
use Rattle.dym_base.specs.Files.{FileHead, head_bytes, head_of, framed, file_of, version_number}
use Rattle.dym_base.specs.Objects.{record_of}
use Rattle.dym_base.specs.declared.command.Version.{Version}
use Rattle.dym_slots.specs.Meanings.{Numbered, record_at, no_record}
use Rattle.dym_chain.specs.Chains.{ChainMeaning, all_logs}
use Rattle.dym_chain.specs.Keeps.{bytes_of}
use Rattle.dym_chain.specs.KeptRecords.{AreKeptRecords}
use Rattle.dym_ckpt.specs.Heads.{from_name}
use Rattle.dym_ckpt.specs.SavedFiles.{AreOf, file_of_logs, framed_from}
use Rattle.dym_ckpt.proofs.Headers.{head_parts}
use Rattle.dym_ckpt.proofs.RecordLengths.{list_short}

-- ---- the header

pub head_is : (h : FileHead) → head_bytes h ≡ codes "DYMCKPT1" ++ from_name h []
head_is h = sym (append-nil (head_bytes h)) ∙ head_parts h []

pub head_text : (h : FileHead) (magic name q m : List ℕ) (n v d : ℕ) → magic ≡ codes "DYMCKPT1" → name ≡ h.name → n ≡ length name → q ≡ to_le_bytes w32 h.quota → v ≡ version_number h.version → m ≡ to_le_bytes w32 h.count → d ≡ h.depth
    → magic ++ ((n ∷ []) ++ (name ++ (q ++ ((v ∷ []) ++ (m ++ ((d ∷ []) ++ [])))))) ≡ head_bytes h
head_text h magic name q m n v d magics names lens quotas versions counts depths =
    ap (λ x. x ++ (n ∷ (name ++ (q ++ (v ∷ (m ++ (d ∷ []))))))) magics
    ∙ ap (λ x. codes "DYMCKPT1" ++ (x ∷ (name ++ (q ++ (v ∷ (m ++ (d ∷ []))))))) lens
    ∙ ap (λ x. codes "DYMCKPT1" ++ (length x ∷ (x ++ (q ++ (v ∷ (m ++ (d ∷ []))))))) names
    ∙ ap (λ x. codes "DYMCKPT1" ++ (length h.name ∷ (h.name ++ (x ++ (v ∷ (m ++ (d ∷ []))))))) quotas
    ∙ ap (λ x. codes "DYMCKPT1" ++ (length h.name ∷ (h.name ++ (to_le_bytes w32 h.quota ++ (x ∷ (m ++ (d ∷ []))))))) versions
    ∙ ap (λ x. codes "DYMCKPT1" ++ (length h.name ∷ (h.name ++ (to_le_bytes w32 h.quota ++ (version_number h.version ∷ (x ++ (d ∷ []))))))) counts
    ∙ ap (λ x. codes "DYMCKPT1" ++ (length h.name ∷ (h.name ++ (to_le_bytes w32 h.quota ++ (version_number h.version ∷ (to_le_bytes w32 h.count ++ (x ∷ []))))))) depths
    ∙ sym (head_is h)

pub head_long : (h : FileHead) → length (head_bytes h) ≡ 19 + length h.name
head_long h =
    omega (arith, ap length (head_is h), length-append h.name (to_le_bytes w32 h.quota ++ (version_number h.version ∷ (to_le_bytes w32 h.count ++ (h.depth ∷ [])))))

-- ---- the records

pub count_of : (v : Version) (c : ChainMeaning) → AreOf v c → length c.records ≡ length (all_logs c)
count_of v c are = sym (length-map c.records (λ (r : Numbered). r.bytes)) ∙ ap length are ∙ length-map (all_logs c) (record_of v)

pub record_is_short : (c : ChainMeaning) → AreKeptRecords c → (place : ℕ) → place < length c.records → length (record_at c.records place).bytes < 2 ^ 32
record_is_short c kept place within =
    let bytes = bytes_of c.records in
    let inside : place < length bytes = omega (arith, within, length-map c.records (λ (r : Numbered). r.bytes)) in
    let short = All-from_recursion (λ (x : List ℕ). length x < 2 ^ 32) bytes (list_short kept.version _ bytes kept.lawful) place [] inside in
    subst (λ (x : List ℕ). length x < 2 ^ 32) (get_or-map (λ (r : Numbered). r.bytes) c.records place no_record) short

pub framed_next : (records : List Numbered) (place : ℕ) → place < length records → framed_from place records ≡ framed (record_at records place).bytes ++ framed_from (place + 1) records
framed_next records place within =
    let tail : drop place records ≡ record_at records place ∷ drop (place + 1) records = rw add-one (drop-cons records place no_record within) in
    ap (λ (rs : List Numbered). flat_map framed (bytes_of rs)) tail

pub framed_end : (records : List Numbered) (place : ℕ) → length records ≤ place → framed_from place records ≡ []
framed_end records place past = none (drop place records) (omega (arith, length-drop place records))
  where
    none : (rs : List Numbered) → length rs ≡ 0 → flat_map framed (bytes_of rs) ≡ []
    none [] is = refl
    none (r ∷ rs) is = absurd (omega (arith, is))

-- ---- the file

pub file_parts : (name : List ℕ) (quota : ℕ) (v : Version) (c : ChainMeaning) → AreOf v c → file_of_logs name quota v c ≡ head_bytes (head_of name quota v c.base_logs c.logs) ++ framed_from 0 c.records
unfolding file_of
file_parts name quota v c are = ap (λ records. head_bytes (head_of name quota v c.base_logs c.logs) ++ flat_map framed records) (sym are)

pub file_long : (name : List ℕ) (quota : ℕ) (v : Version) (c : ChainMeaning) → AreOf v c → length (file_of_logs name quota v c) ≡ 19 + length name + length (framed_from 0 c.records)
file_long name quota v c are =
    let head = head_of name quota v c.base_logs c.logs in
    omega (arith, ap length (file_parts name quota v c are), length-append (head_bytes head) (framed_from 0 c.records), head_long head)
