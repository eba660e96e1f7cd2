-- A file that is read part by part.
use Rattle.std.proofs.Common.{◌≡◌, ℕ, ◌+◌, ◌≤◌, List, [], ◌∷◌, ◌++◌, length, refl, sym, ap, subst, ◌∙◌, arith, inl, inr, Result, Ok, Err, IfErr, IsErrAnd, Bool, nat_eq, false}
use Rattle.std.proofs.lemmas.Bool.{true≢false}
use Rattle.std.specs.List.{AllByRecursion, flat_map}
use Rattle.std.proofs.lemmas.Grind.{flat_map-append}
use Rattle.std.proofs.lemmas.List.{append-nil, append_assoc, length-append, length-map}
use Rattle.dym_base.specs.Files.{FileHead, IsFileHead, head_bytes, framed, ReadsTo, IsFile, FailsAt}
use Rattle.dym_base.specs.LawfulLists.{IsRecordOf, IsLawfulList}
use Rattle.dym_base.specs.declared.command.Version.{Version}
use Rattle.dym_pack.proofs.Unique.{split_same}
use Rattle.dym_slots.specs.Meanings.{Numbered}
use Rattle.dym_chain.specs.Keeps.{bytes_of}
use Rattle.dym_ckpt.specs.Lists.{IsListed}
use Rattle.dym_ckpt.specs.FileRecords.{AreRead, SomeAreRead, StopsAs, FailsAs}
use Rattle.dym_ckpt.specs.declared.records.RecordList.{RecordList}
use Rattle.dym_ckpt.specs.declared.file_reader.FileFail.{FileFail}
use Rattle.dym_ckpt.specs.declared.file_reader.FileFail.TheVariants.{Bad, Memory}
use Rattle.dym_ckpt.proofs.Lists.{all_last, nothing_lawful}

-- ---- the records

framed_more : (records : List (List ℕ)) (x : List ℕ) → flat_map framed (records ++ x ∷ []) ≡ flat_map framed records ++ framed x
framed_more records x = flat_map-append framed records (x ∷ []) ∙ ap (λ ys. flat_map framed records ++ ys) (append-nil (framed x))

pub read_none : (v : Version) (quota d : ℕ) (bytes : List ℕ) (record_list : RecordList) → IsListed v d record_list → record_list.keep.records ≡ [] → AreRead v quota d bytes record_list 0 bytes
read_none v quota d bytes record_list is none =
    let empty : bytes_of record_list.keep.records ≡ [] = ap bytes_of none in
    record {
      is = is;
      each = subst (AllByRecursion (IsRecordOf v quota)) (sym empty) tt;
      many = ap length none;
      are = ap (λ rs. flat_map framed rs ++ bytes) (sym empty);
    }

-- memory is wanting before the first record
pub none_are_read : (v : Version) (quota d count : ℕ) (bytes : List ℕ) → SomeAreRead v quota d count bytes
none_are_read v quota d count bytes = record { records = []; left = bytes; few = omega arith; each = tt; lawful = nothing_lawful v d; are = refl }

-- ---- the whole

pub reads_to : (bytes behind : List ℕ) (head : FileHead) (records : List (List ℕ)) (left : List ℕ) → IsFileHead head → length records ≤ head.count → AllByRecursion (IsRecordOf head.version head.quota) records → IsLawfulList head.version head.depth records
    → bytes ≡ head_bytes head ++ behind → behind ≡ flat_map framed records ++ left → ReadsTo bytes head records left
reads_to bytes behind head records left good few each lawful are follow = record {
  good = good;
  few = few;
  each = each;
  lawful = lawful;
  are = are ∙ ap (λ ys. head_bytes head ++ ys) follow ∙ sym (append_assoc (head_bytes head) (flat_map framed records) left);
}

-- what stands behind the records of a reading is what does in another one with a record more
pub next_left : (bytes : List ℕ) (head : FileHead) (records : List (List ℕ)) (left more rest : List ℕ) → ReadsTo bytes head records left → ReadsTo bytes head (records ++ more ∷ []) rest → left ≡ framed more ++ rest
next_left bytes head records left more rest read next =
    let front = head_bytes head ++ flat_map framed records in
    let longer : head_bytes head ++ flat_map framed (records ++ more ∷ []) ++ rest ≡ front ++ (framed more ++ rest)
    = ap (λ ys. head_bytes head ++ ys ++ rest) (framed_more records more)
    ∙ ap (λ ys. ys ++ rest) (sym (append_assoc (head_bytes head) (flat_map framed records) (framed more)))
    ∙ append_assoc front (framed more) rest in
    (split_same front front left (framed more ++ rest) refl (sym read.are ∙ next.are ∙ longer)).1

pub head_fails : (bytes : List ℕ) → ((head : FileHead) (left : List ℕ) → IsFileHead head → bytes ≡ head_bytes head ++ left → ⊥) → FailsAt bytes 0
head_fails bytes never = inl ((λ head left read. never head left read.good (read.are ∙ ap (λ ys. ys ++ left) (append-nil (head_bytes head)))), refl)

pub stops_fails : (bytes behind : List ℕ) (head : FileHead) (why : FileFail) → IsFileHead head → bytes ≡ head_bytes head ++ behind → StopsAs head.version head.quota head.depth head.count behind why → FailsAs bytes why
stops_fails bytes behind head Memory good are some = record {
  head = head;
  records = some.records;
  left = some.left;
  read = reads_to bytes behind head some.records some.left good some.few some.each some.lawful are some.are;
}
stops_fails bytes behind head (Bad part) good are stops =
    let read = reads_to bytes behind head stops.records stops.left good (omega (arith, stops.few)) stops.each stops.lawful are stops.are in
    inr (record {
      head = head;
      records = stops.records;
      left = stops.left;
      read = read;
      at = stops.at;
      next = λ more rest next. stops.next more rest (all_last (IsRecordOf head.version head.quota) stops.records more next.each) next.lawful (next_left bytes head stops.records stops.left more rest read next);
      end = λ all none. omega (arith, stops.few, all);
    })

pub all_read : (bytes behind : List ℕ) (head : FileHead) (record_list : RecordList) (left : List ℕ) → IsFileHead head → bytes ≡ head_bytes head ++ behind → AreRead head.version head.quota head.depth behind record_list head.count left → ReadsTo bytes head (bytes_of record_list.keep.records) left
all_read bytes behind head record_list left good are read =
    reads_to bytes behind head (bytes_of record_list.keep.records) left good (omega (arith, length-map record_list.keep.records (λ (r : Numbered). r.bytes), read.many)) read.each read.is.lawful are read.are

pub all_many : (v : Version) (quota d : ℕ) (bytes : List ℕ) (record_list : RecordList) (count : ℕ) (left : List ℕ) → AreRead v quota d bytes record_list count left → length (bytes_of record_list.keep.records) ≡ count
all_many v quota d bytes record_list count left read = length-map record_list.keep.records (λ (r : Numbered). r.bytes) ∙ read.many

pub end_fails : (bytes : List ℕ) (head : FileHead) (records : List (List ℕ)) (left : List ℕ) (part : ℕ) → ReadsTo bytes head records left → length records ≡ head.count → part ≡ head.count + 1 → (left ≡ [] → ⊥) → FailsAt bytes part
end_fails bytes head records left part read all at some =
    inr (record {
      head = head;
      records = records;
      left = left;
      read = read;
      at = omega (arith, at, all);
      next = λ more rest next. omega (arith, next.few, all, length-append records (more ∷ []));
      end = λ _ none. some none;
    })

pub is_file : (bytes : List ℕ) (head : FileHead) (records : List (List ℕ)) (left : List ℕ) → ReadsTo bytes head records left → length records ≡ head.count → left ≡ [] → IsFile bytes head records
is_file bytes head records left read all none = record { read = subst (ReadsTo bytes head records) none read; whole = all }

-- an error that `?` passes on
pub passed_on : {T E : Type 0} → (r : Result T E) (why : E) (P : E → Type 0) → IsErrAnd r (λ e. e ≡ why) → P why → IfErr r P
passed_on (Ok x) why P is p = absurd is
passed_on (Err e) why P is p = subst P (sym is) p

pub no_bytes : (bytes : List ℕ) → length bytes ≡ 0 → bytes ≡ []
no_bytes [] is = refl
no_bytes (b ∷ bytes) is = absurd (omega (arith, is))

pub some_bytes : (bytes : List ℕ) (b : Bool) → b ≡ nat_eq (length bytes) 0 → b ≡ false → bytes ≡ [] → ⊥
some_bytes bytes b is other none = true≢false (sym (ap (λ bs. nat_eq (length bs) 0) none) ∙ sym is ∙ other)
