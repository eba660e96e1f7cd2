-- A place after the packed chunks of its area were loaded.
use Rattle.std.proofs.Common.{◌≡◌, ℕ, ◌*◌, Bool, true, false, is_some, Option, Some, None, List, length, refl, sym, ap, subst, ◌∙◌}
use Rattle.dym_base.specs.Numbers.{size}
use Rattle.dym_base.specs.declared.command.Version.{Version}
use Rattle.dym_base.specs.declared.command.Version.TheVariants.{One, Two}
use Rattle.dym_bits.specs.Bits.{bit_in, IsSet, IsClear}
use Rattle.dym_region.specs.Content.{part_of}
use Rattle.dym_area.specs.Area.{AreaMeaning, IsValidArea}
use Rattle.dym_heap.specs.Meaning.{IsSizeOf}
use Rattle.dym_heap.specs.SizedAreas.{SizedAreaMeaning, len_of, chunk_in, touched_in, version_by, place_of, IsMeasured}
use Rattle.dym_heap.specs.Bodies.{IsBodyOf, HoldsLoaded, NotesLoaded, loaded_over, IsLoadedSizedArea}
use Rattle.dym_heap.proofs.Sizes.{size_fits}
use Rattle.dym_heap.proofs.PlaceSteps.{chunk_of, used_chunk, unused_chunk}

-- the lengths of the chunks in use after a load
pub record LensLoaded (area : AreaMeaning) (ls ls' : Option (List ℕ)) (bits : List Bool) (f : ℕ → List ℕ) : Type 0 where
  pub version : version_by ls' ≡ version_by ls
  pub loaded : (i : ℕ) → IsSet bits i → len_of area.exponent ls' i ≡ length (f i)
  pub others : (i : ℕ) → IsClear bits i → len_of area.exponent ls' i ≡ len_of area.exponent ls i

pub lens_one : (area : AreaMeaning) {packed : List Bool} (bits : List Bool) {body : List ℕ} {f : ℕ → List ℕ} → ((i : ℕ) → IsSet bits i → IsSet packed i) → IsBodyOf One area.exponent packed body f → LensLoaded area None None bits f
lens_one area bits sub is = record { version = refl; loaded = λ i h. sym (is.sized i (sub i h)); others = λ i h. refl }

pub lens_two : (area : AreaMeaning) {ns ns' : List ℕ} {bits : List Bool} {f : ℕ → List ℕ} → NotesLoaded ns ns' bits f → LensLoaded area (Some ns) (Some ns') bits f
lens_two area notes = record { version = refl; loaded = notes.noted; others = notes.others }

module _ {area : AreaMeaning} {ls ls' : Option (List ℕ)} (content : List ℕ) {packed bits : List Bool} {body : List ℕ} {f : ℕ → List ℕ} (m : IsMeasured area ls) (sub : (i : ℕ) → IsSet bits i → IsSet packed i) (is : IsBodyOf (version_by ls) area.exponent packed body f)
    (holds : HoldsLoaded area (record area { content = content }) bits f) (lens : LensLoaded area ls ls' bits f) (valid' : IsValidArea (record area { content = content })) where
  abbrev new : AreaMeaning
  new = record area { content = content }

  loaded_chunk : (i : ℕ) → chunk_in new ls' i ≡ loaded_over (bit_in bits i) (f i) (chunk_in area ls i)
  loaded_chunk i =
      elim (bit_in area.used i) as (λ u. bit_in area.used i ≡ u → chunk_in new ls' i ≡ loaded_over (bit_in bits i) (f i) (chunk_in area ls i)) [
        | false ↦ λ h. unused_chunk new ls' i h ∙ sym (ap (loaded_over (bit_in bits i) (f i)) (unused_chunk area ls i h))
        | true ↦ λ h.
            let old : chunk_in area ls i ≡ Some (part_of area.content (i * size area.exponent) (len_of area.exponent ls i)) = used_chunk area ls i h in
            let now : chunk_in new ls' i ≡ Some (part_of content (i * size area.exponent) (len_of area.exponent ls' i)) = used_chunk new ls' i h in
            elim (bit_in bits i) as (λ b. bit_in bits i ≡ b → chunk_in new ls' i ≡ loaded_over b (f i) (chunk_in area ls i)) [
              | true ↦ λ p.
                  now ∙ ap (λ n. Some (part_of content (i * size area.exponent) n)) (lens.loaded i p) ∙ ap Some (holds.loaded i p)
                  ∙ sym (ap (loaded_over true (f i)) old)
              | false ↦ λ p.
                  now ∙ ap (λ n. Some (part_of content (i * size area.exponent) n)) (lens.others i p)
                  ∙ ap Some (holds.others i (len_of area.exponent ls i) (m.valid.used_below i h) (size_fits (version_by ls) area.exponent (len_of area.exponent ls i) (m.fits i h)) p)
                  ∙ sym (ap (loaded_over false (f i)) old)
            ] refl
      ] refl

  measured_new : IsMeasured new ls'
  measured_new = record {
    valid = valid';
    fits = λ i h. subst (λ v. IsSizeOf v area.exponent (len_of area.exponent ls' i)) (sym lens.version)
        (elim (bit_in bits i) as (λ b. bit_in bits i ≡ b → IsSizeOf (version_by ls) area.exponent (len_of area.exponent ls' i)) [
          | true ↦ λ p. subst (IsSizeOf (version_by ls) area.exponent) (sym (lens.loaded i p)) (is.sized i (sub i p))
          | false ↦ λ p. subst (IsSizeOf (version_by ls) area.exponent) (sym (lens.others i p)) (m.fits i h)
        ] refl);
  }

  loaded_new : IsLoadedSizedArea (place_of area ls) (place_of new ls') bits f
  unfolding touched_in
  loaded_new = record {
    same = λ j. record (place_of new ls') { version = lens.version j };
    chunk = λ i. chunk_of ls' i valid' ∙ loaded_chunk i ∙ sym (ap (loaded_over (bit_in bits i) (f i)) (chunk_of ls i m.valid));
  }

-- the place after the load, and that its lengths still fit
pub record Loads (area' : AreaMeaning) (ls' : Option (List ℕ)) (p : SizedAreaMeaning) (bits : List Bool) (f : ℕ → List ℕ) : Type 0 where
  pub measured : IsMeasured area' ls'
  pub loaded : IsLoadedSizedArea p (place_of area' ls') bits f

pub loads_p : {area : AreaMeaning} {ls : Option (List ℕ)} {p : SizedAreaMeaning} (v : place_of area ls ≡ p) (m : IsMeasured area ls) {area' : AreaMeaning} {ls' : Option (List ℕ)} {packed bits : List Bool} {body : List ℕ} {f : ℕ → List ℕ}
    → ((i : ℕ) → IsSet bits i → IsSet packed i) → IsBodyOf (version_by ls) area.exponent packed body f → HoldsLoaded area area' bits f → LensLoaded area ls ls' bits f → IsValidArea area' → Loads area' ls' p bits f
loads_p {area} {p} v m {area'} {ls'} {bits} {f} sub is holds lens valid' =
    let holds' : HoldsLoaded area (record area { content = area'.content }) bits f = subst (λ a. HoldsLoaded area a bits f) holds.same holds in
    let valid'' : IsValidArea (record area { content = area'.content }) = subst IsValidArea holds.same valid' in
    subst (λ a. Loads a ls' p bits f) (sym holds.same)
    (record {
      measured = measured_new area'.content m sub is holds' lens valid'';
      loaded = subst (λ q. IsLoadedSizedArea q (place_of (record area { content = area'.content }) ls') bits f) v (loaded_new area'.content m sub is holds' lens valid'');
    })

pub body_p : (area : AreaMeaning) (ls : Option (List ℕ)) {p : SizedAreaMeaning} → place_of area ls ≡ p → {w : Version} → version_by ls ≡ w → {bits : List Bool} {body : List ℕ} {f : ℕ → List ℕ} → IsBodyOf p.version p.exponent bits body f
    → IsBodyOf w area.exponent bits body f
body_p area ls v is_w {bits} {body} {f} is = subst (λ x. IsBodyOf x area.exponent bits body f) is_w (subst (λ (q : SizedAreaMeaning). IsBodyOf q.version q.exponent bits body f) (sym v) is)

module _ {area : AreaMeaning} {ls : Option (List ℕ)} {p : SizedAreaMeaning} (v : place_of area ls ≡ p) (m : IsMeasured area ls) {area' : AreaMeaning} {packed : List Bool} (bits : List Bool) {body : List ℕ} (sub : (i : ℕ) → IsSet bits i → IsSet packed i) {f : ℕ → List ℕ}
    (is : IsBodyOf p.version p.exponent packed body f) (valid' : IsValidArea area') where
  pub loads_one : ls ≡ None → ((f : ℕ → List ℕ) → IsBodyOf One area.exponent packed body f → HoldsLoaded area area' bits f) → Loads area' ls p bits f
  loads_one e holds =
      let one : IsBodyOf One area.exponent packed body f = body_p area ls v (ap version_by e) is in
      loads_p v m sub (body_p area ls v refl is) (holds f one)
      (subst (λ x. LensLoaded area x x bits f) (sym e) (lens_one area bits sub one)) valid'

  pub loads_two : (ns ns' : List ℕ) → ls ≡ Some ns → ((f : ℕ → List ℕ) → IsBodyOf Two area.exponent packed body f → HoldsLoaded area area' bits f)
      → ((f : ℕ → List ℕ) → IsBodyOf Two area.exponent packed body f → NotesLoaded ns ns' bits f) → Loads area' (Some ns') p bits f
  loads_two ns ns' e holds notes =
      let two : IsBodyOf Two area.exponent packed body f = body_p area ls v (ap version_by e) is in
      loads_p v m sub (body_p area ls v refl is) (holds f two)
      (subst (λ x. LensLoaded area x (Some ns') bits f) (sym e) (lens_two area (notes f two))) valid'

-- ---- a shelf's area

-- as many chunks are in use as before
pub loaded_some : (b : Bool) (bytes : List ℕ) (o : Option (List ℕ)) → is_some (loaded_over b bytes o) ≡ is_some o
loaded_some b bytes None = refl
loaded_some true bytes (Some old) = refl
loaded_some false bytes (Some old) = refl
