-- Each step of the owner keeps the facts.
use Rattle.std.proofs.Common.{◌≡◌, ◌≢◌, ℕ, ◌<◌, ◌⊎◌, inl, inr, [], ◌∷◌, ◌++◌, length, get_or, set, sym, ◌∙◌, ap, subst, refl, arith, true, false, Some, None, not, nat_eq, nat_le}
use Rattle.std.proofs.lemmas.Bool.{cases_eq, cases_lt}
use Rattle.std.proofs.lemmas.Bool.Decides.{nat_tests}
use Rattle.std.specs.List.{Contains, list_any}
use Rattle.std.specs.Prelude.{if◌then◌else◌}
use Rattle.std.proofs.lemmas.List.Folds.{list_any_at}
use Rattle.std.proofs.lemmas.List.{length-set}
use Rattle.std.proofs.lemmas.List.Elements.{Contains-get_or, Contains-append_left, Contains-push, Contains-push_cases}
use Rattle.std.proofs.lemmas.List.Quantifiers.{all_pairs_push}
use Rattle.std.proofs.lemmas.List.Kept.{AllPairs-filter}
use Rattle.dym_slots.specs.declared.machine.Entry.{Entry}
use Rattle.dym_slots.specs.declared.machine.Slot.{Slot}
use Rattle.dym_slots.specs.declared.machine.Slot.TheVariants.{Free, Live, OutOwner, OutSweeper}
use Rattle.dym_slots.specs.Slots.{Core, state_of, entry, IsEntry, IsListed}
use Rattle.dym_slots.specs.SlotSteps.{OwnerLooks, OwnerClaims, OwnerTakes, OwnerEmpties, OwnerFills, OwnerPuts, OwnerLowers, OwnerFrees, OwnerRaises, remember, without, from_number}
use Rattle.dym_slots.specs.SlotFacts.{Facts, RememberedIsPast, IsSwept}
use Rattle.dym_slots.proofs.SlotPlaces.{written, inside_live, inside_owner, one_slot, list_kept, sweeper_kept, home_keeps, remembered_kept, from_filter, into_filter}

-- a slot that was Live, or Free and takes the next number, goes out with the owner
out_keeps : (c : Core) (s n : ℕ) → s < length c.slots → c.owner.out ≡ None → (state_of c s ≡ Live n) ⊎ ((state_of c s ≡ Free) × (n ≡ c.owner.next)) → Facts c
    → Facts (record c { slots = set c.slots s (OutOwner n); owner = record c.owner { out = Some s } })
out_keeps c s n inside idle was f =
    let at = λ (t : ℕ). written c.slots s t (OutOwner n) Free inside in
    let known : IsEntry c s n ⊎ ((n < c.root) ⊎ (n ≡ c.owner.next)) = elim was [
      | inl live ↦ elim (f.live.listed_or_retired s n live) [ inl e ↦ inl e | inr lt ↦ inr (inl lt) ]
      | inr new ↦ inr (inr new.1)
    ] in
    record {
      homes = f.homes ∙ sym (length-set c.slots s (OutOwner n));
      list = list_kept c f.list;
      seen = f.seen;
      entries = λ t m e. let a = at t in let had = f.entries t m e in grind arith;
      live = record {
        at_home = λ t m l. let a = at t in grind (arith, f.live.at_home t m);
        listed_or_retired = λ t m l. let a = at t in grind (arith, f.live.listed_or_retired t m);
      };
      owner = record {
        held = λ t m o. let a = at t in grind (arith, f.owner.held t m);
        out = λ t o. let a = at t in (n, grind arith);
        number = λ t m o. let a = at t in grind (arith, f.owner.number t m);
      };
      sweeper = sweeper_kept c (λ t m o. let a = at t in grind arith) (λ t m o. let a = at t in grind arith) f.sweeper;
      free = λ t e. let a = at t in grind (arith, f.free t);
      remembered = remembered_kept c _ refl
          (λ t has. elim (f.remembered.state t has) [
            | inl (m, out) ↦ let a = at t in inl (m, grind arith)
            | inr (inl free) ↦ elim (at t) [
              | inl p ↦ elim was [
                | inl live ↦ let wrong : Free ≡ Live n = sym free ∙ (rw p.0 live) in cc
                | inr new ↦ inr (inr (ap Some (sym p.0), (n, (p.1, λ (x, e). let below = f.list.below_next x n e in let next = new.1 in absurd (omega arith)))))
              ]
              | inr q ↦ inr (inl (q.1 ∙ free))
            ]
            | inr (inr reused) ↦ let o : c.owner.out ≡ Some t = reused.0 in cc
          ])
          (λ t m out has. let a = at t in (m, grind arith))
          f.remembered;
      clean = λ t m lt l. let a = at t in grind (arith, f.clean t m);
    }

pub claim_keeps : (s : ℕ) (c d : Core) → OwnerClaims s c d → Facts c → Facts d
claim_keeps s c d h f = subst Facts (sym h.after) (out_keeps c s c.owner.next h.exists h.idle (inr (h.free, refl)) f)

pub take_keeps : (s : ℕ) (c d : Core) → OwnerTakes s c d → Facts c → Facts d
take_keeps s c d h f = subst Facts (sym h.after) (out_keeps c s h.number (inside_live c s h.number h.live) h.idle (inl h.live) f)

pub empty_keeps : (s : ℕ) (c d : Core) → OwnerEmpties s c d → Facts c → Facts d
empty_keeps s c d h f = subst Facts (sym h.after) (home_keeps c s None (inl (f.owner.out s h.holds)) f)

pub fill_keeps : (s n : ℕ) (c d : Core) → OwnerFills s n c d → Facts c → Facts d
fill_keeps s n c d h f = subst Facts (sym h.after) (home_keeps c s (Some n) (inl (f.owner.out s h.holds)) f)

pub put_keeps : (s : ℕ) (c d : Core) → OwnerPuts s c d → Facts c → Facts d
put_keeps s c d h f =
    let at = λ (t : ℕ). written c.slots s t (Live c.owner.next) Free (inside_owner c s h.number h.out) in
    let new = entry s c.owner.next in
    let out = h.out in
    let home = h.at_home in
    let holds = h.holds in
    let elsewhere : (t n : ℕ) → IsEntry c t n → t ≢ s = λ t n e here. elim (f.entries t n e) [
      | inl live ↦ let wrong : Live n ≡ OutOwner h.number = rw here at (sym live) ∙ out in cc
      | inr found ↦
          let same : OutOwner n ≡ OutOwner h.number = sym found.0 ∙ (rw here out) in
          let number : n ≡ h.number = cc in
          h.unlisted (t, subst (λ m. IsEntry c t m) number e)
    ] in
    subst Facts (sym h.after) record {
      homes = f.homes ∙ sym (length-set c.slots s (Live c.owner.next));
      list = record {
        numbers_rise = all_pairs_push (λ a b. a.number < b.number) c.owner.list new f.list.numbers_rise (λ k d lt. f.list.below_next _ _ (Contains-get_or c.owner.list k d lt));
        slots_differ = all_pairs_push (λ a b. a.slot ≢ b.slot) c.owner.list new f.list.slots_differ (λ k d lt. elsewhere _ _ (Contains-get_or c.owner.list k d lt));
        from_root = λ t n e. elim (Contains-push_cases c.owner.list new (entry t n) e) [
          | inl old ↦ f.list.from_root t n old
          | inr is ↦ let same : c.owner.next ≡ n = ap (λ (x : Entry). x.number) is in let b = f.list.root_below_next in omega arith
        ];
        below_next = λ t n e. elim (Contains-push_cases c.owner.list new (entry t n) e) [
          | inl old ↦ let b = f.list.below_next t n old in omega arith
          | inr is ↦ let same : c.owner.next ≡ n = ap (λ (x : Entry). x.number) is in omega arith
        ];
        root_below_next = let b = f.list.root_below_next in omega arith;
      };
      seen = f.seen;
      entries = λ t n e. elim (Contains-push_cases c.owner.list new (entry t n) e) [
        | inl old ↦ let a = at t in let other = elsewhere t n old in let had = f.entries t n old in grind arith
        | inr is ↦ let slot : s ≡ t = ap (λ (x : Entry). x.slot) is in let same : c.owner.next ≡ n = ap (λ (x : Entry). x.number) is in let a = at t in inl (grind arith)
      ];
      live = record {
        at_home = λ t n l. let a = at t in grind (arith, f.live.at_home t n);
        listed_or_retired = λ t n l. elim (at t) [
          | inl p ↦
              let same : Live c.owner.next ≡ Live n = sym p.1 ∙ l in
              let number : c.owner.next ≡ n = cc in
              let e : new ≡ entry t n = rw (p.0, number) refl in
              inl (subst (λ x. Contains (c.owner.list ++ new ∷ []) x) e (Contains-push c.owner.list new))
          | inr q ↦ elim (f.live.listed_or_retired t n (sym q.1 ∙ l)) [
            | inl old ↦ inl (Contains-append_left c.owner.list (new ∷ []) (entry t n) old)
            | inr past ↦ inr past
          ]
        ];
      };
      owner = record {
        held = λ t n o. let a = at t in let was = f.owner.held t n in grind arith;
        out = λ t o. absurd cc;
        number = λ t n o. let a = at t in let was = f.owner.held t n in grind arith;
      };
      sweeper = sweeper_kept c (λ t n o. let a = at t in grind arith) (λ t n o. let a = at t in grind arith) f.sweeper;
      free = λ t e. let a = at t in grind (arith, f.free t);
      remembered = record { state = λ t has. absurd (let none = has.1 in omega arith); only_last = λ i j k lt within. absurd (omega arith) };
      clean = λ t n lt l. let a = at t in let b = f.list.root_below_next in let b2 = f.seen in grind (arith, f.clean t n);
    }

pub lower_keeps : (s : ℕ) (c d : Core) → OwnerLowers s c d → Facts c → Facts d
lower_keeps s c d h f =
    let at = λ (t : ℕ). written c.slots s t (Live h.number) Free (inside_owner c s h.number h.out) in
    let out = h.out in
    let home = h.at_home in
    let holds = h.holds in
    let own : IsEntry c s h.number = elim (f.owner.number s h.number out) [
      | inl e ↦ e
      | inr (inl past) ↦ let from = f.list.from_root h.listed.0 h.number h.listed.1 in absurd (omega arith)
      | inr (inr next) ↦ let below = f.list.below_next h.listed.0 h.number h.listed.1 in absurd (omega arith)
    ] in
    let from = f.list.from_root s h.number own in
    subst Facts (sym h.after) record {
      homes = f.homes ∙ sym (length-set c.slots s (Live h.number));
      list = list_kept c f.list;
      seen = f.seen;
      entries = λ t n e. let a = at t in let had = f.entries t n e in grind arith;
      live = record {
        at_home = λ t n l. let a = at t in grind (arith, f.live.at_home t n);
        listed_or_retired = λ t n l. let a = at t in grind (arith, f.live.listed_or_retired t n);
      };
      owner = record {
        held = λ t n o. let a = at t in let was = f.owner.held t n in grind arith;
        out = λ t o. absurd cc;
        number = λ t n o. let a = at t in let was = f.owner.held t n in grind arith;
      };
      sweeper = sweeper_kept c (λ t n o. let a = at t in grind arith) (λ t n o. let a = at t in grind arith) f.sweeper;
      free = λ t e. let a = at t in grind (arith, f.free t);
      remembered = remembered_kept c _ refl
          (λ t has. elim (f.remembered.state t has) [
            | inl (n, swept) ↦ let a = at t in inl (n, grind arith)
            | inr (inl was) ↦ let a = at t in inr (inl (grind arith))
            | inr (inr reused) ↦
                let same : s ≡ t = let e : Some s ≡ Some t = sym holds ∙ reused.0 in cc in
                let e : OutOwner h.number ≡ OutOwner reused.1.0 = sym out ∙ (rw same reused.1.1.0) in
                let number : h.number ≡ reused.1.0 = cc in
                absurd (reused.1.1.1 (subst (λ m. IsListed c m) number h.listed))
          ])
          (λ t n swept has. let a = at t in (n, grind arith))
          f.remembered;
      clean = λ t n lt l. let a = at t in let past = f.seen in grind (arith, f.clean t n);
    }

pub free_keeps : (s : ℕ) (c d : Core) → OwnerFrees s c d → Facts c → Facts d
free_keeps s c d h f =
    let at = λ (t : ℕ). written c.slots s t Free Free (inside_owner c s h.number h.out) in
    let out = h.out in
    let home = h.empty in
    let holds = h.holds in
    let keep = λ (e : Entry). not (nat_eq e.number h.number) in
    let old : (t n : ℕ) → Contains (without h.number c.owner.list) (entry t n) → IsEntry c t n × (n ≢ h.number) = λ t n e.
    let k = from_filter keep c.owner.list (entry t n) e in (k.0, λ same. let wrong = k.1 in grind (arith, nat_tests)) in
    let elsewhere : (t n : ℕ) → IsEntry c t n → n ≢ h.number → t ≢ s = λ t n e other here. elim (f.entries t n e) [
      | inl live ↦ let wrong : Live n ≡ OutOwner h.number = rw here at (sym live) ∙ out in cc
      | inr found ↦
          let same : OutOwner n ≡ OutOwner h.number = sym found.0 ∙ (rw here out) in
          other cc
    ] in
    let alone : (t : ℕ) → IsEntry c t h.number → t ≡ s = λ t e. elim (f.owner.number s h.number out) [
      | inl own ↦ one_slot c f.list t s h.number e own
      | inr (inl past) ↦ let from = f.list.from_root t h.number e in absurd (omega arith)
      | inr (inr next) ↦ let below = f.list.below_next t h.number e in absurd (omega arith)
    ] in
    subst Facts (sym h.after) record {
      homes = f.homes ∙ sym (length-set c.slots s Free);
      list = record {
        numbers_rise = AllPairs-filter (λ a b. a.number < b.number) keep c.owner.list f.list.numbers_rise;
        slots_differ = AllPairs-filter (λ a b. a.slot ≢ b.slot) keep c.owner.list f.list.slots_differ;
        from_root = λ t n e. f.list.from_root t n (old t n e).0;
        below_next = λ t n e. f.list.below_next t n (old t n e).0;
        root_below_next = f.list.root_below_next;
      };
      seen = f.seen;
      entries = λ t n e. let was = old t n e in let a = at t in let other = elsewhere t n was.0 was.1 in let had = f.entries t n was.0 in grind arith;
      live = record {
        at_home = λ t n l. let a = at t in grind (arith, f.live.at_home t n);
        listed_or_retired = λ t n l. elim (at t) [
          | inl p ↦ let wrong : Free ≡ Live n = sym p.1 ∙ l in cc
          | inr q ↦ elim (f.live.listed_or_retired t n (sym q.1 ∙ l)) [
            | inl e ↦ inl (into_filter keep c.owner.list (entry t n) e (elim (cases_eq n h.number) [
              | inl same ↦ absurd (q.0 (alone t (subst (λ m. IsEntry c t m) same e)))
              | inr other ↦ grind (arith, nat_tests)
            ]))
            | inr past ↦ inr past
          ]
        ];
      };
      owner = record {
        held = λ t n o. let a = at t in let was = f.owner.held t n in grind arith;
        out = λ t o. absurd cc;
        number = λ t n o. elim (at t) [
          | inl p ↦ let wrong : Free ≡ OutOwner n = sym p.1 ∙ o in cc
          | inr q ↦ let e : Some s ≡ Some t = sym holds ∙ f.owner.held t n (sym q.1 ∙ o) in absurd (q.0 cc)
        ];
      };
      sweeper = sweeper_kept c (λ t n o. let a = at t in grind arith) (λ t n o. let a = at t in grind arith) f.sweeper;
      free = λ t e. let a = at t in grind (arith, f.free t);
      remembered = remembered_kept c _ refl
          (λ t has. elim (f.remembered.state t has) [
            | inl (n, swept) ↦ let a = at t in inl (n, grind arith)
            | inr (inl was) ↦ let a = at t in inr (inl (grind arith))
            | inr (inr reused) ↦
                let same : Some t ≡ Some s = sym reused.0 ∙ holds in
                let here : t ≡ s = cc in
                let a = at t in
                inr (inl (grind arith))
          ])
          (λ t n swept has. let a = at t in (n, grind arith))
          f.remembered;
      clean = λ t n lt l. let a = at t in grind (arith, f.clean t n);
    }

pub raise_keeps : (n : ℕ) (c d : Core) → OwnerRaises n c d → Facts c → Facts d
raise_keeps n c d h f =
    let idle = h.idle in
    let keep = λ (e : Entry). nat_le n e.number in
    let old : (t m : ℕ) → Contains (from_number n c.owner.list) (entry t m) → IsEntry c t m = λ t m e. (from_filter keep c.owner.list (entry t m) e).0 in
    let from = f.list.from_root h.listed.0 n h.listed.1 in
    subst Facts (sym h.after) record {
      homes = f.homes;
      list = record {
        numbers_rise = AllPairs-filter (λ a b. a.number < b.number) keep c.owner.list f.list.numbers_rise;
        slots_differ = AllPairs-filter (λ a b. a.slot ≢ b.slot) keep c.owner.list f.list.slots_differ;
        from_root = λ t m e. let k = (from_filter keep c.owner.list (entry t m) e).1 in grind (arith, nat_tests);
        below_next = λ t m e. f.list.below_next t m (old t m e);
        root_below_next = let below = f.list.below_next h.listed.0 n h.listed.1 in omega arith;
      };
      seen = let b = f.seen in omega arith;
      entries = λ t m e. f.entries t m (old t m e);
      live = record {
        at_home = f.live.at_home;
        listed_or_retired = λ t m l. elim (f.live.listed_or_retired t m l) [
          | inl e ↦ elim (cases_lt m n) [
            | inl lt ↦ inr lt
            | inr ge ↦ inl (into_filter keep c.owner.list (entry t m) e (grind (arith, nat_tests)))
          ]
          | inr past ↦ inr (omega arith)
        ];
      };
      owner = record {
        held = f.owner.held;
        out = f.owner.out;
        number = λ t m o. let wrong : None ≡ Some t = sym idle ∙ f.owner.held t m o in cc;
      };
      sweeper = record { held = f.sweeper.held; out = f.sweeper.out; number = f.sweeper.number };
      free = f.free;
      remembered = remembered_kept c _ refl
          (λ t has. elim (f.remembered.state t has) [
            | inl swept ↦ inl swept
            | inr (inl was) ↦ inr (inl was)
            | inr (inr reused) ↦ let wrong : None ≡ Some t = sym idle ∙ reused.0 in cc
          ])
          (λ t m swept has. (m, swept))
          f.remembered;
      clean = f.clean;
    }

-- a look remembers a slot that is out with the sweeper, and none that was remembered before is
pub look_remembers : (s : ℕ) (c : Core) (w : Slot) → w ≡ state_of c s → Facts c →
    RememberedIsPast (record c { owner = record c.owner { remembered = remember w s c.owner.remembered } })
look_remembers s c (OutSweeper n) is f = elim (list_any (λ t. nat_eq t s) c.owner.remembered) as (λ b. list_any (λ t. nat_eq t s) c.owner.remembered ≡ b → RememberedIsPast (record c { owner = record c.owner { remembered = if b then c.owner.remembered else (c.owner.remembered ++ s ∷ []) } })) [
  | true ↦ λ known. record { state = f.remembered.state; only_last = f.remembered.only_last }
  | false ↦ λ new. record {
    state = λ t has. elim (Contains-push_cases c.owner.remembered s t has) [
      | inl old ↦ f.remembered.state t old
      | inr same ↦ inl (n, rw (← same) (sym is))
    ];
    only_last = all_pairs_push (λ earlier later. ¬ IsSwept c earlier) c.owner.remembered s f.remembered.only_last (λ k d lt swept.
        let t = get_or c.owner.remembered k d in
        let both : Some t ≡ Some s = sym (f.sweeper.held t swept.0 swept.1) ∙ f.sweeper.held s n (sym is) in
        let same : t ≡ s = cc in
        let passes : nat_eq t s ≡ true = grind (arith, nat_tests) in
        let found : list_any (λ t. nat_eq t s) c.owner.remembered ≡ true = list_any_at (λ t. nat_eq t s) c.owner.remembered k d lt passes in
        let wrong : false ≡ true = sym new ∙ found in cc);
  }
] refl
look_remembers s c _ is f = record { state = f.remembered.state; only_last = f.remembered.only_last }

pub look_keeps : (s : ℕ) (c d : Core) → OwnerLooks s c d → Facts c → Facts d
look_keeps s c d h f =
    let idle = h.exists in
    subst Facts (sym h.after) record {
      homes = f.homes;
      list = list_kept c f.list;
      seen = f.seen;
      entries = f.entries;
      live = record { at_home = f.live.at_home; listed_or_retired = f.live.listed_or_retired };
      owner = record { held = f.owner.held; out = f.owner.out; number = f.owner.number };
      sweeper = record { held = f.sweeper.held; out = f.sweeper.out; number = f.sweeper.number };
      free = f.free;
      remembered = look_remembers s c (state_of c s) refl f;
      clean = f.clean;
    }
