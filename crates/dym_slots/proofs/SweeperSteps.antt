-- Each step of the sweeper keeps the facts.
use Rattle.std.proofs.Common.{◌≡◌, ℕ, ◌+◌, ◌<◌, ◌≤◌, inl, inr, sym, ◌∙◌, subst, refl, arith, true, false, Some, None, nat_eq}
use Rattle.std.specs.Prelude.{if◌then◌else◌}
use Rattle.std.proofs.lemmas.Bool.{cases_eq, cases_lt}
use Rattle.std.proofs.lemmas.Bool.Decides.{nat_tests}
use Rattle.std.proofs.lemmas.List.{length-set}
use Rattle.dym_slots.specs.declared.machine.Slot.{Slot}
use Rattle.dym_slots.specs.declared.machine.Slot.TheVariants.{Free, Live, OutOwner, OutSweeper}
use Rattle.dym_slots.specs.Slots.{Core, state_of}
use Rattle.dym_slots.specs.SlotSteps.{SweeperReadsRoot, SweeperLooks, SweeperGrabs, SweeperEmpties, SweeperFrees, is_retired}
use Rattle.dym_slots.specs.SlotFacts.{Facts}
use Rattle.dym_slots.proofs.SlotPlaces.{written, inside_live, inside_sweeper, list_kept, home_keeps, remembered_kept}

pub root_keeps : (c d : Core) → SweeperReadsRoot c d → Facts c → Facts d
root_keeps c d h f =
    subst Facts (sym h.after) record {
      homes = f.homes;
      list = list_kept c f.list;
      seen = omega arith;
      entries = f.entries;
      live = record { at_home = f.live.at_home; listed_or_retired = f.live.listed_or_retired };
      owner = record { held = f.owner.held; out = f.owner.out; number = f.owner.number };
      sweeper = record {
        held = f.sweeper.held;
        out = f.sweeper.out;
        number = λ t n o. let wrong : None ≡ Some t = sym h.idle ∙ f.sweeper.held t n o in cc;
      };
      free = f.free;
      remembered = record { state = f.remembered.state; only_last = f.remembered.only_last };
      clean = λ t n lt l. absurd (omega arith);
    }

-- the slot at the clean count is clean where the count rises
pub look_cleans : (s : ℕ) (c : Core) (w : Slot) → w ≡ state_of c s → Facts c → s ≡ c.sweeper.clean → (t n : ℕ) →
    t < (if is_retired c.sweeper.root_seen w then c.sweeper.clean else (c.sweeper.clean + 1)) → state_of c t ≡ Live n → c.sweeper.root_seen ≤ n
look_cleans s c w is f turn t n lt l = elim (cases_lt t c.sweeper.clean) [
  | inl below ↦ f.clean t n below l
  | inr ge ↦ elim (cases_eq t s) [
    | inl same ↦ elim (cases_lt n c.sweeper.root_seen) [
      | inl past ↦
          let live : w ≡ Live n = is ∙ (rw (← same) l) in
          let retired : is_retired c.sweeper.root_seen w ≡ true = rw live (grind (arith, nat_tests)) in
          let short = rw retired at lt in
          absurd (omega arith)
      | inr kept ↦ kept
    ]
    | inr other ↦ elim (is_retired c.sweeper.root_seen w) as (λ b. t < (if b then c.sweeper.clean else (c.sweeper.clean + 1)) → c.sweeper.root_seen ≤ n) [
      | true ↦ λ low. absurd (omega arith)
      | false ↦ λ low. absurd (other (omega arith))
    ] lt
  ]
]

pub sweeper_look_keeps : (s : ℕ) (c d : Core) → SweeperLooks s c d → Facts c → Facts d
sweeper_look_keeps s c d h f =
    subst Facts (sym h.after) record {
      homes = f.homes;
      list = list_kept c f.list;
      seen = f.seen;
      entries = f.entries;
      live = record { at_home = f.live.at_home; listed_or_retired = f.live.listed_or_retired };
      owner = record { held = f.owner.held; out = f.owner.out; number = f.owner.number };
      sweeper = record { held = f.sweeper.held; out = f.sweeper.out; number = f.sweeper.number };
      free = f.free;
      remembered = record { state = f.remembered.state; only_last = f.remembered.only_last };
      clean = λ t n lt l. look_cleans s c (state_of c s) refl f h.in_turn t n lt l;
    }

pub grab_keeps : (s : ℕ) (c d : Core) → SweeperGrabs s c d → Facts c → Facts d
grab_keeps s c d h f =
    let at = λ (t : ℕ). written c.slots s t (OutSweeper h.number) Free (inside_live c s h.number h.live) in
    let idle = h.idle in
    let live = h.live in
    let retired = h.retired in
    subst Facts (sym h.after) record {
      homes = f.homes ∙ sym (length-set c.slots s (OutSweeper h.number));
      list = list_kept c f.list;
      seen = f.seen;
      entries = λ t n e.
          let a = at t in
          let had = f.entries t n e in
          let from = f.list.from_root t n e in
          let seen = f.seen in
          grind arith;
      live = record {
        at_home = λ t n l. let a = at t in grind (arith, f.live.at_home t n);
        listed_or_retired = λ t n l. let a = at t in grind (arith, f.live.listed_or_retired t n);
      };
      owner = record {
        held = λ t n o. let a = at t in grind (arith, f.owner.held t n);
        out = λ t o. let a = at t in let old = f.owner.out t o in (old.0, grind arith);
        number = λ t n o. let a = at t in grind (arith, f.owner.number t n);
      };
      sweeper = record {
        held = λ t n o. let a = at t in grind (arith, f.sweeper.held t n);
        out = λ t o. let a = at t in (h.number, grind arith);
        number = λ t n o. let a = at t in let was = f.sweeper.held t n in grind arith;
      };
      free = λ t e. let a = at t in grind (arith, f.free t);
      remembered = remembered_kept c _ refl
          (λ t has. elim (f.remembered.state t has) [
            | inl (n, out) ↦ let wrong : c.sweeper.out ≡ Some t = f.sweeper.held t n out in cc
            | inr (inl was) ↦ let a = at t in inr (inl (grind arith))
            | inr (inr reused) ↦ let out = reused.1.1.0 in let a = at t in inr (inr (reused.0, (reused.1.0, (grind arith, reused.1.1.1))))
          ])
          (λ t n out has. elim (at t) [
            | inl p ↦ elim (f.remembered.state t has) [
              | inl swept ↦ swept
              | inr (inl was) ↦ let wrong : Free ≡ Live h.number = sym was ∙ (rw p.0 live) in cc
              | inr (inr reused) ↦ let wrong : OutOwner reused.1.0 ≡ Live h.number = sym reused.1.1.0 ∙ (rw p.0 live) in cc
            ]
            | inr q ↦ (n, sym q.1 ∙ out)
          ])
          f.remembered;
      clean = λ t n lt l. let a = at t in grind (arith, f.clean t n);
    }

pub sweeper_empty_keeps : (s : ℕ) (c d : Core) → SweeperEmpties s c d → Facts c → Facts d
sweeper_empty_keeps s c d h f = subst Facts (sym h.after) (home_keeps c s None (inr (f.sweeper.out s h.holds)) f)

pub sweeper_free_keeps : (s : ℕ) (c d : Core) → SweeperFrees s c d → Facts c → Facts d
sweeper_free_keeps s c d h f =
    let out = f.sweeper.out s h.holds in
    let swept = out.1 in
    let holds = h.holds in
    let home = h.empty in
    let at = λ (t : ℕ). written c.slots s t Free Free (inside_sweeper c s out.0 out.1) in
    subst Facts (sym h.after) record {
      homes = f.homes ∙ sym (length-set c.slots s Free);
      list = list_kept c f.list;
      seen = f.seen;
      entries = λ t n e. let a = at t in let had = f.entries t n e in grind arith;
      live = record {
        at_home = λ t n l. let a = at t in grind (arith, f.live.at_home t n);
        listed_or_retired = λ t n l. let a = at t in grind (arith, f.live.listed_or_retired t n);
      };
      owner = record {
        held = λ t n o. let a = at t in grind (arith, f.owner.held t n);
        out = λ t o. let a = at t in let old = f.owner.out t o in (old.0, grind arith);
        number = λ t n o. let a = at t in grind (arith, f.owner.number t n);
      };
      sweeper = record {
        held = λ t n o. elim (at t) [
          | inl p ↦ let wrong : Free ≡ OutSweeper n = sym p.1 ∙ o in cc
          | inr q ↦ let e : Some s ≡ Some t = sym holds ∙ f.sweeper.held t n (sym q.1 ∙ o) in absurd (q.0 cc)
        ];
        out = λ t o. absurd cc;
        number = λ t n o. let a = at t in grind (arith, f.sweeper.number t n);
      };
      free = λ t e. let a = at t in grind (arith, f.free t);
      remembered = remembered_kept c _ refl
          (λ t has. elim (f.remembered.state t has) [
            | inl (n, o) ↦
                let e : Some s ≡ Some t = sym holds ∙ f.sweeper.held t n o in
                let same : s ≡ t = cc in
                let a = at t in
                inr (inl (grind arith))
            | inr (inl was) ↦ let a = at t in inr (inl (grind arith))
            | inr (inr reused) ↦ let o = reused.1.1.0 in let a = at t in inr (inr (reused.0, (reused.1.0, (grind arith, reused.1.1.1))))
          ])
          (λ t n o has. let a = at t in (n, grind arith))
          f.remembered;
      clean = λ t n lt l. elim (at t) [
        | inl p ↦ let wrong : Free ≡ Live n = sym p.1 ∙ l in cc
        | inr q ↦ f.clean t n (elim (cases_eq s c.sweeper.clean) [
          | inl same ↦ let higher : nat_eq s c.sweeper.clean ≡ true = grind (arith, nat_tests) in let low = rw higher at lt in let other = q.0 in omega arith
          | inr differs ↦ let stays : nat_eq s c.sweeper.clean ≡ false = grind (arith, nat_tests) in rw stays at lt
        ]) (sym q.1 ∙ l)
      ];
    }
