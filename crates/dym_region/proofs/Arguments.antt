-- Functions that use up all their arguments, and structs by the list of their fields. Assumes `Logic`.
use Rattle.std.proofs.Common.{◌≡◌, ℕ, List, [], ◌∷◌, refl, sym, ap, subst}
use lib.Dec.{T}
use seplogic.Ra.Ura.{Ura}
use mir.Syntax.{given as dict_at}
use mir.Val.{Val, vstruct, of_list}
use base.Fraction.{full_share}
use base.Fml.{Fml, ftrue, flft}
use base.Logic.{SProp, ent, sep, emp, id⊢}
use contract.Monad.{fact, fact_i}
use contract.Lifetimes.{Lfts}
use types.Logic.{Logic, sem}
use types.Kit.{Goal, Item, Seq, Step, step, ‵, raw, ◌⊛◌, ◌$◌, ◌∵◌, !, qed, move, use0, group, join, fjoin, fsplit, fpick, fpack, feq_l, feq_i, regoal, rewrite, suffices, done}
use denote.RattleType.{RattleType, Denots, Valss, owns, flat}
use denote.Exit.{Last, left}
use denote.Param.Mute.{blank}
use denote.Signature.{Slot, type_at, types_at}
use denote.Steps.{nothing, only}
use denote.Struct.Struct.{Shape, Struct, within}
use denote.Triple.Clauses.{Ended, Clauses, Lasts, at_exit}
use denote.Triple.End.{Kepts, Fins}
use denote.Triple.Entry.{Res, alive}
use denote.Triple.Walked.{Stays, AllGo, stay_dropped, fits_of, has_of, walk_of, ends_at}
use denote.Param.Laws.{Laws}
use Rattle.std.proofs.alloc.Calls.{Al, Fits, Goes-blank, handle_tells}

-- nothing is had of any argument at the exit
abbrev pub used_up : {n : ℕ} (ss : List (Slot n)) (ks : Kepts ss) → Stays ss ks
used_up [] ks = tt
used_up (s ∷ ss) ks = (stay_dropped s ks.0, used_up ss ks.1)

-- the contract says nothing of them there
abbrev pub Untold : {n : ℕ} (ss : List (Slot n)) (ks : Kepts ss) → Type 0
Untold [] ks = Unit {0}
Untold {n} (s ∷ ss) ks = ((κs : Lfts n) (x : (s.row κs).Denot) (f : Last ((s.row κs).exit ks.0) x) → T (blank (left ((s.row κs).exit ks.0) x f))) × Untold ss ks.1

module _ {M : Type 1} {𝓤 : Ura M} (𝓛 : Logic 𝓤) where
  pub all_go : (n : ℕ) (ss : List (Slot n)) (ks : Kepts ss) → Untold ss ks → AllGo 𝓛 n ss ks (used_up ss ks)
  all_go n [] ks says = tt
  all_go n (s ∷ ss) ks says = (Goes-blank 𝓛 n s ks.0 says.0, all_go n ss ks.1 says.1)

  all_fit : {n : ℕ} (κs : Lfts n) (ss : List (Slot n)) (ks : Kepts ss) (a : Denots (types_at ss κs)) (ws : Fins κs ss ks a) → fits_of κs ss ks (used_up ss ks) a ws
  all_fit κs [] ks a ws = tt
  all_fit κs (s ∷ ss) ks a ws = (tt, all_fit κs ss ks.1 a.1 ws.1)

  all_gone : {n : ℕ} (κs : Lfts n) (ss : List (Slot n)) (ks : Kepts ss) (a : Denots (types_at ss κs)) (ws : Fins κs ss ks a) (vss : Valss (types_at ss κs))
      → ent 𝓤 (emp 𝓤) (sem 𝓛 (has_of κs ss ks (used_up ss ks) a ws vss))
  all_gone κs [] ks a ws vss = id⊢ 𝓤 (emp 𝓤)
  all_gone κs (s ∷ ss) ks a ws vss =
      let Rest : Fml = has_of κs ss ks.1 (used_up ss ks.1) a.1 ws.1 vss.1 in
      qed 𝓛 [] ∵ use0 𝓛 (‵ Rest) (all_gone κs ss ks.1 a.1 ws.1 vss.1) $ nothing ! $ fjoin ! $ done !

  -- such a function ends with its result and the tokens that it began with
  module _ (F : Ended) (c : Clauses 𝓤 F) where
    abbrev spent : Stays F.signature.params F.kept
    spent = used_up F.signature.params F.kept

    pub answers : (y : (walk_of 𝓛 F spent c).Ghost) (v : Val) (r : Res F.signature y.0.0) (ws : Lasts F y.0.0 y.0.3) → ent 𝓤 (emp 𝓤) ((c y.0.0 y.0.3).ensures y.1 r (at_exit F y.0.0 y.0.3 ws))
        → ent 𝓤 (sep 𝓤 (alive 𝓛 F.signature y.0.0 y.0.1) (sem 𝓛 ((type_at F.signature.result y.0.0).own_val r (v ∷ [])))) ((walk_of 𝓛 F spent c).post y v)
    answers y v r ws is =
        let κs = y.0.0 in
        let ss = F.signature.params in
        let Said : SProp 𝓤 = (c κs y.0.3).ensures y.1 r (at_exit F κs y.0.3 ws) in
        qed 𝓛 (raw (alive 𝓛 F.signature κs y.0.1) ∷ ‵ ((type_at F.signature.result κs).own_val r (v ∷ [])) ∷ []) ∵
        suffices ! _ (ends_at 𝓛 F spent c y v r ws (all_fit κs ss F.kept y.0.3 ws)) $
        use0 𝓛 (‵ (has_of κs ss F.kept spent y.0.3 ws y.0.4)) (all_gone κs ss F.kept y.0.3 ws y.0.4) $ move ! (1 ∷ 0 ∷ []) $ group ! 3 $
        use0 𝓛 (raw Said) is $ move ! (1 ∷ 0 ∷ []) $ done !

module _ {M : Type 1} {𝓤 : Ura M} {𝓛 : Logic 𝓤} {K : Type 0} {Γ : List (Item 𝓤)} {G : Goal 𝓤 𝓛.H} where
  -- what is so may be said
  pub so : K → (φ : Type 0) → φ → Step K 𝓛 (raw (fact 𝓤 φ) ∷ Γ) G Γ G
  so t φ is = use0 𝓛 (raw (fact 𝓤 φ)) (fact_i 𝓤 φ (emp 𝓤) is)

  -- the one token of a call at the lifetime of all plain data
  pub lasting : K → Step K 𝓛 ((‵ (flft [] full_share) ⊛ ‵ ftrue) ∷ Γ) G Γ G
  lasting t = step (λ then. nothing t $ use0 𝓛 (‵ (flft [] full_share)) (𝓛.lfts.lft-nil full_share) $ join t $ then)

-- a struct by its fields: neither its name nor its lifetimes say what it owns
abbrev pub made_of : List RattleType → Shape
made_of Rs = record { name = []; args = []; types = []; fields = Rs }

module _ {M : Type 1} {𝓤 : Ura M} {𝓛 : Logic 𝓤} {K : Type 0} {Γ : List (Item 𝓤)} {G : Goal 𝓤 𝓛.H} where
  pub makes : K → (Rs : List RattleType) (a : Denots Rs) (vss : Valss Rs) → Step K 𝓛 (‵ ((Struct (made_of Rs)).own_val a (vstruct (of_list (flat Rs vss)) ∷ [])) ∷ Γ) G (‵ (owns Rs a vss) ∷ Γ) G
  makes t Rs a vss = step (λ then.
      let v = vstruct (of_list (flat Rs vss)) in
      feq_i t (List Val) (v ∷ []) (v ∷ []) refl $ fjoin t $ fpack t (Valss Rs) (within (made_of Rs) a (v ∷ [])) vss $ then)

  pub opens : K → (Rs : List RattleType) (a : Denots Rs) (vs : List Val) → ((vss : Valss Rs) → vs ≡ vstruct (of_list (flat Rs vss)) ∷ [] → Seq K 𝓛 (‵ (owns Rs a vss) ∷ Γ) G)
      → Seq K 𝓛 (‵ ((Struct (made_of Rs)).own_val a vs) ∷ Γ) G
  opens t Rs a vs then = fpick t (λ vss. fsplit t $ feq_l t (then vss))

-- the library's steps for a value that is handed on whole, at any type
abbrev pub handed : (R : RattleType) → Laws R → Al
handed R laws = record {
  row = R;
  laws = laws;
  g = record { dealloc_token = λ _ _ _. ftrue };
  d = dict_at 0;
  drops = dict_at 0;
}

module _ (Z : Al) (x : Z.row.Denot) {M : Type 1} {𝓤 : Ura M} {𝓛 : Logic 𝓤} {K : Type 0} {Γ : List (Item 𝓤)} {G : Goal 𝓤 𝓛.H} where
  -- an argument is one machine value, and the goal speaks of it
  pub passed : K → (vs : List Val) (F : List Val → Goal 𝓤 𝓛.H) → F vs ≡ G → ((v : Val) → Fits Z v → Seq K 𝓛 (‵ (Z.row.own_val x (v ∷ [])) ∷ Γ) (F (v ∷ []))) → Seq K 𝓛 (‵ (Z.row.own_val x vs) ∷ Γ) G
  passed t vs F is then = handle_tells Z t x vs (λ v one fits. regoal t F one is $ then v fits)

  -- what a call returned is of its type
  pub suits : K → (v : Val) → (Fits Z v → Seq K 𝓛 (‵ (Z.row.own_val x (v ∷ [])) ∷ Γ) G) → Seq K 𝓛 (‵ (Z.row.own_val x (v ∷ [])) ∷ Γ) G
  suits t v then = handle_tells Z t x (v ∷ []) (λ u one fits.
      let same : u ≡ v = sym (ap only one) in
      rewrite t 0 (λ w. ‵ (Z.row.own_val x (w ∷ []))) same refl $ then (subst (Fits Z) same fits))
