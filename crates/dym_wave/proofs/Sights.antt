-- What a publication adds to a history.
use Rattle.std.proofs.Common.{◌≡◌, ◌+◌, ◌≤◌, Option, None, Some, List, [], ◌∷◌, ◌++◌, length, inl, inr, Result, Ok, Err, OnOk, OnErr, refl, sym, ap, subst, ◌∙◌, arith, length-append, append-nil}
use Rattle.std.specs.List.{AllByRecursion}
use Rattle.dym_view.specs.Commits.{CommitMeaning}
use Rattle.dym_view.specs.Histories.{Beginning, last_commit}
use Rattle.dym_view.proofs.Adding.{last-more}
use Rattle.dym_wave.specs.Publications.{MoreBy, MoreWhere, ViewGrows}

-- what a publication does, refused or not
module _ {T E : Type 0} where
  pub published : (r : Result T E) (old new : Beginning) (c : CommitMeaning) (o : Option CommitMeaning)
      → OnOk r (new ≡ record { history = old.history; commits = old.commits ++ c ∷ [] }) → OnErr r (new ≡ old) → o ≡ Some c → MoreBy o old new
  published (Ok x) old new c o is same at = inr (c, at, is)
  published (Err e) old new c o is same at = inl same

  pub shows : (r : Result T E) (old new : Beginning) (c : CommitMeaning) (o : Option CommitMeaning)
      → OnOk r (new ≡ record { history = old.history; commits = old.commits ++ c ∷ [] }) → o ≡ Some c → OnOk r (last_commit new.commits ≡ o)
  shows (Ok x) old new c o is at = ap (λ (b : Beginning). last_commit b.commits) is ∙ last-more old.commits c ∙ sym at
  shows (Err e) old new c o is at = tt

-- what a history with maybe one commit more still is
pub more_few : (o : Option CommitMeaning) (old new : Beginning) → MoreBy o old new → length new.commits ≤ length old.commits + 1
more_few o old new (inl same) = omega (arith, ap (λ (b : Beginning). length b.commits) same)
more_few o old new (inr (c, at, is)) = omega (arith, ap (λ (b : Beginning). length b.commits) is, length-append old.commits (c ∷ []))

pub more_own : (P : CommitMeaning → Type 0) (o : Option CommitMeaning) (old new : Beginning) → MoreBy o old new → ((c : CommitMeaning) → o ≡ Some c → P c)
    → AllByRecursion P old.commits → AllByRecursion P new.commits
more_own P o old new (inl same) one all = subst (λ (b : Beginning). AllByRecursion P b.commits) (sym same) all
more_own P o old new (inr (c, at, is)) one all = subst (λ (b : Beginning). AllByRecursion P b.commits) (sym is) (push old.commits all)
  where
    push : (cs : List CommitMeaning) → AllByRecursion P cs → AllByRecursion P (cs ++ c ∷ [])
    push [] all = (one c at, tt)
    push (b ∷ cs) all = (all.0, push cs all.1)

-- what is published keeps the name of its history, and only grows
pub still_grows : (view : Option Beginning) → ViewGrows view view
still_grows None = tt
still_grows (Some b) = (refl, ([], append-nil b.commits))

pub more_grows : (o : Option CommitMeaning) (old new : Option Beginning) → MoreWhere o old new → ViewGrows old new
more_grows o None None more = tt
more_grows o None (Some c) more = absurd more
more_grows o (Some b) None more = absurd more
more_grows o (Some b) (Some c) (inl same) = (ap (λ (x : Beginning). x.history) same, ([], append-nil b.commits ∙ ap (λ (x : Beginning). x.commits) (sym same)))
more_grows o (Some b) (Some c) (inr (d, at, is)) = (ap (λ (x : Beginning). x.history) is, (d ∷ [], ap (λ (x : Beginning). x.commits) (sym is)))
