-- Lists that are appended to.
use Rattle.std.proofs.Common.{◌≡◌, ℕ, List, [], ◌++◌, cond, Result, Ok, Err, is_ok, OnOk, sym, ◌∙◌, ap}
use Rattle.std.proofs.lemmas.List.{append-nil, append_assoc}

-- what follows from a fact of an answer that is Ok
pub on_ok : {T E : Type 0} (r : Result T E) (P Q : Type 0) → (P → Q) → OnOk r P → OnOk r Q
on_ok r P Q follows = elim r as (λ v. OnOk v P → OnOk v Q) [ Ok x ↦ follows | Err e ↦ λ none. none ]

-- what a call that appends leaves where it answers Ok
pub appended : {T E : Type 0} (r : Result T E) (new old xs ys : List ℕ) → xs ≡ ys → new ≡ cond (is_ok r) (old ++ xs) old → OnOk r (new ≡ old ++ ys)
appended r new old xs ys same =
    elim r as (λ v. new ≡ cond (is_ok v) (old ++ xs) old → OnOk v (new ≡ old ++ ys)) [ Ok x ↦ λ more. more ∙ ap (λ zs. old ++ zs) same | Err e ↦ λ none. tt ]

-- two parts, and three, that were appended one after the other
pub two_parts : (out first second a b : List ℕ) → first ≡ out ++ a → second ≡ first ++ b → second ≡ out ++ (a ++ b)
two_parts out first second a b one two = two ∙ ap (λ xs. xs ++ b) one ∙ append_assoc out a b

pub three_parts : (out first second third a b d : List ℕ) → first ≡ out ++ a → second ≡ first ++ b → third ≡ second ++ d → third ≡ out ++ (a ++ b ++ d)
three_parts out first second third a b d one two three = two_parts out second third (a ++ b) d (two_parts out first second a b one two) three

-- bytes that are appended part by part to those that stood there: `body` is what is still to come, `all` is everything

pub put_more : (out new part rest body before all : List ℕ) → new ≡ out ++ part → body ≡ part ++ rest → out ++ body ≡ before ++ all → new ++ rest ≡ before ++ all
put_more out new part rest body before all more split so_far =
    ap (λ xs. xs ++ rest) more ∙ append_assoc out part rest ∙ ap (λ ys. out ++ ys) (sym split) ∙ so_far

pub put_all : (out body before all : List ℕ) → body ≡ [] → out ++ body ≡ before ++ all → out ≡ before ++ all
put_all out body before all none so_far = sym (append-nil out) ∙ ap (λ ys. out ++ ys) (sym none) ∙ so_far
