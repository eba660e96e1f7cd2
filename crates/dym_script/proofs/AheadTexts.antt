-- The parts of a text, which were read ahead, one after another.
use Rattle.std.proofs.Common.{◌≡◌, ℕ, ◌+◌, ◌<◌, List, [], ◌∷◌, ◌++◌, length, drop, get_or, flat_map, Result, Ok, Err}
use Rattle.std.proofs.Common.{Bor, sym, ap, subst, ◌∙◌, arith, length-append, append_assoc}
use Rattle.std.specs.Result.{IsErr, IsErrAnd}
use Rattle.std.proofs.Math.Seq.{get_or-append_seam}
use Rattle.std.proofs.lemmas.List.{drop_more}
use Rattle.dym_base.specs.Lines.{lines_of}
use Rattle.dym_script.specs.declared.script.ScriptFail.{ScriptFail}
use Rattle.dym_script.specs.declared.script.ScriptFail.TheVariants as fail
use Rattle.dym_script.specs.Scripts.{Reading, read_lines}
use Rattle.dym_script.specs.Pieces.{ReadsFront}

-- the next element of a list that a loop goes over by value
pub next_at : {X : Type 0} → (all before rest others : List X) (x d : X) (k : ℕ) → all ≡ before ++ rest → rest ≡ x ∷ others → k ≡ length before → get_or all k d ≡ x
next_at all before rest others x d k whole cut at =
    ap (λ l. get_or l k d) (whole ∙ ap (λ l. before ++ l) cut) ∙ ap (λ i. get_or (before ++ x ∷ others) i d) at ∙ get_or-append_seam before x others d

-- it has a place in each list that is as long
pub next_within : {X Y : Type 0} → (all before rest others : List X) (x : X) (ys : List Y) (k : ℕ) → all ≡ before ++ rest → rest ≡ x ∷ others
    → k ≡ length before → length all ≡ length ys → k < length ys
next_within all before rest others x ys k whole cut at long = omega (arith, at, long, ap length whole, ap length cut, length-append before rest)

-- the lines of these texts
abbrev pub all_lines : List (Bor (List ℕ)) → List (List ℕ)
all_lines parts = flat_map (λ (part : Bor (List ℕ)). lines_of part.now) parts

-- where some lines were read up to others, and the first of these are read, the rest of them is left
pub front_more : (Before Mid After : Reading → Type 0) (n m k : ℕ) (lines first left next : List (List ℕ)) (result : Result Unit ScriptFail) → next ≡ first ++ left
    → ReadsFront Before Mid n m lines next (Ok tt) → ReadsFront Mid After m k first [] result → ReadsFront Before After n k lines left result
front_more Before Mid After n m k lines first left next (Ok _) is reads more = λ old stands.
    let (mid, between, front) = reads old stands in
    let (new, after, back) = more mid between in (
      new,
      after,
      λ others. front others ∙ ap (λ ls. read_lines mid (m + 1) (ls ++ others)) is
          ∙ ap (read_lines mid (m + 1)) (append_assoc first left others) ∙ back (left ++ others),
    )
front_more Before Mid After n m k lines first left next (Err (fail.Bad line kind)) is reads more = λ old stands others.
    let (mid, between, front) = reads old stands in
    front others ∙ ap (λ ls. read_lines mid (m + 1) (ls ++ others)) is ∙ ap (read_lines mid (m + 1)) (append_assoc first left others) ∙ more mid between (left ++ others)
front_more Before Mid After n m k lines first left next (Err fail.Memory) is reads more = tt

-- one part of a text more is read
pub part_more : (Before Mid After : Reading → Type 0) (n m k : ℕ) (parts : List (Bor (List ℕ))) (place : ℕ) (part : Bor (List ℕ)) (result : Result Unit ScriptFail)
    → place < length parts → part ≡ get_or parts place part → ReadsFront Before Mid n m (all_lines parts) (all_lines (drop place parts)) (Ok tt)
    → ReadsFront Mid After m k (lines_of part.now) [] result → ReadsFront Before After n k (all_lines parts) (all_lines (drop (place + 1) parts)) result
part_more Before Mid After n m k parts place part result inside at reads more =
    let left = all_lines (drop (place + 1) parts) in
    let is = ap all_lines (drop_more parts place part inside) ∙ ap (λ (p : Bor (List ℕ)). lines_of p.now ++ left) (sym at) in
    front_more Before Mid After n m k (all_lines parts) (lines_of part.now) left (all_lines (drop place parts)) result is reads more

-- or it isn't, for a reason that is passed on
pub part_failed : (Before After : Reading → Type 0) (n m : ℕ) (lines left : List (List ℕ)) (result : Result Unit ScriptFail) (failed : ScriptFail)
    → ReadsFront Before After n m lines left (Err failed) → IsErr result → IsErrAnd result (λ e. e ≡ failed) → ReadsFront Before After n m lines [] result
part_failed Before After n m lines left (Ok _) failed reads is is_that = cc
part_failed Before After n m lines left (Err e) (fail.Bad line kind) reads is is_that = subst (λ f. ReadsFront Before After n m lines [] (Err f)) (sym is_that) reads
part_failed Before After n m lines left (Err e) fail.Memory reads is is_that = subst (λ f. ReadsFront Before After n m lines [] (Err f)) (sym is_that) tt
