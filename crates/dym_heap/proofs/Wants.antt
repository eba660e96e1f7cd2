-- One chunk that is marked, fetched or reshaped, and again.
use Rattle.std.proofs.Common.{◌≡◌, ℕ, Bool, true, false, cond, not, ◌&&◌, ◌||◌, is_some, Option, Some, None, List, refl, sym, ◌∙◌}
use Rattle.dym_base.specs.StandsFor.{or_else}
use Rattle.dym_heap.specs.Chunks.{no_chunk}
use Rattle.dym_heap.specs.Fetches.{ChunkMeaning, marked, fetched, is_unmodified, IsReshaped}

pub both_first : (a b : Bool) → (a && b) ≡ true → a ≡ true
both_first true b h = refl
both_first false b h = h

-- ---- marked

or_again : (a b : Bool) → ((a || b) || b) ≡ (a || b)
or_again true b = refl
or_again false true = refl
or_again false false = refl

or_none : (a b : Bool) → (a || (b && false)) ≡ a
or_none true b = refl
or_none false true = refl
or_none false false = refl

pub marked_again : (b : Bool) (a : ChunkMeaning) → marked b (marked b a) ≡ marked b a
marked_again b a = λ i. record { bytes = a.bytes; touched = or_again a.touched (is_some a.bytes && b) i }

pub marked_none : (a : ChunkMeaning) → marked false a ≡ a
marked_none a = λ i. record { bytes = a.bytes; touched = or_none a.touched (is_some a.bytes) i }

-- ---- fetched

and_again : (a b : Bool) → ((a && b) && b) ≡ (a && b)
and_again true true = refl
and_again true false = refl
and_again false b = refl

and_true : (a : Bool) → (a && true) ≡ a
and_true true = refl
and_true false = refl

bytes_again : (p : Option (List ℕ)) (t : Bool) (b : Option (List ℕ)) → cond (t && not (is_some p)) (or_else p (cond t (or_else p b) b)) (cond t (or_else p b) b) ≡ cond t (or_else p b) b
bytes_again None true b = refl
bytes_again None false b = refl
bytes_again (Some x) true b = refl
bytes_again (Some x) false b = refl

pub fetched_again : (p : Option (List ℕ)) (a : ChunkMeaning) → fetched p (fetched p a) ≡ fetched p a
fetched_again p a = λ i. record { bytes = bytes_again p a.touched a.bytes i; touched = and_again a.touched (not (is_some p)) i }

bytes_none : (t : Bool) (b : Option (List ℕ)) → cond t (or_else None b) b ≡ b
bytes_none true b = refl
bytes_none false b = refl

pub fetched_none : (a : ChunkMeaning) → fetched None a ≡ a
fetched_none a = λ i. record { bytes = bytes_none a.touched a.bytes i; touched = and_true a.touched i }

some_still : (p : Option (List ℕ)) (t : Bool) (b : Option (List ℕ)) → (t ≡ true → is_some b ≡ true) → is_some (cond t (or_else p b) b) ≡ is_some b
some_still p false b live = refl
some_still None true b live = refl
some_still (Some x) true b live = sym (live refl)

-- what is touched is live, so a fetch makes nothing live
pub fetched_some : (p : Option (List ℕ)) (a : ChunkMeaning) → (a.touched ≡ true → is_some a.bytes ≡ true) → is_some (fetched p a).bytes ≡ is_some a.bytes
fetched_some p a live = some_still p a.touched a.bytes live

-- ---- reshaped

settled_again : (u s : Bool) → (u && not (u && not (u && not s))) ≡ (u && not s)
settled_again true true = refl
settled_again true false = refl
settled_again false s = refl

pub reshaped_again : {u : Bool} {a b c : ChunkMeaning} → IsReshaped u a b → IsReshaped u b c → IsReshaped u a c
reshaped_again {u} {a} {c} first second =
    let wanted : c.touched ≡ (u && not (is_unmodified a)) = second.wanted ∙ (λ i. u && not (first.used i && not (first.wanted i))) ∙ settled_again u (is_unmodified a) in
    record {
      used = second.used;
      wanted = wanted;
      kept = λ live quiet. second.kept live quiet ∙ first.kept live (first.wanted ∙ sym wanted ∙ quiet);
    }

-- where the chunk isn't among the handles it doesn't matter what it was
pub reshaped_free : (a d b : ChunkMeaning) → IsReshaped false a b → IsReshaped false d b
reshaped_free a d b is = record { used = is.used; wanted = is.wanted; kept = λ live. absurd cc }

pub reshaped_gone : (a : ChunkMeaning) → IsReshaped false a no_chunk
reshaped_gone a = record { used = refl; wanted = refl; kept = λ live. absurd cc }
