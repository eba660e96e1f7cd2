-- A verb that is compared at once with the bytes at the front of a text.
use Rattle.std.proofs.Common.{◌≡◌, ℕ, zero, suc, ◌-◌, ◌*◌, ◌^◌, ◌%◌, ◌<◌, ◌≤◌, List, ◌++◌, length, get_or, take, drop, replicate, refl, sym, ap, ◌∙◌, take-append-drop}
use Rattle.std.specs.Int.{w64, to_le_bytes, from_le_bytes}
use Rattle.std.proofs.lemmas.Nat.{le_bytes_8}
use Rattle.dym_script.proofs.WordCuts.{take_rest}
use Rattle.dym_script.proofs.Fronts.{moved_bytes}

drop_zeros : (k : ℕ) (xs : List ℕ) → drop k (replicate k 0 ++ xs) ≡ xs
drop_zeros zero xs = refl
drop_zeros (suc k) xs = drop_zeros k xs

-- where the first bytes of a text, moved to the end of a word, are a word's, the text begins with those at that word's end
pub verb_front : (text padded rest : List ℕ) (word len : ℕ) → ((i : ℕ) → get_or text i 0 < 256) → 8 ≤ length text → word ≡ from_le_bytes w64 text → 0 < len → len < 8
    → length padded ≡ 8 → ((i : ℕ) → get_or padded i 0 < 256) → word * 2 ^ (64 - 8 * len) % 18446744073709551616 ≡ from_le_bytes w64 padded
    → rest ≡ take (length text - len) (drop len text) → text ≡ drop (8 - len) padded ++ rest
verb_front text padded rest word len each long is some few eight fits same after =
    let moved = moved_bytes text word len each long is some few in
    let whole : padded ≡ replicate (8 - len) 0 ++ take len text = sym (le_bytes_8 padded (from_le_bytes w64 padded) eight fits refl)
    ∙ ap (to_le_bytes w64) (sym same) ∙ moved in
    let front : drop (8 - len) padded ≡ take len text = ap (drop (8 - len)) whole ∙ drop_zeros (8 - len) (take len text) in
    let back : rest ≡ drop len text = after ∙ take_rest len text in
    sym (take-append-drop len text) ∙ (λ i. sym front i ++ sym back i)
