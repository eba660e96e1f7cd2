-- Lists of kept replies, and a table that grows.
use Rattle.std.proofs.Common.{◌≡◌, ℕ, ◌+◌, ◌≤◌, Bool, true, false, List, [], ◌∷◌, ◌++◌, All, length, take, drop, cond, count_by, refl, sym, ap, subst, ◌∙◌, arith, length-append, length-drop}
use Rattle.std.proofs.lemmas.List.{map-append, take-append-le, drop-append-le}
use Rattle.std.proofs.lemmas.List.Elements.{All-head, All-tail, All-push, All-weaker}
use Rattle.std.proofs.lemmas.List.Sums.{sum_by_push}
use Rattle.std.specs.Int.{from_bool}
use Rattle.dym_base.specs.declared.reply.Reply.{Reply}
use Rattle.dym_base.specs.declared.reply.Reply.TheVariants as reply
use Rattle.dym_commands.specs.declared.replies.StoredReply.{StoredReply}
use Rattle.dym_commands.specs.declared.replies.StoredReply.TheVariants.{Bytes}
use Rattle.dym_commands.specs.Replies.{is_refusal, reply_of_stored, replies_of_stored, IsStored, AreStored}

-- what is kept stays the same where the table grows at its end
same_reply : (table more : List ℕ) (stored : StoredReply) → IsStored table stored → reply_of_stored (table ++ more) stored ≡ reply_of_stored table stored
same_reply table more (Bytes len place) is =
    let inside : place ≤ length table = omega (arith, is) in
    let room : len ≤ length (drop place table) = omega (arith, is, length-drop place table) in
    ap reply.Bytes (ap (take len) (drop-append-le place table more inside) ∙ take-append-le len (drop place table) more room)
same_reply table more stored is = refl

pub same_replies : (table more : List ℕ) (stored_list : List StoredReply) → All (IsStored table) stored_list → replies_of_stored (table ++ more) stored_list ≡ replies_of_stored table stored_list
same_replies table more [] are = refl
same_replies table more (k ∷ ks) are =
    let first = same_reply table more k (All-head (IsStored table) k ks are) in
    let rest = same_replies table more ks (All-tail (IsStored table) k ks are) in
    λ i. first i ∷ rest i

still_kept : (table more : List ℕ) (stored : StoredReply) → IsStored table stored → IsStored (table ++ more) stored
still_kept table more (Bytes len place) is = omega (arith, is, length-append table more)
still_kept table more stored is = tt

-- one reply more
pub more_replies : (table more grown : List ℕ) (stored_list : List StoredReply) (stored : StoredReply) (said : Reply) → grown ≡ table ++ more → reply_of_stored grown stored ≡ said → All (IsStored table) stored_list
    → replies_of_stored grown (stored_list ++ stored ∷ []) ≡ replies_of_stored table stored_list ++ said ∷ []
more_replies table more grown stored_list stored said is same are =
    map-append (reply_of_stored grown) stored_list (stored ∷ []) ∙ (λ i. (ap (λ (t : List ℕ). replies_of_stored t stored_list) is ∙ same_replies table more stored_list are) i ++ same i ∷ [])

pub more_kept : (table more grown : List ℕ) (stored_list : List StoredReply) (stored : StoredReply) → grown ≡ table ++ more → IsStored grown stored → All (IsStored table) stored_list → All (IsStored grown) (stored_list ++ stored ∷ [])
more_kept table more grown stored_list stored is one are =
    All-push (IsStored grown) stored_list stored (subst (λ (t : List ℕ). All (IsStored t) stored_list) (sym is) (All-weaker (IsStored table) (IsStored (table ++ more)) (λ k old. still_kept table more k old) stored_list are)) one

one_or_none : (b : Bool) → from_bool b ≡ cond b 1 0
one_or_none true = refl
one_or_none false = refl

-- and the refusals are counted, one more where that reply is one
pub more_are_kept : (table more grown : List ℕ) (stored_list : List StoredReply) (stored : StoredReply) (said : Reply) (refused added : ℕ) → grown ≡ table ++ more → reply_of_stored grown stored ≡ said → IsStored grown stored
    → added ≡ from_bool (is_refusal said) → AreStored table stored_list refused → AreStored grown (stored_list ++ stored ∷ []) (refused + added)
more_are_kept table more grown stored_list stored said refused added is same one more_refused are = record {
  each = more_kept table more grown stored_list stored is one are.each;
  count =
      (λ i. are.count i + (more_refused ∙ one_or_none (is_refusal said)) i)
      ∙ sym (sum_by_push (λ (r : Reply). cond (is_refusal r) 1 0) (replies_of_stored table stored_list) said)
      ∙ sym (ap (count_by is_refusal) (more_replies table more grown stored_list stored said is same are.each));
}
