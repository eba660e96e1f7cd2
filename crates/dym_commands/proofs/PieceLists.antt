-- Commands that stand in pieces: where one stands, one more behind the last, and the pieces of others behind them.
use Rattle.std.proofs.Common.{◌≡◌, ℕ, zero, suc, ◌+◌, ◌-◌, ◌<◌, ◌≤◌, true, false, nat_le, List, [], ◌∷◌, ◌++◌, length, get_or, set, map, sum_by, slice_get, vec_len}
use Rattle.std.proofs.Common.{refl, sym, ap, subst, ◌∙◌, arith, length-append, append_assoc}
use Rattle.std.specs.Vec.{with_item}
use Rattle.std.specs.List.Sorted.{IsPartitionedBy, IsPartitionPoint}
use Rattle.std.proofs.lemmas.Bool.{le-leb, leb-true, leb-false}
use Rattle.std.proofs.lemmas.List.{append-nil, nil_from_length}
use Rattle.std.proofs.lemmas.List.Sums.{sum_by_push, sum_by-append}
use Rattle.std.proofs.lemmas.Grind.{flat_map-append}
use Rattle.dym_base.specs.declared.limits.TheConstants.{MOST_COMMANDS}
use Rattle.dym_base.specs.declared.command.Command.{Command}
use Rattle.dym_commands.specs.declared.commands.FollowingBlock.{FollowingBlock}
use Rattle.dym_commands.specs.declared.commands.Commands.TheInside.{Inside}
use Rattle.dym_commands.specs.Reads.{read_room}
use Rattle.dym_commands.specs.Pieces.{behind, commands_in, all_of, Follow, IsAt, AreWhole}

-- no piece starts before the first of them
starts_behind : (n : ℕ) (others : List FollowingBlock) (i : ℕ) (d : FollowingBlock) → Follow n others → i < length others → n ≤ (get_or others i d).start
starts_behind n [] i d follow within = absurd (omega (arith, within))
starts_behind n (later ∷ others) zero d follow within = omega (arith, follow.0)
starts_behind n (later ∷ others) (suc i) d follow within =
    let later_on = starts_behind (n + length later.piece) others i d follow.1 (omega (arith, within)) in
    omega (arith, later_on)

-- the starts rise
starts_rise : (n : ℕ) (others : List FollowingBlock) (i j : ℕ) (d : FollowingBlock) → Follow n others → i ≤ j → j < length others → (get_or others i d).start ≤ (get_or others j d).start
starts_rise n [] i j d follow before within = absurd (omega (arith, within))
starts_rise n (later ∷ others) zero zero d follow before within = omega arith
starts_rise n (later ∷ others) (suc i) zero d follow before within = absurd (omega (arith, before))
starts_rise n (later ∷ others) zero (suc j) d follow before within =
    let later_on = starts_behind (n + length later.piece) others j d follow.1 (omega (arith, within)) in
    omega (arith, later_on, follow.0)
starts_rise n (later ∷ others) (suc i) (suc j) d follow before within =
    starts_rise (n + length later.piece) others i j d follow.1 (omega (arith, before)) (omega (arith, within))

-- so that a binary search finds where they pass a place
pub starts_parted : (n k : ℕ) (others : List FollowingBlock) → Follow n others → IsPartitionedBy (λ (later : FollowingBlock). nat_le later.start k) others
starts_parted n k others follow i j d before within is =
    let rise = starts_rise n others i j d follow before within in
    let low = leb-true (get_or others j d).start k is in
    le-leb (get_or others i d).start k (omega (arith, rise, low))

-- a place in the front of two lists
in_front : (xs ys : List Command) (i : ℕ) → i < length xs → slice_get xs i ≡ slice_get (xs ++ ys) i
in_front [] ys i within = absurd (omega (arith, within))
in_front (x ∷ xs) ys zero within = refl
in_front (x ∷ xs) ys (suc i) within = in_front xs ys i (omega (arith, within))

-- and in the back
in_back : (xs ys : List Command) (i : ℕ) → slice_get ys i ≡ slice_get (xs ++ ys) (length xs + i)
in_back [] ys i = let same : i ≡ 0 + i = omega arith in ap (slice_get ys) same
in_back (x ∷ xs) ys i =
    let same : suc (length xs + i) ≡ suc (length xs) + i = omega arith in
    in_back xs ys i ∙ ap (slice_get (x ∷ xs ++ ys)) same

-- a command that stands in a piece behind
behind_first : (n k : ℕ) (first : FollowingBlock) (others : List FollowingBlock) (later : FollowingBlock) → n + length first.piece ≤ k
    → IsAt (n + length first.piece) others k later → IsAt n (first ∷ others) k later
behind_first n k first others later past at = let place : length first.piece + (k - (n + length first.piece)) ≡ k - n = omega (arith, past) in record {
  reached = at.reached;
  within = at.within;
  same =
      at.same
      ∙ in_back first.piece (commands_in others) (k - (n + length first.piece))
      ∙ ap (slice_get (first.piece ++ commands_in others)) place;
}

-- a command that stands in the first of these pieces
in_first : (n k : ℕ) (first : FollowingBlock) (others : List FollowingBlock) → first.start ≡ n → n ≤ k → k < n + length first.piece → IsAt n (first ∷ others) k first
in_first n k first others start low high = record {
  reached = omega (arith, start, low);
  within = omega (arith, start, low, high);
  same =
      ap (λ s. slice_get first.piece (k - s)) start
      ∙ in_front first.piece (commands_in others) (k - n) (omega (arith, low, high));
}

-- the last piece that starts no later than a command's place is where the command stands
pub stands_at : (n k p : ℕ) (others : List FollowingBlock) → Follow n others → n ≤ k → k < n + length (commands_in others) → p ≤ length others
    → ((i : ℕ) (d : FollowingBlock) → i < p → (get_or others i d).start ≤ k) → ((i : ℕ) (d : FollowingBlock) → p ≤ i → i < length others → k < (get_or others i d).start)
    → (q : ℕ) × (p ≡ suc q) × ((d : FollowingBlock) → IsAt n others k (get_or others q d))
stands_at n k p [] follow reached within few low high = absurd (omega (arith, reached, within))
stands_at n k zero (first ∷ others) follow reached within few low high =
    let past = high 0 first (omega arith) (omega arith) in
    absurd (omega (arith, past, follow.0, reached))
stands_at n k (suc zero) (first ∷ []) follow reached within few low high =
    (0, refl, λ d. in_first n k first [] follow.0 reached (omega (arith, within, length-append first.piece [])))
stands_at n k (suc zero) (first ∷ second ∷ others) follow reached within few low high =
    let past = high 1 second (omega arith) (omega arith) in
    (0, refl, λ d. in_first n k first (second ∷ others) follow.0 reached (omega (arith, past, follow.1.0)))
stands_at n k (suc (suc p)) (first ∷ []) follow reached within few low high = absurd (omega (arith, few))
stands_at n k (suc (suc p)) (first ∷ second ∷ others) follow reached within few low high =
    let past : n + length first.piece ≤ k = (let at = low 1 second (omega arith) in omega (arith, at, follow.1.0)) in
    let rest = stands_at (n + length first.piece) k (suc p) (second ∷ others) follow.1 past
    (omega (arith, within, length-append first.piece (commands_in (second ∷ others)))) (omega (arith, few))
    (λ i d less. low (suc i) d (omega (arith, less))) (λ i d more inside. high (suc i) d (omega (arith, more)) (omega (arith, inside))) in
    (suc rest.0, ap suc rest.1, λ d. behind_first n k first (second ∷ others) (get_or (second ∷ others) rest.0 d) past (rest.2 d))

-- the same, of what a binary search finds
pub stands_where_parted : (n k p : ℕ) (others : List FollowingBlock) → Follow n others → n ≤ k → k < n + length (commands_in others) → p ≤ length others
    → IsPartitionPoint (λ (later : FollowingBlock). nat_le later.start k ≡ true) (λ (later : FollowingBlock). nat_le later.start k ≡ false) others p
    → (q : ℕ) × (p ≡ suc q) × ((d : FollowingBlock) → IsAt n others k (get_or others q d))
stands_where_parted n k p others follow reached within few point =
    stands_at n k p others follow reached within few
    (λ i d less. leb-true (get_or others i d).start k (point.0 i d (omega arith) less))
    (λ i d more inside. leb-false (get_or others i d).start k (point.1 i d more inside))

-- the last piece has one command more
pub last_more : (n : ℕ) (others : List FollowingBlock) (i : ℕ) (later d : FollowingBlock) (command : Command) → Follow n others → suc i ≡ length others
    → later.start ≡ (get_or others i d).start → later.piece ≡ (get_or others i d).piece ++ command ∷ []
    → Follow n (set others i later) × (commands_in (set others i later) ≡ commands_in others ++ command ∷ [])
last_more n [] i later d command follow last start piece = absurd (omega (arith, last))
last_more n (first ∷ []) zero later d command follow last start piece =
    ((start ∙ follow.0, follow.1), append-nil later.piece ∙ piece ∙ ap (λ cs. cs ++ command ∷ []) (sym (append-nil first.piece)))
last_more n (first ∷ []) (suc i) later d command follow last start piece = absurd (omega (arith, last))
last_more n (first ∷ second ∷ others) zero later d command follow last start piece = absurd (omega (arith, last))
last_more n (first ∷ second ∷ others) (suc i) later d command follow last start piece =
    let rest = last_more (n + length first.piece) (second ∷ others) i later d command follow.1 (omega (arith, last)) start piece in
    ((follow.0, rest.0), ap (λ cs. first.piece ++ cs) rest.1 ∙ sym (append_assoc first.piece (commands_in (second ∷ others)) (command ∷ [])))

-- the pieces after a push, before it is counted
pub record IsPushed (command : Command) (old new : Inside) : Type 0 where
  pub follow : Follow (length new.first) new.others.items
  pub is : all_of new.first new.others.items ≡ all_of old.first old.others.items ++ command ∷ []
  pub len : new.len ≡ old.len
  pub read_bytes : new.read_bytes ≡ old.read_bytes

-- a number that can't be more than 0
none_there : (n : ℕ) → (0 < n → false ≡ true) → n ≡ 0
none_there zero none = refl
none_there (suc n) none = let wrong = none (omega arith) in absurd (cc)

-- a push into the first piece, where it is the only one
pub pushed_first : (command : Command) (old : Inside) (first : List Command) → (0 < vec_len old.others → false ≡ true) → first ≡ old.first ++ command ∷ []
    → IsPushed command old (record old { first = first })
pushed_first command old first some is =
    let none : old.others.items ≡ [] = nil_from_length old.others.items (omega (arith, none_there (vec_len old.others) some)) in
    record {
      follow = subst (λ pieces. Follow (length first) pieces) (sym none) tt;
      is =
          (λ i. is i ++ commands_in (none i))
          ∙ append-nil (old.first ++ command ∷ [])
          ∙ (λ i. sym (append-nil old.first) i ++ command ∷ [])
          ∙ (λ i. (old.first ++ commands_in (sym none i)) ++ command ∷ []);
      len = refl;
      read_bytes = refl;
    }

-- a push into the last of the others
pub pushed_last : (command : Command) (old : Inside) (later d : FollowingBlock) → Follow (length old.first) old.others.items → 0 < vec_len old.others
    → later.start ≡ (get_or old.others.items (vec_len old.others - 1) d).start → later.piece ≡ (get_or old.others.items (vec_len old.others - 1) d).piece ++ command ∷ []
    → IsPushed command old (record old { others = with_item old.others (vec_len old.others - 1) later })
pushed_last command old later d follow some start piece =
    let more = last_more (length old.first) old.others.items (vec_len old.others - 1) later d command follow (omega (arith, some)) start piece in
    record {
      follow = more.0;
      is = ap (λ cs. old.first ++ cs) more.1 ∙ sym (append_assoc old.first (commands_in old.others.items) (command ∷ []));
      len = refl;
      read_bytes = refl;
    }

-- one command more
pub whole_more : (command : Command) (old new : Inside) → old.len < MOST_COMMANDS → AreWhole old.first old.others.items old.len old.read_bytes → IsPushed command old new
    → AreWhole new.first new.others.items (new.len + 1) (new.read_bytes + read_room command)
whole_more command old new room whole pushed = record {
  few = omega (arith, room, pushed.len);
  count = omega (arith, pushed.len, whole.count, length-append (all_of old.first old.others.items) (command ∷ []), ap length pushed.is);
  follow = pushed.follow;
  reads =
      ap (λ (n : ℕ). n + read_room command) (pushed.read_bytes ∙ whole.reads)
      ∙ sym (sum_by_push read_room (all_of old.first old.others.items) command)
      ∙ ap (sum_by read_room) (sym pushed.is);
}

-- no piece starts behind the last of the commands
pub starts_few : (n : ℕ) (others : List FollowingBlock) (i : ℕ) (d : FollowingBlock) → Follow n others → i < length others → (get_or others i d).start ≤ n + length (commands_in others)
starts_few n [] i d follow within = absurd (omega (arith, within))
starts_few n (later ∷ others) zero d follow within = omega (arith, follow.0)
starts_few n (later ∷ others) (suc i) d follow within =
    let few = starts_few (n + length later.piece) others i d follow.1 (omega (arith, within)) in
    omega (arith, few, length-append later.piece (commands_in others))

-- pieces behind so many commands more have the same commands
same_behind : (m : ℕ) (others : List FollowingBlock) → commands_in (map (behind m) others) ≡ commands_in others
same_behind m [] = refl
same_behind m (later ∷ others) = ap (λ cs. later.piece ++ cs) (same_behind m others)

-- and follow one another as before
follow_behind : (m n : ℕ) (others : List FollowingBlock) → Follow n others → Follow (m + n) (map (behind m) others)
follow_behind m n [] follow = tt
follow_behind m n (later ∷ others) follow =
    let place : m + (n + length later.piece) ≡ m + n + length later.piece = omega arith in
    (ap (λ s. m + s) follow.0, subst (λ s. Follow s (map (behind m) others)) place (follow_behind m (n + length later.piece) others follow.1))

-- pieces behind others
follow_both : (n : ℕ) (others more : List FollowingBlock) → Follow n others → Follow (n + length (commands_in others)) more → Follow n (others ++ more)
follow_both n [] more follow next = let place : n + 0 ≡ n = omega arith in subst (λ s. Follow s more) place next
follow_both n (later ∷ others) more follow next =
    let place : n + length (later.piece ++ commands_in others) ≡ n + length later.piece + length (commands_in others) =
    omega (arith, length-append later.piece (commands_in others)) in
    (follow.0, follow_both (n + length later.piece) others more follow.1 (subst (λ s. Follow s more) place next))

-- the pieces of both, those of the second behind those of the first
abbrev pub appended : Inside → Inside → List FollowingBlock
appended old other = old.others.items ++ record { start = old.len; piece = other.first } ∷ [] ++ map (behind old.len) other.others.items

-- they have the commands of both
pub appended_is : (old other : Inside) → all_of old.first (appended old other) ≡ all_of old.first old.others.items ++ all_of other.first other.others.items
appended_is old other =
    let piece : FollowingBlock = record { start = old.len; piece = other.first } in
    let front = flat_map-append (λ (later : FollowingBlock). later.piece) old.others.items (piece ∷ []) ∙ ap (λ cs. commands_in old.others.items ++ cs) (append-nil other.first) in
    let both = flat_map-append (λ (later : FollowingBlock). later.piece) (old.others.items ++ piece ∷ []) (map (behind old.len) other.others.items) in
    ap (λ cs. old.first ++ cs)
    (both ∙ (λ i. front i ++ same_behind old.len other.others.items i) ∙ append_assoc (commands_in old.others.items) other.first (commands_in other.others.items))
    ∙ sym (append_assoc old.first (commands_in old.others.items) (all_of other.first other.others.items))

-- and each tells what stands before it
appended_follow : (old other : Inside) → AreWhole old.first old.others.items old.len old.read_bytes
    → Follow (length other.first) other.others.items → Follow (length old.first) (appended old other)
appended_follow old other whole follow =
    let piece : FollowingBlock = record { start = old.len; piece = other.first } in
    let start : old.len ≡ length old.first + length (commands_in old.others.items) = omega (arith, whole.count, length-append old.first (commands_in old.others.items)) in
    let front = ap length
    (flat_map-append (λ (later : FollowingBlock). later.piece) old.others.items (piece ∷ []) ∙ ap (λ cs. commands_in old.others.items ++ cs) (append-nil other.first)) in
    let place : old.len + length other.first ≡ length old.first + length (commands_in (old.others.items ++ piece ∷ [])) =
    omega (arith, start, front, length-append (commands_in old.others.items) other.first) in
    follow_both (length old.first) (old.others.items ++ piece ∷ []) (map (behind old.len) other.others.items)
    (follow_both (length old.first) old.others.items (piece ∷ []) whole.follow (start, tt))
    (subst (λ n. Follow n (map (behind old.len) other.others.items)) place (follow_behind old.len (length other.first) other.others.items follow))

-- so that those of both are whole
pub appended_whole : (old other : Inside) → old.len + other.len ≤ MOST_COMMANDS → AreWhole old.first old.others.items old.len old.read_bytes
    → AreWhole other.first other.others.items other.len other.read_bytes
    → AreWhole old.first (appended old other) (old.len + other.len) (old.read_bytes + other.read_bytes)
appended_whole old other room whole more =
    let is = appended_is old other in
    record {
      few = room;
      count = omega (arith, whole.count, more.count, ap length is, length-append (all_of old.first old.others.items) (all_of other.first other.others.items));
      follow = appended_follow old other whole more.follow;
      reads =
          (λ i. whole.reads i + more.reads i)
          ∙ sym (sum_by-append read_room (all_of old.first old.others.items) (all_of other.first other.others.items))
          ∙ ap (sum_by read_room) (sym is);
    }
