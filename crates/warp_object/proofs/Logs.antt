-- What commands about logs do to the dates and the chunks of an object's logs.
use Rattle.std.proofs.Common.{◌≡◌, ℕ, zero, suc, ◌+◌, ◌-◌, ◌<◌, ◌≤◌, Bool, true, false, cond, nat_le, ◌==◌}
use Rattle.std.proofs.Common.{Option, Some, None, List, [], ◌∷◌, ◌++◌, length, take, drop, map, refl, ap, sym, subst}
use Rattle.std.proofs.Common.{◌∙◌, arith, append_assoc, length-append}
use Rattle.std.specs.FinSet as set
use Rattle.std.proofs.lemmas.Bool.{le-leb, lt-leb}
use Rattle.std.proofs.lemmas.Option.{same_Some, none-some}
use Rattle.std.proofs.Math.Seq.{drop-append_seam}
use Rattle.dym_base.specs.Heaps.{Live}
use Rattle.dym_base.specs.Objects.{LogEntry, ObjectState, ObjectAnswer, newest, new_entry, unchanged, log_more}
use Rattle.dym_base.specs.Objects.{log_after, log, reached, restore_to, restore, prune}
use Rattle.dym_base.specs.declared.command.Version.{Version}
use Rattle.dym_base.specs.declared.command.Kind.{Kind}
use Rattle.dym_base.specs.declared.limits.TheConstants.{MOST_KEPT_LOGS}
use Rattle.dym_base.specs.declared.reply.Reply.TheVariants as reply
use Rattle.dym_base.specs.declared.reply.Refusal.{Refusal}
use Rattle.dym_base.specs.declared.reply.Refusal.TheVariants.{NotAfter, LogsFull}
use Rattle.dym_base.proofs.Runs.{reached_cons}
use Rattle.dym_undo.specs.Answers.{IsLoggedAs}
use Rattle.warp_base.specs.Events.{Each}
use Rattle.warp_base.proofs.Lists.{Each-append}
use Rattle.warp_object.specs.Processes.{log_pair}

-- a log was taken
abbrev pub taken : ObjectState → ℕ → Kind → ObjectState
taken s t kind = record { heap = record { live = s.heap.live; touched = set.empty }; logs = s.logs ++ new_entry s t kind ∷ [] }

no_log : (why : Refusal) (k : Kind) → IsLoggedAs k (reply.Refused why) → ⊥
no_log why k told = let is = told.1 in cc

past_refusal : (b : Bool) (s : ObjectState) (why : Refusal) (other : ObjectAnswer) (k : Kind)
    → IsLoggedAs k (cond b (unchanged s (reply.Refused why)) other).reply
    → cond b (unchanged s (reply.Refused why)) other ≡ other
past_refusal true s why other k told = absurd (no_log why k told)
past_refusal false s why other k told = refl

taken_more : (v : Version) (s : ObjectState) (t : ℕ) (kind k : Kind) → IsLoggedAs k (log_more v s t kind).reply
    → (log_more v s t kind).object ≡ taken s t kind
taken_more v s t kind k told = ap (λ (a : ObjectAnswer). a.object)
    (past_refusal (length s.logs == MOST_KEPT_LOGS) s LogsFull _ k told)

taken_after : (v : Version) (s : ObjectState) (t : ℕ) (kind k : Kind) (o : Option LogEntry)
    → IsLoggedAs k (log_after v s t kind o).reply → (log_after v s t kind o).object ≡ taken s t kind
taken_after v s t kind k None told = taken_more v s t kind k told
taken_after v s t kind k (Some e) told =
    let past = past_refusal (nat_le t e.time) s (NotAfter e.time) (log_more v s t kind) k told in
    ap (λ (a : ObjectAnswer). a.object) past
    ∙ taken_more v s t kind k (subst (λ (a : ObjectAnswer). IsLoggedAs k a.reply) past told)

pub taken_is : (v : Version) (s : ObjectState) (t : ℕ) (kind k : Kind) → IsLoggedAs k (log v s t kind).reply
    → (log v s t kind).object ≡ taken s t kind
taken_is v s t kind k told = taken_after v s t kind k (newest s.logs) told

-- the logs that a date reaches, where they stand for these and later ones follow
pub record IsReached (date : ℕ) (logs : List LogEntry) (cs : List (ℕ × Live)) : Type 0 where
  pub count : reached date logs ≡ length cs
  pub front : map log_pair (take (length cs) logs) ≡ cs

none_reached : (date : ℕ) (logs : List LogEntry) → Each (λ (c : ℕ × Live). date < c.0) (map log_pair logs)
    → reached date logs ≡ 0
none_reached date [] late = refl
none_reached date (e ∷ logs) late =
    let rest = none_reached date logs late.1 in
    reached_cons date e logs ∙ ap (λ (t : Bool). cond t 1 0 + reached date logs) (lt-leb e.time date late.0)
    ∙ (let all : 0 + reached date logs ≡ 0 = omega (arith, rest) in all)

pub reached_is : (date : ℕ) (logs : List LogEntry) (cs us : List (ℕ × Live)) → map log_pair logs ≡ cs ++ us
    → Each (λ (c : ℕ × Live). c.0 ≤ date) cs → Each (λ (c : ℕ × Live). date < c.0) us → IsReached date logs cs
reached_is date logs [] us is soon late = record {
  count = none_reached date logs (subst (Each (λ (c : ℕ × Live). date < c.0)) (sym is) late);
  front = refl;
}
reached_is date [] (c ∷ cs) us is soon late = absurd (empty is)
  where
    empty : {x : ℕ × Live} {xs : List (ℕ × Live)} → [] ≡ x ∷ xs → ⊥
    empty e = cc
reached_is date (e ∷ logs) (c ∷ cs) us is soon late =
    let first : log_pair e ≡ c = cc in
    let others : map log_pair logs ≡ cs ++ us = cc in
    let rest = reached_is date logs cs us others soon.1 late in
    let times = ap (λ (d : ℕ × Live). d.0) first in
    let less = soon.0 in
    record {
      count = reached_cons date e logs ∙ ap (λ (t : Bool). cond t 1 0 + reached date logs)
          (le-leb e.time date (omega (arith, times, less)))
          ∙ (let count = rest.count in let all : 1 + reached date logs ≡ suc (length cs) = omega (arith, count) in all);
      front = ap (λ l. log_pair e ∷ l) rest.front ∙ ap (λ x. x ∷ cs) first;
    }

-- the newest of logs, where the last date and chunks are these
pub record IsLast (logs : List LogEntry) (c : ℕ × Live) : Type 0 where
  pub entry : LogEntry
  pub newest : newest logs ≡ Some entry
  pub is : log_pair entry ≡ c

pub last_is : (logs : List LogEntry) (older : List (ℕ × Live)) (c : ℕ × Live) → map log_pair logs ≡ older ++ c ∷ []
    → IsLast logs c
last_is [] [] c is = absurd (empty is)
  where
    empty : {x : ℕ × Live} → [] ≡ x ∷ [] → ⊥
    empty e = cc
last_is [] (d ∷ older) c is = absurd (empty is)
  where
    empty : {x : ℕ × Live} {xs : List (ℕ × Live)} → [] ≡ x ∷ xs → ⊥
    empty e = cc
last_is (e ∷ []) [] c is = record { entry = e; newest = refl; is = (let same : log_pair e ≡ c = cc in same) }
last_is (e ∷ f ∷ logs) [] c is = absurd (more is)
  where
    more : {x y : ℕ × Live} {xs : List (ℕ × Live)} → x ∷ y ∷ xs ≡ c ∷ [] → ⊥
    more against = cc
last_is (e ∷ []) (d ∷ older) c is = absurd (less older is)
  where
    less : {x : ℕ × Live} (xs : List (ℕ × Live)) → x ∷ [] ≡ d ∷ (xs ++ c ∷ []) → ⊥
    less [] against = cc
    less (y ∷ xs) against = cc
last_is (e ∷ f ∷ logs) (d ∷ older) c is =
    let others : map log_pair (f ∷ logs) ≡ older ++ c ∷ [] = cc in
    let rest = last_is (f ∷ logs) older c others in
    record { entry = rest.entry; newest = rest.newest; is = rest.is }

-- a restore to the date of the last of these brings its chunks back, and the later logs leave
pub record IsRestored (s : ObjectState) (date : ℕ) (copy : Live) (cs : List (ℕ × Live)) : Type 0 where
  pub reply : (restore s date).reply ≡ reply.At date
  pub live : (restore s date).object.heap.live ≡ copy
  pub logs : map log_pair (restore s date).object.logs ≡ cs

pub restored_is : (s : ObjectState) (date : ℕ) (live : Live) (older cs us : List (ℕ × Live))
    → map log_pair s.logs ≡ cs ++ us → cs ≡ older ++ (date, live) ∷ [] → Each (λ (c : ℕ × Live). c.0 ≤ date) cs
    → Each (λ (c : ℕ × Live). date < c.0) us → IsRestored s date live cs
restored_is s date live older cs us is last soon late =
    let reach = reached_is date s.logs cs us is soon late in
    let logs = take (reached date s.logs) s.logs in
    let same : map log_pair logs ≡ cs = ap (λ n. map log_pair (take n s.logs)) reach.count ∙ reach.front in
    let end = last_is logs older (date, live) (same ∙ last) in
    let answer : restore s date ≡ restore_to s logs (Some end.entry) = ap (restore_to s logs) end.newest in
    record {
      reply = ap (λ (a : ObjectAnswer). a.reply) answer ∙ ap (λ (c : ℕ × Live). reply.At c.0) end.is;
      live = ap (λ (a : ObjectAnswer). a.object.heap.live) answer ∙ ap (λ (c : ℕ × Live). c.1) end.is;
      logs = ap (λ (a : ObjectAnswer). map log_pair a.object.logs) answer ∙ same;
    }

drop_pairs : (n : ℕ) (logs : List LogEntry) → map log_pair (drop n logs) ≡ drop n (map log_pair logs)
drop_pairs zero logs = refl
drop_pairs (suc n) [] = refl
drop_pairs (suc n) (e ∷ logs) = drop_pairs n logs

-- a prune at the date of a log drops those before it
pub pruned_is : (s : ObjectState) (date : ℕ) (live : Live) (gone later : List (ℕ × Live))
    → map log_pair s.logs ≡ gone ++ (date, live) ∷ later → Each (λ (c : ℕ × Live). c.0 ≤ date) gone
    → Each (λ (c : ℕ × Live). date < c.0) later → map log_pair (prune s date).object.logs ≡ (date, live) ∷ later
pruned_is s date live gone later is soon late =
    let cs = gone ++ (date, live) ∷ [] in
    let all : map log_pair s.logs ≡ cs ++ later = is ∙ sym (append_assoc gone ((date, live) ∷ []) later) in
    let reach = reached_is date s.logs cs later all (Each-append (λ (c : ℕ × Live). c.0 ≤ date) gone ((date, live) ∷ []) soon (omega arith, tt)) late in
    let counted = reach.count in
    let long = length-append gone ((date, live) ∷ []) in
    let count : reached date s.logs - 1 ≡ length gone = omega (arith, counted, long) in
    ap (λ n. map log_pair (drop n s.logs)) count ∙ drop_pairs (length gone) s.logs ∙ ap (drop (length gone)) is
    ∙ drop-append_seam gone ((date, live) ∷ later)

-- the newest of logs meets what all do
newest_meets : (Q : ℕ × Live → Type 0) (logs : List LogEntry) (e : LogEntry) → Each Q (map log_pair logs)
    → newest logs ≡ Some e → Q (log_pair e)
newest_meets Q [] e all is = absurd (none-some e is)
newest_meets Q (x ∷ []) e all is = subst (λ y. Q (log_pair y)) (same_Some x e is) all.0
newest_meets Q (x ∷ y ∷ logs) e all is = newest_meets Q (y ∷ logs) e all.1 is

full_only : (b : Bool) (s : ObjectState) (other : ObjectAnswer) (why : Refusal) (kind : Kind) (n : ℕ)
    → other.reply ≡ reply.Logged kind n
    → (cond b (unchanged s (reply.Refused LogsFull)) other).reply ≡ reply.Refused why → why ≡ LogsFull
full_only true s other why kind n logged is = cc
full_only false s other why kind n logged is = absurd (both (sym logged ∙ is))
  where
    both : reply.Logged kind n ≡ reply.Refused why → ⊥
    both against = cc

-- where all logs are before a time, one at that time is refused only where the logs are full
pub refused_full : (v : Version) (s : ObjectState) (t : ℕ) (kind : Kind) (why : Refusal)
    → Each (λ (c : ℕ × Live). c.0 < t) (map log_pair s.logs) → (log v s t kind).reply ≡ reply.Refused why
    → why ≡ LogsFull
refused_full v s t kind why before is = by_newest (newest s.logs) refl is
  where
    by_newest : (o : Option LogEntry) → newest s.logs ≡ o → (log_after v s t kind o).reply ≡ reply.Refused why
        → why ≡ LogsFull
    by_newest None at told = full_only (length s.logs == MOST_KEPT_LOGS) s _ why _ _ refl told
    by_newest (Some e) at told =
        let late = newest_meets (λ (c : ℕ × Live). c.0 < t) s.logs e before at in
        let past : log_after v s t kind (Some e) ≡ log_more v s t kind = ap (λ (b : Bool). cond b (unchanged s (reply.Refused (NotAfter e.time))) (log_more v s t kind)) (lt-leb t e.time late) in
        full_only (length s.logs == MOST_KEPT_LOGS) s _ why _ _ refl (sym (ap (λ (a : ObjectAnswer). a.reply) past)
        ∙ told)

-- where there is no log, one is taken
pub never_refused : (v : Version) (s : ObjectState) (t : ℕ) (kind : Kind) (why : Refusal) → s.logs ≡ []
    → (log v s t kind).reply ≡ reply.Refused why → ⊥
never_refused v s t kind why none is =
    first (subst (λ l. (log v (record { heap = s.heap; logs = l }) t kind).reply ≡ reply.Refused why) none is)
  where
    first : (log v (record { heap = s.heap; logs = [] }) t kind).reply ≡ reply.Refused why → ⊥
    first against = cc
