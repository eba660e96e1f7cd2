-- One command more of a work.
use Rattle.std.proofs.Common.{◌≡◌, ℕ, suc, ◌+◌, ◌<◌, ◌≤◌, ◌^◌, ◌-◌, false, Bool, List, [], ◌∷◌, ◌++◌, length, take, drop, get_or, sum_by, refl, sym, ap, subst, ◌∙◌, arith, length-append}
use Rattle.std.proofs.Math.Seq.{take-suc}
use Rattle.std.proofs.lemmas.List.Sums.{sum_by-drop_more}
use Rattle.std.proofs.lemmas.Option.{slice_get-get_or}
use Rattle.std.specs.Prelude.{slice_get, IfSome, if◌then◌else◌}
use Rattle.dym_base.specs.Objects.{ObjectState, object_start, object_step, replies_from, object_after, run_replies, run_end}
use Rattle.dym_base.specs.declared.command.Version.{Version}
use Rattle.dym_base.specs.declared.command.Command.{Command}
use Rattle.dym_base.specs.declared.command.Command.TheVariants.{Logs}
use Rattle.dym_base.specs.declared.reply.Reply.{Reply}
use Rattle.dym_commands.specs.Reads.{read_room}
use Rattle.dym_commands.specs.Replies.{RepliesMeaning, bytes_of}
use Rattle.dym_object.specs.Meaning.{ObjectMeaning, state_of}
use Rattle.dym_object.specs.Turns.{Ran}
use Rattle.dym_object.proofs.ReadRoom.{reply_room, room_small}
use Rattle.dym_wave.specs.States.{RanFirst}
use Rattle.dym_wave.specs.Works.{WorkMeaning, ObjectOrigin, left_of, object_origin}

module _ (v : Version) (quota : ℕ) where
  replies_more : (s : ObjectState) (xs : List Command) (c : Command)
      → replies_from v quota s (xs ++ c ∷ []) ≡ replies_from v quota s xs ++ (object_step v quota (object_after v quota s xs) c).reply ∷ []
  replies_more s [] c = refl
  replies_more s (x ∷ xs) c = ap {B = List Reply} (λ l. (object_step v quota s x).reply ∷ l) (replies_more (object_step v quota s x).object xs c)

  after_more : (s : ObjectState) (xs : List Command) (c : Command) → object_after v quota s (xs ++ c ∷ []) ≡ (object_step v quota (object_after v quota s xs) c).object
  after_more s [] c = refl
  after_more s (x ∷ xs) c = after_more (object_step v quota s x).object xs c

if_at : {A : Type 0} (P : A → Type 0) (xs : List A) (k : ℕ) (d : A) → k < length xs → IfSome (slice_get xs k) P → P (get_or xs k d)
if_at P xs k d l = subst (λ o. IfSome o P) (slice_get-get_or xs k d l)

-- the command that is next was run, and this is its reply
module _ (commands : List Command) (kept : RepliesMeaning) (old new : ObjectMeaning) (said : Reply) (k : ℕ) (at : k ≡ length kept.replies)
    (l : length kept.replies < length commands) (did : IfSome (slice_get commands k) (λ c. Ran old c new said)) (before : RanFirst commands old kept) where
  abbrev next : Command
  next = get_or commands (length kept.replies) Logs

  run_as : Ran old next new said
  run_as =
      if_at (λ c. Ran old c new said) commands (length kept.replies) Logs l
      (subst (λ (n : ℕ). IfSome (slice_get commands n) (λ c. Ran old c new said)) at did)

  -- a step of the object keeps where it came from
  pub same_origin : object_origin new ≡ object_origin old
  same_origin =
      let step = run_as.step in
      λ i. record {
        quota = (step.heap i).quota;
        version = (step.heap i).version;
        supply = (step.heap i).origin;
        keep = step.origin i;
      }

  told_few : length (bytes_of said) ≤ read_room next
  told_few = reply_room old next new said before.whole run_as

  abbrev rest_is : sum_by read_room (drop (length kept.replies) commands) ≡ read_room next + sum_by read_room (drop (length kept.replies + 1) commands)
  rest_is = sum_by-drop_more read_room commands (length kept.replies) Logs l

  -- what the reply tells has room
  pub told_fits : length (bytes_of said) ≤ kept.byte_room
  told_fits = omega (arith, told_few, rest_is, before.room.bytes)

  pub told_short : length (bytes_of said) < 2 ^ 32
  told_short = omega (arith, told_few, room_small next)

  pub room_behind : 0 < kept.room
  room_behind = omega (arith, l, before.room.replies)

  -- and where it joins the others, the object ran one command more
  pub ran_more : (after : RepliesMeaning) → after.replies ≡ kept.replies ++ said ∷ [] → after.room + 1 ≡ kept.room
      → kept.byte_room ≤ after.byte_room + length (bytes_of said) → RanFirst commands new after
  ran_more after is less bytes =
      let done = take (length kept.replies) commands in
      let v = old.heap.version in
      let q = old.heap.quota in
      let it = run_as in
      let more : length after.replies ≡ length kept.replies + 1 = ap length is ∙ length-append kept.replies (said ∷ []) in
      let long : length after.replies ≡ suc (length kept.replies) = omega (arith, more) in
      let cut : take (length after.replies) commands ≡ done ++ next ∷ [] =
      ap (λ (n : ℕ). take n commands) long ∙ take-suc commands (length kept.replies) Logs l in
      let same = sym same_origin in
      let reply : said ≡ (object_step v q (run_end v q done) next).reply = it.reply ∙ ap (λ (s : ObjectState). (object_step v q s next).reply) before.state in
      let object = it.step.object ∙ ap (λ (s : ObjectState). (object_step v q s next).object) before.state in
      record {
        within = omega (arith, l, long);
        replies = is ∙ (λ i. before.replies i ++ reply i ∷ []) ∙ sym (replies_more v q object_start done next) ∙ ap (run_replies v q) (sym cut)
            ∙ (λ i. run_replies (same i).version (same i).quota (take (length after.replies) commands));
        state = object ∙ sym (after_more v q object_start done next) ∙ ap (run_end v q) (sym cut)
            ∙ (λ i. run_end (same i).version (same i).quota (take (length after.replies) commands));
        counted = omega (arith, it.step.ran, before.counted, long);
        whole = it.whole;
        room = record {
          replies = omega (arith, l, long, less, before.room.replies);
          bytes = omega (arith, told_few, rest_is, before.room.bytes, bytes, ap (λ (n : ℕ). sum_by read_room (drop n commands)) more);
        };
      }

pub left_while_long : (w : WorkMeaning) → w.short ≡ false → left_of w ≡ length w.origin.commands - w.ran
left_while_long w is = ap (λ (b : Bool). if b then 0 else length w.origin.commands - w.ran) is

-- the state of an object that ran the first commands, by where it came from
pub ran_state : (commands : List Command) (old new : ObjectMeaning) (kept : RepliesMeaning) → object_origin new ≡ object_origin old → RanFirst commands new kept
    → state_of new ≡ run_end old.heap.version old.heap.quota (take (length kept.replies) commands)
ran_state commands old new kept same ran = ran.state ∙ ap (λ (o : ObjectOrigin). run_end o.version o.quota (take (length kept.replies) commands)) same
