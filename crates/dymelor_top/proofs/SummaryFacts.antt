-- What objects come to, counted one after another.
use Rattle.std.proofs.Common.{◌≡◌, ℕ, suc, ◌+◌, ◌<◌, ◌≤◌, cond, List, [], ◌∷◌, All, IfSome, length, map, filter, drop, slice_get, count_by, sum_by, refl, subst, sym, ap, ◌∙◌, ◌⊎◌, inl, inr, arith, ◌==◌}
use Rattle.std.specs.Prelude.{nat_le}
use Rattle.std.specs.FinMap.{len}
use Rattle.std.proofs.lemmas.Bool.{cases_order, cond-true, cond-false, eq-eqb, ne_eqb, le-leb, lt-leb}
use Rattle.std.proofs.lemmas.List.Elements.{All-head, All-tail, All-weaker}
use Rattle.std.proofs.lemmas.List.Sums.{sum_by-cons, length-filter}
use Rattle.std.proofs.lemmas.List.{length-map}
use Rattle.dym_base.specs.RunLaws.{IsLogList, RunsKeepLogs}
use Rattle.dym_base.specs.Objects.{LogEntry, ObjectState, ObjectAnswer, object_start, object_step, replies_from, object_after, slots}
use Rattle.dym_base.specs.declared.command.Version.{Version}
use Rattle.dym_base.specs.declared.command.Command.{Command}
use Rattle.dym_base.specs.declared.reply.Reply.{Reply}
use Rattle.dym_heap.specs.Meaning.{HeapMeaning}
use Rattle.dym_object.specs.Meaning.{ObjectMeaning, state_of, step_by}
use Rattle.dym_script.specs.declared.script.Line.{Line}
use Rattle.dym_script.specs.declared.parts.PartCollector.{PartCollector}
use Rattle.dym_script.specs.declared.parts.Part.{Part}
use Rattle.dym_script.specs.declared.pieces.WholeScript.{WholeScript}
use Rattle.dym_script.specs.ByObjects.{IsByObjects}
use Rattle.dym_script.specs.Scripts.{ScriptMeaning, own}
use Rattle.dym_script.specs.Parts.{EachHas}
use Rattle.dym_report.specs.declared.tally.Tally.{Tally}
use Rattle.dym_script.specs.OwnCommands.{own_of, objects_of}
use Rattle.dym_report.specs.Summary.{is_refusal, tally_with, both_tallies, totals_with}
use Rattle.dym_wave.specs.Reports.{tally_of, tally_all, totals_of}
use Rattle.dym_object.specs.Turns.{Ran}
use Rattle.dymelor_top.proofs.CommandFacts.{command_at, command_fact}
use Rattle.dymelor_top.proofs.PartFacts.{OwnsFrom, owns_first, owns_later, owns_all, parts_are_objects}

-- ---- the commands of all objects are those of the lines

-- how many of the lines are an object's from the k-th on
abbrev reach : ℕ → List Line → ℕ
reach k lines = count_by (λ line. nat_le k line.object) lines

step : (k n : ℕ) → cond (n == k) 1 0 + cond (nat_le (k + 1) n) 1 0 ≡ cond (nat_le k n) 1 0
step k n = by (cases_order n k)
  where
    by : (n ≡ k) ⊎ ((n < k) ⊎ (k < n)) → cond (n == k) 1 0 + cond (nat_le (k + 1) n) 1 0 ≡ cond (nat_le k n) 1 0
    by (inl eq) =
        omega (
          arith,
          cond-true {A = ℕ} (n == k) 1 0 (eq-eqb n k eq),
          cond-false {A = ℕ} (nat_le (k + 1) n) 1 0 (lt-leb (k + 1) n (omega (arith, eq))),
          cond-true
              {A = ℕ} (nat_le k n) 1 0 (le-leb k n (omega (arith, eq))),
        )
    by (inr (inl lt)) =
        omega (
          arith,
          cond-false {A = ℕ} (n == k) 1 0 (ne_eqb n k (λ e. omega (arith, e, lt))),
          cond-false {A = ℕ} (nat_le (k + 1) n) 1 0
              (lt-leb (k + 1) n (omega arith)),
          cond-false {A = ℕ} (nat_le k n) 1 0 (lt-leb k n lt),
        )
    by (inr (inr gt)) =
        omega (
          arith,
          cond-false {A = ℕ} (n == k) 1 0 (ne_eqb n k (λ e. omega (arith, e, gt))),
          cond-true {A = ℕ} (nat_le (k + 1) n) 1 0
              (le-leb (k + 1) n (omega arith)),
          cond-true {A = ℕ} (nat_le k n) 1 0 (le-leb k n (omega arith)),
        )

split_reach : (k : ℕ) (lines : List Line) → count_by (λ line. line.object == k) lines + reach (k + 1) lines ≡ reach k lines
split_reach k [] = refl
split_reach k (x ∷ xs) =
    omega (
      arith,
      step k x.object,
      split_reach k xs,
      sum_by-cons (λ (line : Line). cond (line.object == k) 1 0) x xs,
      sum_by-cons (λ (line : Line). cond (nat_le (k + 1) line.object) 1 0) x xs,
      sum_by-cons (λ (line : Line). cond (nat_le k line.object) 1 0) x xs,
    )

own_length : (s : ScriptMeaning) (k : ℕ) → length (own s k) ≡ count_by (λ line. line.object == k) s.lines
unfolding own
own_length s k = length-map (filter (λ line. line.object == k) s.lines) (λ (line : Line). line.command) ∙ length-filter (λ (line : Line). line.object == k) s.lines

-- no line is an object's from the k-th on, where all are of those before
reach_none : (k : ℕ) (lines : List Line) → All (λ line. line.object < k) lines → reach k lines ≡ 0
reach_none k [] all = refl
reach_none k (x ∷ xs) all =
    omega (
      arith,
      sum_by-cons (λ (line : Line). cond (nat_le k line.object) 1 0) x xs,
      cond-false {A = ℕ} (nat_le k x.object) 1 0 (lt-leb k x.object (All-head (λ (line : Line). line.object < k) x xs all)),
      reach_none k xs (All-tail (λ (line : Line). line.object < k) x xs all),
    )

reach_all : (lines : List Line) → reach 0 lines ≡ length lines
reach_all [] = refl
reach_all (x ∷ xs) =
    omega (
      arith,
      sum_by-cons (λ (line : Line). cond (nat_le 0 line.object) 1 0) x xs,
      cond-true {A = ℕ} (nat_le 0 x.object) 1 0 (le-leb 0 x.object (omega arith)),
      reach_all xs,
    )

commands_from : (s : ScriptMeaning) (k : ℕ) (parts : List Part) → OwnsFrom s k parts → All (λ line. line.object < k + length parts) s.lines
    → sum_by (λ part. length part.commands) parts ≡ reach k s.lines
commands_from s k [] owns all =
    sym (reach_none k s.lines (All-weaker (λ line. line.object < k + 0) (λ line. line.object < k) (λ line base_logs. omega (arith, base_logs)) s.lines all))
commands_from s k (p ∷ ps) owns all =
    let within : All (λ line. line.object < (k + 1) + length ps) s.lines =
    All-weaker (λ line. line.object < k + suc (length ps)) (λ line. line.object < (k + 1) + length ps) (λ line base_logs. omega (arith, base_logs)) s.lines all in
    omega (
      arith,
      sum_by-cons (λ (part : Part). length part.commands) p ps,
      ap length (owns_first s k p ps owns),
      own_length s k,
      split_reach k s.lines,
      commands_from s (k + 1) ps (owns_later s k p ps owns) within,
    )

-- together the parts have as many commands as the script has lines
pub commands_all : (s : ScriptMeaning) (parts : List Part) → EachHas parts s.lines → length parts ≡ length s.objects → All (λ line. line.object < length s.objects) s.lines
    → sum_by (λ part. length part.commands) parts ≡ length s.lines
commands_all s parts owns same declared =
    let all : All (λ line. line.object < 0 + length parts) s.lines =
    All-weaker (λ line. line.object < length s.objects) (λ line. line.object < 0 + length parts) (λ line base_logs. omega (arith, base_logs, same)) s.lines declared in
    commands_from s 0 parts (owns_all s parts owns) all ∙ reach_all s.lines

pub objects_of_parts : (script : WholeScript PartCollector) (s : ScriptMeaning) → IsByObjects script s → length script.kept.parts.items ≡ length s.objects
objects_of_parts script s are = sym (length-map script.kept.parts.items (λ (p : Part). p.decl)) ∙ ap length are.keeps.decls

pub commands_of_parts : (script : WholeScript PartCollector) (s : ScriptMeaning) → IsByObjects script s
    → sum_by (λ part. length part.commands) script.kept.parts.items ≡ length s.lines
commands_of_parts script s are = commands_all s script.kept.parts.items are.keeps.commands (objects_of_parts script s are) are.valid.declared

-- ---- sums of tallies

-- after the first i parts were counted, what they come to with the others is what all come to
abbrev pub Counted : Version → List Part → ℕ → Tally → Type 0
Counted v parts i tally = both_tallies tally (tally_all v (map own_of (drop i parts))) ≡ tally_all v (map own_of parts)

-- the totals of a script's parts
pub total_is : (script : WholeScript PartCollector) (s : ScriptMeaning) (tally : Tally) (objects : ℕ) → IsByObjects script s
    → tally ≡ tally_all script.version (map own_of script.kept.parts.items)
    → tally.ok + tally.refused ≡ sum_by (λ part. length part.commands) script.kept.parts.items → objects ≡ length script.kept.parts.items
    → totals_with objects tally ≡ totals_of s
total_is script s tally objects are is replies len =
    let ps : List Part = script.kept.parts.items in
    let all : tally ≡ tally_all s.version (objects_of s) = is ∙ (λ i. tally_all (sym are.version i) (parts_are_objects s ps are.keeps.decls are.keeps.commands i)) in
    let count : objects ≡ length s.objects = len ∙ objects_of_parts script s are in
    let commands : tally.ok + tally.refused ≡ length s.lines = replies ∙ commands_of_parts script s are in
    λ i. record {
      objects = count i;
      commands = commands i;
      ok = (all i).ok;
      refused = (all i).refused;
      chunks = (all i).chunks;
      segments = (all i).segments;
      kept = (all i).kept;
      slots = (all i).slots;
    }

-- ---- one object

-- with so many refusals so far, those of the replies to the commands that are left make those of the whole run
pub record Refusing (start now : ObjectMeaning) (commands rest : List Command) (refused : ℕ) : Type 0 where
  pub version : now.heap.version ≡ start.heap.version
  pub quota : now.heap.quota ≡ start.heap.quota
  pub counted : refused + count_by is_refusal (replies_from start.heap.version start.heap.quota (state_of now) rest)
      ≡ count_by is_refusal (replies_from start.heap.version start.heap.quota (state_of start) commands)
  pub ends : object_after start.heap.version start.heap.quota (state_of now) rest ≡ object_after start.heap.version start.heap.quota (state_of start) commands

-- one command more was run
refusing_more : (start now next : ObjectMeaning) (commands rest after : List Command) (c : Command) (reply : Reply) (refused more : ℕ)
    → Refusing start now commands rest refused → rest ≡ c ∷ after
    → reply ≡ (step_by now c).reply → state_of next ≡ (step_by now c).object → next.heap.version ≡ now.heap.version → next.heap.quota ≡ now.heap.quota
    → more ≡ refused + cond (is_refusal reply) 1 0 → Refusing start next commands after more
refusing_more start now next commands rest after c reply refused more r cut replied left version quota counts =
    let v : Version = start.heap.version in
    let q : ℕ = start.heap.quota in
    let others : List Reply = replies_from v q (state_of next) after in
    let step : step_by now c ≡ object_step v q (state_of now) c = λ j. object_step (r.version j) (r.quota j) (state_of now) c in
    let said : reply ≡ (object_step v q (state_of now) c).reply = replied ∙ ap (λ (a : ObjectAnswer). a.reply) step in
    let state : state_of next ≡ (object_step v q (state_of now) c).object = left ∙ ap (λ (a : ObjectAnswer). a.object) step in
    let whole : replies_from v q (state_of now) rest ≡ reply ∷ others =
    ap (replies_from v q (state_of now)) cut ∙ (λ j. sym said j ∷ replies_from v q (sym state j) after) in
    record {
      version = version ∙ r.version;
      quota = quota ∙ r.quota;
      counted = omega (arith, r.counted, counts, ap (count_by is_refusal) whole, sum_by-cons (λ (x : Reply). cond (is_refusal x) 1 0) reply others);
      ends = ap (λ s. object_after v q s after) state ∙ ap (object_after v q (state_of now)) (sym cut) ∙ r.ends;
    }

-- the ith command was run
pub refusing_ran : (commands : List Command) (i : ℕ) (start now next : ObjectMeaning) (reply : Reply) (refused more : ℕ) → i < length commands
    → Refusing start now commands (drop i commands) refused
    → IfSome (slice_get commands i) (λ c. Ran now c next reply) → more ≡ refused + cond (is_refusal reply) 1 0 → Refusing start next commands (drop (i + 1) commands) more
refusing_ran commands i start now next reply refused more within r ran counts =
    let at = command_at commands i within in
    let did : Ran now at.one next reply = command_fact (λ c. Ran now c next reply) (slice_get commands i) at.one at.is ran in
    refusing_more start now next commands _ _ at.one reply refused more r at.cut did.reply did.step.object (ap (λ (h : HeapMeaning). h.version) did.step.heap)
    (ap (λ (h : HeapMeaning). h.quota) did.step.heap) counts

-- all commands were run
pub refusing_all : (start now : ObjectMeaning) (commands rest : List Command) (refused : ℕ) → Refusing start now commands rest refused → rest ≡ []
    → (refused ≡ count_by is_refusal (replies_from start.heap.version start.heap.quota (state_of start) commands))
    × (state_of now ≡ object_after start.heap.version start.heap.quota (state_of start) commands)
refusing_all start now commands rest refused r none =
    let v : Version = start.heap.version in
    let q : ℕ = start.heap.quota in (
      omega (arith, r.counted, ap (λ cs. count_by is_refusal (replies_from v q (state_of now) cs)) none),
      ap (object_after v q (state_of now)) (sym none) ∙ r.ends,
    )

-- what replies and an end come to
abbrev pub counted : List Reply → ObjectState → Tally
counted replies s = tally_with replies s.heap.live (length s.logs) (slots s.logs)

tally_is : (v : Version) (part : Part)
    → tally_of v (own_of part) ≡ counted (replies_from v part.decl.quota object_start part.commands) (object_after v part.decl.quota object_start part.commands)
unfolding tally_of
tally_is v part = refl

-- few logs are kept, and they take few records
pub slots_few : (logs : List LogEntry) → IsLogList logs → slots logs ≤ 287
slots_few [] lawful = omega arith
slots_few (e ∷ es) lawful = omega (arith, lawful.0, lawful.1.0)

-- along a run the logs are such as an object keeps
pub log_list : RunsKeepLogs → (start now : ObjectMeaning) (commands : List Command) → state_of start ≡ object_start
    → state_of now ≡ object_after start.heap.version start.heap.quota (state_of start) commands → IsLogList now.chain.logs
log_list keep start now commands begun ends =
    subst (λ (s : ObjectState). IsLogList s.logs) (sym (ends ∙ ap (λ s. object_after start.heap.version start.heap.quota s commands) begun))
    (keep start.heap.version start.heap.quota commands)

-- those of a run are what the part comes to
pub tally_shown : (part : Part) (start : ObjectMeaning) (commands : List Command)
    → commands ≡ part.commands → start.heap.quota ≡ part.decl.quota → state_of start ≡ object_start
    → counted (replies_from start.heap.version start.heap.quota (state_of start) commands)
    (object_after start.heap.version start.heap.quota (state_of start) commands) ≡ tally_of start.heap.version (own_of part)
tally_shown part start commands same quota begun =
    let v : Version = start.heap.version in
    (λ i. counted (replies_from v (quota i) (begun i) (same i)) (object_after v (quota i) (begun i) (same i))) ∙ sym (tally_is v part)
