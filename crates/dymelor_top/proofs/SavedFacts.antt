-- An object of a name among the parts of a script, and the file of what its own commands leave.
use Rattle.std.proofs.Common.{◌≡◌, ℕ, ◌+◌, ◌<◌, ◌≤◌, Bool, true, false, cond, List, [], ◌∷◌, ◌++◌, All, IsTrue, length, map, take, get_or, slice_get, nat_lt, Option, Some, IfSome, option_map, refl, sym, ap, subst, ◌∙◌, append-nil, take-append-drop, arith}
use Rattle.std.specs.List.{find}
use Rattle.std.specs.Str.{bytes_eq}
use Rattle.std.proofs.lemmas.Bool.{cond-false}
use Rattle.std.proofs.lemmas.Bool.Decides.{nat_tests}
use Rattle.std.proofs.lemmas.List.Elements.{All-head, All-tail}
use Rattle.dym_base.specs.declared.limits.TheConstants.{MOST_INPUT_BYTES}
use Rattle.dym_base.specs.declared.bad_kind.BadKind.TheVariants as bad
use Rattle.dym_base.specs.Names.{is_name}
use Rattle.dym_base.specs.Objects.{ObjectState}
use Rattle.dym_base.specs.declared.command.Command.{Command}
use Rattle.dym_base.specs.declared.command.Version.{Version}
use Rattle.dym_base.specs.declared.reply.Reply.{Reply}
use Rattle.dym_chain.specs.Chains.{ChainMeaning}
use Rattle.dym_ckpt.specs.SavedFiles.{file_of_logs}
use Rattle.dym_object.specs.Laws.{RunsGoOn}
use Rattle.dym_heap.specs.Meaning.{HeapMeaning}
use Rattle.dym_object.specs.Meaning.{ObjectMeaning, HasRun}
use Rattle.dym_script.specs.Answers.{IsLawful}
use Rattle.dym_script.specs.ByObjects.{IsByObjects}
use Rattle.dym_script.specs.Scripts.{ScriptMeaning}
use Rattle.dym_script.specs.declared.parts.PartCollector.{PartCollector}
use Rattle.dym_script.specs.declared.parts.Part.{Part}
use Rattle.dym_script.specs.declared.pieces.WholeScript.{WholeScript}
use Rattle.dym_script.specs.declared.script.Decl.{Decl}
use Rattle.dym_object.specs.Turns.{Ran}
use Rattle.dymelor_top.specs.Answers.{Answer, fault_answer, file_answer, named_answer}
use Rattle.dymelor_top.specs.Checkpoints.{own_named, own_file}
use Rattle.dym_script.specs.OwnCommands.{own_of, IsRunnable, Own}
use Rattle.dymelor_top.proofs.CommandFacts.{command_at, command_fact, none_behind}
use Rattle.dymelor_top.proofs.PartFacts.{parts_are_objects, parts_run, decl_at, length_decls}

-- ---- the object of a name

-- the part has the name
abbrev has_name : List ℕ → Part → Bool
has_name name part = bytes_eq part.decl.name name

module _ (name : List ℕ) where
  pub found_own : (parts : List Part) → find (λ (o : Own). bytes_eq o.decl.name name) (map own_of parts) ≡ option_map own_of (find (has_name name) parts)
  found_own [] = refl
  found_own (p ∷ ps) =
      elim (has_name name p)
      as (λ b. cond b (Some (own_of p)) (find (λ (o : Own). bytes_eq o.decl.name name) (map own_of ps)) ≡ option_map own_of (cond b (Some p) (find (has_name name) ps))) [
        | true ↦ refl
        | false ↦ found_own ps
      ]

  -- what is true of each part is true of the one that is found
  pub found_fact : (P : Part → Type 0) (parts : List Part) → All P parts → IfSome (find (has_name name) parts) P
  found_fact P [] all = tt
  found_fact P (p ∷ ps) all =
      elim (has_name name p) as (λ b. IfSome (cond b (Some p) (find (has_name name) ps)) P) [
        | true ↦ All-head P p ps all
        | false ↦ found_fact P ps (All-tail P p ps all)
      ]

-- the parts of a script have names
pub parts_named : (s : ScriptMeaning) (parts : List Part) → map (λ (p : Part). p.decl) parts ≡ s.objects → IsLawful s → All (λ (p : Part). IsTrue (is_name p.decl.name)) parts
parts_named s parts decls lawful k d within =
    let at : get_or s.objects k d.decl ≡ (get_or parts k d).decl = ap (λ ds. get_or ds k d.decl) (sym decls) ∙ decl_at parts k d in
    let reach : k < length s.objects = omega (arith, length_decls parts, ap length decls, within) in
    subst (λ (x : Decl). IsTrue (is_name x.name)) at (lawful.names k d.decl reach)

-- the first of that name was looked for among these parts
module _ (script : WholeScript PartCollector) (s : ScriptMeaning) (name : List ℕ) (parts : List Part) (looked found : Option Part) (are : IsByObjects script s)
    (same : parts ≡ script.kept.parts.items) (by_name : looked ≡ find (has_name name) parts) (is : looked ≡ found) where
  found_is : find (has_name name) script.kept.parts.items ≡ found
  found_is = ap (find (has_name name)) (sym same) ∙ sym by_name ∙ is

  pub named_is : named_answer s.version (own_named name s) ≡ named_answer script.version (option_map own_of found)
  named_is =
      let items : List Part = script.kept.parts.items in
      let own : own_named name s ≡ option_map own_of found =
      ap (λ os. find (λ (o : Own). bytes_eq o.decl.name name) os) (sym (parts_are_objects s items are.keeps.decls are.keeps.commands)) ∙ found_own name items
      ∙ ap (option_map own_of) found_is in
      λ i. named_answer (are.version i) (own i)

  pub named_runs : IfSome found IsRunnable
  named_runs =
      subst (λ o. IfSome o IsRunnable) found_is
      (found_fact name IsRunnable script.kept.parts.items (parts_run s script.kept.parts.items are.keeps.decls are.keeps.commands are.valid))

  pub named_named : IfSome found (λ (p : Part). IsTrue (is_name p.decl.name))
  named_named =
      subst (λ o. IfSome o (λ (p : Part). IsTrue (is_name p.decl.name))) found_is
      (found_fact name (λ (p : Part). IsTrue (is_name p.decl.name)) script.kept.parts.items (parts_named s script.kept.parts.items are.keeps.decls are.valid))

-- ---- the run of its own commands

-- one command more was run
pub run_more : RunsGoOn → (commands : List Command) (k : ℕ) (old new : ObjectMeaning) (reply : Reply) → k < length commands → HasRun (take k commands) old
    → IfSome (slice_get commands k) (λ c. Ran old c new reply) → HasRun (take (k + 1) commands) new
run_more law commands k old new reply within has ran =
    let at = command_at commands k within in
    let did : Ran old at.one new reply = command_fact (λ c. Ran old c new reply) (slice_get commands k) at.one at.is ran in
    subst (λ cs. HasRun cs new) (sym at.front) (law (take k commands) old new at.one has did.step.object did.step.base_logs did.step.heap)

-- and the heap's version and quota stand
pub run_heap : (commands : List Command) (k : ℕ) (old new : ObjectMeaning) (reply : Reply) → k < length commands
    → IfSome (slice_get commands k) (λ c. Ran old c new reply)
    → (new.heap.version ≡ old.heap.version) × (new.heap.quota ≡ old.heap.quota)
run_heap commands k old new reply within ran =
    let at = command_at commands k within in
    let did : Ran old at.one new reply = command_fact (λ c. Ran old c new reply) (slice_get commands k) at.one at.is ran in
    (ap (λ (h : HeapMeaning). h.version) did.step.heap, ap (λ (h : HeapMeaning). h.quota) did.step.heap)

-- past the last one all were run
pub run_all_of : (commands : List Command) (k : ℕ) (o : ObjectMeaning) → length commands ≤ k → HasRun (take k commands) o → HasRun commands o
run_all_of commands k o all has =
    let whole : take k commands ≡ commands =
    sym (append-nil (take k commands)) ∙ ap (λ l. take k commands ++ l) (sym (none_behind commands k all)) ∙ take-append-drop k commands in
    subst (λ cs. HasRun cs o) whole has

-- ---- the file of an object that ran them

file_is : (o : ObjectMeaning) (part : Part) → HasRun part.commands o → o.heap.quota ≡ part.decl.quota
    → file_of_logs part.decl.name part.decl.quota o.heap.version o.chain ≡ own_file o.heap.version (own_of part)
file_is o part has quota =
    let logs : o.chain.logs ≡ _ = ap (λ (s : ObjectState). s.logs) has.object in
    (λ i. file_of_logs part.decl.name (sym quota i) o.heap.version (record o.chain { base_logs = has.base_logs i; logs = logs i }))
    ∙ (λ i. own_file o.heap.version (record { decl = record part.decl { quota = quota i }; commands = part.commands }))

fit_file : (file : List ℕ) → length file ≤ MOST_INPUT_BYTES → file_answer file ≡ record { status = 0; text = file }
fit_file file fits =
    let test : nat_lt MOST_INPUT_BYTES (length file) ≡ false = grind (arith, nat_tests) in
    cond-false {A = Answer} (nat_lt MOST_INPUT_BYTES (length file)) (fault_answer 0 bad.TooLong) (record { status = 0; text = file }) test

-- the file that is written of such an object is the answer, where it is no longer than an input may be
pub saved_is : (o : ObjectMeaning) (part : Part) (version : Version) (chain : ChainMeaning) → HasRun part.commands o → o.heap.quota ≡ part.decl.quota
    → version ≡ o.heap.version → chain ≡ o.chain → length (file_of_logs part.decl.name part.decl.quota o.heap.version o.chain) ≤ MOST_INPUT_BYTES
    → file_answer (own_file o.heap.version (own_of part)) ≡ record { status = 0; text = file_of_logs part.decl.name part.decl.quota version chain }
saved_is o part version chain has quota same_version same_chain short =
    ap file_answer (sym (file_is o part has quota)) ∙ fit_file (file_of_logs part.decl.name part.decl.quota o.heap.version o.chain) short
    ∙ (λ i. record { status = 0; text = file_of_logs part.decl.name part.decl.quota (sym same_version i) (sym same_chain i) })
