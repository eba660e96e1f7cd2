-- A command to the heap of an object: the step of the object is that of its heap.
use Rattle.std.proofs.Common.{◌≡◌, ℕ, List, refl, ap, sym, subst, ◌∙◌, arith}
use Rattle.dym_base.specs.HeapStep.{heap_step, IsHeapCommand}
use Rattle.dym_base.specs.BaseLogs.{base_logs_step}
use Rattle.dym_base.specs.LateRun.{IsEventCommand}
use Rattle.dym_base.specs.Objects.{LogEntry, ObjectState, ObjectAnswer, of_heap, object_step}
use Rattle.dym_base.specs.declared.command.Version.{Version}
use Rattle.dym_base.specs.declared.command.Command.{Command}
use Rattle.dym_base.specs.declared.command.Command.TheVariants.{Read, Log, Ilog, Restore, Prune, Logs}
use Rattle.dym_heap.specs.Meaning.{HeapMeaning}
use Rattle.dym_heap.specs.Replies.{stepped}
use Rattle.dym_chain.specs.Chains.{ChainMeaning, Belongs, object_of}
use Rattle.dym_chain.specs.ChainLaws.{HeapStepsKeepBelonging}
use Rattle.dym_object.specs.Laws.{StepsKeepWhole}

-- a command that an event may have is one to the heap
pub to_heap : (c : Command) → IsEventCommand c → IsHeapCommand c
to_heap (Read h at n) may = absurd may
to_heap c may = may

-- one command to the heap of an object
pub step_is : (v : Version) (quota : ℕ) (s : ObjectState) (c : Command) → IsHeapCommand c → object_step v quota s c ≡ of_heap s (heap_step v quota s.heap c)
step_is v quota s (Log t) is = absurd is
step_is v quota s (Ilog t) is = absurd is
step_is v quota s (Restore t) is = absurd is
step_is v quota s (Prune g) is = absurd is
step_is v quota s Logs is = absurd is
step_is v quota s c is = refl

-- and its reply is the heap's
pub reply_is : (v : Version) (quota : ℕ) (s : ObjectState) (c : Command) → IsHeapCommand c → (heap_step v quota s.heap c).reply ≡ (object_step v quota s c).reply
reply_is v quota s c is = sym (ap (λ (a : ObjectAnswer). a.reply) (step_is v quota s c is))

-- a command to the heap leaves what stands below the kept logs
pub below_is : (base_logs : List LogEntry) (s : ObjectState) (c : Command) → IsHeapCommand c → base_logs ≡ base_logs_step base_logs s c
below_is base_logs s (Log t) is = absurd is
below_is base_logs s (Ilog t) is = absurd is
below_is base_logs s (Restore t) is = absurd is
below_is base_logs s (Prune g) is = absurd is
below_is base_logs s Logs is = absurd is
below_is base_logs s c is = refl

-- the object after, where its heap is that of the step
object_is : (h new : HeapMeaning) (chain : ChainMeaning) (c : Command) → IsHeapCommand c → new ≡ record (stepped h c) { held_ids = new.held_ids } → object_of new.state chain ≡ (object_step h.version h.quota (object_of h.state chain) c).object
object_is h new chain c is after =
    ap (λ (m : HeapMeaning). object_of m.state chain) after
    ∙ sym (ap (λ (a : ObjectAnswer). a.object) (step_is h.version h.quota (object_of h.state chain) c is))

-- all but the chunks and the segments stays
rest_stays : (h new : HeapMeaning) (c : Command) → new ≡ record (stepped h c) { held_ids = new.held_ids } → new ≡ record h { state = new.state; held_ids = new.held_ids }
rest_stays h new c after =
    subst (λ (m : HeapMeaning). m ≡ record h { state = m.state; held_ids = m.held_ids }) (sym after) refl

-- the chain still belongs to the heap
still_belongs : HeapStepsKeepBelonging → (h new : HeapMeaning) (chain : ChainMeaning) (c : Command) → new ≡ record (stepped h c) { held_ids = new.held_ids } → Belongs h.version h.quota h.state chain → Belongs new.version new.quota new.state chain
still_belongs law h new chain c after belongs =
    subst (λ (m : HeapMeaning). Belongs m.version m.quota m.state chain) (sym after) (law h.version h.quota h.state c chain belongs)

-- a step of the heap alone
pub steps_keep : HeapStepsKeepBelonging → StepsKeepWhole
steps_keep law o heap c is after sound whole = (
  record {
    object = object_is o.heap heap o.chain c is after;
    base_logs = below_is o.chain.base_logs (object_of o.heap.state o.chain) c is;
    ran = refl;
    heap = rest_stays o.heap heap c after;
    origin = refl;
  },
  record {
    sound = sound;
    belongs = still_belongs law o.heap heap o.chain c after whole.belongs;
    stands = whole.stands;
    idle = whole.idle;
    counted = (let made = whole.counted in omega (arith, made));
  },
)
