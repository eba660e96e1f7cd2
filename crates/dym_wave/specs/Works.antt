-- An object with its commands as a job: where it came from, and what it has done.
use Rattle.std.specs.Prelude.{◌≡◌, ℕ, ◌-◌, ◌≤◌, Bool, false, if◌then◌else◌, List, [], length, Option, None, IfSome, option_map}
use Rattle.dym_base.specs.Origins.{Origin, own}
use Rattle.dym_base.specs.declared.command.Version.{Version}
use Rattle.dym_base.specs.declared.command.Version.TheVariants.{One}
use Rattle.dym_base.specs.declared.command.Command.{Command}
use Rattle.dym_base.specs.declared.limits.TheConstants.{MOST_COMMANDS, MOST_QUANTUM}
use Rattle.dym_object.specs.Meaning.{ObjectMeaning}
use Rattle.dym_view.specs.Histories.{Beginning, HistoryName}
use Rattle.dym_wave.specs.Publications.{IsPublished}

-- where an object came from: its quota, the version of its heap, the origin of its supply, and the origin of its keep
pub record ObjectOrigin : Type 0 where
  pub quota : ℕ
  pub version : Version
  pub supply : Origin
  pub keep : Origin

-- where a work came from, which no turn changes: the object's place in its wave, its name, how many commands a turn runs at most, whether
-- the text of its part is made as it ends, its own commands, where the object came from, and the name of the history that it publishes
pub record OriginMeaning : Type 0 where
  pub number : ℕ
  pub name : List ℕ
  pub quantum : ℕ
  pub makes_text : Bool
  pub commands : List Command
  pub object : ObjectOrigin
  pub history : Option HistoryName

-- a work: where it came from, how many of its commands have run, whether memory was wanting, and what is published
pub record WorkMeaning : Type 0 where
  pub origin : OriginMeaning
  pub ran : ℕ
  pub short : Bool
  pub view : Option Beginning

-- what a value of the type means, though none is ever made
abbrev pub no_origin : OriginMeaning
no_origin = record {
  number = 0;
  name = [];
  quantum = 0;
  makes_text = false;
  commands = [];
  object = record { quota = 0; version = One; supply = own; keep = own };
  history = None;
}

abbrev pub object_origin : ObjectMeaning → ObjectOrigin
object_origin object = record {
  quota = object.heap.quota;
  version = object.heap.version;
  supply = object.heap.origin;
  keep = object.chain.origin;
}

abbrev pub number_of : WorkMeaning → ℕ
number_of w = w.origin.number

abbrev pub origin_of : WorkMeaning → OriginMeaning
origin_of w = w.origin

-- how many commands are left to run: none where memory was wanting
abbrev pub left_of : WorkMeaning → ℕ
left_of w = if w.short then 0 else length w.origin.commands - w.ran

-- it ran all its commands
abbrev pub IsOver : WorkMeaning → Type 0
IsOver w = (left_of w ≡ 0) × (w.short ≡ false)

-- a job: no more commands have run than it has. What it publishes is of its history; between turns the last commit is the oldest kept
-- log, unless memory was wanting
pub record JobMeaning (w : WorkMeaning) : Type 0 where
  pub within : w.ran ≤ length w.origin.commands
  pub few : length w.origin.commands ≤ MOST_COMMANDS
  pub some_quantum : 1 ≤ w.origin.quantum
  pub most_quantum : w.origin.quantum ≤ MOST_QUANTUM
  pub of_history : w.origin.history ≡ option_map (λ (b : Beginning). b.history) w.view
  pub published : IfSome w.view (IsPublished w.origin.object.version w.origin.object.quota w.origin.commands w.ran w.short)
