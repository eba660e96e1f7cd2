-- How far a work is: what its state stands for, and what is true of it.
use Rattle.std.specs.Prelude.{⊤, ◌≡◌, ℕ, ◌+◌, ◌≤◌, Bool, true, List, [], length, take, drop, sum_by, is_some, Option, None, option_map}
use Rattle.dym_base.specs.Objects.{run_replies, run_end, slots}
use Rattle.dym_base.specs.Origins.{shared}
use Rattle.dym_base.specs.declared.command.Command.{Command}
use Rattle.dym_base.specs.declared.command.Version.{Version}
use Rattle.dym_base.specs.declared.limits.TheConstants.{MOST_QUOTA}
use Rattle.dym_base.specs.declared.reply.Reply.{Reply}
use Rattle.dym_commands.specs.Reads.{read_room}
use Rattle.dym_commands.specs.Replies.{RepliesMeaning}
use Rattle.dym_object.specs.Meaning.{ObjectMeaning, IsWhole, state_of}
use Rattle.dym_quota.specs.QueueShape.{queue_name, known_by}
use Rattle.dym_quota.specs.declared.berth.Berth.{Berth}
use Rattle.dym_report.specs.declared.late_lines.ViewLine.{ViewLine}
use Rattle.dym_slots.specs.Meanings.{KeepMeaning}
use Rattle.dym_view.specs.Histories.{Beginning}
use Rattle.dym_wave.specs.declared.work_state.WorkSpec.{WorkSpec}
use Rattle.dym_wave.specs.declared.work_state.WorkState.{WorkState}
use Rattle.dym_wave.specs.declared.work_state.WorkState.TheVariants.{Waiting, Running, Ended}
use Rattle.dym_wave.specs.Results.{IsTallyOf, Shown, run_shown, shown_text, shown_with}
use Rattle.dym_wave.specs.Views.{shown_view}
use Rattle.dym_wave.specs.Works.{ObjectOrigin, WorkMeaning, object_origin}

-- a keep that no record was put into
pub record IsFreshKeep (keep : KeepMeaning) : Type 0 where
  pub empty : keep.records ≡ []
  pub made : keep.made ≡ 0
  pub idle : keep.lifted ≡ None

-- there is room for a reply to each command that is left, and for all that the reads among them are told
pub record HasRoom (commands : List Command) (kept : RepliesMeaning) : Type 0 where
  pub replies : length commands ≤ length kept.replies + kept.room
  pub bytes : sum_by read_room (drop (length kept.replies) commands) ≤ kept.byte_room

-- an object that ran the first of these commands, as many as there are replies to them, with room for the other replies
pub record RanFirst (commands : List Command) (object : ObjectMeaning) (kept : RepliesMeaning) : Type 0 where
  pub within : length kept.replies ≤ length commands
  pub replies : kept.replies ≡ run_replies object.heap.version object.heap.quota (take (length kept.replies) commands)
  pub state : state_of object ≡ run_end object.heap.version object.heap.quota (take (length kept.replies) commands)
  pub counted : object.ran ≡ length kept.replies
  pub whole : IsWhole object
  pub room : HasRoom commands kept

-- what is printed of an object under this name, which gave these replies, with the line of its view
abbrev pub object_shown : List ℕ → List Reply → ObjectMeaning → Option (Option ViewLine) → Shown
object_shown name replies object line =
    shown_with name object.heap.version replies object.heap.state (length object.chain.logs) (slots object.chain.logs) line

-- what is printed of a work's object in the end
abbrev pub spec_shown : WorkSpec → Bool → ℕ → Shown
spec_shown spec views quota = run_shown views spec.name spec.version quota spec.commands

module _ {R : Type 0} where
  -- the berth holds nothing
  abbrev pub HoldsNothing : Berth R → Type 0
  HoldsNothing berth = (known_by berth.pass).held ≡ []

  -- an object may be opened over the berth
  abbrev pub CanTakeBerth : Berth R → Type 0
  CanTakeBerth berth = HoldsNothing berth × (1 ≤ berth.quota) × (berth.quota ≤ MOST_QUOTA)

  -- where an object over these comes from
  abbrev pub origin_over : Version → Berth R → KeepMeaning → ObjectOrigin
  origin_over version berth keep =
      record { quota = berth.quota; version = version; supply = shared (queue_name berth.pass); keep = keep.origin }

  -- where the object of a work comes from
  abbrev pub state_origin : Version → WorkState R → ObjectOrigin
  state_origin version (Waiting berth keep) = origin_over version berth keep
  state_origin version (Running turn replies) = object_origin turn.object
  state_origin version (Ended text tally berth keep) = origin_over version berth keep

  -- how many of its commands have run
  abbrev pub ran_by : List Command → WorkState R → ℕ
  ran_by commands (Waiting berth keep) = 0
  ran_by commands (Running turn replies) = length replies.replies
  ran_by commands (Ended text tally berth keep) = length commands

  -- the object may be opened; or it ran the first commands; or what is left is of a run of all of them, and the berth holds nothing
  abbrev pub IsState : WorkSpec → Bool → WorkState R → Type 0
  IsState spec views (Waiting berth keep) = CanTakeBerth berth × IsFreshKeep keep
  IsState spec views (Running turn replies) = RanFirst spec.commands turn.object replies × (turn.object.heap.version ≡ spec.version)
  IsState spec views (Ended text tally berth keep) =
      (spec.makes_text ≡ true → text.items ≡ shown_text (spec_shown spec views berth.quota)) × IsTallyOf tally (spec_shown spec views berth.quota)
      × HoldsNothing berth × (keep.lifted ≡ None)

  -- it has started
  abbrev pub IsStarted : WorkState R → Type 0
  IsStarted (Waiting berth keep) = ⊥
  IsStarted (Running turn replies) = ⊤
  IsStarted (Ended text tally berth keep) = ⊤

  -- it can be opened, where it has not started
  abbrev pub CanStart : WorkState R → Type 0
  CanStart (Waiting berth keep) = CanTakeBerth berth × IsFreshKeep keep
  CanStart (Running turn replies) = ⊤
  CanStart (Ended text tally berth keep) = ⊤

  -- where it runs, it ran all its commands, and this is the line of its view
  abbrev pub CanEnd : WorkSpec → Option (Option ViewLine) → WorkState R → Type 0
  CanEnd spec line (Waiting berth keep) = ⊤
  CanEnd spec line (Running turn replies) =
      (length replies.replies ≡ length spec.commands) × (line ≡ shown_view (is_some line) (state_of turn.object))
  CanEnd spec line (Ended text tally berth keep) = ⊤

  -- the work of these
  abbrev pub work_with : WorkSpec → WorkState R → Bool → Option Beginning → WorkMeaning
  work_with spec state short view = record {
    origin = record {
      number = spec.number;
      name = spec.name;
      quantum = spec.quantum;
      makes_text = spec.makes_text;
      commands = spec.commands;
      object = state_origin spec.version state;
      history = option_map (λ (b : Beginning). b.history) view;
    };
    ran = ran_by spec.commands state;
    short = short;
    view = view;
  }
