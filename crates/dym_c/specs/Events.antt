-- Events and messages, as C has them.
use Rattle.std.specs.Prelude.{◌==◌, if◌then◌else◌, Option, None, Some}
use Rattle.warp_base.specs.declared.event.Event.{Event}
use Rattle.warp_base.specs.declared.event.Draft.{Draft}
use Rattle.warp_base.specs.declared.event.Message.{Message}
use Rattle.warp_base.specs.declared.event.Message.TheVariants as messages
use Rattle.dym_c.specs.declared.events.DymData.{DymData}
use Rattle.dym_c.specs.declared.events.DymEvent.{DymEvent}
use Rattle.dym_c.specs.declared.events.DymMessage.{DymMessage}

abbrev pub c_event : Event DymData → DymEvent
c_event e = record {
  time = e.time;
  priority = e.priority;
  serial = e.serial;
  sender = e.sender;
  receiver = e.receiver;
  kind = e.kind;
  payload = e.payload;
}

abbrev pub event_of_c : DymEvent → Event DymData
event_of_c e = record {
  time = e.time;
  priority = e.priority;
  sender = e.sender;
  serial = e.serial;
  receiver = e.receiver;
  kind = e.kind;
  payload = e.payload;
}

-- the sender and the serial are the process's to fill in
abbrev pub draft_of_c : DymEvent → Draft DymData
draft_of_c e = record { time = e.time; priority = e.priority; receiver = e.receiver; kind = e.kind; payload = e.payload }

abbrev pub c_message : Message DymData → DymMessage
c_message (messages.Event e) = record { event = c_event e; is_anti = 0; mark = 0 }
c_message (messages.Anti e) = record { event = c_event e; is_anti = 1; mark = 0 }

-- an event on its way, or its anti-message; no other number is of a message
abbrev pub message_of_c : DymMessage → Option (Message DymData)
message_of_c m = if m.is_anti == 0 then Some (messages.Event (event_of_c m.event))
    else (if m.is_anti == 1 then Some (messages.Anti (event_of_c m.event)) else None)
