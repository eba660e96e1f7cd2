-- States of an object that know how many events led to them.
use Rattle.std.specs.Prelude.{ℕ, suc, false}
use Rattle.dym_base.specs.Heaps.{Live}
use Rattle.warp_base.specs.Histories.{Behaviour}
use Rattle.warp_object.specs.declared.moment.Moment.{Moment}

-- these chunks, after so many events
abbrev pub moment : ℕ → Live → Moment
moment n live = record { marker = record {}; seen = (n, live) }

-- a behaviour on objects, with states that know how many events led to them. It has no faults: what fails is the
-- program's own to tell
abbrev pub dated : {P : Type 0} → Behaviour P Live → Behaviour P Moment
dated b = record {
  start = λ p. moment 0 (b.start p);
  firsts = b.firsts;
  after = λ p m e. moment (suc m.seen.0) (b.after p m.seen.1 e);
  drafts = λ p m e. b.drafts p m.seen.1 e;
  faulty = λ m. false;
}
