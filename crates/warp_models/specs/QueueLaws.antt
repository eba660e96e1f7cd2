-- The ring keeps the laws of a model.
use Rattle.std.specs.Prelude.{ℕ, ◌<◌, cond, nat_lt, ◌==◌, []}
use Rattle.std.proofs.Common.{ap, arith}
use Rattle.std.proofs.lemmas.Bool.{le-ltb}
use Rattle.warp_base.specs.declared.event.Draft.{Draft}
use Rattle.warp_base.specs.Events.{Each}
use Rattle.warp_base.specs.Histories.{LooksAhead, StartsWithin, SendsWithin}
use Rattle.warp_base.proofs.Lists.{Each-append}
use Rattle.warp_models.specs.declared.queues.RingOptions.{RingOptions}
use Rattle.warp_models.specs.declared.queues.Station.{Station}
use Rattle.warp_models.specs.Random.{next, seeded}
use Rattle.warp_models.specs.Sends.{in_time, Each-cond, Each-in_time}
use Rattle.warp_models.specs.Queues.{arrival, departure, sent_at_arrival, sent_at_departure, ring}

module _ (o : RingOptions) where
  Each-drafts : (Q : Draft (Unit {0}) → Type 0) (p : ℕ) (s : Station) (now : ℕ) → Q (arrival o p now) → Q (departure o p (next s.random) now) → (kind : ℕ) → Each Q (cond (kind == 0) (sent_at_arrival o p s now) (sent_at_departure o p s now))
  Each-drafts Q p s now one two kind =
      let served = Each-in_time Q (departure o p (next s.random) now) two in
      Each-cond Q (kind == 0) (sent_at_arrival o p s now) (sent_at_departure o p s now)
      (Each-cond Q (s.waiting == 0) (in_time (departure o p (next s.random) now)) [] served tt)
      (Each-append Q (in_time (arrival o p now)) (cond (nat_lt 1 s.waiting) (in_time (departure o p (next s.random) now)) []) (Each-in_time Q (arrival o p now) one) (Each-cond Q (nat_lt 1 s.waiting) (in_time (departure o p (next s.random) now)) [] served tt))

  pub ring-looks_ahead : LooksAhead (ring o)
  ring-looks_ahead p s e = Each-drafts (λ d. e.time < d.time) p s e.time (omega arith) (omega arith) e.kind

  pub ring-starts_within : StartsWithin o.stations (ring o)
  ring-starts_within p beyond =
      ap (λ t. cond t (cond (nat_lt 0 o.jobs) (in_time (departure o p (next (seeded o.seed p)) 0)) []) []) (le-ltb p o.stations beyond)

  pub ring-sends_within : 0 < o.stations → SendsWithin o.stations (ring o)
  ring-sends_within some = record {
    firsts = λ p.
        let first = departure o p (next (seeded o.seed p)) 0 in
        let Q : Draft (Unit {0}) → Type 0 = λ d. d.receiver < o.stations in
        Each-cond Q (nat_lt p o.stations) (cond (nat_lt 0 o.jobs) (in_time first) []) [] (Each-cond Q (nat_lt 0 o.jobs) (in_time first) [] (Each-in_time Q first (omega (arith, some))) tt) tt;
    drafts = λ p s e. Each-drafts (λ d. d.receiver < o.stations) p s e.time (omega (arith, some)) (omega (arith, some)) e.kind;
  }
