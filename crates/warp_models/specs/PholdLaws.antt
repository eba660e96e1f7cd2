-- PHOLD keeps the laws of a model.
use Rattle.std.specs.Prelude.{ℕ, zero, suc, ◌+◌, ◌-◌, ◌*◌, ◌<◌, ◌%◌, cond, nat_lt, ◌==◌, true, false, Bool, [], ◌∷◌}
use Rattle.std.proofs.Common.{ap, arith}
use Rattle.std.proofs.lemmas.Bool.{le-ltb}
use Rattle.warp_base.specs.declared.event.Draft.{Draft}
use Rattle.warp_base.specs.Events.{Each}
use Rattle.warp_base.specs.Histories.{LooksAhead, StartsWithin, SendsWithin}
use Rattle.warp_base.proofs.Lists.{Each-append}
use Rattle.warp_models.specs.declared.phold.PholdOptions.{PholdOptions}
use Rattle.warp_models.specs.Random.{mixed, next, seeded, drawn, after_draws}
use Rattle.warp_models.specs.Sends.{Each-cond, Each-in_time}
use Rattle.warp_models.specs.Phold.{hop, first_jobs, hop_seed, receiver, after_receiver, phold}

below-cond : (b : Bool) (x y n : ℕ) → x < n → y < n → cond b x y < n
below-cond true x y n one two = one
below-cond false x y n one two = two

module _ (o : PholdOptions) where
  pub phold-looks_ahead : LooksAhead (phold o)
  phold-looks_ahead p s e =
      let random = after_receiver o (hop_seed s e) in
      Each-in_time (λ d. e.time < d.time) (hop (e.time + (1 + o.lookahead + drawn random (2 * o.mean))) (receiver o p (hop_seed s e)) e.payload) (omega arith)

  pub phold-starts_within : StartsWithin o.processes (phold o)
  phold-starts_within p beyond = ap (λ t. cond t (first_jobs o p o.jobs) []) (le-ltb p o.processes beyond)

  module _ (some : 0 < o.processes) where
    first_jobs-within : (p jobs : ℕ) → Each (λ d. d.receiver < o.processes) (first_jobs o p jobs)
    first_jobs-within p zero = tt
    first_jobs-within p (suc job) =
        let own : p % o.processes < o.processes = omega (arith, some) in
        Each-append (λ (d : Draft ℕ). d.receiver < o.processes) (first_jobs o p job) (hop (1 + drawn (after_draws (mixed (seeded o.seed p)) job) (2 * o.mean)) (p % o.processes) job ∷ [])
        (first_jobs-within p job) (own, tt)

    receiver-within : (p random : ℕ) → receiver o p random < o.processes
    receiver-within p random =
        let own : p % o.processes < o.processes = omega (arith, some) in
        let other : (p + 1 + drawn (next random) (o.processes - 1)) % o.processes < o.processes = omega (arith, some) in
        below-cond (o.processes == 1) _ _ o.processes own (below-cond (nat_lt (drawn random 1000) o.remote) _ _ o.processes other own)

    pub phold-sends_within : SendsWithin o.processes (phold o)
    phold-sends_within = record {
      firsts = λ p. Each-cond (λ (d : Draft ℕ). d.receiver < o.processes) (nat_lt p o.processes) (first_jobs o p o.jobs) [] (first_jobs-within p o.jobs) tt;
      drafts = λ p s e.
          let random = after_receiver o (hop_seed s e) in
          Each-in_time (λ d. d.receiver < o.processes) (hop (e.time + (1 + o.lookahead + drawn random (2 * o.mean))) (receiver o p (hop_seed s e)) e.payload) (receiver-within p (hop_seed s e));
    }
