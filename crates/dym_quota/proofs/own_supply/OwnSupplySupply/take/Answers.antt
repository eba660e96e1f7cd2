use Rattle.std.proofs.Common.{◌≡◌, ◌-◌, ◌+◌, [], replicate, vec_len, sym, ap, ◌∙◌, arith}
use Rattle.std.proofs.lemmas.List.{replicate-append-replicate, append-nil}
use Rattle.dym_region.specs.Identity.{lone_id}
use Rattle.dym_quota.proofs.own_supply.OwnSupplySupply.take.Goals as goal

pub returns-clause-taken : goal.returns-clause-taken
returns-clause-taken c =
    let s = c.args.self.now in
    let n = s.quota - vec_len s.spare in
    let more : s.quota - vec_len c.take_last.new.self ≡ n + 1 = omega (arith, c.take_last.ensures.len, s.within) in
    record {
      front = replicate n lone_id;
      back = [];
      was = ap (λ k. replicate k lone_id) more ∙ sym (replicate-append-replicate n 1 lone_id);
      is = sym (append-nil (replicate n lone_id));
    }
