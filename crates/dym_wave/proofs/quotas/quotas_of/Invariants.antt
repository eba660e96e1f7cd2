use Rattle.std.proofs.Common.{◌≡◌, ◌≤◌, length, map, take, vec_len, vec_capacity}
use Rattle.dym_wave.specs.Parts.{quota_of}
use Rattle.dym_wave.proofs.quotas.quotas_of.Given as goal

abbrev pub invariant-loop-part : goal.invariant-loop-part
invariant-loop-part l = record {
  items : l.quotas.items ≡ map quota_of (take l.part-index l.parts);
  len : vec_len l.quotas ≡ l.part-index;
  room : length l.parts ≤ vec_capacity l.quotas;
}
