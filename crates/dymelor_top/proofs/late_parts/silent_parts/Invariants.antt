use Rattle.std.proofs.Common.{◌≡◌, [], All, map}
use Rattle.dymelor_top.proofs.late_parts.silent_parts.Given as goal

abbrev pub invariant-loop-decl : goal.invariant-loop-decl
invariant-loop-decl l = record {
  decls : map (λ part. part.decl) l.parts.items ≡ l.yielded;
  silent : All (λ part. part.acts.items ≡ []) l.parts.items;
}
