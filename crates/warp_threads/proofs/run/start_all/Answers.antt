use Rattle.std.proofs.Common.{◌≡◌, [], ◌∷◌, ◌++◌, List, Some, All, arith, sym, subst}
use Rattle.std.proofs.lemmas.List.Elements.{All-pop, All-push}
use Rattle.warp_threads.proofs.run.start_all.Goals as goal

-- nothing is lent at either end
abbrev AreIdle : {P : Type 0} → List P × List P → Type 0
AreIdle x = (x.0 ≡ []) × (x.1 ≡ [])

pub spawn-thread-requires-after_bounds : goal.spawn-thread-requires-after_bounds
spawn-thread-requires-after_bounds g c κs within =
    (All-pop AreIdle c.loop-lender.ends.items c.pop.new.self.items (Some (c.in-Some.lender, c.in-Some.borrower)) c.in-Some.ensures.items c.loop-lender.invariant.idle).1.1

pub loop-lender-preserved-else-is_err : goal.loop-lender-preserved-else-is_err
loop-lender-preserved-else-is_err g c =
    let popped = All-pop AreIdle c.loop-lender.ends.items c.pop.new.self.items (Some (c.in-Some.lender, c.in-Some.borrower)) c.in-Some.ensures.items c.loop-lender.invariant.idle in
    let P = g.row.O.Denot × g.row.L.Denot in
    record {
      idle = popped.0;
      nothing_lent = subst (All (λ (x : List P). x ≡ [])) (sym {A = List (List P)} {a = c.push_reserved.new.self.items} {b = c.loop-lender.lenders.items ++ c.in-Some.lender ∷ []} c.push_reserved.ensures.items) (All-push (λ (x : List P). x ≡ []) c.loop-lender.lenders.items c.in-Some.lender c.loop-lender.invariant.nothing_lent popped.1.0);
      few = omega (arith, c.push_reserved.ensures.len, c.in-Some.ensures.len);
      room = omega (arith, c.push_reserved.ensures.capacity, c.loop-lender.invariant.room);
    }
