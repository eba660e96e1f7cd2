use Rattle.std.proofs.Common.{◌≡◌, ◌∷◌, [], ◌++◌, arith, sym, ◌∙◌}
use Rattle.std.proofs.lemmas.List.Elements.{All-same, All-push}
use Rattle.dym_view.specs.Histories.{Beginning}
use Rattle.dym_wave.proofs.view_set.open_views.Goals as goal

pub loop-preserved : goal.loop-preserved
loop-preserved g c =
    let inv = c.loop.invariant in
    let published = c.push_reserved.ensures in
    let looking = c.push_reserved-in-Ok.ensures in
    record {
      count = omega (arith, inv.count, published.len);
      empty = All-same (λ (p : Beginning). p.commits ≡ []) c.push_reserved.new.self.items (c.loop.publishers.items ++ c.in-Ok.publisher ∷ []) published.items
          (All-push (λ (p : Beginning). p.commits ≡ []) c.loop.publishers.items c.in-Ok.publisher inv.empty c.in-Ok.ensures.publisher);
      viewers = looking.items ∙ (λ i. inv.viewers i ++ c.in-Ok.ensures.viewer i ∷ []) ∙ sym published.items;
      room = omega (arith, inv.room, published.capacity);
      room_to_look = omega (arith, inv.room_to_look, looking.capacity);
    }
