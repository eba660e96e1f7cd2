use Rattle.std.proofs.Common.{◌≡◌, ◌+◌, ◌<◌, ◌++◌, ◌∷◌, [], ◌∙◌, refl, sym, ap, subst, length, arith}
use Rattle.dym_base.specs.declared.limits.TheConstants.{MOST_COMMANDS}
use Rattle.dym_commands.specs.declared.commands.Commands.TheInside.{Inside}
use Rattle.dym_commands.specs.declared.commands.FollowingBlock.{FollowingBlock}
use Rattle.dym_commands.specs.Requests.{asks}
use Rattle.dym_commands.specs.Pieces.{all_of, AreWhole}
use Rattle.dym_commands.proofs.KeptLists.{read_bytes_few}
use Rattle.dym_commands.proofs.PieceLists.{IsPushed, pushed_first, pushed_last, whole_more}
use Rattle.dym_commands.proofs.commands.Commands.push.Goals.{in-Some+in_ok-push-in-Some, in-None+in_ok-push-in-None}
use Rattle.dym_commands.proofs.commands.Commands.push.Goals as goal

pub overflow_add-self-2 : goal.overflow_add-self-2
overflow_add-self-2 c =
    let same : c.match-last_mut.self-inside.read_bytes ≡ c.self.inside.read_bytes = elim c.match-last_mut.branch [
      | in-Some+in_ok-push-in-Some w ↦ ap (λ (s : Inside). s.read_bytes) w.self-inside-is
      | in-None+in_ok-push-in-None w ↦ ap (λ (s : Inside). s.read_bytes) w.self-inside-is
    ] in
    let all = read_bytes_few (all_of c.self.inside.first c.self.inside.others.items) in
    omega (arith, c.requires, ap length c.self.view_is, all, c.self.invariant.reads, same, c.read_room.ensures.small)

-- the pieces after the push
pushed : (c : goal.After-self-3-1) → IsPushed (asks c.args.asked.now) c.self.inside c.match-last_mut.self-inside
pushed c =
    let command = asks c.args.asked.now in
    elim c.match-last_mut.branch [
      | in-Some+in_ok-push-in-Some w ↦ (
          let last = w.in-Some.last.now in
          subst (IsPushed command c.self.inside) (sym w.self-inside-is)
          (pushed_last command c.self.inside (record last { piece = w.push.new.self }) last c.self.invariant.follow
          (w.in-Some.ensures.variant.0 refl) (ap (λ (l : FollowingBlock). l.start) w.in-Some.ensures.value)
          (w.in_ok-push-in-Some.ensures.pushed ∙ ap (λ (l : FollowingBlock). l.piece ++ command ∷ []) w.in-Some.ensures.value)))
      | in-None+in_ok-push-in-None w ↦
          subst (IsPushed command c.self.inside) (sym w.self-inside-is)
          (pushed_first command c.self.inside w.push-in-None.new.self w.in-None.ensures.variant.1 w.in_ok-push-in-None.ensures.pushed)
    ]

pub invariant_of-self-2 : goal.invariant_of-self-2
invariant_of-self-2 c =
    let few : c.self.inside.len < MOST_COMMANDS = omega (arith, c.requires, c.self.invariant.count, ap length c.self.view_is) in
    let inside = c.match-last_mut.self-inside in
    subst (λ room. AreWhole inside.first inside.others.items (inside.len + 1) (inside.read_bytes + room)) (sym c.read_room.ensures.room)
    (whole_more (asks c.args.asked.now) c.self.inside inside few c.self.invariant (pushed c))

pub returns-clause-pushed : goal.returns-clause-pushed
returns-clause-pushed c = (pushed c).is ∙ ap (λ cs. cs ++ asks c.args.asked.now ∷ []) c.self.view_is
