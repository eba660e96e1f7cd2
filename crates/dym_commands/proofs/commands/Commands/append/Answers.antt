use Rattle.std.proofs.Common.{◌≡◌, ◌+◌, ◌≤◌, ◌++◌, ◌∷◌, [], ◌∙◌, sym, ap, subst, map, length, arith, length-append}
use Rattle.dym_base.specs.declared.limits.TheConstants.{MOST_COMMANDS}
use Rattle.dym_commands.specs.Pieces.{behind, commands_in, all_of, AreWhole}
use Rattle.dym_commands.proofs.KeptLists.{read_bytes_few}
use Rattle.dym_commands.proofs.PieceLists.{starts_few, appended, appended_is, appended_whole}
use Rattle.dym_commands.proofs.commands.Commands.append.Goals as goal

pub append_behind-requires-clause-starts : goal.append_behind-requires-clause-starts
append_behind-requires-clause-starts c k d within =
    let few = starts_few (length c.other.inside.first) c.other.inside.others.items k d c.other.invariant.follow within in
    omega (arith, few, c.other.invariant.few, c.other.invariant.count, length-append c.other.inside.first (commands_in c.other.inside.others.items))

pub overflow_add-self-2 : goal.overflow_add-self-2
overflow_add-self-2 c =
    let all = read_bytes_few (all_of c.self.inside.first c.self.inside.others.items) in
    let more = read_bytes_few (all_of c.other.inside.first c.other.inside.others.items) in
    omega (arith, c.requires, ap length c.self.view_is, ap length c.other.view_is, all, more, c.self.invariant.reads, c.other.invariant.reads)

-- the pieces of both
pieces : (c : goal.After-self-2-1) → c.append_behind.new.list.items ≡ appended c.self.inside c.other.inside
pieces c =
    c.append_behind.ensures
    ∙ ap (λ list. list ++ map (behind c.self.inside.len) c.other.inside.others.items)
    (c.push_reserved.ensures.items ∙ ap (λ list. list ++ record { start = c.self.inside.len; piece = c.other.inside.first } ∷ []) c.reserve.ensures.items)

pub invariant_of-self-2 : goal.invariant_of-self-2
invariant_of-self-2 c =
    let few : c.self.inside.len + c.other.inside.len ≤ MOST_COMMANDS =
    omega (arith, c.requires, ap length c.self.view_is, ap length c.other.view_is, c.self.invariant.count, c.other.invariant.count) in
    subst (λ list. AreWhole c.self.inside.first list (c.self.inside.len + c.other.inside.len) (c.self.inside.read_bytes + c.other.inside.read_bytes)) (sym (pieces c))
    (appended_whole c.self.inside c.other.inside few c.self.invariant c.other.invariant)

pub returns-clause-appended : goal.returns-clause-appended
returns-clause-appended c =
    ap (all_of c.self.inside.first) (pieces c) ∙ appended_is c.self.inside c.other.inside ∙ (λ i. c.self.view_is i ++ c.other.view_is i)
