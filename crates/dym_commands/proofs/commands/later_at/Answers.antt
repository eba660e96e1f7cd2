use Rattle.std.proofs.Common.{rules, ◌≡◌, ◌-◌, ◌∙◌, sym, ap, subst, get_or, arith, nat_le}
use Rattle.std.proofs.lemmas.List.Sorted.{IsPartitionPoint-from_clause}
use Rattle.dym_commands.specs.declared.commands.FollowingBlock.{FollowingBlock}
use Rattle.dym_commands.specs.Pieces.{IsAt}
use Rattle.dym_commands.proofs.PieceLists.{starts_parted, stands_where_parted}
use Rattle.dym_commands.proofs.commands.later_at.Goals as goal

pub overflow_sub-result : goal.overflow_sub-result
overflow_sub-result c =
    let at = stands_where_parted c.requires.0 c.args.k c.partition_point-reached.result c.args.others.now c.requires.1 c.requires.2 c.requires.3
    c.partition_point-reached.ensures.bound
    (IsPartitionPoint-from_clause (λ (later : FollowingBlock). nat_le later.start c.args.k) c.args.others.now c.partition_point-reached.result
    c.partition_point-reached.ensures.partitioned (starts_parted c.requires.0 c.args.k c.args.others.now c.requires.1) (λ a r f' k. search rules)) in
    omega (arith, at.1)

pub returns : goal.returns
returns c n follow reached within =
    let at = stands_where_parted n c.args.k c.partition_point-reached.result c.args.others.now follow reached within c.partition_point-reached.ensures.bound
    (IsPartitionPoint-from_clause (λ (later : FollowingBlock). nat_le later.start c.args.k) c.args.others.now c.partition_point-reached.result
    c.partition_point-reached.ensures.partitioned (starts_parted n c.args.k c.args.others.now follow) (λ a r f' k. search rules)) in
    let last : c.partition_point-reached.result - 1 ≡ at.0 = omega (arith, at.1) in
    subst (IsAt n c.args.others.now c.args.k)
    (sym (c.index-others-reached.is ∙ ap (λ i. get_or c.args.others.now i c.index-others-reached.result) last)) (at.2 c.index-others-reached.result)
