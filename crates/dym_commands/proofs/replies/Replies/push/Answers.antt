use Rattle.std.proofs.Common.{◌≡◌, List, ◌+◌, ◌++◌, ◌∷◌, [], ap, sym, subst, ◌∙◌}
use Rattle.std.specs.Int.{from_bool}
use Rattle.dym_commands.specs.declared.replies.StoredReply.{StoredReply}
use Rattle.dym_commands.specs.Replies.{is_refusal, replies_of_stored, bytes_of, AreStored, RepliesMeaning}
use Rattle.dym_commands.proofs.StoredReplies.{more_replies, more_are_kept}
use Rattle.dym_commands.proofs.replies.Replies.push.Goals as goal

pub returns-clause-replies : goal.returns-clause-replies
returns-clause-replies c =
    ap (replies_of_stored c.keep-stored.new.table.items) c.push_reserved.ensures.items
    ∙ more_replies c.self.inside.bytes.items (bytes_of c.args.reply.now) c.keep-stored.new.table.items c.self.inside.stored.items c.keep-stored.result c.args.reply.now c.keep-stored.ensures.table c.keep-stored.ensures.stored c.self.invariant.each
    ∙ ap (λ (m : RepliesMeaning). m.replies ++ c.args.reply.now ∷ []) c.self.view_is

pub invariant_of-self : goal.invariant_of-self
invariant_of-self c =
    let one : c.from.result ≡ from_bool (is_refusal c.args.reply.now) = c.from.ensures ∙ ap from_bool c.is_refusal.ensures in
    subst (λ (stored_list : List StoredReply). AreStored c.keep-stored.new.table.items stored_list (c.self.inside.refused + c.from.result)) (sym c.push_reserved.ensures.items)
    (more_are_kept c.self.inside.bytes.items (bytes_of c.args.reply.now) c.keep-stored.new.table.items c.self.inside.stored.items c.keep-stored.result c.args.reply.now c.self.inside.refused c.from.result c.keep-stored.ensures.table c.keep-stored.ensures.stored c.keep-stored.ensures.within one c.self.invariant)
