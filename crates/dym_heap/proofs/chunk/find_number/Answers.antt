use Rattle.std.proofs.Common.{◌==◌, cond, sym, ap, ◌∙◌, is_some, rules}
use Rattle.std.specs.FinMap.{contains_key}
use Rattle.std.proofs.lemmas.Bool.{ne_eqb, cond-false}
use Rattle.dym_base.specs.HeapStep.{handle_of}
use Rattle.dym_base.specs.declared.reply.Reply.TheVariants.{Nil, Chunk, Loose}
use Rattle.dym_heap.proofs.Tidy.{not_live}
use Rattle.dym_heap.proofs.chunk.find_number.Goals as goal

pub returns-in_default : goal.returns-in_default
returns-in_default g c =
    let gone = ap is_some (not_live c.args.n c.requires.valid_shelf (λ class. let low = class.0 in let high = class.1 in search rules)) in
    let nonzero = ne_eqb c.args.n 0 (λ e. (search rules)) in
    sym (cond-false (c.args.n == 0) Nil (cond (contains_key c.args.shelf.now.state.live c.args.n) (Chunk (handle_of c.args.n)) (Loose c.args.n)) nonzero
    ∙ cond-false (contains_key c.args.shelf.now.state.live c.args.n) (Chunk (handle_of c.args.n)) (Loose c.args.n) gone)
