use Rattle.std.proofs.Common.{codes, ap, sym, arith, rules}
use Rattle.std.proofs.lemmas.Slice.Eq.{text_from_reads}
use Rattle.dym_script.specs.Table.{verb_of}
use Rattle.dym_script.proofs.verb.Verb.of.Goals as goal

pub returns-in-malloc : goal.returns-in-malloc
unfolding verb_of
returns-in-malloc c = sym (ap verb_of (text_from_reads c.args.word.now (codes "malloc") (omega arith) (search rules)))

pub returns-in-calloc : goal.returns-in-calloc
unfolding verb_of
returns-in-calloc c = sym (ap verb_of (text_from_reads c.args.word.now (codes "calloc") (omega arith) (search rules)))

pub returns-in-follow : goal.returns-in-follow
unfolding verb_of
returns-in-follow c = sym (ap verb_of (text_from_reads c.args.word.now (codes "follow") (omega arith) (search rules)))

pub returns-in-realloc : goal.returns-in-realloc
unfolding verb_of
returns-in-realloc c = sym (ap verb_of (text_from_reads c.args.word.now (codes "realloc") (omega arith) (search rules)))

pub returns-in-restore : goal.returns-in-restore
unfolding verb_of
returns-in-restore c = sym (ap verb_of (text_from_reads c.args.word.now (codes "restore") (omega arith) (search rules)))
