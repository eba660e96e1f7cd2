use Rattle.std.proofs.Common.{◌≡◌, [], ◌∙◌, length, Some, ap, rules}
use Rattle.dym_script.specs.declared.reader.Reader.{Reader}
use Rattle.dym_script.specs.Readers.{reading_of}
use Rattle.dym_script.proofs.Index.{first_push}
use Rattle.dym_script.proofs.KeptReader.{indexed_declare, lawful_declare, put_bytes}
use Rattle.dym_script.proofs.reader.Reader.add.Goals as goal

pub returns-clause-kept : goal.returns-clause-kept
returns-clause-kept c =
    let r : Reader = c.args.self.now in
    let s : Reader = record {
      begun = r.begun;
      version = r.version;
      objects = c.push.new.self;
      names = c.insert.new.self;
      cache = c.keep.new.self;
    } in
    let place : c.len-place.result ≡ length r.objects.items = search rules in
    let put = put_bytes r s c.in_ok-key.key c.len-place.result c.args.decl.name (c.in_ok-key.ensures.items ∙ c.bytes.ensures) c.in_ok-insert.ensures.updates in
    record {
      indexed = indexed_declare r s c.args.decl c.requires.kept c.requires.fresh (put.0 ∙ ap (λ n. Some n) place) put.1 c.in_ok-push.ensures.items;
      first = rw c.in_ok-push.ensures.items (first_push r.objects.items c.args.decl c.requires.kept.first c.requires.fresh);
      valid = rw c.in_ok-push.ensures.items
          (lawful_declare (reading_of r []).said c.args.decl c.requires.kept.valid c.requires.room c.requires.name c.requires.least c.requires.most);
    }
