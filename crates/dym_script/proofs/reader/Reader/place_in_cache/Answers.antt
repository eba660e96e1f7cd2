use Rattle.std.proofs.Common.{◌≡◌, ◌∙◌, sym, Some}
use Rattle.dym_script.specs.Scripts.{object_of}
use Rattle.dym_script.proofs.Index.{found_within, found_name}
use Rattle.dym_script.proofs.reader.Reader.place_in_cache.Goals as goal

pub returns-then-is_named : goal.returns-then-is_named
returns-then-is_named c =
    let found : Some c.place-cache.result ≡ object_of c.args.self.now.objects.items c.args.name.now = sym (c.is_named.ensures c.if-is_named.true) in
    record {
      value = found;
      within = found_within _ _ _ found;
      name = found_name _ _ _ c.requires.valid.names found;
    }

pub returns : goal.returns
returns c =
    let found : c.copied.result ≡ object_of c.args.self.now.objects.items c.args.name.now = c.copied.ensures ∙ c.get.ensures.value ∙ c.requires.indexed c.args.name.now in
    record {
      value = found;
      within = found_within _ _ _ found;
      name = found_name _ _ _ c.requires.valid.names found;
    }
