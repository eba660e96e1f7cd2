use Rattle.std.proofs.Common.{refl, sym, ap, ◌∙◌}
use Rattle.dym_heap.specs.Meaning.{HeapMeaning}
use Rattle.dym_chain.specs.Chains.{ChainMeaning}
use Rattle.dym_chain.specs.Keeps.{bytes_of}
use Rattle.dym_slots.specs.Meanings.{KeepMeaning}
use Rattle.dym_ckpt.specs.Heads.{header_meaning}
use Rattle.dym_ckpt.proofs.Restored.{first_belongs, loaded_chain, loaded_heap, entries_again}
use Rattle.dym_ckpt.proofs.file_reader.FileContent.load.Goals as goal

pub restore_newest-requires-clause-belongs : goal.restore_newest-requires-clause-belongs
restore_newest-requires-clause-belongs g c =
    let head = c.args.self.head in
    let records = ap (λ (x : ChainMeaning). bytes_of x.records) c.in-Ok-adopt.ensures.adopted ∙ ap (λ (k : KeepMeaning). bytes_of k.records) c.into_keep.ensures in
    first_belongs c.in-Ok.heap c.in-Ok-adopt.chain head.version head.quota (bytes_of c.args.self.record_list.keep.records)
    (ap (λ (h : HeapMeaning). h.version) c.in-Ok.ensures.opened) (ap (λ (h : HeapMeaning). h.quota) c.in-Ok.ensures.opened ∙ c.requires.quota) (ap (λ (h : HeapMeaning). h.state) c.in-Ok.ensures.opened) records
    c.requires.content.1.file.read.each c.in-Ok-adopt.ensures.belongs

pub returns-clause-loaded : goal.returns-clause-loaded
returns-clause-loaded g c bytes content =
    let head = header_meaning c.args.self.head in
    let record_list = c.args.self.record_list in
    let records = bytes_of record_list.keep.records in
    let adopted = c.in-Ok-adopt.ensures.adopted in
    let kept = ap (λ (k : KeepMeaning). bytes_of k.records) c.into_keep.ensures in
    let after = c.restore_newest.ensures.chain in
    record {
      head = head;
      records = records;
      file = content.file;
      name = refl;
      entries = entries_again head.depth (bytes_of c.into_keep.result.records) records c.in-Ok-adopt.chain.base_logs c.in-Ok-adopt.chain.logs c.restore_newest.new.chain.base_logs c.restore_newest.new.chain.logs
          c.in-Ok-adopt.ensures.entries (sym kept) (ap (λ (x : ChainMeaning). x.base_logs) after) (ap (λ (x : ChainMeaning). x.logs) after);
      are = c.restore_newest.ensures.records ∙ ap (λ (x : ChainMeaning). bytes_of x.records) adopted ∙ kept;
      chain = loaded_chain c.in-Ok-adopt.chain c.restore_newest.new.chain c.into_keep.result record_list.keep after
          (ap (λ (x : ChainMeaning). x.made) adopted) (ap (λ (x : ChainMeaning). x.lifted) adopted) (ap (λ (x : ChainMeaning). x.origin) adopted) c.into_keep.ensures content.listed.made content.listed.idle content.listed.own_room;
      heap = loaded_heap c.in-Ok.heap c.restore_newest.new.heap head.version head.quota _ _ c.in-Ok-adopt.chain.logs c.restore_newest.new.chain.logs c.in-Ok.ensures.opened c.requires.quota
          c.restore_newest.ensures.heap c.restore_newest.ensures.state (ap (λ (x : ChainMeaning). x.logs) after);
      belongs = c.restore_newest.ensures.belongs;
      stands = c.restore_newest.ensures.stands;
      sound = c.restore_newest.ensures.sound;
    }
