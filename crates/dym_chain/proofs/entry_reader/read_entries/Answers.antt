use Rattle.std.proofs.Common.{arith, ◌≡◌, ◌∙◌, ℕ, ◌+◌, ◌<◌, ◌≤◌, List, ◌∷◌, [], length, map, refl, sym, ap, subst, length-append}
use Rattle.dym_base.specs.LawfulLists.{IsLawful, depth_after}
use Rattle.dym_base.specs.Packed.{Logged, packed}
use Rattle.dym_base.specs.declared.command.Version.{Version}
use Rattle.dym_pack.specs.ParsedAreas.{OfLog}
use Rattle.dym_slots.specs.Meanings.{KeepMeaning, record_at}
use Rattle.dym_chain.specs.Keeps.{bytes_of}
use Rattle.dym_chain.specs.declared.entry.Entry.{Entry}
use Rattle.dym_chain.proofs.Readings.{HasRead, logged_at, read_start, read_step, read_end, as_many, of_record, depth_small, first_small}
use Rattle.dym_chain.proofs.entry_reader.read_entries.Goals as goal

pub loop-place-init : goal.loop-place-init
loop-place-init g c =
    let m : KeepMeaning = g.K.LogKeep.meaning c.args.keep.now in
    let lawful = c.requires.lawful in
    let low : c.args.first ≤ 31 = first_small lawful.0 c.args.first lawful.1.0 lawful.1.1 m.records lawful.1.2 c.requires.none c.requires.some in
    record {
      keep = refl;
      shallow = omega (arith, low, c.saturating_sub-depth.ensures);
      capacity = refl;
      count = (let none = ap length c.requires.empty in omega (arith, none, c.from-place.ensures));
      read = λ v logs is are. read_start v c.args.first c.from-place.result c.saturating_sub-depth.result c.args.room.items logs is c.from-place.ensures c.saturating_sub-depth.ensures c.requires.empty;
    }

pub loop-place-preserved : goal.loop-place-preserved
loop-place-preserved g c =
    let m : KeepMeaning = g.K.LogKeep.meaning c.args.keep.now in
    let place : ℕ = c.loop-place.place in
    let entry : Entry = c.read_entry-entry.result in
    let lawful = c.requires.lawful in
    let within : place < length m.records = omega (arith, c.loop-place-test.true, c.len-place-end.ensures) in
    let low : c.args.first ≤ place = omega (arith, c.loop-place.invariant.count) in
    let Of : Logged → Type 0 = λ log. entry ≡ record { time = log.time; depth = depth_after c.loop-place.depth log.kind } in
    let of : OfLog (record_at m.records place).bytes Of = subst (λ (k : KeepMeaning). OfLog (record_at k.records place).bytes Of) c.loop-place.invariant.keep c.read_entry-entry.ensures.entry in
    let at : (v : Version) (logs : List Logged) → IsLawful v c.args.first logs → map packed logs ≡ bytes_of m.records → Of (logged_at logs place) = λ v logs is are. of_record v c.args.first logs is m.records are place Of within of in
    let inside : (v : Version) (logs : List Logged) → IsLawful v c.args.first logs → map packed logs ≡ bytes_of m.records → place < length logs = λ v logs is are. (let n = as_many v c.args.first logs is m.records are in omega (arith, n, within)) in
    record {
      keep = c.read_entry-entry.ensures.keep ∙ c.loop-place.invariant.keep;
      shallow = (
          let deep = ap (λ (e : Entry). e.depth) (at lawful.0 lawful.1.0 lawful.1.1 lawful.1.2) in
          let next = (c.loop-place.invariant.read lawful.0 lawful.1.0 lawful.1.1 lawful.1.2).next (inside lawful.0 lawful.1.0 lawful.1.1 lawful.1.2) in
          let small = depth_small lawful.0 c.args.first lawful.1.0 lawful.1.1 m.records lawful.1.2 place within in
          omega (arith, deep, next, small));
      capacity = c.push_reserved.ensures.capacity ∙ c.loop-place.invariant.capacity;
      count = (
          let long = ap length c.push_reserved.ensures.items ∙ length-append c.loop-place.entries.items (entry ∷ []) in
          let before = c.loop-place.invariant.count in
          omega (arith, long, before));
      read = λ v logs is are. subst (λ (items : List Entry). HasRead c.args.first (place + 1) entry.depth items logs) (sym c.push_reserved.ensures.items)
          (read_step c.args.first place c.loop-place.depth c.loop-place.entries.items logs entry (c.loop-place.invariant.read v logs is are) low (inside v logs is are) (at v logs is are));
    }

pub returns-clause-entries : goal.returns-clause-entries
returns-clause-entries g c v logs is are =
    let m : KeepMeaning = g.K.LogKeep.meaning c.args.keep.now in
    let low : c.args.first ≤ c.loop-place.place = (let n = c.loop-place.invariant.count in omega (arith, n)) in
    let all : length logs ≤ c.loop-place.place = (let n = as_many v c.args.first logs is m.records are in omega (arith, n, c.loop-place-test.false, c.len-place-end.ensures)) in
    read_end c.args.first c.loop-place.place c.loop-place.depth c.loop-place.entries.items logs (c.loop-place.invariant.read v logs is are) low all
