-- What is true of an undo log's fields depends on nothing that its logs found touched.
use Rattle.std.proofs.Common.{◌≡◌, ℕ, ◌+◌, ◌≤◌, List, [], ◌∷◌, map, Option, None, Some, option_map, refl, sym, ap, subst, ◌∙◌, arith}
use Rattle.std.proofs.lemmas.List.{length-map}
use Rattle.std.proofs.lemmas.Option.{same_Some, none-some}
use Rattle.std.specs.List.{AllByRecursion}
use Rattle.dym_base.specs.Heaps.{held}
use Rattle.dym_base.specs.Objects.{LogEntry, newest}
use Rattle.dym_base.specs.RunLaws.{EachFollows}
use Rattle.dym_undo.specs.Changes.{Change, noted_bytes}
use Rattle.dym_undo.specs.Heads.{changes_of}
use Rattle.dym_undo.specs.Rooms.{HasRoomAtEach, pending, length_at}
use Rattle.dym_undo.specs.UndoLogs.{IsUndoLog, entry_of, since, unfound}
use Rattle.dym_undo.specs.declared.entry.Entry.{Entry}
use Rattle.dym_undo.specs.declared.head.Head.{Head}

entries_told : (logs : List LogEntry) → map entry_of (map unfound logs) ≡ map entry_of logs
entries_told [] = refl
entries_told (e ∷ es) = ap (λ (l : List Entry). entry_of e ∷ l) (entries_told es)

newest_told : (logs : List LogEntry) → newest (map unfound logs) ≡ option_map unfound (newest logs)
newest_told [] = refl
newest_told (e ∷ []) = refl
newest_told (e ∷ f ∷ es) = newest_told (f ∷ es)

-- ---- from the logs to those without what they found

follows_without : (logs : List LogEntry) → EachFollows logs → EachFollows (map unfound logs)
follows_without [] h = tt
follows_without (e ∷ []) h = (tt, tt)
follows_without (e ∷ f ∷ es) h = (h.0, follows_without (f ∷ es) h.1)

shallow_without : (most : ℕ) (logs : List LogEntry) → AllByRecursion (λ (e : LogEntry). e.depth ≤ most) logs → AllByRecursion (λ (e : LogEntry). e.depth ≤ most) (map unfound logs)
shallow_without most [] h = tt
shallow_without most (e ∷ es) h = (h.0, shallow_without most es h.1)

within_without : (quota : ℕ) (logs : List LogEntry) → AllByRecursion (λ (e : LogEntry). held e.copy ≤ quota) logs → AllByRecursion (λ (e : LogEntry). held e.copy ≤ quota) (map unfound logs)
within_without quota [] h = tt
within_without quota (e ∷ es) h = (h.0, within_without quota es h.1)

rooms_without : (quota h b : ℕ) (ps : List ℕ) (cs : List Change) (logs : List LogEntry) → HasRoomAtEach quota h b ps cs logs → HasRoomAtEach quota h b ps cs (map unfound logs)
rooms_without quota h b [] cs logs room = tt
rooms_without quota h b (p ∷ ps) cs [] room = tt
rooms_without quota h b (p ∷ ps) cs (e ∷ es) room = (room.0, room.1, rooms_without quota h b ps cs es room.2)

-- ---- and back

follows_with : (logs : List LogEntry) → EachFollows (map unfound logs) → EachFollows logs
follows_with [] h = tt
follows_with (e ∷ []) h = (tt, tt)
follows_with (e ∷ f ∷ es) h = (h.0, follows_with (f ∷ es) h.1)

shallow_with : (most : ℕ) (logs : List LogEntry) → AllByRecursion (λ (e : LogEntry). e.depth ≤ most) (map unfound logs) → AllByRecursion (λ (e : LogEntry). e.depth ≤ most) logs
shallow_with most [] h = tt
shallow_with most (e ∷ es) h = (h.0, shallow_with most es h.1)

within_with : (quota : ℕ) (logs : List LogEntry) → AllByRecursion (λ (e : LogEntry). held e.copy ≤ quota) (map unfound logs) → AllByRecursion (λ (e : LogEntry). held e.copy ≤ quota) logs
within_with quota [] h = tt
within_with quota (e ∷ es) h = (h.0, within_with quota es h.1)

rooms_with : (quota h b : ℕ) (ps : List ℕ) (cs : List Change) (logs : List LogEntry) → HasRoomAtEach quota h b ps cs (map unfound logs) → HasRoomAtEach quota h b ps cs logs
rooms_with quota h b [] cs logs room = tt
rooms_with quota h b (p ∷ ps) cs [] room = tt
rooms_with quota h b (p ∷ ps) cs (e ∷ es) room = (room.0, room.1, rooms_with quota h b ps cs es room.2)

module _ (quota : ℕ) (entries : List Entry) (places : List ℕ) (hs : List Head) (bytes words : List ℕ) (h b : ℕ) where
  without : (logs : List LogEntry) → IsUndoLog quota entries places hs bytes words h b logs → IsUndoLog quota entries places hs bytes words h b (map unfound logs)
  without logs u = record {
    most = u.most;
    entries_are = u.entries_are ∙ sym (entries_told logs);
    each_placed = u.each_placed ∙ sym (length-map logs unfound);
    list = (omega (arith, u.list.0, length-map logs unfound), shallow_without 31 logs u.list.1, follows_without logs u.list.2);
    within = within_without quota logs u.within;
    whole = u.whole;
    keys = u.keys;
    placed = u.placed;
    unlogged = u.unlogged;
    word_count = u.word_count;
    stamps = u.stamps;
    room = record {
      heads_left = u.room.heads_left;
      bytes_left = λ e last. by e (newest logs) refl (sym (newest_told logs) ∙ last);
      at_each = rooms_without quota h b places _ logs u.room.at_each;
    };
  }
    where
      by : (e : LogEntry) (o : Option LogEntry) → newest logs ≡ o → option_map unfound o ≡ Some e
          → noted_bytes (changes_of hs bytes) + pending (length_at e.copy) (since places (changes_of hs bytes)) quota ≤ b
      by e None is last = absurd (none-some e last)
      by e (Some f) is last =
          subst (λ (x : LogEntry). noted_bytes (changes_of hs bytes) + pending (length_at x.copy) (since places (changes_of hs bytes)) quota ≤ b) (same_Some (unfound f) e last) (u.room.bytes_left f is)

  pub undo_log-told : (logs told : List LogEntry) → map unfound told ≡ map unfound logs → IsUndoLog quota entries places hs bytes words h b logs → IsUndoLog quota entries places hs bytes words h b told
  undo_log-told logs told alike old =
      let u = subst (IsUndoLog quota entries places hs bytes words h b) (sym alike) (without logs old) in
      record {
        most = u.most;
        entries_are = u.entries_are ∙ entries_told told;
        each_placed = u.each_placed ∙ length-map told unfound;
        list = (omega (arith, u.list.0, length-map told unfound), shallow_with 31 told u.list.1, follows_with told u.list.2);
        within = within_with quota told u.within;
        whole = u.whole;
        keys = u.keys;
        placed = u.placed;
        unlogged = u.unlogged;
        word_count = u.word_count;
        stamps = u.stamps;
        room = record {
          heads_left = u.room.heads_left;
          bytes_left = λ e last. u.room.bytes_left (unfound e) (newest_told told ∙ ap (option_map unfound) last);
          at_each = rooms_with quota h b places _ told u.room.at_each;
        };
      }
