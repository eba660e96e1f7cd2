use Rattle.std.proofs.Common.{refl}
use Rattle.dym_script.specs.declared.verb.Verb.TheVariants as verb
use Rattle.dym_script.proofs.Rows.{command_good, both_read, some_read}
use Rattle.dym_script.proofs.verb.Verb.asked.Goals as goal

pub returns-in_ok-len-in-Malloc : goal.returns-in_ok-len-in-Malloc
returns-in_ok-len-in-Malloc c = rw (c.in-Malloc.is, c.in_ok-one_word-in-Malloc.ensures) (command_good verb.Malloc _ (c.in_ok-len-in-Malloc.len, tt) refl
    (both_read (some_read _ _ _ c.in_ok-len-in-Malloc.ensures) refl))

pub returns-in_ok-h-in-Free : goal.returns-in_ok-h-in-Free
returns-in_ok-h-in-Free c = rw (c.in-Free.is, c.in_ok-one_word-in-Free.ensures) (command_good verb.Free _ (c.in_ok-h-in-Free.h, tt) refl
    (both_read (some_read _ _ _ c.in_ok-h-in-Free.ensures) refl))

pub returns-in_ok-h-in-Sum : goal.returns-in_ok-h-in-Sum
returns-in_ok-h-in-Sum c = rw (c.in-Sum.is, c.in_ok-one_word-in-Sum.ensures) (command_good verb.Sum _ (c.in_ok-h-in-Sum.h, tt) refl
    (both_read (some_read _ _ _ c.in_ok-h-in-Sum.ensures) refl))

pub returns-in_ok-time-in-Log : goal.returns-in_ok-time-in-Log
returns-in_ok-time-in-Log c = rw (c.in-Log.is, c.in_ok-one_word-in-Log.ensures) (command_good verb.Log _ (c.in_ok-time-in-Log.time, tt) refl
    (both_read (some_read _ _ _ c.in_ok-time-in-Log.ensures) refl))

pub returns-in_ok-time-in-Ilog : goal.returns-in_ok-time-in-Ilog
returns-in_ok-time-in-Ilog c = rw (c.in-Ilog.is, c.in_ok-one_word-in-Ilog.ensures) (command_good verb.Ilog _ (c.in_ok-time-in-Ilog.time, tt) refl
    (both_read (some_read _ _ _ c.in_ok-time-in-Ilog.ensures) refl))

pub returns-in_ok-time-in-Restore : goal.returns-in_ok-time-in-Restore
returns-in_ok-time-in-Restore c = rw (c.in-Restore.is, c.in_ok-one_word-in-Restore.ensures) (command_good verb.Restore _ (c.in_ok-time-in-Restore.time, tt) refl
    (both_read (some_read _ _ _ c.in_ok-time-in-Restore.ensures) refl))

pub returns-in_ok-bound-in-Prune : goal.returns-in_ok-bound-in-Prune
returns-in_ok-bound-in-Prune c = rw (c.in-Prune.is, c.in_ok-one_word-in-Prune.ensures) (command_good verb.Prune _ (c.in_ok-bound-in-Prune.bound, tt) refl
    (both_read (some_read _ _ _ c.in_ok-bound-in-Prune.ensures) refl))

pub returns-in-None : goal.returns-in-None
returns-in-None c = rw (c.in-Logs.is, c.in-None.ensures) (command_good verb.Logs _ tt refl refl)

pub returns-in-Calloc : goal.returns-in-Calloc
returns-in-Calloc c = rw c.in-Calloc.is c.calloc_asked.ensures

pub returns-in-Realloc : goal.returns-in-Realloc
returns-in-Realloc c = rw c.in-Realloc.is c.realloc_asked.ensures

pub returns-in-Write : goal.returns-in-Write
returns-in-Write c = rw c.in-Write.is c.write_asked.ensures

pub returns-in-Fill : goal.returns-in-Fill
returns-in-Fill c = rw c.in-Fill.is c.fill_asked.ensures

pub returns-in-Read : goal.returns-in-Read
returns-in-Read c = rw c.in-Read.is c.read_asked.ensures

pub returns-in-Link : goal.returns-in-Link
returns-in-Link c = rw c.in-Link.is c.link_asked.ensures

pub returns-in-Follow : goal.returns-in-Follow
returns-in-Follow c = rw c.in-Follow.is c.follow_asked.ensures
