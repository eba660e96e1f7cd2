use Rattle.std.proofs.Common.{rules, ◌+◌, refl}
use Rattle.dym_ckpt.specs.Heads.{header_meaning}
use Rattle.dym_ckpt.specs.FileRecords.{FailsAs}
use Rattle.dym_chain.specs.Keeps.{bytes_of}
use Rattle.dym_ckpt.proofs.FileReadings.{head_fails, stops_fails, all_read, all_many, end_fails, is_file, passed_on, no_bytes, some_bytes}
use Rattle.dym_ckpt.proofs.file_reader.read_file.Goals as goal

pub returns-in_default-clause-fails : goal.returns-in_default-clause-fails
returns-in_default-clause-fails c = head_fails c.args.bytes.now c.in_default.ensures.only

pub returns-in_err-record_list-clause-fails : goal.returns-in_err-record_list-clause-fails
returns-in_err-record_list-clause-fails c =
    let stops = stops_fails c.args.bytes.now c.in-Some.rest.now (header_meaning c.in-Some.head) c.in_err-record_list.field-0.0 c.in-Some.ensures.good c.in-Some.ensures.is c.in_err-record_list.ensures.stops in
    passed_on c.from_residual.result c.in_err-record_list.field-0.0 (FailsAs c.args.bytes.now) c.from_residual.ensures.1 stops

pub returns-then-not-is_empty-clause-fails : goal.returns-then-not-is_empty-clause-fails
returns-then-not-is_empty-clause-fails c =
    let head = header_meaning c.in-Some.head in
    let read = all_read c.args.bytes.now c.in-Some.rest.now head c.in_ok-record_list.record_list c.in_ok-record_list.rest.now c.in-Some.ensures.good c.in-Some.ensures.is c.in_ok-record_list.ensures.read in
    end_fails c.args.bytes.now head (bytes_of c.in_ok-record_list.record_list.keep.records) c.in_ok-record_list.rest.now (c.in-Some.head.count + 1) read
    (all_many _ _ _ _ c.in_ok-record_list.record_list _ _ c.in_ok-record_list.ensures.read) refl (some_bytes c.in_ok-record_list.rest.now c.is_empty.result c.is_empty.ensures c.if-not-is_empty.true)

pub returns-clause-content : goal.returns-clause-content
returns-clause-content c =
    let head = header_meaning c.in-Some.head in
    let read = all_read c.args.bytes.now c.in-Some.rest.now head c.in_ok-record_list.record_list c.in_ok-record_list.rest.now c.in-Some.ensures.good c.in-Some.ensures.is c.in_ok-record_list.ensures.read in
    record {
      file = is_file c.args.bytes.now head (bytes_of c.in_ok-record_list.record_list.keep.records) c.in_ok-record_list.rest.now read
          (all_many _ _ _ _ c.in_ok-record_list.record_list _ _ c.in_ok-record_list.ensures.read) (no_bytes c.in_ok-record_list.rest.now (search rules));
      listed = c.in_ok-record_list.ensures.read.is;
    }

pub returns-clause-begins : goal.returns-clause-begins
returns-clause-begins c =
    let head = header_meaning c.in-Some.head in
    record {
      head = head;
      records = bytes_of c.in_ok-record_list.record_list.keep.records;
      left = c.in_ok-record_list.rest.now;
      read = all_read c.args.bytes.now c.in-Some.rest.now head c.in_ok-record_list.record_list c.in_ok-record_list.rest.now c.in-Some.ensures.good c.in-Some.ensures.is c.in_ok-record_list.ensures.read;
    }
