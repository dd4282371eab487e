-- 01, Replay file: what stands first in the bytes of a file from some offset on. The definition gives each case of the decoder's answer its
-- values: the call that the record asks for, or the offset of its first byte.
use Rattle.std.specs.Prelude.{cond, List, ℕ, Result, Ok, Err}
use Rattle.model.specs.declared.requests.Request.{Request}
use Rattle.model.specs.Replay.{starts_with_record, request_of}
use Rattle.records.specs.declared.BadRecord.{BadRecord}

unfoldable pub record_at : ℕ → List ℕ → Result Request BadRecord
record_at offset bytes = cond (starts_with_record bytes) (Ok (request_of bytes)) (Err (record { offset = offset }))
