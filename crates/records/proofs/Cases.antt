-- What a decoder's answer says of the bytes: a call is that of the record which stands there, and bad is where none stands.
use mathlib.Core.Path.{◌≡◌, refl}
use mathlib.Core.Bool.{Bool, true, false, cond}
use mathlib.Core.List.{List}
use Prim.Native.Nat.{ℕ}
use Rattle.model.specs.declared.requests.Request.{Request}
use Rattle.model.specs.Replay.{request_of, starts_with_record}
use Rattle.std.specs.Prelude.{Ok, Err}
use Rattle.records.specs.declared.BadRecord.{BadRecord}
use Rattle.records.specs.Records.{record_at}

module _ (offset : ℕ) (bytes : List ℕ) where
  abbrev bad-here : BadRecord
  bad-here = record { offset = offset }

  pub call-stands : (q : Request) → Ok q ≡ record_at offset bytes → (starts_with_record bytes ≡ true) × (q ≡ request_of bytes)
  unfolding record_at
  call-stands q e = by_test (starts_with_record bytes) refl e
    where
      by_test : (b : Bool) → starts_with_record bytes ≡ b → Ok q ≡ cond b (Ok (request_of bytes)) (Err bad-here)
          → (starts_with_record bytes ≡ true) × (q ≡ request_of bytes)
      by_test true s e = (s, cc)
      by_test false s e = (cc, cc)

  pub bad_stands : (bad : BadRecord) → Err bad ≡ record_at offset bytes → (starts_with_record bytes ≡ false) × (bad.offset ≡ offset)
  unfolding record_at
  bad_stands bad e = by_test (starts_with_record bytes) refl e
    where
      by_test : (b : Bool) → starts_with_record bytes ≡ b → Err bad ≡ cond b (Ok (request_of bytes)) (Err bad-here)
          → (starts_with_record bytes ≡ false) × (bad.offset ≡ offset)
      by_test true s e = (cc, cc)
      by_test false s e = (s, cc)
