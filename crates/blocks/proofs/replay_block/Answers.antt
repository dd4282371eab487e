use mathlib.Core.Path.{◌≡◌, refl, sym, ap, ◌∙◌}
use mathlib.Core.List.{List, [], ◌∷◌, ◌++◌}
use Prim.Native.Nat.{ℕ, ◌+◌, ◌≤◌, min}
use native.Mathlib.Omega.{arith}
use lib.ListN.{length, take, drop, length-append}
use lib.Seq.{drop_at}
use Rattle.std.specs.Slice.Iter.{chunks_rest}
use Rattle.io.proofs.Counting.{prefix_len_of_le}
use Rattle.records.specs.Records.{record_at}
use Rattle.records.proofs.Cases.{call-stands, bad_stands}
use Rattle.text.proofs.Buffers.{rest_further}
use Rattle.blocks.proofs.First.{record_first, starts_long}
use Rattle.blocks.proofs.Turns.{turned, stopped-there, ended-there}
use Rattle.blocks.proofs.replay_block.Goals as goal

none_left : (s : List ℕ) → length s ≡ 0 → s ≡ []
none_left [] h = refl
none_left (x ∷ s) h = absurd (omega arith)

-- what the decoder says of a chunk it says of all that is left
of-all : (offset : ℕ) (x y s : List ℕ) (size : ℕ) → s ≡ x ++ y → length x ≡ min size (length s) → size ≡ 20
    → record_at offset x ≡ record_at offset s
of-all offset x y s size whole long twenty =
    rw whole (record_first offset x y (rw (twenty, whole) at long))

pub returns : goal.returns
returns c =
    let o = ended-there c.loop-record.invariant.way (none_left _ c.in-None.ensures.steps.1.0) in
    record { text = o.text; counts = prefix_len_of_le _ _ (omega arith); after = o.after; good = o.good; rest = c.loop-record.invariant.rest }

pub returns-in_default : goal.returns-in_default
returns-in_default c =
    let l = c.loop-record in
    let put = c.put_bad_record in
    let step = c.in-Some.ensures.steps.1 in
    let bad = c.in_default.field-0 in
    let decoded = sym c.in_default.is ∙ c.decode.ensures ∙ of-all l.here _ _ _ _ step.0 step.1 l.invariant.size in
    let o =
    stopped-there l.invariant.way bad (take put.result put.new.out) step.2 decoded
    (rw (bad_stands l.here _ bad decoded).1 put.ensures.text) in
    let rest : drop put.result put.new.out ≡ drop put.result c.args.out.now
    = put.ensures.rest ∙ rest_further _ _ l.end put.result put.ensures.room.0 l.invariant.rest in
    record { text = o.text; counts = prefix_len_of_le _ _ (omega arith); after = o.after; good = o.good; rest = rest }

pub loop-record-preserved : goal.loop-record-preserved
loop-record-preserved c =
    let l = c.loop-record in
    let called = c.call-reply in
    let put = c.put_report-end in
    let step = c.in-Some.ensures.steps.1 in
    let left = chunks_rest l.record-iterator in
    let behind = chunks_rest c.next.new.self in
    let x = c.in-Some.record.now in
    let decoded = sym c.in-Ok.is ∙ c.decode.ensures ∙ of-all l.here _ _ _ _ step.0 step.1 l.invariant.size in
    let enough : 20 ≤ length left = starts_long left (call-stands l.here left c.in-Ok.q decoded).0 in
    let sized : length x ≡ min 20 (length left) = rw l.invariant.size at step.1 in
    let long : length x ≡ 20 = omega arith in
    let lengths : length left ≡ length x + length behind = ap length step.0 ∙ length-append x behind in
    let dropped : drop 20 left ≡ behind = ap (drop 20) step.0 ∙ drop_at x behind 20 long in
    let t = turned l.invariant.way c.in-Ok.q (record { reply = called.result; rows = called.new.rows }) (take put.result put.new.out) decoded called.ensures put.ensures.text in
    record {
      size = c.in-Some.ensures.steps.0 ∙ l.invariant.size;
      left = omega (arith, l.invariant.left, lengths);
      room = put.auto.out ∙ l.invariant.room;
      put = omega (arith, put.ensures.room, l.invariant.put, lengths, long);
      rest = put.ensures.rest ∙ rest_further _ _ l.end put.result put.ensures.room.0 l.invariant.rest;
      way = rw (long, sym dropped) t;
    }
