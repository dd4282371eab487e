-- The block is under way at every turn: a record that was decoded and called is a turn, one that is bad stops, and the loop's end ends it.
-- A record of 20 bytes gives at most 84 of text, so there is room for one more line. A line that is put leaves what is behind it as it was.
use mathlib.Core.Path.{◌≡◌}
use Prim.Native.Nat.{◌+◌, ◌*◌, ◌≤◌}
use lib.ListN.{length, take, drop}
use Rattle.std.specs.Slice.Iter.{chunks_rest, chunks_size}
use Rattle.blocks.specs.Blocks.{block}
use Rattle.blocks.proofs.Turns.{Under-way}
use Rattle.blocks.proofs.replay_block.Given as goal

abbrev pub invariant-loop-record : goal.invariant-loop-record
invariant-loop-record l =
    record {
      size : chunks_size l.record-iterator ≡ 20;
      left : l.here + length (chunks_rest l.record-iterator) ≡ l.offset + length l.bytes;
      room : length l.out ≡ length l.initial.out;
      put : 20 * l.end + 84 * length (chunks_rest l.record-iterator) ≤ 84 * length l.bytes;
      rest : drop l.end l.out ≡ drop l.end l.initial.out;
      way : Under-way (block l.offset l.bytes (record { table = l.initial.table; rows = l.initial.rows }))
          l.here (chunks_rest l.record-iterator) (record { table = l.table; rows = l.rows }) (take l.end l.out);
    }
