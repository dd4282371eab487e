-- All that there are is far enough.
use Rattle.std.proofs.Common.{refl, arith}
use Rattle.model.specs.declared.tables.Thread.{Thread}
use Rattle.model.specs.declared.tables.Timer.{Timer}
use Rattle.model.specs.State.{absent_thread, unused_timer}
use Rattle.model.specs.Layout.{view}
use Rattle.layout.proofs.Viewed.{many_timers, many-threads}
use Rattle.timed.proofs.Outside.{past_end}
use Rattle.timed.proofs.running.Reach.of.Goals as goal

pub returns : goal.returns
returns c =
    let b = c.args.image.now in
    record {
      timers = record { most = omega arith; behind = past_end (λ (t : Timer). t.left) (view b).timers unused_timer refl 8 (many_timers b) };
      limits =
          record {
            order = omega arith;
            most = omega arith;
            before = λ i h. absurd (omega (arith, h));
            behind = past_end (λ (t : Thread). t.limit) (view b).threads absent_thread refl 16 (many-threads b);
          };
    }
