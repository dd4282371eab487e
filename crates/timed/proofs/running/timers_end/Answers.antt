use Rattle.std.proofs.Common.{refl, rules}
use Rattle.model.specs.declared.tables.Timer.{Timer}
use Rattle.model.specs.State.{unused_timer}
use Rattle.model.specs.Layout.{view}
use Rattle.layout.proofs.Viewed.{many_timers}
use Rattle.timed.proofs.Outside.{past_end, none_behind}
use Rattle.timed.proofs.running.timers_end.Goals as goal

pub returns : goal.returns
returns c =
    let b = c.args.image.now in
    let last = c.behind_last.ensures in
    record {
      most = last.most;
      behind =
          none_behind 8 c.behind_last.result last.behind (λ o h p. search rules)
          (past_end (λ (t : Timer). t.left) (view b).timers unused_timer refl 8 (many_timers b));
    }
