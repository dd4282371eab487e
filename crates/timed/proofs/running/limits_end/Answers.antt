use Rattle.std.proofs.Common.{refl, arith, rules}
use Rattle.model.specs.declared.tables.Thread.{Thread}
use Rattle.model.specs.State.{absent_thread}
use Rattle.model.specs.Layout.{view}
use Rattle.layout.proofs.Viewed.{many-threads}
use Rattle.timed.proofs.Outside.{past_end, none_behind}
use Rattle.timed.proofs.running.limits_end.Goals as goal

pub returns : goal.returns
returns c =
    let b = c.args.image.now in
    let last = c.behind_last.ensures in
    record {
      order = omega arith;
      before = λ i h. absurd (omega arith);
      most = last.most;
      behind =
          none_behind 16 c.behind_last.result last.behind (λ o h p. search rules)
          (past_end (λ (t : Thread). t.limit) (view b).threads absent_thread refl 16 (many-threads b));
    }
