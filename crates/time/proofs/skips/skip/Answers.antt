-- The quantum is spent first; limits and timers are lists of their own, and their lengths stay.
use Rattle.std.proofs.Common.{◌≡◌, ℕ, List, map, length, get_or, ap, ◌∙◌, ap₂, arith}
use lib.ListN.{length-map}
use Rattle.sequences.proofs.InOrder.{changed_none, changed_next, changed_all}
use Rattle.model.specs.declared.tables.Thread.{Thread}
use Rattle.model.specs.declared.tables.Timer.{Timer}
use Rattle.model.specs.declared.tables.Table.{Table}
use Rattle.model.specs.State.{State, absent_thread, unused_timer}
use Rattle.model.specs.Parts.{with_threads, with_timers, with_limit, with_time}
use Rattle.model.specs.Before as layout
use Rattle.model.specs.Before.{view}
use Rattle.table.specs.Orderly.{Does}
use Rattle.table.proofs.Views.{table-threads, table-timers}
use Rattle.theorems.specs.Skip.{limit_less, time_less, skip}
use Rattle.theorems.specs.Leap.{spend}
use Rattle.time.proofs.skips.skip.Goals as goal

module _ (m : ℕ) where
  -- what a skip does beside the quantum
  abbrev lessened : State → State
  lessened s = with_threads (map (limit_less m) s.threads) (with_timers (map (time_less m) s.timers) s)

  skipped : {t u : Table} {rows : layout.Rows} → Does t rows (spend m) u rows
      → {threads : List Thread} → threads ≡ map (limit_less m) u.threads → {timers : List Timer} → timers ≡ map (time_less m) u.timers
      → Does t rows (skip m) (table-threads threads (table-timers timers u)) rows
  unfolding view skip spend
  skipped {t} {u} {rows} d {threads} limits {timers} times =
      let w = d.order.table in
      record {
        order =
            record {
              table =
                  record {
                    threads = ap length limits ∙ length-map u.threads (limit_less m) ∙ w.threads;
                    semaphores = w.semaphores;
                    mutexes = w.mutexes;
                    flags = w.flags;
                    timers = ap length times ∙ length-map u.timers (time_less m) ∙ w.timers;
                    waits = w.waits;
                    lists = w.lists;
                  };
              ready = d.order.ready;
            };
        view = ap₂ (λ (a : List Thread) (b : List Timer). with_threads a (with_timers b (view u rows))) limits times ∙ ap lessened d.view;
      }

pub loop-x-init : goal.loop-x-init
loop-x-init c = changed_none (limit_less c.args.m) c.spend-u.result.threads

pub loop-x-preserved : goal.loop-x-preserved
loop-x-preserved c =
    let l = c.loop-x in
    let y = get_or l.x-items l.x-index absent_thread in
    changed_next (limit_less c.args.m) c.spend-u.result.threads absent_thread l.x-index (ap (λ (x : ℕ). with_limit x y) c.saturating_sub-x.ensures) l.invariant

pub loop-x-2-init : goal.loop-x-2-init
loop-x-2-init c = changed_none (time_less c.args.m) c.spend-u.result.timers

pub loop-x-2-preserved : goal.loop-x-2-preserved
loop-x-2-preserved c =
    let l = c.loop-x-2 in
    let y = get_or l.x-items l.x-index unused_timer in
    changed_next (time_less c.args.m) c.spend-u.result.timers unused_timer l.x-index (ap (λ (x : ℕ). with_time x y.count y) c.saturating_sub-x-in-loop-x-2.ensures) l.invariant

pub returns : goal.returns
returns c rows w =
    let u = c.spend-u.result in
    let d = c.spend-u.ensures rows w in
    skipped c.args.m d
    (changed_all (limit_less c.args.m) u.threads c.loop-x.x-index (omega (arith, d.order.table.threads, c.loop-x-test.false)) c.loop-x.invariant)
    (changed_all (time_less c.args.m) u.timers c.loop-x-2.x-index (omega (arith, d.order.table.timers, c.loop-x-2-test.false)) c.loop-x-2.invariant)
