-- Ticks that timers and limits are owed: such a table differs from one that owes none by its timers and limits only, and so the running quantum, the
-- choice and the distance to the next wake-up go on as they would.
use Rattle.std.proofs.Common.{◌≡◌, ℕ, ◌+◌, ◌-◌, Bool, true, false, cond, not, ◌&&◌, eqb, List, map, sym, refl, ap, ◌∙◌, ap₂, map-id}
use mathlib.Core.Path.{fun_ext}
use mathlib.Core.List.{map-map}
use native.Mathlib.Nat.{sub-zero}
use Rattle.sequences.specs.Lists.{nearest, nearer}
use Rattle.sequences.specs.Jumps.{Free}
use Rattle.sequences.proofs.Changes.{map-keeps, alter_mapped}
use Rattle.sequences.proofs.Counters.{less, nearer-free, nearer_less, nearest_less}
use Rattle.model.specs.declared.tables.Thread.{Thread}
use Rattle.model.specs.declared.tables.Timer.{Timer}
use Rattle.model.specs.State.{State, scheduling_on, absent_thread}
use Rattle.model.specs.Parts.{with_chosen, with_threads, with_timers, with_limit, with_time, refilled}
use Rattle.model.specs.Words.{choice, choose}
use Rattle.model.specs.Tick.{quantum_counts}
use Rattle.model.specs.Time.{next}
use Rattle.theorems.specs.Skip.{left_less, limit_less, time_less, spent, skip}
use Rattle.theorems.specs.Leap.{spend}
use Rattle.theorems.proofs.Retimed.{Passes, cond_passes, counts_alike}
use Rattle.theorems.proofs.Skips.{limit_more, time_more}
use Rattle.theorems.proofs.Quiet.{choose-quiet}
use Rattle.timed.specs.Counters.{running, nearest_counter, times, limits}
use Rattle.timed.specs.Owed.{owed, owed_limits, owed_times}
use Rattle.timed.specs.Unmoved.{Unmoved}

pub owed_none : (s : State) → owed 0 s ≡ s
unfolding owed owed_limits owed_times
owed_none s =
    ap₂ (λ (g : Thread → Thread) (h : Timer → Timer). with_threads (map g s.threads) (with_timers (map h s.timers) s))
    (fun_ext (λ t. ap (λ x. with_limit x t) (sub-zero t.limit)))
    (fun_ext (λ t. ap (λ x. with_time x t.count t) (sub-zero t.left)))
    ∙ ap₂ (λ (threads : List Thread) (timers : List Timer). with_threads threads (with_timers timers s)) (map-id s.threads) (map-id s.timers)

module _ (d : ℕ) (s : State) where
  owed_counts : quantum_counts (owed d s) ≡ quantum_counts s
  unfolding owed owed_limits owed_times quantum_counts
  owed_counts =
      counts_alike (map (limit_less d) s.threads) s
      (map-keeps (λ (t : Thread). t.quantum) (limit_less d) (λ t. refl) s.threads s.chosen absent_thread)
      (map-keeps (λ (t : Thread). t.current) (limit_less d) (λ t. refl) s.threads s.chosen absent_thread)

  pub owed-running : running (owed d s) ≡ running s
  unfolding owed owed_limits owed_times
  owed-running =
      ap₂ (λ (b : Bool) (n : ℕ). cond b n 0) owed_counts
      (map-keeps (λ (t : Thread). t.left) (limit_less d) (λ t. refl) s.threads s.chosen absent_thread)

  -- ---- the next wake-up

  owed_times_less : times (owed d s) ≡ map (less d) (times s)
  unfolding owed owed_limits owed_times
  owed_times_less = map-map (λ (t : Timer). t.left) (time_less d) s.timers ∙ sym (map-map (less d) (λ (t : Timer). t.left) s.timers)

  owed_limits_less : limits (owed d s) ≡ map (less d) (limits s)
  unfolding owed owed_limits owed_times
  owed_limits_less = map-map (λ (t : Thread). t.limit) (limit_less d) s.threads ∙ sym (map-map (less d) (λ (t : Thread). t.limit) s.threads)

  pub next-owed : Free d (nearest_counter s) → next (owed d s) ≡ nearer (running s) (nearest_counter s - d)
  unfolding next
  next-owed free =
      let time = nearest (times s) in
      let limit = nearest (limits s) in
      let each = nearer-free d time limit free in
      rw (owed-running, owed_times_less, owed_limits_less, nearest_less d (times s) each.0, nearest_less d (limits s) each.1)
      (ap (nearer (running s)) (nearer_less d time limit free))

-- ---- more ticks

spent_passes : (counts : Bool) (d m c : ℕ) (ts : List Thread) → spent counts m c (map (limit_less d) ts) ≡ map (limit_less d) (spent counts m c ts)
spent_passes true d m c ts = alter_mapped (left_less m) (limit_less d) (λ t. refl) c ts
spent_passes false d m c ts = refl

pub skip-owed : (d m : ℕ) (s : State) → skip m (owed d s) ≡ owed (d + m) (spend m s)
unfolding skip owed owed_limits owed_times spend
skip-owed d m s =
    let ts = spent (quantum_counts s) m s.chosen s.threads in
    ap₂ (λ (threads : List Thread) (timers : List Timer). with_threads threads (with_timers timers s))
    (rw (owed_counts d s)
    (ap (map (limit_less m)) (spent_passes (quantum_counts s) d m s.chosen s.threads)
    ∙ map-map (limit_less m) (limit_less d) ts
    ∙ ap (λ (g : Thread → Thread). map g ts) (limit_more d m)))
    (map-map (time_less m) (time_less d) s.timers ∙ ap (λ (g : Timer → Timer). map g s.timers) (time_more d m))

-- ---- the choice

pub choose-owed : (d : ℕ) → Passes (owed d) choose
unfolding choose owed owed_limits owed_times
choose-owed d s =
    cond_passes (owed d) (scheduling_on s && not (eqb (choice s) s.chosen)) refl
    (ap (λ (ts : List Thread). with_chosen (choice s) (with_threads ts (owed d s)))
    (alter_mapped refilled (limit_less d) (λ t. refl) (choice s) s.threads))
    refl

module _ (s after : State) (u : Unmoved s after) where
  pub unmoved_running : running after ≡ running s
  unfolding quantum_counts
  unmoved_running = rw (u.chosen, u.off, u.ready, u.current s.chosen, u.quantum s.chosen, u.left s.chosen)

  pub unmoved_choose : (scheduling_on s ≡ true → choice s ≡ s.chosen) → choose after ≡ after
  unmoved_choose chosen = choose-quiet after same
    where
      same : scheduling_on after ≡ true → after.chosen ≡ choice after
      same on = rw (u.ready, u.chosen) (sym (chosen (rw (← u.off) on)))
