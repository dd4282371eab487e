-- What a table that owes ticks has of one that is sound when they are told; and what the steps of an advance leave of its counters.
use Rattle.std.proofs.Common.{◌≡◌, ℕ, zero, suc, ◌-◌, ◌<◌, Bool, true, false, cond, List, [], ◌∷◌, map, get_or, refl, ap, ◌∙◌, subst, ap₂, ⊎_elim, arith, leb-true}
use Rattle.sequences.specs.Lists.{nearest, nearer}
use Rattle.sequences.specs.Jumps.{Free}
use Rattle.sequences.specs.Steps.{in_order}
use Rattle.sequences.proofs.Changes.{alter-kept, map-keeps}
use Rattle.sequences.proofs.Counters.{nearer-free}
use Rattle.model.specs.declared.tables.Thread.{Thread}
use Rattle.model.specs.declared.tables.Timer.{Timer}
use Rattle.model.specs.State.{State, absent_thread, unused_timer, timer_count, thread_count}
use Rattle.model.specs.Parts.{thread, with_threads, with_timers, with_limit, with_time, refilled}
use Rattle.model.specs.Sound.{sound}
use Rattle.model.specs.Words.{leave, enter_ready, become_ready, settle, choose}
use Rattle.model.specs.Tick.{quantum_counts}
use Rattle.rules.specs.Counting.{never}
use Rattle.theorems.specs.Leap.{quantum_leap, timer_leap, limit_leap}
use Rattle.theorems.specs.Skip.{limit_less, time_less, still}
use Rattle.theorems.proofs.Choosing.{sound_steady}
use Rattle.theorems.proofs.Fits.{range}
use Rattle.theorems.proofs.LeapKeeps.{quantum_leap-timers, limits-timers, choose_counters}
use Rattle.timed.specs.Ahead.{fall}
use Rattle.timed.specs.Armed.{Armed}
use Rattle.timed.specs.Counters.{running, nearest_counter, times, limits}
use Rattle.timed.specs.Limited.{Limited}
use Rattle.timed.specs.Owed.{owed, owed_limits, owed_times}
use Rattle.timed.specs.Running.{TimersTo}
use Rattle.timed.specs.Turns.{turn_over, take_turns}
use Rattle.timed.proofs.Arming.{sound-armed}
use Rattle.timed.proofs.Onward.{sound-limited, timers_to}
use Rattle.timed.proofs.Owing.{owed-running}

-- ---- a table that owes ticks

pub rest-armed : (d : ℕ) (s : State) → sound (still (owed d s)) ≡ true → Armed s
unfolding owed owed_limits owed_times
rest-armed d s whole o =
    let a = sound-armed (still (owed d s)) whole o in
    let kind = map-keeps (λ (t : Timer). t.kind) (time_less d) (λ t. refl) s.timers o unused_timer in
    let object = map-keeps (λ (t : Timer). t.object) (time_less d) (λ t. refl) s.timers o unused_timer in
    record { posts = λ e. omega (arith, object, a.posts (kind ∙ e)); sets = λ h. omega (arith, object, a.sets (omega (arith, kind))) }

-- where the nearest of some counters is behind m, each that runs still does with m less
runs_on : {A : Type 0} (p : A → ℕ) (g : A → A) (d : A) (m : ℕ) → ((a : A) → p (g a) ≡ p a - m) → p d ≡ 0 → (l : List A) → Free m (nearest (map p l))
    → (o : ℕ) → 0 < p (get_or l o d) → 0 < p (get_or (map g l) o d)
runs_on p g d m e z [] free o some = absurd (omega arith)
runs_on p g d m e z (x ∷ xs) free zero some =
    ⊎_elim (λ (none : p x ≡ 0). absurd (omega arith)) (λ (later : m < p x). omega (arith, e x)) (nearer-free m (p x) (nearest (map p xs)) free).0
runs_on p g d m e z (x ∷ xs) free (suc o) some = runs_on p g d m e z xs (nearer-free m (p x) (nearest (map p xs)) free).1 o some

pub rest-limited : (d : ℕ) (s : State) → Free d (nearest_counter s) → sound (still (owed d s)) ≡ true → Limited s
unfolding owed owed_limits owed_times
rest-limited d s free whole i some =
    sound-limited (still (owed d s)) whole i
    (runs_on (λ (t : Thread). t.limit) (limit_less d) absent_thread d (λ t. refl) refl s.threads
    (nearer-free d (nearest (times s)) (nearest (limits s)) free).1 i some)

pub rest_short : (d : ℕ) (s : State) → sound (still (owed d s)) ≡ true → running s < never
rest_short d s whole = subst (λ (n : ℕ). n < never) (owed-running d s) (by_test (quantum_counts (owed d s)))
  where
    c : ℕ
    c = (owed d s).chosen

    by_test : (b : Bool) → cond b (thread c (owed d s)).left 0 < never
    by_test true =
        let most = leb-true (thread c (owed d s)).left 65535 (range ((sound_steady (still (owed d s)) whole).lawful.threads c) 4) in
        omega arith
    by_test false = omega arith

idle_both : (a b : ℕ) → nearer a b ≡ 0 → (a ≡ 0) × (b ≡ 0)
idle_both zero b e = (refl, e)
idle_both (suc a) zero e = absurd (omega (arith, e))
idle_both (suc a) (suc b) e = absurd (omega (arith, e))

-- where no counter runs, none is less by what is owed
idle-map : {A : Type 0} (p : A → ℕ) (g : A → A) → ((a : A) → p a ≡ 0 → g a ≡ a) → (l : List A) → nearest (map p l) ≡ 0 → map g l ≡ l
idle-map p g same [] none = refl
idle-map p g same (x ∷ xs) none =
    let both = idle_both (p x) (nearest (map p xs)) none in
    ap₂ ◌∷◌ (same x both.0) (idle-map p g same xs both.1)

pub owed-idle : (m : ℕ) (s : State) → nearest_counter s ≡ 0 → owed m s ≡ s
unfolding owed owed_limits owed_times
owed-idle m s none =
    let both = idle_both (nearest (times s)) (nearest (limits s)) none in
    ap₂ (λ (ts : List Thread) (os : List Timer). with_threads ts (with_timers os s))
    (idle-map (λ (t : Thread). t.limit) (limit_less m) (λ t e. ap (λ (n : ℕ). with_limit n t) (omega (arith, e))) s.threads both.1)
    (idle-map (λ (t : Timer). t.left) (time_less m) (λ t e. ap (λ (n : ℕ). with_time n t.count t) (omega (arith, e))) s.timers both.0)

-- ---- what steps leave

pub timers_alike : {end : ℕ} {s after : State} → after.timers ≡ s.timers → TimersTo end s → TimersTo end after
timers_alike e w = record { most = w.most; behind = λ o h. ap (λ (ts : List Timer). (get_or ts o unused_timer).left) e ∙ w.behind o h }

-- what the walks found nearest is so after the choice
pub walked_nearest : (ticks : ℕ) (s : State) → let after = in_order thread_count (limit_leap ticks) s in
    nearest_counter (choose after) ≡ nearer (nearest (times s)) (nearest (limits after))
walked_nearest ticks s =
    let kept = choose_counters (in_order thread_count (limit_leap ticks) s) in
    ap₂ (λ (ts : List Timer) (ls : List ℕ). nearer (nearest (map (λ (t : Timer). t.left) ts)) (nearest ls)) (kept.0 ∙ limits-timers ticks s) kept.1

pub fall-timers_to : (end gap ticks : ℕ) (s : State) → 0 < ticks → TimersTo end s → TimersTo end (fall gap ticks s)
unfolding fall settle
fall-timers_to end gap ticks s some w =
    let q = quantum_leap gap s in
    let walked = in_order timer_count (timer_leap ticks) q in
    timers_alike
    ((choose_counters (in_order thread_count (limit_leap ticks) walked)).0 ∙ limits-timers ticks walked)
    (timers_to end ticks q some (timers_alike (quantum_leap-timers gap s) w))

-- ---- and turns

taken_keeps : (s : State) → ((take_turns s).timers ≡ s.timers) × (limits (take_turns s) ≡ limits s)
unfolding take_turns settle turn_over become_ready enter_ready leave
taken_keeps s =
    let chosen = choose_counters (turn_over s) in
    (chosen.0, chosen.1 ∙ alter-kept (λ (t : Thread). t.limit) refilled (λ t. refl) s.chosen s.threads)

pub taken_nearest : (s : State) → nearest_counter (take_turns s) ≡ nearest_counter s
taken_nearest s =
    let kept = taken_keeps s in
    ap₂ (λ (ts : List Timer) (ls : List ℕ). nearer (nearest (map (λ (t : Timer). t.left) ts)) (nearest ls)) kept.0 kept.1

pub taken_timers_to : (end : ℕ) (s : State) → TimersTo end s → TimersTo end (take_turns s)
taken_timers_to end s w = timers_alike (taken_keeps s).0 w
