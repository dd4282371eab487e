-- What a skip does to the table: the running quantum, limits and timers are less by it, and with them the distance to the next wake-up;
-- skips add up; the lists and the choice stay.
use mathlib.Core.Path.{◌≡◌, refl, sym, ◌∙◌, ap, ap₂, fun_ext}
use mathlib.Core.Bool.{Bool, true, false, cond, ◌&&◌}
use mathlib.Core.List.{List, map, map-id, map-map}
use Prim.Native.Nat.{ℕ, ◌+◌, ◌-◌, ◌<◌}
use native.Mathlib.Nat.{zero-sub, sub-zero, sub-add-eq}
use native.Mathlib.Omega.{arith}
use borrow.Author.Tests.{ne_eqb}
use lib.Dec.{eqb}
use lib.ListN.{length, get_or}
use Rattle.sequences.specs.Lists.{alter, nearer, nearest}
use Rattle.sequences.specs.Jumps.{Free}
use Rattle.sequences.proofs.Places.{length-alter, alter-keeps, alter_twice, alter-none}
use Rattle.sequences.proofs.Changes.{alter-kept, map-keeps, alter_changes, alter_mapped}
use Rattle.sequences.proofs.Counters.{less, nearer-free, nearer_less, nearest_less}
use Rattle.model.specs.declared.tables.Thread.{Thread}
use Rattle.model.specs.declared.tables.Timer.{Timer}
use Rattle.model.specs.State.{State, absent_thread}
use Rattle.model.specs.Parts.{thread, with_threads, with_timers, with_left, with_limit, with_time}
use Rattle.model.specs.Tick.{quantum_counts}
use Rattle.model.specs.Time.{next}
use Rattle.theorems.specs.Skip.{left_less, limit_less, time_less, spent, skip}
use Rattle.theorems.proofs.Retimed.{counts_alike}

-- ---- the counters

-- the quantum of the running thread, 0 where it doesn't count
abbrev pub running : State → ℕ
running s = cond (quantum_counts s) (thread s.chosen s).left 0

-- it ends in the tick with that number, where it counts
pub running-at : (s : State) (gap : ℕ) → 0 < gap → quantum_counts s && eqb (thread s.chosen s).left gap ≡ eqb (running s) gap
running-at s gap some = by_test (quantum_counts s)
  where
    by_test : (b : Bool) → b && eqb (thread s.chosen s).left gap ≡ eqb (cond b (thread s.chosen s).left 0) gap
    by_test true = refl
    by_test false = sym (ne_eqb 0 gap (λ e. omega arith))

abbrev pub times : State → List ℕ
times s = map (λ (t : Timer). t.left) s.timers

abbrev pub limits : State → List ℕ
limits s = map (λ (t : Thread). t.limit) s.threads

-- ---- what stays

pub skip_stays : (m : ℕ) (s : State) → ((skip m s).ready ≡ s.ready) × ((skip m s).waits ≡ s.waits) × ((skip m s).chosen ≡ s.chosen)
unfolding skip
skip_stays m s = (refl, refl, refl)

-- a quantum that runs leaves the limits alone
pub spent-limits : (counts : Bool) (m c : ℕ) (ts : List Thread)
    → map (λ (t : Thread). t.limit) (spent counts m c ts) ≡ map (λ (t : Thread). t.limit) ts
spent-limits true m c ts = alter-kept (λ (t : Thread). t.limit) (left_less m) (λ t. refl) c ts
spent-limits false m c ts = refl

pub length-spent : (counts : Bool) (m c : ℕ) (ts : List Thread) → length (spent counts m c ts) ≡ length ts
length-spent true m c ts = length-alter c (left_less m) ts
length-spent false m c ts = refl

skip-keeps : (p : Thread → ℕ) (m : ℕ) (s : State) (i : ℕ)
    → ((t : Thread) → p (left_less m t) ≡ p t) → ((t : Thread) → p (limit_less m t) ≡ p t) → p (thread i (skip m s)) ≡ p (thread i s)
unfolding skip
skip-keeps p m s i left limit =
    map-keeps p (limit_less m) limit (spent (quantum_counts s) m s.chosen s.threads) i absent_thread ∙ by_test (quantum_counts s)
  where
    by_test : (b : Bool) → p (get_or (spent b m s.chosen s.threads) i absent_thread) ≡ p (thread i s)
    by_test true = alter-keeps p (left_less m) left s.chosen s.threads i absent_thread
    by_test false = refl

pub skip_counts : (m : ℕ) (s : State) → quantum_counts (skip m s) ≡ quantum_counts s
unfolding quantum_counts skip
skip_counts m s =
    counts_alike (skip m s).threads s (skip-keeps (λ (t : Thread). t.quantum) m s s.chosen (λ t. refl) (λ t. refl))
    (skip-keeps (λ (t : Thread). t.current) m s s.chosen (λ t. refl) (λ t. refl))

-- ---- what is less, and the distance with it

skip-running : (m : ℕ) (s : State) → running (skip m s) ≡ running s - m
unfolding skip
skip-running m s = ap (λ (b : Bool). cond b (thread s.chosen (skip m s)).left 0) (skip_counts m s) ∙ by_test (quantum_counts s)
  where
    by_test : (b : Bool) → cond b (get_or (map (limit_less m) (spent b m s.chosen s.threads)) s.chosen absent_thread).left 0
        ≡ cond b (thread s.chosen s).left 0 - m
    by_test true =
        map-keeps (λ (t : Thread). t.left) (limit_less m) (λ t. refl) (alter s.chosen (left_less m) s.threads) s.chosen absent_thread
        ∙ alter_changes (λ (t : Thread). t.left) (left_less m) (less m) (λ t. refl) s.chosen s.threads absent_thread (sym (zero-sub m))
    by_test false = sym (zero-sub m)

skip-times : (m : ℕ) (s : State) → times (skip m s) ≡ map (less m) (times s)
unfolding skip
skip-times m s = map-map (λ (t : Timer). t.left) (time_less m) s.timers ∙ sym (map-map (less m) (λ (t : Timer). t.left) s.timers)

skip-limits : (m : ℕ) (s : State) → limits (skip m s) ≡ map (less m) (limits s)
unfolding skip
skip-limits m s =
    let ts = spent (quantum_counts s) m s.chosen s.threads in
    map-map (λ (t : Thread). t.limit) (limit_less m) ts
    ∙ sym (map-map (less m) (λ (t : Thread). t.limit) ts)
    ∙ ap (map (less m)) (spent-limits (quantum_counts s) m s.chosen s.threads)

pub next-skip : (s : State) (m : ℕ) → Free m (next s) → next (skip m s) ≡ next s - m
unfolding next
next-skip s m free =
    let time = nearest (times s) in
    let limit = nearest (limits s) in
    let rest = (nearer-free m (running s) (nearer time limit) free).1 in
    let each = nearer-free m time limit rest in
    rw (skip-running m s, skip-times m s, skip-limits m s, nearest_less m (times s) each.0, nearest_less m (limits s) each.1)
    (ap (nearer (running s - m)) (nearer_less m time limit rest) ∙ nearer_less m (running s) (nearer time limit) free)

-- ---- skips add up

-- less nothing is as it was, and less a and then b is less both
limit-none : limit_less 0 ≡ (λ (t : Thread). t)
limit-none = fun_ext (λ t. ap (λ x. with_limit x t) (sub-zero t.limit))

time_none : time_less 0 ≡ (λ (t : Timer). t)
time_none = fun_ext (λ t. ap (λ x. with_time x t.count t) (sub-zero t.left))

module _ (a b : ℕ) where
  pub left_more : (λ (t : Thread). left_less b (left_less a t)) ≡ left_less (a + b)
  left_more = fun_ext (λ t. ap (λ x. with_left x t) (sym (sub-add-eq t.left a b)))

  pub limit_more : (λ (t : Thread). limit_less b (limit_less a t)) ≡ limit_less (a + b)
  limit_more = fun_ext (λ t. ap (λ x. with_limit x t) (sym (sub-add-eq t.limit a b)))

  pub time_more : (λ (t : Timer). time_less b (time_less a t)) ≡ time_less (a + b)
  time_more = fun_ext (λ t. ap (λ x. with_time x t.count t) (sym (sub-add-eq t.left a b)))

spent-none : (counts : Bool) (c : ℕ) (ts : List Thread) → spent counts 0 c ts ≡ ts
spent-none true c ts = alter-none (left_less 0) absent_thread c ts (ap (λ x. with_left x (get_or ts c absent_thread)) (sub-zero (get_or ts c absent_thread).left))
spent-none false c ts = refl

spent_more : (counts : Bool) (a b c : ℕ) (ts : List Thread)
    → spent counts b c (map (limit_less a) (spent counts a c ts)) ≡ map (limit_less a) (spent counts (a + b) c ts)
spent_more true a b c ts =
    alter_mapped (left_less b) (limit_less a) (λ t. refl) c (alter c (left_less a) ts)
    ∙ ap (map (limit_less a)) (alter_twice (left_less b) (left_less a) c ts ∙ ap (λ (g : Thread → Thread). alter c g ts) (left_more a b))
spent_more false a b c ts = refl

pub skip_none : (s : State) → skip 0 s ≡ s
unfolding skip
skip_none s =
    ap₂ (λ (threads : List Thread) (timers : List Timer). with_threads threads (with_timers timers s))
    (ap₂ (λ (g : Thread → Thread) (ts : List Thread). map g ts) limit-none (spent-none (quantum_counts s) s.chosen s.threads)
    ∙ map-id s.threads)
    (ap (λ (g : Timer → Timer). map g s.timers) time_none ∙ map-id s.timers)

pub skip_more : (s : State) (a b : ℕ) → skip b (skip a s) ≡ skip (a + b) s
unfolding skip
skip_more s a b =
    let ts = spent (quantum_counts s) (a + b) s.chosen s.threads in
    ap₂ (λ (threads : List Thread) (timers : List Timer). with_threads threads (with_timers timers s))
    (rw (skip_counts a s)
    (ap (map (limit_less b)) (spent_more (quantum_counts s) a b s.chosen s.threads)
    ∙ map-map (limit_less b) (limit_less a) ts
    ∙ ap (λ (g : Thread → Thread). map g ts) (limit_more a b)))
    (map-map (time_less b) (time_less a) s.timers ∙ ap (λ (g : Timer → Timer). map g s.timers) (time_more a b))
