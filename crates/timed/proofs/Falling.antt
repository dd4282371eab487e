-- The tick in which something falls due, in a table that owes ticks. Such a table is a skip of an earlier one, whose running quantum had as many
-- ticks more: the leap from there takes all of them off timers and limits, and leaves of the quantum what the last gap leaves. Where no counter
-- falls due in it, the end of a quantum only adds to what is owed.
use Rattle.std.proofs.Common.{◌≡◌, ℕ, zero, suc, ◌+◌, ◌<◌, Bool, true, false, cond, ◌&&◌, eqb, List, [], ◌∷◌, map, length, get_or, sym, refl, ap, ◌∙◌, ⊎_elim, arith, eq-eqb, ne_eqb, eqb-true}
use mathlib.Core.Path.{fun_ext}
use native.Mathlib.Nat.{add-sub_cancel_left}
use Rattle.sequences.specs.Lists.{alter, nearest}
use Rattle.sequences.specs.Jumps.{Free}
use Rattle.sequences.specs.Steps.{in_order}
use Rattle.sequences.proofs.Tests.{same_truth, some_below-none}
use Rattle.sequences.proofs.Places.{length-alter, alter-keeps, alter_twice, alter-none}
use Rattle.sequences.proofs.Changes.{alter-kept}
use Rattle.sequences.proofs.Counters.{nearer-free}
use Rattle.sequences.proofs.InOrder.{in_order-map}
use Rattle.model.specs.declared.tables.Thread.{Thread}
use Rattle.model.specs.declared.tables.Timer.{Timer}
use Rattle.model.specs.State.{State, absent_thread, unused_timer, thread_count, timer_count}
use Rattle.model.specs.Parts.{thread, timer, with_threads, with_timers, with_left, refilled}
use Rattle.model.specs.Words.{leave, enter_ready, become_ready, settle, choose}
use Rattle.model.specs.Tick.{quantum_counts}
use Rattle.theorems.specs.Skip.{left_less, limit_less, time_less, spent, skip}
use Rattle.theorems.specs.Leap.{spend, quantum_leap, timer_leap, limit_leap, leap}
use Rattle.theorems.proofs.Retimed.{cond_passes, counts_alike}
use Rattle.theorems.proofs.Spending.{leap_ends}
use Rattle.timed.specs.Ahead.{fall}
use Rattle.timed.specs.Counters.{running, nearest_counter, times, limits}
use Rattle.timed.specs.Owed.{owed, owed_limits, owed_times}
use Rattle.timed.specs.Turns.{turn_over, take_turns}
use Rattle.timed.proofs.LeapSkip.{leap-skip}
use Rattle.timed.proofs.Owing.{choose-owed}

-- ---- the earlier table

-- d more left of a quantum, and of the running one where it counts
abbrev left_longer : ℕ → Thread → Thread
left_longer d t = with_left (d + t.left) t

abbrev unspent : Bool → ℕ → ℕ → List Thread → List Thread
unspent counts d running ts = cond counts (alter running (left_longer d) ts) ts

-- its end comes d later
module _ (d gap : ℕ) (some : 0 < gap) where
  none_later : eqb 0 (d + gap) ≡ eqb 0 gap
  none_later = ne_eqb 0 (d + gap) (λ e. omega arith) ∙ sym (ne_eqb 0 gap (λ e. omega arith))

  ends_later : (i : ℕ) (ts : List Thread)
      → eqb (get_or (alter i (left_longer d) ts) i absent_thread).left (d + gap) ≡ eqb (get_or ts i absent_thread).left gap
  ends_later zero [] = none_later
  ends_later (suc i) [] = none_later
  ends_later zero (t ∷ ts) =
      same_truth (eqb (d + t.left) (d + gap)) (eqb t.left gap) (λ h. eq-eqb t.left gap (omega (arith, eqb-true (d + t.left) (d + gap) h)))
      (λ h. eq-eqb (d + t.left) (d + gap) (omega (arith, eqb-true t.left gap h)))
  ends_later (suc i) (t ∷ ts) = ends_later i ts

module _ (d : ℕ) (s : State) where
  abbrev i : ℕ
  i = s.chosen

  abbrev ts : List Thread
  ts = s.threads

  abbrev earlier : State
  earlier = with_threads (unspent (quantum_counts s) d i ts) s

  unspent_keeps : (p : Thread → ℕ) → ((t : Thread) → p (left_longer d t) ≡ p t) → (counts : Bool)
      → p (get_or (unspent counts d i ts) i absent_thread) ≡ p (get_or ts i absent_thread)
  unspent_keeps p e true = alter-keeps p (left_longer d) e i ts i absent_thread
  unspent_keeps p e false = refl

  earlier_counts : quantum_counts earlier ≡ quantum_counts s
  earlier_counts =
      counts_alike earlier.threads s (unspent_keeps (λ (t : Thread). t.quantum) (λ t. refl) (quantum_counts s))
      (unspent_keeps (λ (t : Thread). t.current) (λ t. refl) (quantum_counts s))

  earlier_length : (counts : Bool) → length (unspent counts d i ts) ≡ length ts
  earlier_length true = length-alter i (left_longer d) ts
  earlier_length false = refl

  skip_earlier : skip d earlier ≡ owed d s
  unfolding skip owed owed_limits owed_times
  skip_earlier =
      ap (λ (l : List Thread). with_threads (map (limit_less d) l) (with_timers (map (time_less d) s.timers) s))
      (ap (λ (b : Bool). spent b d i earlier.threads) earlier_counts ∙ by_test (quantum_counts s))
    where
      by_test : (b : Bool) → spent b d i (unspent b d i ts) ≡ ts
      by_test true =
          alter_twice (left_less d) (left_longer d) i ts
          ∙ alter-none (λ t. left_less d (left_longer d t)) absent_thread i ts
          (ap (λ (n : ℕ). with_left n (get_or ts i absent_thread)) (add-sub_cancel_left d (get_or ts i absent_thread).left))
      by_test false = refl

  quantum_earlier : (gap : ℕ) → 0 < gap → quantum_leap (d + gap) earlier ≡ quantum_leap gap s
  unfolding quantum_leap spend
  quantum_earlier gap some = ap (λ (b : Bool). leaps b earlier.threads (d + gap)) earlier_counts ∙ by_test (quantum_counts s)
    where
      leaps : Bool → List Thread → ℕ → State
      leaps b l n =
          cond (b && eqb (get_or l i absent_thread).left n) (become_ready i (with_threads (alter i refilled l) s)) (with_threads (spent b n i l) s)

      by_test : (b : Bool) → leaps b (unspent b d i ts) (d + gap) ≡ leaps b ts gap
      by_test true =
          cond_passes (λ x. x) (eqb (get_or ts i absent_thread).left gap) (ends_later d gap some i ts)
          (ap (λ (l : List Thread). become_ready i (with_threads l s)) (alter_twice refilled (left_longer d) i ts))
          (ap (λ (l : List Thread). with_threads l s)
          (alter_twice (left_less (d + gap)) (left_longer d) i ts
          ∙ ap (λ (g : Thread → Thread). alter i g ts) (fun_ext (λ t. ap (λ (n : ℕ). with_left n t) (omega arith)))))
      by_test false = refl

pub fall-owed : (d gap : ℕ) (s : State) → 0 < gap → length s.timers ≡ timer_count → length s.threads ≡ thread_count
    → leap gap (owed d s) ≡ fall gap (d + gap) s
unfolding leap fall
fall-owed d gap s some timers threads =
    let n = d + gap in
    ap (leap gap) (sym (skip_earlier d s))
    ∙ leap-skip d gap (earlier d s) some timers (earlier_length d s (quantum_counts s) ∙ threads)
    ∙ ap (λ (q : State). choose (settle (in_order thread_count (limit_leap n) (in_order timer_count (timer_leap n) q)))) (quantum_earlier d s gap some)

-- ---- the end of a quantum

-- where the nearest of some counters is behind m, none of them is at m
none-at : {A : Type 0} (p : A → ℕ) (d : A) (m : ℕ) → 0 < m → p d ≡ 0 → (l : List A) → Free m (nearest (map p l)) → (o : ℕ)
    → eqb (p (get_or l o d)) m ≡ false
none-at p d m some z [] free o = ne_eqb (p d) m (λ e. omega arith)
none-at p d m some z (x ∷ xs) free zero =
    let own = (nearer-free m (p x) (nearest (map p xs)) free).0 in
    ne_eqb (p x) m (λ e. ⊎_elim (λ (none : p x ≡ 0). omega arith) (λ (later : m < p x). omega arith) own)
none-at p d m some z (x ∷ xs) free (suc o) = none-at p d m some z xs (nearer-free m (p x) (nearest (map p xs)) free).1 o

module _ (n : ℕ) (some : 0 < n) (s : State) where
  timers-quiet : length s.timers ≡ timer_count → Free n (nearest (times s)) → in_order timer_count (timer_leap n) s ≡ owed_times n s
  unfolding timer_leap owed_times
  timers-quiet many free =
      in_order-map (time_less n) unused_timer (λ (t : Timer). eqb t.left n) (timer_leap n) (λ (ts : List Timer). with_timers ts s)
      (λ o ts e. rw e) timer_count s.timers (omega arith)
      (some_below-none (λ o. eqb (timer o s).left n) timer_count
      (λ o h. none-at (λ (t : Timer). t.left) unused_timer n some refl s.timers free o))

  limits-quiet : length s.threads ≡ thread_count → Free n (nearest (limits s)) → in_order thread_count (limit_leap n) s ≡ owed_limits n s
  unfolding limit_leap owed_limits
  limits-quiet many free =
      in_order-map (limit_less n) absent_thread (λ (t : Thread). eqb t.limit n) (limit_leap n) (λ (ts : List Thread). with_threads ts s)
      (λ i ts e. rw e) thread_count s.threads (omega arith)
      (some_below-none (λ i. eqb (thread i s).limit n) thread_count
      (λ i h. none-at (λ (t : Thread). t.limit) absent_thread n some refl s.threads free i))

pub turn_owed : (d gap : ℕ) (s : State) → 0 < gap → length s.timers ≡ timer_count → length s.threads ≡ thread_count
    → running s ≡ gap → Free (d + gap) (nearest_counter s) → leap gap (owed d s) ≡ owed (d + gap) (take_turns s)
unfolding fall settle take_turns owed owed_times turn_over become_ready enter_ready leave
turn_owed d gap s some timers threads ends free =
    let n = d + gap in
    let more : 0 < n = omega arith in
    let x = turn_over s in
    let each = nearer-free n (nearest (times s)) (nearest (limits s)) free in
    let same : limits x ≡ limits s = alter-kept (λ (t : Thread). t.limit) refilled (λ t. refl) s.chosen s.threads in
    fall-owed d gap s some timers threads
    ∙ ap (λ (q : State). choose (in_order thread_count (limit_leap n) (in_order timer_count (timer_leap n) q))) (sym (leap_ends s some ends))
    ∙ ap (λ (q : State). choose (in_order thread_count (limit_leap n) q)) (timers-quiet n more x timers each.0)
    ∙ ap choose (limits-quiet n more (owed_times n x) (length-alter s.chosen refilled s.threads ∙ threads) (rw same each.1))
    ∙ choose-owed n x
