-- An advance under way: so many ticks are left, so many wake-ups are counted, timers and limits are owed so many ticks, and what lies ahead is known.
-- The ticks go by the theory of jumps, on the table with its clock at 0; so no turn of the loop touches the clock.
use Rattle.std.proofs.Common.{◌≡◌, ℕ, ◌+◌, ◌-◌, ◌<◌, ◌≤◌, min, Bool, true, false, leb, List, length, sym, refl, ap, ◌∙◌, subst, ap₂, ⊎_elim, arith, leb-false, leb-true}
use lib.ListN.{length-map}
use Rattle.sequences.specs.Lists.{nearer}
use Rattle.sequences.specs.Jumps.{Free, Going}
use Rattle.sequences.proofs.Jumping.{going_start, going_turn, going_room, going_last}
use Rattle.model.specs.State.{State, scheduling_on, timer_count, thread_count}
use Rattle.model.specs.Parts.{with_clock}
use Rattle.model.specs.Words.{choice}
use Rattle.model.specs.Sound.{sound}
use Rattle.model.specs.Tick.{wrap, quantum_counts, wakes}
use Rattle.model.specs.Time.{after_ticks, wakeups_in, next}
use Rattle.model.specs.Layout.{view, sound_image}
use Rattle.rules.specs.Counting.{never, place}
use Rattle.theorems.specs.Skip.{skip, still, still_tick}
use Rattle.theorems.specs.Leap.{spend}
use Rattle.theorems.specs.Lawful.{Steady}
use Rattle.theorems.proofs.Choosing.{sound_steady, chosen-choice}
use Rattle.theorems.proofs.Clock.{next-clock}
use Rattle.theorems.proofs.Jumps.{Still, stilled, kernel, after_gone}
use Rattle.theorems.proofs.Leaping.{leap-still}
use Rattle.words.specs.Images.{Whole, Does}
use Rattle.untimed.proofs.Laid.{view-sound, sound-whole}
use Rattle.timed.specs.Ahead.{Falls, fall}
use Rattle.timed.specs.Counters.{running, nearest_counter, Foreseen}
use Rattle.timed.specs.Owed.{owed_times, owed_limits, owed}
use Rattle.timed.specs.Running.{TimersTo, LimitsFrom}
use Rattle.timed.specs.Turns.{take_turns}
use Rattle.timed.proofs.Falling.{fall-owed, turn_owed}
use Rattle.timed.proofs.Owing.{owed_none, next-owed, skip-owed}
use Rattle.timed.proofs.Onward.{onward-from, taken_onward}
use Rattle.timed.proofs.Placing.{place-back, place-most, place-free, nearer-first, nearer-last, nearer-free, free-none, free_less}
use Rattle.timed.proofs.Using.{counts_on, running-left, spend-running, spend-nearest}
use Rattle.timed.proofs.Resting.{rest-armed, rest-limited, rest_short, fall-timers_to, taken_nearest, taken_timers_to}

pub record Passing (s : State) (n : ℕ) (b : List ℕ) (left woken debt due quantum stop from end : ℕ) : Type 0 where
  pub whole : Whole b
  pub going : Going Still still_tick wakes (still s) n (still (owed debt (view b))) left woken
  pub ahead : Foreseen (view b) due quantum
  pub free : Free debt (nearest_counter (view b))
  pub most : n ≤ never
  pub room : debt + left ≤ n
  pub timers : TimersTo stop (view b)
  pub limits : LimitsFrom from end (view b)

pub passing_start : (b : List ℕ) → sound_image b ≡ true → {n due quantum stop from end : ℕ} → n ≤ never → Foreseen (view b) due quantum
    → TimersTo stop (view b) → LimitsFrom from end (view b) → Passing (view b) n b n 0 0 due quantum stop from end
passing_start b e {n} most ahead timers limits =
    let v = view b in
    record {
      whole = sound-whole b e;
      going =
          subst (λ (x : State). Going Still still_tick wakes (still v) n (still x) n 0) (sym (owed_none v))
          (going_start kernel (still v) n (stilled v (view-sound b e)));
      ahead = ahead;
      free = free-none (nearest_counter v);
      most = most;
      room = omega arith;
      timers = timers;
      limits = limits;
    }

module _ {s : State} {n : ℕ} {b : List ℕ} {left woken debt due quantum stop from end : ℕ} (p : Passing s n b left woken debt due quantum stop from end) where
  abbrev v : State
  v = view b

  abbrev at_rest : State
  at_rest = still (owed debt v)

  rest-sound : sound at_rest ≡ true
  rest-sound = p.going.fine.0

  rest_steady : Steady at_rest
  rest_steady = sound_steady at_rest rest-sound

  next-rest : next at_rest ≡ nearer (running v) (nearest_counter v - debt)
  next-rest = next-clock 0 (owed debt v) ∙ next-owed debt v p.free

  many_timers : length v.timers ≡ timer_count
  unfolding owed owed_times owed_limits
  many_timers = sym (length-map v.timers _) ∙ rest_steady.lawful.objects.many_timers

  many-threads : length v.threads ≡ thread_count
  many-threads = p.whole.placed.threads

  rest-timers : length (owed debt v).timers ≡ timer_count
  rest-timers = rest_steady.lawful.objects.many_timers

  rest-threads : length (owed debt v).threads ≡ thread_count
  rest-threads = rest_steady.lawful.placed.threads

  pub passing_chosen : scheduling_on v ≡ true → choice v ≡ v.chosen
  unfolding owed owed_times owed_limits
  passing_chosen on = sym (chosen-choice at_rest rest-sound on)

  -- counters that are owed ticks are no less than those ticks
  pub passing_due : debt ≤ due
  passing_due =
      ⊎_elim (λ none. omega (arith, p.room, p.most, p.ahead.due.at, ap place none)) (place-most (nearest_counter v) debt p.ahead.due.at) p.free

  -- ---- the tick in which a timer or a limit falls due

  module _ (first : due - debt ≤ quantum) (comes : due - debt < left) where
    abbrev gap : ℕ
    gap = due - debt + 1

    due-at : nearest_counter v ≡ due + 1
    due-at = place-back (nearest_counter v) p.ahead.due.at (omega (arith, p.room, p.most))

    sum : debt + gap ≡ due + 1
    sum = omega (arith, passing_due)

    gap_next : gap ≡ next at_rest
    gap_next = sym (next-rest ∙ nearer-last (running v) (nearest_counter v - debt) p.ahead.quantum.at (omega (arith, due-at, passing_due)) (omega (arith, due-at, first)) ∙ omega (arith, due-at, passing_due))

    pub passing_falls : Falls (due - debt) quantum v
    passing_falls =
        record {
          chosen = passing_chosen;
          armed = rest-armed debt v rest-sound;
          limited = rest-limited debt v p.free rest-sound;
          quantum = p.ahead.quantum;
          first = first;
          comes = omega (arith, p.room, p.most);
        }

    fall-room : woken + 1 ≤ n
    fall-room = going_room kernel at_rest left woken gap p.going gap_next (omega arith) (omega arith)

    pub passing_fall : {r : List ℕ} {later later-quantum further : ℕ} → Does b (fall gap (due + 1)) r → Foreseen (view r) later later-quantum
        → LimitsFrom further end (view r) → Passing s n r (left - (due - debt) - 1) (woken + 1) 0 later later-quantum stop further end
    passing_fall {r} d ahead limits =
        record {
          whole = d.whole;
          going =
              subst (λ (k : ℕ). Going Still still_tick wakes (still s) n (still (owed 0 (view r))) k (woken + 1)) (omega arith)
              (going_turn kernel at_rest left woken gap (still (owed 0 (view r))) p.going gap_next (omega arith) (omega arith) same);
          ahead = ahead;
          free = free-none (nearest_counter (view r));
          most = p.most;
          room = omega (arith, p.room);
          timers = subst (TimersTo stop) (sym d.view) (fall-timers_to stop gap (due + 1) v (omega arith) p.timers);
          limits = limits;
        }
      where
        same : still (owed 0 (view r)) ≡ still_tick (skip (gap - 1) at_rest)
        same =
            ap still (owed_none (view r) ∙ d.view ∙ ap (λ (k : ℕ). fall gap k v) (sym sum) ∙ sym (fall-owed debt gap v (omega arith) many_timers many-threads))
            ∙ leap-still (owed debt v) gap (omega arith) rest-timers rest-threads

  -- ---- the tick in which a quantum ends and nothing else

  module _ (first : quantum < due - debt) (comes : quantum < left) where
    runs : running v ≡ quantum + 1
    runs = place-back (running v) p.ahead.quantum.at (omega (arith, p.room, p.most))

    still-free : Free (debt + (quantum + 1)) (nearest_counter v)
    still-free = place-free (nearest_counter v) (debt + (quantum + 1)) p.ahead.due.at (omega arith)

    turn_next : quantum + 1 ≡ next at_rest
    turn_next =
        sym
        (next-rest
        ∙ ap (λ (k : ℕ). nearer k (nearest_counter v - debt)) runs
        ∙ nearer-first (quantum + 1) (nearest_counter v - debt) (omega arith) (free_less debt (quantum + 1) (nearest_counter v) still-free))

    pub turn_counts : quantum_counts v ≡ true
    turn_counts = (running-left v (omega (arith, runs))).0

    turn_room : woken + 1 ≤ n
    turn_room = going_room kernel at_rest left woken (quantum + 1) p.going turn_next (omega arith) (omega arith)

    pub turn_chosen : choice v ≡ v.chosen
    turn_chosen = passing_chosen (counts_on v turn_counts)

    pub passing_turn : {r : List ℕ} {later : ℕ} → Does b take_turns r → later ≡ place (running (view r))
        → Passing s n r (left - quantum - 1) (woken + 1) (debt + quantum + 1) due later stop from end
    passing_turn {r} {later} d ahead =
        record {
          whole = d.whole;
          going = going;
          ahead =
              record {
                due = record { fits = rw near p.ahead.due.fits; at = p.ahead.due.at ∙ ap place (sym near) };
                quantum = record { fits = rest_short (debt + quantum + 1) (view r) going.fine.0; at = ahead };
              };
          free = rw near (subst (λ (k : ℕ). Free k (nearest_counter v)) (omega arith) still-free);
          most = p.most;
          room = omega (arith, p.room);
          timers = subst (TimersTo stop) (sym d.view) (taken_timers_to stop v p.timers);
          limits = subst (LimitsFrom from end) (sym d.view) (onward-from (taken_onward v p.whole.placed turn_counts turn_chosen) p.limits);
        }
      where
        near : nearest_counter (view r) ≡ nearest_counter v
        near = ap nearest_counter d.view ∙ taken_nearest v

        same : still (owed (debt + (quantum + 1)) (view r)) ≡ still_tick (skip (quantum + 1 - 1) at_rest)
        same =
            ap (λ (x : State). still (owed (debt + (quantum + 1)) x)) d.view
            ∙ ap still (sym (turn_owed debt (quantum + 1) v (omega arith) many_timers many-threads runs still-free))
            ∙ leap-still (owed debt v) (quantum + 1) (omega arith) rest-timers rest-threads

        going : Going Still still_tick wakes (still s) n (still (owed (debt + quantum + 1) (view r))) (left - quantum - 1) (woken + 1)
        going =
            subst (λ (k : ℕ). Going Still still_tick wakes (still s) n (still (owed k (view r))) (left - quantum - 1) (woken + 1)) (omega arith)
            (subst (λ (k : ℕ). Going Still still_tick wakes (still s) n (still (owed (debt + (quantum + 1)) (view r))) k (woken + 1)) (omega arith)
            (going_turn kernel at_rest left woken (quantum + 1) (still (owed (debt + (quantum + 1)) (view r))) p.going turn_next (omega arith) (omega arith) same))

  -- there is room for one wake-up more, of either kind
  pub passing_room : min quantum (due - debt) < left → woken + 1 ≤ n
  passing_room h = by_test (leb (due - debt) quantum) refl
    where
      by_test : (t : Bool) → leb (due - debt) quantum ≡ t → woken + 1 ≤ n
      by_test true e = let first = leb-true (due - debt) quantum e in fall-room first (omega (arith, h, first))
      by_test false e = let first = leb-false (due - debt) quantum e in turn_room (omega (arith, first)) (omega (arith, h, first))

  -- ---- no wake-up among the ticks that are left

  module _ (quiet : left ≤ quantum) (owing : left ≤ due - debt) where
    pub rest-running : Free left (running v)
    rest-running = place-free (running v) left p.ahead.quantum.at quiet

    pub rest_counters : Free (debt + left) (nearest_counter v)
    rest_counters = place-free (nearest_counter v) (debt + left) p.ahead.due.at (omega (arith, passing_due))

    module _ {r w : List ℕ} (d : Does b (λ x. owed (debt + left) (spend left x)) r) {clock : ℕ} (c : Does r (with_clock clock) w) where
      -- the next wake-up after them, by the quantum and by the counters
      pub passed-next : {own others : ℕ} → own ≡ running v - left → others ≡ nearest_counter (spend left v) - (debt + left) → nearer own others ≡ next (view w)
      passed-next e f =
          let x = spend left v in
          ap₂ nearer (e ∙ sym (spend-running left v)) f
          ∙ sym (next-owed (debt + left) x (rw (spend-nearest left v) rest_counters))
          ∙ ap next (sym d.view)
          ∙ sym (next-clock clock (view r))
          ∙ ap next (sym c.view)

      module _ (whole : sound s ≡ true) (sum : clock ≡ wrap (s.clock + n)) where
        gone : (with_clock clock (skip left at_rest) ≡ after_ticks n s) × (woken ≡ wakeups_in n s)
        gone =
            rw sum
            (after_gone s whole n (skip left at_rest) woken
            (going_last kernel at_rest left woken (skip left at_rest) p.going
            (rw next-rest (nearer-free left (running v) (nearest_counter v - debt) rest-running (free_less debt left (nearest_counter v) rest_counters))) refl))

        pub passed : Does b (λ x. after_ticks n s) w × (woken ≡ wakeups_in n s)
        unfolding skip quantum_counts
        passed = (record { whole = c.whole; view = c.view ∙ ap (with_clock clock) (d.view ∙ sym (skip-owed debt left v)) ∙ gone.0 }, gone.1)
