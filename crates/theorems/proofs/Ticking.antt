-- A tick keeps a table sound: each of its steps keeps it lawful and who is ready ready, and the choice comes last.
use mathlib.Core.Path.{◌≡◌, refl, subst}
use mathlib.Core.Bool.{Bool, true, false, cond, ◌&&◌}
use mathlib.Core.Logic.{⊎_elim}
use Prim.Native.Nat.{ℕ, zero, suc, ◌+◌, ◌-◌, ◌<◌}
use native.Mathlib.Decide.{ℕ_discrete}
use native.Mathlib.Omega.{arith}
use borrow.Author.Tests.{eqb-true, eqb-false, ltb-true, leb-true, le-leb}
use lib.Dec.{eqb, leb, ltb}
use lib.ListN.{length, get_or}
use Rattle.sequences.specs.Lists.{count_all}
use Rattle.sequences.specs.Steps.{in_order}
use Rattle.sequences.proofs.Tests.{left, right}
use Rattle.sequences.proofs.Bounds.{all_zero-at}
use Rattle.model.specs.declared.tables.Timer.{Timer}
use Rattle.model.specs.State.{State, scheduling_on, nobody}
use Rattle.model.specs.Parts.{thread, timer, alter_thread, alter_timer, with_limit, with_left, with_time, refilled, ready_list}
use Rattle.model.specs.Words.{become_ready, wake, sleeps, settle}
use Rattle.model.specs.Sound.{thread_in_range, thread_numbers, zero_thread, sound}
use Rattle.model.specs.Effects.{act}
use Rattle.model.specs.Tick.{wrap, expired, clock_step, quantum_counts, quantum_ends, quantum_step, timer_tick, timer_step, limit_tick, limit_step, before_limits, tick}
use Rattle.theorems.specs.Lawful.{Stays, Lawful, Keeps, Steady}
use Rattle.theorems.proofs.Fits.{fits-quantum, fits-wait, range, mark-most}
use Rattle.theorems.proofs.Readings.{there_below}
use Rattle.theorems.proofs.InPlace.{stays_lawful}
use Rattle.theorems.proofs.Records.{clock-lawful}
use Rattle.theorems.proofs.Keeping.{not-absent, made_ready, wake-lawful, altered_lawful, ready-idle}
use Rattle.theorems.proofs.Staying.{keeps-none, keeps_both, made_ready-keeps, wake-keeps}
use Rattle.theorems.proofs.Choosing.{sound_steady, choose-sound}
use Rattle.theorems.proofs.Running.{kept}
use Rattle.theorems.proofs.Timers.{wrap-fits, expired-lawful, counted_down_lawful, act-lawful}

-- a step that leaves the choice alone
abbrev Steps : (State → State) → State → Type 0
Steps f s = Lawful nobody (f s) × Keeps s (f s)

in_order-steps : (n : ℕ) (f : ℕ → State → State) → ((k : ℕ) (s : State) → Lawful nobody s → Steps (f k) s)
    → (s : State) → Lawful nobody s → Steps (in_order n f) s
unfolding in_order
in_order-steps zero f each s w = (w, keeps-none s)
in_order-steps (suc n) f each s w =
    let before = in_order-steps n f each s w in
    let now = each n (in_order n f s) before.0 in
    (now.0, keeps_both before.1 now.1)

-- who has a number other than 0 is there
not-absent-there : {k : ℕ} {s : State} → Lawful k s → (i n : ℕ) → 0 < get_or (thread_numbers (thread i s)) n 0 → (thread i s).created ≡ 1
unfolding thread_in_range
not-absent-there {k} {s} w i n some =
    let bit = mark-most (w.threads i) in
    elim (ℕ_discrete (thread i s).created 1) [
      | yes e ↦ e
      | no e ↦
          let none : (thread i s).created ≡ 0 = omega arith in
          absurd (omega (arith, all_zero-at (thread_numbers (thread i s)) n ((w.threads i).absent none)))
    ]

-- ---- 2

pub counts_quantum : (s : State) → quantum_counts s ≡ true → 0 < (thread s.chosen s).quantum
unfolding quantum_counts
counts_quantum s e =
    let t = thread s.chosen s in
    ltb-true 0 t.quantum
    (right (scheduling_on s) (ltb 0 t.quantum) (left (scheduling_on s && ltb 0 t.quantum) (leb 2 (length (ready_list t.current s))) e))

module _ (s : State) (steady : Steady s) where
  w : Lawful nobody s
  w = steady.lawful

  abbrev c : ℕ
  c = s.chosen

  -- nobody has no quantum, so that who has one runs
  counts_ready : quantum_counts s ≡ true → 0 < count_all c s.ready
  counts_ready e =
      ⊎_elim
      (λ (n : s.chosen ≡ nobody).
      absurd (omega (arith, there_below w.placed c (not-absent-there w c 3 (counts_quantum s e)))))
      (λ (h : 0 < count_all c s.ready). h) steady.stands

  ended : quantum_counts s ≡ true → Steps (λ x. become_ready c (alter_thread c refilled x)) s
  ended e =
      let there = not-absent-there w c 3 (counts_quantum s e) in
      let idle = ready-idle w c (counts_ready e) in (
        made_ready c s w there refilled
            (fits-quantum (w.threads c) (thread c s).quantum (thread c s).quantum (range (w.threads c) 3) (range (w.threads c) 3) (omega arith) (λ h. h) (not-absent there))
            (w.currents c) there
            (record { limit = idle.limit; mask = idle.mask; mode = idle.mode }),
        made_ready-keeps c s w refilled (λ t. refl),
      )

  counted : quantum_counts s ≡ true → eqb (thread c s).left 1 ≡ false → Steps (alter_thread c (λ t. with_left (t.left - 1) t)) s
  counted e more =
      let there = not-absent-there w c 3 (counts_quantum s e) in
      let some = (w.threads c).some_left (counts_quantum s e) in
      let two : 0 < (thread c s).left - 1 = omega (arith, eqb-false (thread c s).left 1 more) in (
        altered_lawful nobody c (λ t. with_left (t.left - 1) t) s w
            (fits-quantum (w.threads c) (thread c s).quantum ((thread c s).left - 1) (range (w.threads c) 3)
            (le-leb ((thread c s).left - 1) 65535 (omega (arith, leb-true (thread c s).left 65535 (range (w.threads c) 4)))) (omega (arith, (w.threads c).within)) (λ h. two) (not-absent there))
            refl refl refl refl refl refl (λ h e. e),
        record { off = refl; chosen = refl; ready = λ x h. h },
      )

  quantum-steps : Steps quantum_step s
  unfolding quantum_step quantum_ends
  quantum-steps = by_test (quantum_counts s) refl (eqb (thread c s).left 1) refl
    where
      by_test : (a : Bool) → quantum_counts s ≡ a → (b : Bool) → eqb (thread c s).left 1 ≡ b
          → Steps (λ x. cond (a && b) (become_ready c (alter_thread c refilled x)) (cond a (alter_thread c (λ t. with_left (t.left - 1) t) x) x)) s
      by_test true e true one = ended e
      by_test true e false more = counted e more
      by_test false e b d = (w, keeps-none s)

-- ---- 3

timer-steps : (o : ℕ) (s : State) → Lawful nobody s → Steps (timer_tick o) s
unfolding timer_tick
timer-steps o s w = by_test (eqb (timer o s).left 1) refl
  where
    t : Timer
    t = timer o s

    by_test : (b : Bool) → eqb t.left 1 ≡ b
        → Steps (λ x. cond b (act t.kind t.object t.mask (alter_timer o expired x)) (alter_timer o (λ t. with_time (t.left - 1) t.count t) x)) s
    by_test true e =
        let acts = act-lawful t.kind t.object t.mask (alter_timer o expired s) (expired-lawful o s w (eqb-true t.left 1 e))
        (w.objects.posting o) (w.objects.setting o) (w.objects.timers o).action in
        (acts.0, keeps_both (record { off = refl; chosen = refl; ready = λ x h. h }) acts.1)
    by_test false e = (counted_down_lawful o s w, record { off = refl; chosen = refl; ready = λ x h. h })

-- ---- 4

limit-steps : (i : ℕ) (s : State) → Lawful nobody s → Steps (limit_tick i) s
unfolding limit_tick thread_in_range
limit-steps i s w = by_test (eqb (thread i s).limit 1) refl
  where
    late : (b : Bool) → leb (cond b 1 2) 2 ≡ true
    late true = refl
    late false = refl

    zeros : (thread i s).created ≡ 0 → zero_thread (with_limit ((thread i s).limit - 1) (thread i s)) ≡ true
    zeros none =
        let zero = (w.threads i).absent none in
        let limit = all_zero-at (thread_numbers (thread i s)) 5 zero in
        let same : (thread i s).limit ≡ (thread i s).limit - 1 = omega arith in
        subst (λ (n : ℕ). zero_thread (with_limit n (thread i s)) ≡ true) same zero

    less : eqb (thread i s).limit 1 ≡ false → Stays i (with_limit ((thread i s).limit - 1) (thread i s)) s
    less more =
        record {
          fits =
              fits-wait (w.threads i) ((thread i s).limit - 1) (thread i s).result (thread i s).mask (thread i s).mode
              (le-leb ((thread i s).limit - 1) 4294967295 (omega (arith, leb-true (thread i s).limit 4294967295 (range (w.threads i) 5)))) (range (w.threads i) 6) (range (w.threads i) 7) (range (w.threads i) 8) zeros;
          current = w.currents i;
          created = refl;
          mask = refl;
          mode = refl;
          unlimited = λ e. omega arith;
          limited = λ h. omega (arith, eqb-false (thread i s).limit 1 more);
          result = λ h e. e;
          level = λ h. refl;
          ranked = λ j h on. refl;
        }

    by_test : (b : Bool) → eqb (thread i s).limit 1 ≡ b
        → Steps (λ x. cond b (wake i (cond (sleeps i s) 1 2) x) (alter_thread i (λ t. with_limit (t.limit - 1) t) x)) s
    by_test true e =
        let one = eqb-true (thread i s).limit 1 e in
        (wake-lawful i s w (not-absent-there w i 5 (omega arith)) (cond (sleeps i s) 1 2) (late (sleeps i s)), wake-keeps i s w (cond (sleeps i s) 1 2))
    by_test false e = (stays_lawful nobody i (λ t. with_limit (t.limit - 1) t) s w (less e), record { off = refl; chosen = refl; ready = λ x h. h })

-- ---- the whole

pub tick-sound : (s : State) → sound s ≡ true → sound (tick s) ≡ true
unfolding tick settle before_limits clock_step timer_step limit_step
tick-sound s whole =
    choose-sound (limit_step (before_limits s))
    (kept steady limits.0
    (keeps_both (record { off = refl; chosen = refl; ready = λ x h. h }) (keeps_both quantum.1 (keeps_both timers.1 limits.1))))
  where
    steady : Steady s
    steady = sound_steady s whole

    quantum : Steps quantum_step (clock_step s)
    quantum =
        quantum-steps (clock_step s)
        (record { lawful = clock-lawful nobody s steady.lawful (wrap (s.clock + 1)) (wrap-fits (s.clock + 1)); stands = steady.stands })

    timers : Steps timer_step (quantum_step (clock_step s))
    timers = in_order-steps 8 timer_tick timer-steps (quantum_step (clock_step s)) quantum.0

    limits : Steps limit_step (before_limits s)
    limits = in_order-steps 16 limit_tick limit-steps (before_limits s) timers.0
