-- A table at another time, by its clock, its timers and its threads' limits: words, actions and the quantum's step go by none of these, and
-- the turn of a timer or a limit goes by its own only. So each does the same to a table at another time, and leaves it there.
use mathlib.Core.Path.{◌≡◌, refl, sym, ◌∙◌, ap, ap₂}
use mathlib.Core.Bool.{Bool, true, false, cond, ◌&&◌}
use mathlib.Core.List.{List, [], ◌∷◌, map}
use Prim.Native.Nat.{ℕ, zero, suc}
use native.Mathlib.Nat.{zero-sub}
use native.Mathlib.Omega.{arith}
use lib.Dec.{eqb, leb, ltb}
use lib.ListN.{length, get_or}
use Rattle.sequences.specs.Lists.{alter, snoc, without}
use Rattle.sequences.specs.Steps.{in_order}
use Rattle.sequences.proofs.InOrder.{in_order_image}
use Rattle.model.specs.declared.tables.Thread.{Thread}
use Rattle.model.specs.declared.tables.Timer.{Timer}
use Rattle.model.specs.State.{State, scheduling_on, absent_thread, unused_timer, flags_list}
use Rattle.model.specs.Parts.{thread, timer, ready_list, list, with_clock, with_threads, with_timers, with_ready, alter_thread, alter_timer, alter_flags}
use Rattle.model.specs.Parts.{with_wait, with_delivered, with_limit, with_word, refilled}
use Rattle.model.specs.Words.{leave, enter_ready, become_ready, wake, sleeps}
use Rattle.model.specs.Effects.{post_to, post_semaphore, wake_each, met, change_word, set_flags, act}
use Rattle.model.specs.Tick.{quantum_counts, quantum_ends, quantum_step, expired, timer_tick, limit_tick}
use Rattle.theorems.specs.Skip.{left_less, limit_less, time_less}

-- f does the same before g and after it, and so may pass it
abbrev pub Passes : (State → State) → (State → State) → Type 0
Passes g f = (s : State) → f (g s) ≡ g (f s)

pub cond_passes : (g : State → State) (b : Bool) {a : Bool} {x y x' y' : State} → a ≡ b → x ≡ g x' → y ≡ g y' → cond a x y ≡ g (cond b x' y')
cond_passes g true e p q = rw e p
cond_passes g false e p q = rw e q

pub then_passes : (g f f' : State → State) → Passes g f → Passes g f' → Passes g (λ s. f' (f s))
then_passes g f f' p q s = ap f' (p s) ∙ q (f s)

pub steps_pass : (g : State → State) (f : ℕ → State → State) (n : ℕ) → ((k : ℕ) → Passes g (f k)) → Passes g (in_order n f)
steps_pass g f n p s = sym (in_order_image f g f n (λ k below x. sym (p k x)) s)

pub pass_steps : (g : ℕ → State → State) (f : State → State) (n : ℕ) → ((k : ℕ) → Passes (g k) f) → Passes (in_order n g) f
pass_steps g f n p = in_order_image g f g n (λ k below. p k)

-- of threads, only the quantum and the current priority of the chosen one say whether the quantum counts
pub counts_alike : (ts : List Thread) (s : State) → (get_or ts s.chosen absent_thread).quantum ≡ (thread s.chosen s).quantum
    → (get_or ts s.chosen absent_thread).current ≡ (thread s.chosen s).current → quantum_counts (with_threads ts s) ≡ quantum_counts s
unfolding quantum_counts
counts_alike ts s = ap₂ (λ (quantum current : ℕ). scheduling_on s && ltb 0 quantum && leb 2 (length (ready_list current s)))

-- another clock, other timers, and threads with other limits: limits less m, where they differ. What else is read of a thread is as it
-- was, and a change of a thread that goes by no limit commutes with this one.
pub record Retiming : Type 0 where
  pub clock : ℕ → ℕ
  pub timers : List Timer → List Timer
  pub threads : List Thread → List Thread
  pub m : ℕ
  pub keeps : (p : Thread → ℕ) → ((t : Thread) → p (limit_less m t) ≡ p t) → (i : ℕ) (ts : List Thread)
      → p (get_or (threads ts) i absent_thread) ≡ p (get_or ts i absent_thread)
  pub passes : (f : Thread → Thread) → ((t : Thread) → f (limit_less m t) ≡ limit_less m (f t)) → (i : ℕ) (ts : List Thread)
      → alter i f (threads ts) ≡ threads (alter i f ts)

-- the threads as they were
abbrev pub but-threads : (ℕ → ℕ) → (List Timer → List Timer) → Retiming
but-threads c g = record { clock = c; timers = g; threads = λ ts. ts; m = 0; keeps = λ p e i ts. refl; passes = λ f e i ts. refl }

module _ (r : Retiming) where
  abbrev pub retimed : State → State
  retimed s = with_clock (r.clock s.clock) (with_timers (r.timers s.timers) (with_threads (r.threads s.threads) s))

  altered_retimed : (i : ℕ) (f : Thread → Thread) → ((t : Thread) → f (limit_less r.m t) ≡ limit_less r.m (f t)) → Passes retimed (alter_thread i f)
  altered_retimed i f e s = ap (λ (ts : List Thread). with_threads ts (retimed s)) (r.passes f e i s.threads)

  become_ready_retimed : (i : ℕ) → Passes retimed (become_ready i)
  unfolding become_ready enter_ready leave
  become_ready_retimed i s =
      ap (λ (p : ℕ). retimed (with_ready (alter p (snoc i) (map (without i) s.ready)) (leave i s)))
      (r.keeps (λ (t : Thread). t.current) (λ t. refl) i s.threads)

  wake_retimed : (i result : ℕ) → Passes retimed (wake i result)
  unfolding wake
  wake_retimed i result s =
      ap (become_ready i) (altered_retimed i (with_wait 0 result 0 0) (λ t. ap (λ x. with_wait x result 0 0 t) (sym (zero-sub r.m))) s)
      ∙ become_ready_retimed i _

  post_to_retimed : (o : ℕ) (l : List ℕ) → Passes retimed (post_to o l)
  unfolding post_to
  post_to_retimed o [] s = refl
  post_to_retimed o (i ∷ l) s = wake_retimed i 1 s

  wake_each_retimed : (word : ℕ) (l : List ℕ) → Passes retimed (wake_each word l)
  unfolding wake_each
  wake_each_retimed word [] s = refl
  wake_each_retimed word (i ∷ l) s =
      let told = alter_thread i (with_delivered word) s in
      ap (wake_each word l) (ap (wake i 1) (altered_retimed i (with_delivered word) (λ t. refl) s) ∙ wake_retimed i 1 told)
      ∙ wake_each_retimed word l (wake i 1 told)

  met_retimed : (word : ℕ) (l : List ℕ) (s : State) → met word l (retimed s) ≡ met word l s
  met_retimed word [] s = refl
  met_retimed word (i ∷ l) s =
      rw (r.keeps (λ (t : Thread). t.mode) (λ t. refl) i s.threads, r.keeps (λ (t : Thread). t.mask) (λ t. refl) i s.threads, met_retimed word l s)

  change_word_retimed : (o word : ℕ) → Passes retimed (change_word o word)
  unfolding change_word
  change_word_retimed o word s =
      let l = list (flags_list o) s in
      let changed = alter_flags o (with_word word) s in
      ap (λ (who : List ℕ). wake_each word who (retimed changed)) (met_retimed word l s) ∙ wake_each_retimed word (met word l s) changed

  pub act_retimed : (kind object mask : ℕ) → Passes retimed (act kind object mask)
  unfolding act post_semaphore set_flags
  act_retimed zero object mask s = refl
  act_retimed (suc zero) object mask s = post_to_retimed object _ s
  act_retimed (suc (suc kind)) object mask s = change_word_retimed object _ s

  -- ---- the steps of a tick

  counts_retimed : (s : State) → quantum_counts (retimed s) ≡ quantum_counts s
  unfolding quantum_counts
  counts_retimed s =
      counts_alike (r.threads s.threads) s (r.keeps (λ (t : Thread). t.quantum) (λ t. refl) s.chosen s.threads)
      (r.keeps (λ (t : Thread). t.current) (λ t. refl) s.chosen s.threads)

  pub quantum_retimed : Passes retimed quantum_step
  unfolding quantum_step quantum_ends
  quantum_retimed s =
      let i = s.chosen in
      cond_passes retimed (quantum_ends s)
      (ap₂ (λ (b : Bool) (n : ℕ). b && eqb n 1) (counts_retimed s) (r.keeps (λ (t : Thread). t.left) (λ t. refl) i s.threads))
      (ap (become_ready i) (altered_retimed i refilled (λ t. refl) s) ∙ become_ready_retimed i (alter_thread i refilled s))
      (cond_passes retimed (quantum_counts s) (counts_retimed s) (altered_retimed i (left_less 1) (λ t. refl) s) refl)

  pub timer_retimed : (o : ℕ) → ((ts : List Timer) → get_or (r.timers ts) o unused_timer ≡ get_or ts o unused_timer)
      → ((f : Timer → Timer) (ts : List Timer) → alter o f (r.timers ts) ≡ r.timers (alter o f ts)) → Passes retimed (timer_tick o)
  unfolding timer_tick
  timer_retimed o same apart s =
      let t = timer o s in
      cond_passes retimed (eqb t.left 1) (ap (λ (t : Timer). eqb t.left 1) (same s.timers))
      (ap₂ (λ (t : Timer) (ts : List Timer). act t.kind t.object t.mask (with_timers ts (retimed s))) (same s.timers) (apart expired s.timers)
      ∙ act_retimed t.kind t.object t.mask (alter_timer o expired s))
      (ap (λ (ts : List Timer). with_timers ts (retimed s)) (apart (time_less 1) s.timers))

  pub limit_retimed : (i : ℕ) → ((ts : List Thread) → (get_or (r.threads ts) i absent_thread).limit ≡ (get_or ts i absent_thread).limit)
      → Passes retimed (limit_tick i)
  unfolding limit_tick
  limit_retimed i same s =
      cond_passes retimed (eqb (thread i s).limit 1) (ap (λ (n : ℕ). eqb n 1) (same s.threads))
      (wake_retimed i (cond (sleeps i s) 1 2) s)
      (altered_retimed i (limit_less 1) (λ t. ap (λ (n : ℕ). with_limit n t) (omega arith)) s)
