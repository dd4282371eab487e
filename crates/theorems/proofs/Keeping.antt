-- The words of which effects are made keep a table lawful: off a list, the record changed, on a list.
use mathlib.Core.Path.{◌≡◌, refl, sym, ◌∙◌, subst}
use mathlib.Core.Bool.{true}
use Prim.Native.Nat.{ℕ, ◌<◌, ◌≤◌}
use native.Mathlib.Nat.{zero-add}
use native.Mathlib.Omega.{arith}
use borrow.Author.Tests.{ltb-true, leb-true}
use lib.Dec.{leb, ltb}
use Rattle.sequences.specs.Lists.{count, count_all}
use Rattle.sequences.proofs.Tests.{left, right}
use Rattle.sequences.proofs.Places.{alter-at}
use Rattle.sequences.proofs.Counts.{count_all-place, first-list}
use Rattle.model.specs.declared.tables.Thread.{Thread}
use Rattle.model.specs.State.{State, absent_thread, nobody}
use Rattle.model.specs.Parts.{thread, list, alter_thread, with_wait}
use Rattle.model.specs.Ranges.{fits_32}
use Rattle.model.specs.Words.{leave, become_ready, wake, suspend, start_to_wait, start_to_sleep, is_waiting, list_of, owns_any}
use Rattle.placed.specs.Placed.{standing}
use Rattle.placed.proofs.Leaving.{waiting_list}
use Rattle.theorems.specs.Lawful.{ThreadFits, CurrentFits, Idle, Sleeping, Waiting, Lawful}
use Rattle.theorems.proofs.Fits.{fits-wait}
use Rattle.theorems.proofs.Readings.{there_below}
use Rattle.theorems.proofs.Moves.{leave-lawful, aside_altered, enter_ready-lawful, enter_sleep-lawful, enter_wait-lawful, whole-once}
use Rattle.theorems.proofs.InPlace.{stays_lawful}

-- ---- a thread that is there

pub record_altered : {k : ℕ} {s : State} → Lawful k s → (i : ℕ) → (thread i s).created ≡ 1
    → (g : Thread → Thread) → g (thread i s) ≡ thread i (alter_thread i g s)
record_altered {k} {s} w i there g = sym (alter-at g i s.threads absent_thread (omega (arith, there_below w.placed i there, w.placed.threads)))

-- who is there has a record that needn't be all zero
pub not-absent : {A : Type 0} {created : ℕ} → created ≡ 1 → created ≡ 0 → A
not-absent there none = absurd (omega arith)

-- ---- off a list, with another record

pub suspended : (i : ℕ) (g : Thread → Thread) (s : State) → Lawful nobody s → ThreadFits (g (thread i s)) → CurrentFits i (g (thread i s)) s
    → (owns_any i s ≡ true → (g (thread i s)).created ≡ 1) → Lawful i (leave i (alter_thread i g s))
unfolding leave owns_any
suspended i g s w fits current there = aside_altered i g (leave i s) (leave-lawful i s w) fits current there

module _ (i : ℕ) (s : State) (w : Lawful nobody s) (there : (thread i s).created ≡ 1) where
  -- ---- ready

  pub become_ready-lawful : Idle (thread i s) → Lawful nobody (become_ready i s)
  unfolding become_ready leave
  become_ready-lawful idle = enter_ready-lawful i (leave i s) (leave-lawful i s w) there idle

  -- with another record
  pub made_ready : (g : Thread → Thread) → ThreadFits (g (thread i s)) → CurrentFits i (g (thread i s)) s
      → (g (thread i s)).created ≡ 1 → Idle (g (thread i s))
      → Lawful nobody (become_ready i (alter_thread i g s))
  unfolding become_ready leave
  made_ready g fits current still idle =
      enter_ready-lawful i (leave i (alter_thread i g s)) (suspended i g s w fits current (λ o. still))
      (subst (λ (t : Thread). t.created ≡ 1) (record_altered w i there g) still)
      (subst Idle (record_altered w i there g) idle)

  pub wake-lawful : (result : ℕ) → leb result 2 ≡ true → Lawful nobody (wake i result s)
  unfolding wake
  wake-lawful result fits =
      made_ready (with_wait 0 result 0 0) (fits-wait (w.threads i) 0 result 0 0 refl fits refl refl (not-absent there))
      (w.currents i) there (record { limit = refl; mask = refl; mode = refl })

  -- ---- waiting and sleeping

  module _ (limit mask mode : ℕ) (fits : ThreadFits (with_wait limit 0 mask mode (thread i s))) where
    aside : Lawful i (leave i (alter_thread i (with_wait limit 0 mask mode) s))
    aside =
        suspended i (with_wait limit 0 mask mode) s w fits (w.currents i) (λ o. there)

    record_now : with_wait limit 0 mask mode (thread i s) ≡ thread i (alter_thread i (with_wait limit 0 mask mode) s)
    record_now = record_altered w i there (with_wait limit 0 mask mode)

    pub start_to_wait-lawful : (j : ℕ) → 2 ≤ j → j < 18 → Waiting j i (with_wait limit 0 mask mode (thread i s)) s
        → Lawful nobody (start_to_wait j i limit mask mode s)
    unfolding start_to_wait suspend leave
    start_to_wait-lawful j from below waits =
        enter_wait-lawful j i (leave i (alter_thread i (with_wait limit 0 mask mode) s)) from below aside
        (subst (λ (t : Thread). t.created ≡ 1) record_now there)
        (subst (λ (t : Thread). Waiting j i t (leave i (alter_thread i (with_wait limit 0 mask mode) s))) record_now
        (record { pends = waits.pends; claims = waits.claims; awaits = waits.awaits }))

  pub start_to_sleep-lawful : (span : ℕ) → fits_32 span ≡ true → 0 < span → Lawful nobody (start_to_sleep i span s)
  unfolding start_to_sleep suspend leave
  start_to_sleep-lawful span fits some =
      enter_sleep-lawful i (leave i (alter_thread i (with_wait span 0 0 0) s)) (aside span 0 0 ok)
      (subst (λ (t : Thread). t.created ≡ 1) (record_now span 0 0 ok) there)
      (subst Sleeping (record_now span 0 0 ok) (record { limit = some; result = refl; mask = refl; mode = refl }))
    where
      ok : ThreadFits (with_wait span 0 0 0 (thread i s))
      ok = fits-wait (w.threads i) span 0 0 0 fits refl refl refl (not-absent there)

-- ---- a record changed where a thread stands, with the same priorities, limit, mask and mode

pub altered_lawful : (k i : ℕ) (g : Thread → Thread) (s : State) → Lawful k s → ThreadFits (g (thread i s))
    → (g (thread i s)).created ≡ (thread i s).created → (g (thread i s)).base ≡ (thread i s).base → (g (thread i s)).current ≡ (thread i s).current
    → (g (thread i s)).limit ≡ (thread i s).limit → (g (thread i s)).mask ≡ (thread i s).mask → (g (thread i s)).mode ≡ (thread i s).mode
    → (0 < count_all i s.waits → (thread i s).result ≡ 0 → (g (thread i s)).result ≡ 0) → Lawful k (alter_thread i g s)
altered_lawful k i g s w fits created base current limit mask mode result =
    stays_lawful k i g s w
    (record {
      fits = fits;
      current = record { least = rw (base, current) (w.currents i).least; owners = λ none. current ∙ (w.currents i).owners none ∙ sym base };
      created = created;
      mask = mask;
      mode = mode;
      unlimited = λ e. limit ∙ e;
      limited = λ h. rw limit h;
      result = result;
      level = λ h. current;
      ranked = λ j h on. current;
    })

-- ---- where a thread stands, by the model's tests

-- who stands on a list is there
pub standing-there : {s : State} → Lawful nobody s → (i : ℕ) → 0 < standing i s → (thread i s).created ≡ 1
standing-there {s} w i on = omega (arith, w.placed.once i, whole-once s w i)

module _ {k : ℕ} {s : State} (w : Lawful k s) (i : ℕ) where
  pub ready-idle : 0 < count_all i s.ready → Idle (thread i s)
  ready-idle on =
      let found = count_all-place i s.ready on in
      w.readies found.0 i (omega (arith, w.placed.level found.0 i found.1, w.placed.priorities i))
      (rw (zero-add found.0) found.1)

  -- a waiting thread stands on a wait list, with what that list asks
  pub waits-on : is_waiting i s ≡ true → (2 ≤ list_of i s) × (list_of i s < 18) × (0 < count i (list (list_of i s) s))
  waits-on e =
      let bounds = sym (waiting_list w.placed i (list_of i s) refl) ∙ e in
      let from = leb-true 2 (list_of i s) (left (leb 2 (list_of i s)) (ltb (list_of i s) 18) bounds) in
      let below = ltb-true (list_of i s) 18 (right (leb 2 (list_of i s)) (ltb (list_of i s) 18) bounds) in
      (from, below, first-list i s.waits (omega (arith, w.placed.waits)))

  pub waiting_at : (j : ℕ) → 0 < count i (list j s) → Waiting j i (thread i s) s
  waiting_at j on =
      record {
        pends = λ o h e. w.pending o i h (rw (← e) on);
        claims = λ o h e. w.claiming o i h (rw (← e) on);
        awaits = λ o h e. w.awaiting o i h (rw (← e) on);
      }
