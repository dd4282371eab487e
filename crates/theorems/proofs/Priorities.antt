-- A thread takes another priority. Ready or waiting it is off its list when its record changes and enters anew; elsewhere it stays. Of a
-- ready thread only the record and the ready lists change.
use mathlib.Core.Path.{◌≡◌, refl, sym, ◌∙◌, ap, subst}
use mathlib.Core.Bool.{Bool, true, false, cond, false≢true, true≢false}
use mathlib.Core.List.{List}
use Prim.Native.Nat.{ℕ, ◌<◌, ◌≤◌}
use native.Mathlib.Omega.{arith}
use borrow.Author.Tests.{eqb-true}
use lib.Dec.{eqb}
use Rattle.sequences.specs.Lists.{count_all, count}
use Rattle.sequences.proofs.Places.{alter-none, alter_twice}
use Rattle.sequences.proofs.Removal.{map-without-none}
use Rattle.sequences.proofs.Parts.{counted_any, any_counted, none-counted}
use Rattle.model.specs.declared.tables.Thread.{Thread}
use Rattle.model.specs.State.{State, absent_thread, nobody}
use Rattle.model.specs.Parts.{thread, with_threads, with_ready, with_waits, alter_thread, with_current, list, with_base}
use Rattle.model.specs.Ranges.{is_priority}
use Rattle.model.specs.Words.{leave, enter_ready, enter_by_priority, become_ready, is_ready, is_waiting, list_of, re_enter, take_priority}
use Rattle.model.specs.Words.{leave, enter_by_priority, become_ready, is_ready, is_waiting, list_of, re_enter, take_priority, owns_any}
use Rattle.model.specs.Sound.{thread_in_range}
use Rattle.theorems.specs.Lawful.{ThreadFits, CurrentFits, Waiting, Lawful}
use Rattle.theorems.proofs.Fits.{fits-base, fits-current, range}
use Rattle.theorems.proofs.Readings.{waiting_there}
use Rattle.theorems.proofs.Moves.{enter_wait-lawful}
use Rattle.theorems.proofs.InPlace.{stays_lawful}
use Rattle.theorems.proofs.Keeping.{record_altered, not-absent, suspended, made_ready, ready-idle, waits-on, waiting_at}

-- ---- a new base, and a current priority with the move that follows from it

module _ (i base p : ℕ) (s : State) (w : Lawful nobody s) (there : (thread i s).created ≡ 1) (low : is_priority base ≡ true) (high : is_priority p ≡ true)
    (least : base ≤ p) (owner : owns_any i s ≡ false → p ≡ base) where
  abbrev ranked : Thread → Thread
  ranked t = with_current p (with_base base t)

  fits : ThreadFits (ranked (thread i s))
  fits = fits-current (fits-base (w.threads i) base low (not-absent there)) p high (not-absent there)

  current : CurrentFits i (ranked (thread i s)) s
  current = record { least = least; owners = owner }

  -- no change, no move
  unmoved : (thread i s).current ≡ p → Lawful nobody (alter_thread i (with_base base) s)
  unmoved e =
      stays_lawful nobody i (with_base base) s w
      (record {
        fits = fits-base (w.threads i) base low (not-absent there);
        current = record { least = rw e least; owners = λ none. e ∙ owner none };
        created = refl;
        mask = refl;
        mode = refl;
        unlimited = λ h. h;
        limited = λ h. h;
        result = λ h e. e;
        level = λ h. refl;
        ranked = λ j h on. refl;
      })

  -- neither ready nor waiting
  elsewhere : is_ready i s ≡ false → is_waiting i s ≡ false → Lawful nobody (alter_thread i ranked s)
  elsewhere not-on-ready not-on-wait =
      stays_lawful nobody i ranked s w
      (record {
        fits = fits;
        current = current;
        created = refl;
        mask = refl;
        mode = refl;
        unlimited = λ h. h;
        limited = λ h. h;
        result = λ h e. e;
        level = λ h. absurd (omega (arith, none-counted i s.ready not-on-ready));
        ranked = λ j h on. absurd (true≢false (sym (waiting_there w.placed i j h on) ∙ not-on-wait));
      })

  -- from its wait list to its rank there
  ranked_anew : is_waiting i s ≡ true → Lawful nobody (enter_by_priority (list_of i s) i (leave i (alter_thread i ranked s)))
  unfolding leave
  ranked_anew waits =
      enter_wait-lawful j i (leave i (alter_thread i ranked s)) at.0 at.1 (suspended i ranked s w fits current (λ o. there))
      (subst (λ (t : Thread). t.created ≡ 1) (record_altered w i there ranked) there)
      (subst (λ (t : Thread). Waiting j i t (leave i (alter_thread i ranked s))) (record_altered w i there ranked)
      (record {
        pends = λ o h e. let a = old.pends o h e in record { result = a.result; mask = a.mask; mode = a.mode; there = a.there; empty = a.empty };
        claims = λ o h e.
            let a = old.claims o h e in
            record { result = a.result; mask = a.mask; mode = a.mode; there = a.there; owned = a.owned; others = a.others };
        awaits = λ o h e. let a = old.awaits o h e in record { result = a.result; mask = a.mask; unmet = a.unmet; there = a.there };
      }))
    where
      j : ℕ
      j = list_of i s

      at : (2 ≤ j) × (j < 18) × (0 < count i (list j s))
      at = waits-on w i waits

      old : Waiting j i (thread i s) s
      old = waiting_at w i j at.2

  moved : Lawful nobody (re_enter i (alter_thread i ranked s))
  unfolding re_enter
  moved = by_place (is_ready i s) (is_waiting i s) refl refl
    where
      by_place : (a b : Bool) → is_ready i s ≡ a → is_waiting i s ≡ b
          → Lawful nobody (cond a (become_ready i (alter_thread i ranked s))
          (cond b (enter_by_priority (list_of i s) i (leave i (alter_thread i ranked s))) (alter_thread i ranked s)))
      by_place true b ready e =
          let idle = ready-idle w i (any_counted i s.ready ready) in
          made_ready i s w there ranked fits current there (record { limit = idle.limit; mask = idle.mask; mode = idle.mode })
      by_place false true e waits = ranked_anew waits
      by_place false false e none = elsewhere e none

  pub take_priority-lawful : Lawful nobody (take_priority i p (alter_thread i (with_base base) s))
  unfolding take_priority
  take_priority-lawful =
      subst (λ (n : ℕ). Lawful nobody (cond (eqb n p) based (re_enter i (alter_thread i (with_current p) based)))) same
      (by_change (eqb (thread i s).current p) refl)
    where
      based : State
      based = alter_thread i (with_base base) s

      same : (thread i s).current ≡ (thread i based).current
      same = ap (λ (t : Thread). t.current) (record_altered w i there (with_base base))

      by_change : (b : Bool) → eqb (thread i s).current p ≡ b → Lawful nobody (cond b based (re_enter i (alter_thread i (with_current p) based)))
      by_change true e = unmoved (eqb-true (thread i s).current p e)
      by_change false e =
          subst (λ (l : List Thread). Lawful nobody (re_enter i (with_threads l s))) (sym (alter_twice (with_current p) (with_base base) i s.threads)) moved

-- the base as it is
pub new_current-lawful : (i p : ℕ) (s : State) → Lawful nobody s → (thread i s).created ≡ 1 → is_priority p ≡ true → (thread i s).base ≤ p
    → (owns_any i s ≡ false → p ≡ (thread i s).base) → Lawful nobody (take_priority i p s)
unfolding thread_in_range
new_current-lawful i p s w there high least owner =
    subst (λ (l : List Thread). Lawful nobody (take_priority i p (with_threads l s)))
    (alter-none (with_base (thread i s).base) absent_thread i s.threads refl)
    (take_priority-lawful i (thread i s).base p s w there (range (w.threads i) 1) high least owner)

-- ---- a ready thread

pub take_priority-ready : (i p : ℕ) (s : State) → 0 < count_all i s.ready → count_all i s.waits ≡ 0
    → take_priority i p s ≡ with_ready (take_priority i p s).ready (alter_thread i (with_current p) s)
unfolding take_priority re_enter become_ready enter_ready leave
take_priority-ready i p s on off = by_change (eqb (thread i s).current p) refl
  where
    t : State
    t = alter_thread i (with_current p) s

    same : (thread i s).current ≡ p → s.threads ≡ t.threads
    same e = sym (alter-none (with_current p) absent_thread i s.threads (ap (λ (n : ℕ). with_current n (thread i s)) (sym e)))

    -- wherever it would go if it weren't ready
    by_place : (u : State) (b : Bool) → is_ready i s ≡ b → cond b (become_ready i t) u ≡ with_ready (cond b (become_ready i t) u).ready t
    by_place u true e = ap (λ (ls : List (List ℕ)). with_waits ls (become_ready i t)) (map-without-none i s.waits off)
    by_place u false e = absurd (false≢true (sym e ∙ counted_any i s.ready on))

    by_change : (b : Bool) → eqb (thread i s).current p ≡ b → cond b s (re_enter i t) ≡ with_ready (cond b s (re_enter i t)).ready t
    by_change true e = ap (λ (l : List Thread). with_threads l s) (same (eqb-true (thread i s).current p e))
    by_change false e = by_place (cond (is_waiting i s) (enter_by_priority (list_of i s) i (leave i t)) t) (is_ready i s) refl
