-- Every number of a sound table fits the bytes that the image has for it: the tests of ranges bound each field, a timer's action by the rules of
-- its kind, and the chosen thread by standing on a ready list or being nobody.
use mathlib.Core.Path.{◌≡◌, refl}
use mathlib.Core.Bool.{Bool, true, false, cond, ◌&&◌, ◌||◌}
use mathlib.Core.Logic.{inl, inr}
use mathlib.Core.List.{[], ◌∷◌}
use Prim.Native.Nat.{ℕ, zero, suc, ◌<◌}
use native.Mathlib.Omega.{arith}
use borrow.Author.Tests.{eqb-true, leb-true, ltb-true}
use lib.Dec.{eqb, leb, ltb}
use lib.ListN.{length, get_or}
use Rattle.sequences.specs.Lists.{count_all}
use Rattle.sequences.proofs.Tests.{left, right, or_cases, every-at, every_below-at}
use Rattle.sequences.proofs.Highest.{last_head}
use Rattle.sequences.proofs.Parts.{any_counted}
use Rattle.sequences.proofs.Each.{each-passed, each_placed, each_true, each_chained}
use Rattle.sequences.proofs.Codecs.{Many}
use Rattle.sequences.proofs.RecordsLaid.{Fits}
use Rattle.model.specs.declared.tables.Thread.{Thread}
use Rattle.model.specs.declared.tables.Semaphore.{Semaphore}
use Rattle.model.specs.declared.tables.Mutex.{Mutex}
use Rattle.model.specs.declared.tables.Flags.{Flags}
use Rattle.model.specs.declared.tables.Timer.{Timer}
use Rattle.model.specs.State.{State, unused_timer}
use Rattle.model.specs.Parts.{semaphore, flag_object}
use Rattle.model.specs.Words.{is_ready, choice}
use Rattle.model.specs.Ranges.{is_bit, fits_16, fits_32, is_positive_16, names_object, action_in_range}
use Rattle.model.specs.Sound.{thread_ranges, thread_in_range, semaphore_in_range, mutex_in_range, flags_in_range, timer_in_range}
use Rattle.model.specs.Sound.{field_ranges, clauses, actions_fit, sound_but_choice, choice_fits, sound}
use Rattle.model.specs.Layout.{threads_at, semaphores_at, mutexes_at, flags_at, timers_at}
use Rattle.placed.specs.Placed.{Placed}
use Rattle.placed.proofs.Standing.{standing_below}
use Rattle.placed.proofs.Sounds.{clause, size, field, sound-placed}
use Rattle.layout.proofs.Faithful.{head_at, head_of}

-- ---- records in their ranges fit

thread_fits : (t : Thread) → thread_in_range t ≡ true → Fits threads_at t
unfolding thread_in_range
thread_fits t e = let h = each_true (thread_ranges t) e in omega (arith, leb-true, ltb-true)

semaphore_fits : (x : Semaphore) → semaphore_in_range x ≡ true → Fits semaphores_at x
unfolding semaphore_in_range
semaphore_fits x e =
    let h = each_chained (is_bit x.created) (fits_16 x.count ∷ fits_16 x.maximum ∷ []) (left _ _ e) in
    omega (arith, leb-true)

mutex_fits : (x : Mutex) → mutex_in_range x ≡ true → Fits mutexes_at x
unfolding mutex_in_range
mutex_fits x e = let h = each_chained (is_bit x.created) (ltb x.owner 16 ∷ leb x.depth 255 ∷ []) e in omega (arith, leb-true, ltb-true)

flags-fits : (x : Flags) → flags_in_range x ≡ true → Fits flags_at x
unfolding flags_in_range
flags-fits x e = let h = each_chained (is_bit x.created) (fits_16 x.word ∷ []) e in omega (arith, leb-true)

-- a timer, by the rules for its action too
action-fits : (kind object mask : ℕ) (s : State)
    → names_object kind object s && action_in_range kind object mask ≡ true → (kind < 256) × ((object < 256) × (mask < 65536))
action-fits zero object mask s e = let h = each_chained (eqb object 0) (eqb mask 0 ∷ []) e in omega (arith, eqb-true)
action-fits (suc zero) object mask s e =
    let h = each_chained (ltb object 8) (eqb (semaphore object s).created 1 ∷ eqb mask 0 ∷ []) e in
    omega (arith, ltb-true, eqb-true)
action-fits (suc (suc zero)) object mask s e =
    let h = each_chained (ltb object 4) (eqb (flag_object object s).created 1 ∷ is_positive_16 mask ∷ []) e in
    omega (arith, ltb-true, leb-true mask 65535 (right (ltb 0 mask) _ h.1.1.0))
action-fits (suc (suc (suc kind))) object mask s e = let z : ◌≡◌ {A = ℕ} 0 1 = cc in omega arith

timer_fits : (t : Timer) (s : State) → timer_in_range t ≡ true
    → names_object t.kind t.object s && action_in_range t.kind t.object t.mask ≡ true → Fits timers_at t
unfolding timer_in_range
timer_fits t s e a =
    let h = each_chained (fits_32 t.period) (fits_32 t.left ∷ is_bit t.repeat ∷ fits_32 t.count ∷ []) e in
    let action = action-fits t.kind t.object t.mask s a in
    omega (arith, leb-true)

-- the chosen thread stands on a ready list, or is nobody
chosen-fits : (s : State) → Placed s → choice_fits s ≡ true → s.chosen < 256
unfolding choice_fits
chosen-fits s w e = by_mode (eqb s.off 0) e
  where
    ready : (i : ℕ) → 0 < count_all i s.ready → i < 16
    ready i h = standing_below w i (omega arith)

    by_mode : (on : Bool) → cond on (eqb s.chosen (choice s)) (eqb s.chosen 255 || is_ready s.chosen s) ≡ true → s.chosen < 256
    by_mode true e =
        let same = eqb-true s.chosen (choice s) e in
        elim (last_head s.ready 255) [
          | inl none ↦ omega arith
          | inr found ↦ omega (arith, ready (choice s) found)
        ]
    by_mode false e =
        or_cases (eqb s.chosen 255) (is_ready s.chosen s) e
        (λ h. omega (arith, eqb-true s.chosen 255 h))
        (λ h. omega (arith, ready s.chosen (any_counted s.chosen s.ready h)))

-- ---- a sound table fits

module _ (s : State) (e : sound s ≡ true) where
  pub whole : sound_but_choice s ≡ true
  unfolding sound
  whole = left (sound_but_choice s) (choice_fits s) e

  pub placed : Placed s
  placed = sound-placed s whole

  range : (k : ℕ) → get_or (field_ranges s) k true ≡ true
  range = field s whole

  timer_fits-at : (o : ℕ) → o < length s.timers → Fits timers_at (get_or s.timers o unused_timer)
  unfolding clauses actions_fit
  timer_fits-at o h =
      timer_fits (get_or s.timers o unused_timer) s (every-at timer_in_range unused_timer s.timers o h (range 6))
      (every_below-at _ 8 o (omega (arith, eqb-true (length s.timers) 8 (size s whole 4))) (clause s whole 17))

  pub threads_fit : Many 16 (Fits threads_at) s.threads
  threads_fit = record { many = placed.threads; each = each-passed (Fits threads_at) thread_in_range thread_fits s.threads (range 2) }

  pub semaphores_fit : Many 8 (Fits semaphores_at) s.semaphores
  semaphores_fit = record { many = eqb-true _ 8 (size s whole 1); each = each-passed (Fits semaphores_at) semaphore_in_range semaphore_fits s.semaphores (range 3) }

  pub mutexes_fit : Many 4 (Fits mutexes_at) s.mutexes
  mutexes_fit = record { many = eqb-true _ 4 (size s whole 2); each = each-passed (Fits mutexes_at) mutex_in_range mutex_fits s.mutexes (range 4) }

  pub flags_fit : Many 4 (Fits flags_at) s.flags
  flags_fit = record { many = eqb-true _ 4 (size s whole 3); each = each-passed (Fits flags_at) flags_in_range flags-fits s.flags (range 5) }

  pub timers_fit : Many 8 (Fits timers_at) s.timers
  timers_fit = record { many = eqb-true _ 8 (size s whole 4); each = each_placed (Fits timers_at) unused_timer s.timers timer_fits-at }

  pub head_fits : Many 1 (Fits head_at) (head_of s ∷ [])
  unfolding sound
  head_fits =
      let clock = leb-true s.clock 4294967295 (range 0) in
      let off = leb-true s.off 1 (range 1) in
      let chosen = chosen-fits s placed (right (sound_but_choice s) (choice_fits s) e) in
      record { many = refl; each = omega arith }
