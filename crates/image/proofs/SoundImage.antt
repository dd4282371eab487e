-- A sound table fits its image: the tests of ranges bound each field, a list's ids by themselves and the places past its end by their
-- zeros, a timer's action by the rules of its kind, and the chosen thread by standing on a ready list or being nobody.
use mathlib.Core.Path.{◌≡◌, sym, ◌∙◌, subst}
use mathlib.Core.Bool.{Bool, true, false, cond, ◌&&◌, ◌||◌}
use mathlib.Core.Logic.{inl, inr}
use mathlib.Core.List.{List, [], ◌∷◌, map}
use Prim.Native.Nat.{ℕ, zero, suc, ◌<◌, ◌-◌}
use native.Mathlib.Omega.{arith}
use borrow.Author.Tests.{eqb-true, leb-true, ltb-true}
use lib.Dec.{eqb, leb, ltb}
use lib.ListN.{length, take, drop, get_or, length-map, take-append-drop, get_or-map}
use Rattle.sequences.specs.Lists.{take_each, count_all}
use Rattle.sequences.specs.Bytes.{Each, Bytes}
use Rattle.sequences.proofs.Tests.{left, right, or_cases, every-at, every_below-at}
use Rattle.sequences.proofs.Places.{take_each-at, length-take_each}
use Rattle.sequences.proofs.Highest.{last_head}
use Rattle.sequences.proofs.Parts.{any_counted}
use Rattle.sequences.proofs.Each.{each_append, each_repeated, each-passed, each_placed, each_true, each_chained}
use Rattle.rows.specs.Row.{Row}
use Rattle.model.specs.declared.tables.Thread.{Thread}
use Rattle.model.specs.declared.tables.Semaphore.{Semaphore}
use Rattle.model.specs.declared.tables.Mutex.{Mutex}
use Rattle.model.specs.declared.tables.Flags.{Flags}
use Rattle.model.specs.declared.tables.Timer.{Timer}
use Rattle.model.specs.declared.tables.Table.{Table}
use Rattle.model.specs.State.{State, unused_timer}
use Rattle.model.specs.Parts.{semaphore, flag_object}
use Rattle.model.specs.Words.{is_ready, choice}
use Rattle.model.specs.Ranges.{is_bit, fits_16, fits_32, is_positive_16, names_object, action_in_range}
use Rattle.model.specs.Sound.{thread_ranges, thread_in_range, semaphore_in_range, mutex_in_range, flags_in_range, timer_in_range}
use Rattle.model.specs.Sound.{ids_in_range, field_ranges, clauses, actions_fit, sound_but_choice, choice_fits, sound}
use Rattle.model.specs.Before.{Rows, view, ids_of, no_ids, orderly, sound_table}
use Rattle.placed.specs.Placed.{Placed}
use Rattle.placed.proofs.Standing.{standing_below}
use Rattle.placed.proofs.Sounds.{clause, field}
use Rattle.table.specs.Orderly.{Orderly}
use Rattle.table.proofs.Stored.{sound-whole}
use Rattle.image.specs.Image.{image_of, table_of, rows_of}
use Rattle.image.proofs.Fits.{TableFits, ThreadFits, SemaphoreFits, MutexFits, FlagsFits, TimerFits, ListFits, RowFits, One, Two}
use Rattle.image.proofs.RoundTrip.{read_written, length_image, bytes_image}

-- ---- one record in its ranges

thread_fits : (t : Thread) → thread_in_range t ≡ true → ThreadFits t
unfolding thread_in_range
thread_fits t e = let h = each_true (thread_ranges t) e in omega (arith, leb-true, ltb-true)

semaphore_fits : (x : Semaphore) → semaphore_in_range x ≡ true → SemaphoreFits x
unfolding semaphore_in_range
semaphore_fits x e =
    let h = each_chained (is_bit x.created) (fits_16 x.count ∷ fits_16 x.maximum ∷ []) (left _ _ e) in
    omega (arith, leb-true)

mutex_fits : (x : Mutex) → mutex_in_range x ≡ true → MutexFits x
unfolding mutex_in_range
mutex_fits x e = let h = each_chained (is_bit x.created) (ltb x.owner 16 ∷ leb x.depth 255 ∷ []) e in omega (arith, leb-true, ltb-true)

flags-fits : (x : Flags) → flags_in_range x ≡ true → FlagsFits x
unfolding flags_in_range
flags-fits x e = let h = each_chained (is_bit x.created) (fits_16 x.word ∷ []) e in omega (arith, leb-true)

-- ---- a timer, by the rules for its action too

action-fits : (kind object mask : ℕ) (s : State)
    → names_object kind object s && action_in_range kind object mask ≡ true → One kind × (One object × Two mask)
action-fits zero object mask s e = let h = each_chained (eqb object 0) (eqb mask 0 ∷ []) e in omega (arith, eqb-true)
action-fits (suc zero) object mask s e =
    let h = each_chained (ltb object 8) (eqb (semaphore object s).created 1 ∷ eqb mask 0 ∷ []) e in
    omega (arith, ltb-true, eqb-true)
action-fits (suc (suc zero)) object mask s e =
    let h = each_chained (ltb object 4) (eqb (flag_object object s).created 1 ∷ is_positive_16 mask ∷ []) e in
    omega (arith, ltb-true, leb-true mask 65535 (right (ltb 0 mask) _ h.1.1.0))
action-fits (suc (suc (suc kind))) object mask s e = let z : ◌≡◌ {A = ℕ} 0 1 = cc in omega arith

timer_fits : (t : Timer) (s : State) → timer_in_range t ≡ true
    → names_object t.kind t.object s && action_in_range t.kind t.object t.mask ≡ true → TimerFits t
unfolding timer_in_range
timer_fits t s e a =
    let h = each_chained (fits_32 t.period) (fits_32 t.left ∷ is_bit t.repeat ∷ fits_32 t.count ∷ []) e in
    let action = action-fits t.kind t.object t.mask s a in
    omega (arith, leb-true)

-- ---- a row: its ids are threads', the rest is zeros

row_fits : (ids : List ℕ) (n : ℕ) → Row 16 ids n → ids_in_range (take n ids) ≡ true → RowFits ids
unfolding ids_in_range
row_fits ids n w e =
    let threads = each-passed One (λ i. ltb i 16) (λ i h. omega (arith, ltb-true i 16 h)) (take n ids) e in
    let zeros : Each One (drop n ids) = rw w.clear (each_repeated One (16 - n) 0 (omega arith)) in
    record { many = w.size; each = subst (Each One) (take-append-drop n ids) (each_append One (take n ids) (drop n ids) threads zeros) }

-- ---- the chosen thread

chosen-fits : (s : State) → Placed s → choice_fits s ≡ true → One s.chosen
unfolding choice_fits
chosen-fits s w e = by_mode (eqb s.off 0) e
  where
    ready : (i : ℕ) → 0 < count_all i s.ready → i < 16
    ready i h = standing_below w i (omega arith)

    by_mode : (on : Bool) → cond on (eqb s.chosen (choice s)) (eqb s.chosen 255 || is_ready s.chosen s) ≡ true → s.chosen < 256
    by_mode true e =
        let same = eqb-true s.chosen (choice s) e in
        elim (last_head s.ready 255) [
          | inl none ↦ omega arith
          | inr found ↦ omega (arith, ready (choice s) found)
        ]
    by_mode false e =
        or_cases (eqb s.chosen 255) (is_ready s.chosen s) e
        (λ h. omega (arith, eqb-true s.chosen 255 h))
        (λ h. omega (arith, ready s.chosen (any_counted s.chosen s.ready h)))

-- ---- the whole

module _ (t : Table) (rows : Rows) (e : sound_table t rows ≡ true) where
  order : Orderly t rows
  order = (sound-whole e).order

  parts-sound : sound_but_choice (view t rows) && choice_fits (view t rows) ≡ true
  unfolding sound_table sound
  parts-sound = right (orderly t rows) (sound (view t rows)) e

  whole : sound_but_choice (view t rows) ≡ true
  whole = left _ (choice_fits (view t rows)) parts-sound

  range : (k : ℕ) → get_or (field_ranges (view t rows)) k true ≡ true
  range = field (view t rows) whole

  timers_fit : (o : ℕ) → o < length t.timers → TimerFits (get_or t.timers o unused_timer)
  unfolding view clauses actions_fit
  timers_fit o h =
      timer_fits (get_or t.timers o unused_timer) (view t rows) (every-at timer_in_range unused_timer t.timers o h (range 6))
      (every_below-at _ 8 o (omega (arith, order.table.timers)) (clause (view t rows) whole 17))

  lengths_fit : (p : ℕ) → p < length t.lengths → One (get_or t.lengths p 0)
  lengths_fit p h = omega (arith, (order.ready.each p (omega (arith, order.ready.wide))).room)

  rows_fit : (p : ℕ) → p < length rows → RowFits (get_or rows p [])
  unfolding view
  rows_fit p h =
      let n : p < length t.lengths = omega (arith, order.ready.tall, order.ready.wide) in
      let l = length-take_each t.lengths rows (order.ready.tall ∙ sym order.ready.wide) in
      row_fits (get_or rows p []) (get_or t.lengths p 0) (order.ready.each p (omega (arith, order.ready.tall)))
      (rw (take_each-at t.lengths rows p n h) at (every-at ids_in_range [] (take_each t.lengths rows) p (omega arith) (range 7)))

  lists_fit : (j : ℕ) → j < length t.waits → ListFits (get_or t.waits j no_ids)
  unfolding view
  lists_fit j h =
      let l = get_or t.waits j no_ids in
      let w = order.table.lists j (omega (arith, order.table.waits)) in
      let below : j < length (map ids_of t.waits) = omega (arith, length-map t.waits ids_of) in
      record {
        length = omega (arith, w.room);
        ids =
            row_fits l.ids l.length w
            (rw (get_or-map ids_of t.waits j no_ids) at (every-at ids_in_range [] (map ids_of t.waits) j below (range 8)));
      }

  pub sound-fits : TableFits t rows
  unfolding view
  sound-fits =
      record {
        clock = omega (arith, leb-true t.clock 4294967295 (range 0));
        off = omega (arith, leb-true t.off 1 (range 1));
        chosen = chosen-fits (view t rows) (sound-whole e).placed (right (sound_but_choice (view t rows)) _ parts-sound);
        threads = record { many = order.table.threads; each = each-passed ThreadFits thread_in_range thread_fits t.threads (range 2) };
        semaphores = record { many = order.table.semaphores; each = each-passed SemaphoreFits semaphore_in_range semaphore_fits t.semaphores (range 3) };
        mutexes = record { many = order.table.mutexes; each = each-passed MutexFits mutex_in_range mutex_fits t.mutexes (range 4) };
        flags = record { many = order.table.flags; each = each-passed FlagsFits flags_in_range flags-fits t.flags (range 5) };
        timers = record { many = order.table.timers; each = each_placed TimerFits unused_timer t.timers timers_fit };
        lengths = record { many = order.ready.wide; each = each_placed One 0 t.lengths lengths_fit };
        ready = record { many = order.ready.tall; each = each_placed RowFits [] rows rows_fit };
        waits = record { many = order.table.waits; each = each_placed ListFits no_ids t.waits lists_fit };
      }

  pub sound_read_written : (table_of (image_of t rows) ≡ t) × (rows_of (image_of t rows) ≡ rows)
  sound_read_written = read_written t rows sound-fits

  pub sound_image-length : length (image_of t rows) ≡ 920
  sound_image-length = length_image t rows sound-fits

  pub sound-bytes : Bytes (image_of t rows)
  sound-bytes = bytes_image t rows sound-fits
