-- The turn of a timer, in the model and in code: what it leaves of the timers, and that each still names an object that there is room for.
use Rattle.std.proofs.Common.{◌≡◌, ℕ, ◌-◌, ◌<◌, Bool, true, false, cond, eqb, List, get_or, take, set, sym, refl, ap, ◌∙◌, arith, get_or-set_same, eq-eqb, ne_eqb}
use Rattle.sequences.specs.Lists.{alter}
use Rattle.sequences.proofs.Places.{take-alter, alter_alike, alter-holds}
use Rattle.model.specs.declared.tables.Timer.{Timer}
use Rattle.model.specs.declared.tables.Table.{Table}
use Rattle.model.specs.State.{State, unused_timer}
use Rattle.model.specs.Parts.{timer, alter_timer, with_time}
use Rattle.model.specs.Effects.{act}
use Rattle.model.specs.Tick.{expired}
use Rattle.model.specs.Before as layout
use Rattle.model.specs.Before.{view}
use Rattle.placed.proofs.Standing.{unmoved_placed}
use Rattle.table.specs.Orderly.{Whole, Does}
use Rattle.table.proofs.Views.{table-timers, stored_timer, does, and_then, same_word}
use Rattle.table.proofs.Rewriting.{rewritten_timer}
use Rattle.table.proofs.Rooms.{whole_then}
use Rattle.theorems.specs.Skip.{time_less}
use Rattle.theorems.specs.Leap.{expire, timer_leap}
use Rattle.theorems.proofs.Turns.{act-timers}
use Rattle.time.specs.Armed.{Aimed, Armed}
use Rattle.time.proofs.Walking.{Turn}

abbrev pub timers : State → List Timer
timers s = s.timers

abbrev pub left : Timer → ℕ
left t = t.left

-- ---- in the model

-- a timer after its turn
abbrev turned : ℕ → Timer → Timer
turned gap t = cond (eqb t.left gap) (expired t) (time_less gap t)

turn_timers : (gap o : ℕ) (s : State) → (timer_leap gap o s).timers ≡ alter o (turned gap) s.timers
unfolding timer_leap
turn_timers gap o s = by_test (eqb (timer o s).left gap) refl
  where
    t : Timer
    t = timer o s

    by_test : (b : Bool) → eqb t.left gap ≡ b → (cond b (expire o s) (alter_timer o (time_less gap) s)).timers ≡ alter o (turned gap) s.timers
    by_test true e =
        act-timers t.kind t.object t.mask (alter_timer o expired s) ∙ alter_alike expired (turned gap) unused_timer s.timers o (rw e)
    by_test false e = alter_alike (time_less gap) (turned gap) unused_timer s.timers o (rw e)

pub timers-behind : (gap o : ℕ) (s : State) → take o (timers (timer_leap gap o s)) ≡ take o (timers s)
timers-behind gap o s = ap (take o) (turn_timers gap o s) ∙ take-alter (turned gap) o s.timers

turned_aimed : (gap : ℕ) {t : Timer} → Aimed t → Aimed (turned gap t)
turned_aimed gap {t} a = by_test (eqb t.left gap)
  where
    by_test : (b : Bool) → Aimed (cond b (expired t) (time_less gap t))
    by_test true = record { posts = a.posts; sets = a.sets }
    by_test false = record { posts = a.posts; sets = a.sets }

nothing : {kind : ℕ} (object mask : ℕ) (s : State) → kind ≡ 0 → s ≡ act kind object mask s
unfolding act
nothing object mask s e = rw e

-- ---- in code, by its ways

module _ (gap o : ℕ) (t : Table) (rows : layout.Rows) where
  abbrev there : Timer
  there = get_or t.timers o unused_timer

  -- the table with x as timer o
  abbrev stored : Timer → Table
  stored x = table-timers (set t.timers o x) t

  own_stored : Whole t rows → o < 8 → (x : Timer) → get_or (set t.timers o x) o unused_timer ≡ x
  own_stored w h x = get_or-set_same t.timers o x unused_timer (omega (arith, w.order.table.timers))

  module _ (w : Whole t rows) {y : Timer} (e : y ≡ expired there) where
    written : Does t rows (alter_timer o expired) (stored y) rows
    written = does rows w.order (rewritten_timer t (stored y) o y expired e (stored_timer t w.order.table o y))

    -- an expiry moves nobody
    pub written_whole : Whole (stored y) rows
    written_whole = whole_then (λ x. unmoved_placed refl refl refl) written w

    -- the record first, then the action, which leaves the timers alone
    pub timer_ends : there.left ≡ gap → o < 8 → {r : Table} {after : layout.Rows}
        → Does (stored y) rows (act there.kind there.object there.mask) r after
        → Turn (timer_leap gap o) timers unused_timer o t rows r after y
    unfolding timer_leap view
    timer_ends out h d =
        record {
          does = same_word (timer_leap gap o) (and_then written d) (rw (eq-eqb there.left gap out));
          own =
              sym
              (ap (λ (s : State). get_or s.timers o unused_timer) d.view
              ∙ ap (λ (l : List Timer). get_or l o unused_timer) (act-timers there.kind there.object there.mask (view (stored y) rows))
              ∙ own_stored w h y);
        }

    -- a timer without an action does no more
    pub timer_rests : there.left ≡ gap → o < 8 → there.kind ≡ 0 → Turn (timer_leap gap o) timers unused_timer o t rows (stored y) rows y
    timer_rests out h none =
        timer_ends out h (record { order = written.order; view = nothing there.object there.mask (view (stored y) rows) none })

  pub timer_runs : (there.left ≡ gap → ⊥) → Whole t rows → o < 8 → {m : ℕ} → m ≡ there.left - gap → let x = with_time m there.count there in
      Turn (timer_leap gap o) timers unused_timer o t rows (stored x) rows x
  unfolding timer_leap view
  timer_runs more w h {m} e =
      let x = with_time m there.count there in
      let changed = rewritten_timer t (stored x) o x (time_less gap) (ap (λ (n : ℕ). with_time n there.count there) e)
      (stored_timer t w.order.table o x) in
      record {
        does = same_word (timer_leap gap o) (does rows w.order changed) (rw (ne_eqb there.left gap more));
        own = sym (own_stored w h x);
      }

  pub armed-next : Armed t → {r : Table} {after : layout.Rows} → Does t rows (timer_leap gap o) r after → Armed r
  unfolding view
  armed-next a d =
      let after = ap timers d.view ∙ turn_timers gap o (view t rows) in
      rw after (alter-holds (λ i t. Aimed t) (turned gap) o t.timers unused_timer a (turned_aimed gap (a o)))
