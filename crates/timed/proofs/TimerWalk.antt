-- The turn of a timer, in the model and in place: what it leaves of the timers, and that each still names an object that there is room for.
use Rattle.std.proofs.Common.{◌≡◌, ℕ, ◌-◌, ◌<◌, ◌≤◌, Bool, true, false, cond, eqb, List, sym, refl, ap, ◌∙◌, true≢false, arith, eq-eqb, ne_eqb}
use Rattle.sequences.specs.Lists.{alter}
use Rattle.sequences.proofs.Places.{alter-keeps, alter_alike, alter-none, alter-holds}
use Rattle.model.specs.declared.tables.Timer.{Timer}
use Rattle.model.specs.State.{State, unused_timer}
use Rattle.model.specs.Parts.{thread, timer, with_timers, alter_timer, with_time}
use Rattle.model.specs.Effects.{act}
use Rattle.model.specs.Tick.{expired}
use Rattle.model.specs.Layout.{view}
use Rattle.rules.specs.Counting.{never}
use Rattle.theorems.specs.Skip.{time_less}
use Rattle.theorems.specs.Leap.{expire, timer_leap}
use Rattle.theorems.proofs.Turns.{act-timers}
use Rattle.fields.specs.Fields.{Alters}
use Rattle.words.specs.Images.{Whole, Does}
use Rattle.words.proofs.Does.{and_then, same_word}
use Rattle.words.proofs.Accepted.{unmoved_does}
use Rattle.timed.specs.Armed.{act_of, Aimed, Armed}
use Rattle.timed.specs.Unmoved.{Unmoved}
use Rattle.timed.proofs.Walking.{Turn}

abbrev pub timers : State → List Timer
timers s = s.timers

abbrev pub left : Timer → ℕ
left t = t.left

-- ---- in the model

-- a timer after its turn
abbrev turned : ℕ → Timer → Timer
turned ticks t = cond (eqb t.left ticks) (expired t) (time_less ticks t)

turn_timers : (ticks o : ℕ) (s : State) → (timer_leap ticks o s).timers ≡ alter o (turned ticks) s.timers
unfolding timer_leap
turn_timers ticks o s = by_test (eqb (timer o s).left ticks) refl
  where
    t : Timer
    t = timer o s

    by_test : (b : Bool) → eqb t.left ticks ≡ b
        → (cond b (expire o s) (alter_timer o (time_less ticks) s)).timers ≡ alter o (turned ticks) s.timers
    by_test true e =
        act-timers t.kind t.object t.mask (alter_timer o expired s) ∙ alter_alike expired (turned ticks) unused_timer s.timers o (rw e)
    by_test false e = alter_alike (time_less ticks) (turned ticks) unused_timer s.timers o (rw e)

turned_aimed : (ticks : ℕ) {t : Timer} → Aimed t → Aimed (turned ticks t)
turned_aimed ticks {t} a = by_test (eqb t.left ticks)
  where
    by_test : (b : Bool) → Aimed (cond b (expired t) (time_less ticks t))
    by_test true = record { posts = a.posts; sets = a.sets }
    by_test false = record { posts = a.posts; sets = a.sets }

-- a timer that doesn't run has no turn
pub timer-idle : {ticks : ℕ} → 0 < ticks → (o : ℕ) (s : State) → (timer o s).left ≡ 0 → timer_leap ticks o s ≡ s
unfolding timer_leap
timer-idle {ticks} some o s e =
    let t = timer o s in
    let none : t.left - ticks ≡ t.left = omega (arith, e) in
    rw (ne_eqb t.left ticks (λ f. omega (arith, e, f, some)))
    (ap (λ (l : List Timer). with_timers l s)
    (alter-none (time_less ticks) unused_timer o s.timers (ap (λ (n : ℕ). with_time n t.count t) none)))

-- an expiry leaves the action as it is
expire_acts : (o : ℕ) (s : State) → act_of o (alter_timer o expired s) ≡ expire o s
expire_acts o s =
    alter-keeps (λ (t : Timer). act t.kind t.object t.mask (alter_timer o expired s)) expired (λ t. refl) o s.timers o unused_timer

nothing : {kind : ℕ} (object mask : ℕ) (s : State) → kind ≡ 0 → s ≡ act kind object mask s
unfolding act
nothing object mask s e = rw e

-- ---- in place, by its ways

-- an expiry moves nobody
pub expired-whole : (o : ℕ) {b u : List ℕ} → Whole b → Alters b (alter_timer o expired) u → Whole u
expired-whole o w a = (unmoved_does w a refl refl refl).whole

pub expired_kind : (o : ℕ) (b : List ℕ) {u : List ℕ} → Alters b (alter_timer o expired) u → (timer o (view u)).kind ≡ (timer o (view b)).kind
expired_kind o b a =
    ap (λ (s : State). (timer o s).kind) a.view ∙ alter-keeps (λ (t : Timer). t.kind) expired (λ t. refl) o (view b).timers o unused_timer

pub expired-armed : (o : ℕ) (b : List ℕ) {u : List ℕ} → Alters b (alter_timer o expired) u → Armed (view b) → Armed (view u)
expired-armed o b a armed =
    rw (ap timers a.view)
    (alter-holds (λ i t. Aimed t) expired o (view b).timers unused_timer armed (record { posts = (armed o).posts; sets = (armed o).sets }))

module _ (ticks o : ℕ) (b : List ℕ) where
  abbrev there : Timer
  there = timer o (view b)

  unmoved : (g : Timer → Timer) {r : List ℕ} → Alters b (alter_timer o g) r → Unmoved (view b) (view r)
  unmoved g a =
      record {
        ready = ap (λ (s : State). s.ready) a.view;
        off = ap (λ (s : State). s.off) a.view;
        chosen = ap (λ (s : State). s.chosen) a.view;
        current = λ i. ap (λ (s : State). (thread i s).current) a.view;
        quantum = λ i. ap (λ (s : State). (thread i s).quantum) a.view;
        left = λ i. ap (λ (s : State). (thread i s).left) a.view;
      }

  abbrev Turned : Bool → List ℕ → Bool → ℕ → Type 0
  Turned moved r after x = Turn (timer_leap ticks o) timers left unused_timer o b moved r after x

  turn : (moved after : Bool) {r : List ℕ} {x : ℕ} → Does b (timer_leap ticks o) r → x ≡ (turned ticks there).left → x ≤ never
      → (after ≡ false → (moved ≡ false) × Unmoved (view b) (view r)) → Turned moved r after x
  turn moved after d e fits still =
      record { does = d; change = turned ticks; own = ap timers d.view ∙ turn_timers ticks o (view b); noted = e; fits = fits; still = still }

  module _ (w : Whole b) {x : ℕ} {u : List ℕ} {t : Timer} (a : Alters b (alter_timer o expired) u) (is : t ≡ there)
      (out : there.left ≡ ticks) (e : x ≡ (expired t).left) (fits : x ≤ never) where
    ends : {r : List ℕ} → Does u (act_of o) r → Does b (timer_leap ticks o) r
    unfolding timer_leap
    ends d =
        same_word (and_then (unmoved_does w a refl refl refl) d) (timer_leap ticks o)
        (rw (eq-eqb there.left ticks out) (expire_acts o (view b)))

    left_then : x ≡ (turned ticks there).left
    left_then = rw (eq-eqb there.left ticks out, ← is) e

    -- the record first, then the action, which leaves the timers alone
    pub timer_acts : (moved : Bool) {r : List ℕ} → Does u (act_of o) r → Turned moved r true x
    timer_acts moved d = turn moved true (ends d) left_then fits (λ f. absurd (true≢false f))

    -- a timer without an action does no more
    pub timer_rests : (moved : Bool) → t.kind ≡ 0 → Turned moved u moved x
    timer_rests moved none =
        let then = timer o (view u) in
        let still = expired_kind o b a ∙ ap (λ (y : Timer). y.kind) (sym is) ∙ none in
        let d = ends (record { whole = expired-whole o w a; view = nothing then.object then.mask (view u) still }) in
        turn moved moved d left_then fits (λ f. (f, unmoved expired a))

  pub timer_runs : (moved : Bool) {x : ℕ} {u : List ℕ} → Whole b → Alters b (alter_timer o (λ t. with_time x t.count t)) u
      → (there.left ≡ ticks → ⊥) → x ≡ there.left - ticks → x ≤ never → Turned moved u moved x
  unfolding timer_leap
  timer_runs moved {x} w a more e fits =
      let less : Timer → Timer = λ t. with_time x t.count t in
      let same = alter_alike less (time_less ticks) unused_timer (view b).timers o (ap (λ (n : ℕ). with_time n there.count there) e) in
      let other = ne_eqb there.left ticks more in
      let d = same_word (unmoved_does w a refl refl refl) (timer_leap ticks o) (rw other (ap (λ (l : List Timer). with_timers l (view b)) same)) in
      turn moved moved d (rw other e) fits (λ f. (f, unmoved less a))

  pub armed-next : Armed (view b) → {r : List ℕ} → Does b (timer_leap ticks o) r → Armed (view r)
  armed-next armed d =
      rw (ap timers d.view ∙ turn_timers ticks o (view b))
      (alter-holds (λ i t. Aimed t) (turned ticks) o (view b).timers unused_timer armed (turned_aimed ticks (armed o)))
