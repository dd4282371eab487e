-- Demand 3, of tables as they are stored: an advance is its single ticks, advances add up, wake-ups are counted exactly, the next one named
-- is the first to come, and before it nothing moves.
use mathlib.Core.Path.{◌≡◌, refl, sym, ◌∙◌, ap, ap₂, subst, fun_ext}
use mathlib.Core.Bool.{Bool, true, false}
use mathlib.Core.List.{List, map}
use mathlib.Core.Logic.{◌⊎◌}
use Prim.Native.Nat.{ℕ, zero, suc, ◌+◌, ◌<◌}
use lib.ListN.{length}
use Rattle.sequences.specs.Lists.{count_below, padded}
use Rattle.sequences.specs.Steps.{ticks, wakeups}
use Rattle.model.specs.declared.answers.Answer.TheVariants.{Done}
use Rattle.model.specs.declared.answers.Report.{Report}
use Rattle.model.specs.declared.requests.Request.{Request}
use Rattle.model.specs.State.{State, places}
use Rattle.model.specs.Ranges.{fits_32}
use Rattle.model.specs.Tick.{wakes, wrap}
use Rattle.model.specs.Time.{after_ticks, Next, next}
use Rattle.model.specs.Kernel.{Outcome, call}
use Rattle.model.specs.Before.{view, laid_list, lay_table, lay_rows, call_by, call_table}
use Rattle.model.specs.Promises.{advancing, one_by_one, reported}
use Rattle.model.specs.Stored.{Stored, seen, is_sound, told, kept, singly, singly_told, next_told_by, next_told}
use Rattle.table.proofs.Stored.{view-laid}
use Rattle.theorems.proofs.Demand3 as model
use Rattle.entries.proofs.Calling.{lay, told-sound, sound-seen, seen-kept, sound-laid, kept-laid}
use Rattle.entries.proofs.Demand1.{sound-told}
use Rattle.entries.proofs.Demand2.{sound-kept}

-- ---- an advance

-- calls one by one are the model's, laid out, and report the same
singly-laid : (n : ℕ) (k : Stored) → is_sound k ≡ true → singly n k ≡ lay (one_by_one n (seen k))
unfolding singly one_by_one
singly-laid zero k whole = sym (sound-laid k whole)
singly-laid (suc n) k whole =
    singly-laid n (kept k (advancing 1)) (sound-kept k (advancing 1) whole) ∙ ap (λ (s : State). lay (one_by_one n s)) (seen-kept k (advancing 1) whole)

singly-reported : (n : ℕ) (k : Stored) → is_sound k ≡ true → singly_told n k ≡ reported n (seen k)
unfolding singly_told reported
singly-reported zero k whole = refl
singly-reported (suc n) k whole =
    ap₂ ◌+◌ (ap (λ (r : Report). r.wakeups) (told-sound k (advancing 1) whole))
    (singly-reported n (kept k (advancing 1)) (sound-kept k (advancing 1) whole) ∙ ap (reported n) (seen-kept k (advancing 1) whole))

-- an advance by n is n advances by 1: the table with its rows, and the wake-ups reported
pub advance-singly : (k : Stored) → is_sound k ≡ true → (n : ℕ) → fits_32 n ≡ true
    → ((told k (advancing n)).answer ≡ Done) × (kept k (advancing n) ≡ singly n k) × ((told k (advancing n)).wakeups ≡ singly_told n k)
advance-singly k whole n fits =
    let by_ones = model.advance_by_ones (seen k) (sound-seen k whole) n fits in
    let same = told-sound k (advancing n) whole ∙ ap (λ (o : Outcome). o.report) by_ones in (
      ap (λ (r : Report). r.answer) same,
      kept-laid k (advancing n) whole ∙ ap (λ (o : Outcome). lay o.after) by_ones ∙ sym (singly-laid n k whole),
      ap (λ (r : Report). r.wakeups) same ∙ sym (singly-reported n k whole),
    )

-- by a and then by b is by their sum
pub advances_add : (k : Stored) → is_sound k ≡ true → (a b : ℕ) → fits_32 (a + b) ≡ true
    → (kept k (advancing (a + b)) ≡ kept (kept k (advancing a)) (advancing b))
    × ((told k (advancing (a + b))).wakeups ≡ (told k (advancing a)).wakeups + (told (kept k (advancing a)) (advancing b)).wakeups)
advances_add k whole a b fits =
    let sum = model.advances_add (seen k) (sound-seen k whole) a b fits in
    let still = sound-kept k (advancing a) whole in
    let second = ap (λ (s : State). call s (advancing b)) (sym (seen-kept k (advancing a) whole)) in (
      kept-laid k (advancing (a + b)) whole
          ∙ ap (λ (o : Outcome). lay o.after) sum
          ∙ ap (λ (o : Outcome). lay o.after) second
          ∙ sym (kept-laid (kept k (advancing a)) (advancing b) still),
      ap (λ (r : Report). r.wakeups) (told-sound k (advancing (a + b)) whole)
          ∙ ap (λ (o : Outcome). o.report.wakeups) sum
          ∙ ap₂ ◌+◌ (ap (λ (r : Report). r.wakeups) (sym (told-sound k (advancing a) whole)))
          (ap (λ (o : Outcome). o.report.wakeups) second ∙ ap (λ (r : Report). r.wakeups) (sym (told-sound (kept k (advancing a)) (advancing b) still))),
    )

-- what it leaves
kept-after : (k : Stored) → is_sound k ≡ true → (n : ℕ) → fits_32 n ≡ true → kept k (advancing n) ≡ lay (after_ticks n (seen k))
kept-after k whole n fits = kept-laid k (advancing n) whole ∙ ap (λ (o : Outcome). lay o.after) (model.advance-done (seen k) (sound-seen k whole) n fits)

-- the clock moves by one wrapped sum
pub clock_sum : (k : Stored) → is_sound k ≡ true → (n : ℕ) → fits_32 n ≡ true → (kept k (advancing n)).table.clock ≡ wrap (k.table.clock + n)
unfolding view lay_table
clock_sum k whole n fits = ap (λ (l : Stored). l.table.clock) (kept-after k whole n fits) ∙ model.clock_sum (seen k) (sound-seen k whole) n

-- ---- wake-ups

-- those reported are the ticks of the n that are wake-ups
pub wakeups_exactly : (k : Stored) → is_sound k ≡ true → (n : ℕ) → fits_32 n ≡ true
    → (told k (advancing n)).wakeups ≡ count_below n (λ j. wakes (seen (singly j k)))
wakeups_exactly k whole n fits =
    ap (λ (r : Report). r.wakeups) (told-sound k (advancing n) whole)
    ∙ model.wakeups_exactly (seen k) (sound-seen k whole) n fits
    ∙ ap (count_below n) (fun_ext (λ j. ap wakes (sym (seen-singly j))))
  where
    seen-singly : (j : ℕ) → seen (singly j k) ≡ after_ticks j (seen k)
    seen-singly j =
        ap (λ (l : Stored). seen l) (singly-laid j k whole) ∙ view-laid (one_by_one j (seen k)) ∙ model.ticked j (seen k) (sound-seen k whole)

-- ---- the next wake-up

-- what a reply names is the next wake-up of the table handed back
pub next-named : (k : Stored) (q : Request) → is_sound k ≡ true → Next (seen (kept k q)) (told k q).next
next-named k q whole =
    subst (Next (seen (kept k q))) (sym (ap (λ (r : Report). r.next) (sound-told k q whole)))
    (model.next-first (seen (kept k q)) (sound-seen (kept k q) (sound-kept k q whole)))

-- asked for by itself it is told as an advance by 0 tells it, of any table
pub asked_as_told : (k : Stored) → next_told k.table k.rows ≡ told k (advancing 0)
unfolding next_told next_told_by call_table call_by ticks wakeups
asked_as_told k = by_sound (is_sound k) refl
  where
    by_sound : (b : Bool) → is_sound k ≡ b → next_told_by b (seen k) ≡ (call_by b k.table k.rows (advancing 0)).reply.report
    by_sound true e = sym (ap (λ (o : Outcome). o.report) (model.advance-done (seen k) (sound-seen k e) 0 refl))
    by_sound false e = refl

-- and so it is the next wake-up of that table
pub next-asked : (k : Stored) → is_sound k ≡ true → Next (seen k) (next_told k.table k.rows).next
unfolding next_told next_told_by
next-asked k whole = rw whole (model.next-first (seen k) (sound-seen k whole))

-- until then the rows, every list and the choice stay as they are
pub nothing_moves : (k : Stored) → is_sound k ≡ true → (m : ℕ) → fits_32 m ≡ true → (next (seen k) ≡ 0) ⊎ (m < next (seen k))
    → ((kept k (advancing m)).rows ≡ k.rows) × ((kept k (advancing m)).table.lengths ≡ k.table.lengths)
    × ((kept k (advancing m)).table.waits ≡ k.table.waits) × ((kept k (advancing m)).table.chosen ≡ k.table.chosen)
unfolding view lay_table lay_rows
nothing_moves k whole m fits before =
    let same = model.nothing_moves (seen k) (sound-seen k whole) m before in
    let after = kept-after k whole m fits in
    let here = sound-laid k whole in (
      ap (λ (l : Stored). l.rows) after ∙ ap (map (padded places)) same.0 ∙ ap (λ (l : Stored). l.rows) here,
      ap (λ (l : Stored). l.table.lengths) after ∙ ap (map (λ (l : List ℕ). length l)) same.0 ∙ ap (λ (l : Stored). l.table.lengths) here,
      ap (λ (l : Stored). l.table.waits) after ∙ ap (map laid_list) same.1 ∙ ap (λ (l : Stored). l.table.waits) here,
      ap (λ (l : Stored). l.table.chosen) after ∙ same.2,
    )
