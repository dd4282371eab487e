-- Demand 1, of tables as they are stored: every call ends with an answer, 1 says that the table isn't sound, any other number is given
-- exactly when its row of the table of answers applies and no lower one does, and a refusal changes nothing.
use mathlib.Core.Path.{◌≡◌, refl, sym, ◌∙◌, ap, subst}
use mathlib.Core.Bool.{Bool, true, false, cond, not, ◌&&◌}
use mathlib.Core.Logic.{◌⊎◌, inl, inr}
use Prim.Native.Nat.{ℕ, ◌≤◌, suc}
use lib.Dec.{eqb}
use Rattle.sequences.specs.Lists.{every_below}
use Rattle.model.specs.declared.answers.Answer.{Answer}
use Rattle.model.specs.declared.answers.Answer.TheVariants.{Unsound}
use Rattle.model.specs.declared.answers.Report.{Report}
use Rattle.model.specs.declared.requests.Request.{Request}
use Rattle.model.specs.State.{State, nobody}
use Rattle.model.specs.Answers.{number, accepted}
use Rattle.model.specs.Time.{next}
use Rattle.model.specs.Kernel.{Outcome, outcome, call}
use Rattle.model.specs.Before.{view, lay_table, Laid, laid, call_by, call_table}
use Rattle.model.specs.Promises.{applies}
use Rattle.model.specs.Stored.{Stored, seen, is_sound, called, told, kept}
use Rattle.table.proofs.Stored.{view-laid}
use Rattle.theorems.proofs.Replies.{number-most}
use Rattle.theorems.proofs.Demand1 as model
use Rattle.entries.proofs.Calling.{lay, called-sound, told-sound, sound-seen, sound-laid}

-- every call ends with an answer
pub answered : (k : Stored) (q : Request) → number (told k q).answer ≤ 10
answered k q = number-most (told k q).answer

-- ---- tables that aren't sound

-- nothing is told of them, and every field stays as it was
pub unsound_kept : (k : Stored) (q : Request)
    → (is_sound k ≡ true)
    ⊎ (called k q ≡ record { reply = record { report = record { answer = Unsound; chosen = nobody; clock = 0; wakeups = 0; next = 0 }; table = k.table }; rows = k.rows })
unfolding call_table call_by
unsound_kept k q = by_sound (is_sound k) refl
  where
    by_sound : (b : Bool) → is_sound k ≡ b → (is_sound k ≡ true) ⊎ (called k q ≡ call_by false k.table k.rows q)
    by_sound true e = inl e
    by_sound false e = inr (rw e)

-- they alone are answered 1
pub unsound_exactly : (k : Stored) (q : Request) → eqb (number (told k q).answer) 1 ≡ not (is_sound k)
unfolding call_table call_by
unsound_exactly k q = by_sound (is_sound k) refl
  where
    by_sound : (b : Bool) → is_sound k ≡ b → eqb (number (call_by b k.table k.rows q).reply.report.answer) 1 ≡ not b
    by_sound true e = model.unsound_exactly (seen k) q ∙ ap not (sound-seen k e)
    by_sound false e = refl

-- ---- sound tables

abbrev told_of : Report → ℕ → ℕ → State → Report
told_of r chosen clock s = record { answer = r.answer; chosen = chosen; clock = clock; wakeups = r.wakeups; next = next s }

-- what is told is what the table handed back holds
abbrev Told : Laid → Type 0
Told l = l.reply.report ≡ told_of l.reply.report l.reply.table.chosen l.reply.table.clock (view l.reply.table l.rows)

told-laid : (o : Outcome) → o.report ≡ told_of o.report o.after.chosen o.after.clock o.after → Told (laid o)
unfolding lay_table
told-laid o e = e ∙ ap (told_of o.report o.after.chosen o.after.clock) (sym (view-laid o.after))

pub sound-told : (k : Stored) (q : Request) → is_sound k ≡ true
    → told k q
    ≡ record {
      answer = (told k q).answer;
      chosen = (kept k q).table.chosen;
      clock = (kept k q).table.clock;
      wakeups = (told k q).wakeups;
      next = next (seen (kept k q));
    }
sound-told k q whole = subst Told (sym (called-sound k q whole)) (told-laid (call (seen k) q) (model.sound-reply (seen k) q (sound-seen k whole)))

-- a number is given exactly where its row applies and no lower one does
pub given_exactly : (k : Stored) (q : Request) (n : ℕ) → is_sound k ≡ true
    → eqb (number (told k q).answer) (suc n) ≡ applies (suc n) (seen k) q && every_below (suc n) (λ j. not (applies j (seen k) q))
given_exactly k q n whole = ap (λ (r : Report). eqb (number r.answer) (suc n)) (told-sound k q whole) ∙ model.given_exactly (seen k) q n

-- and 0 exactly where none applies
pub done_exactly : (k : Stored) (q : Request) → is_sound k ≡ true
    → eqb (number (told k q).answer) 0 ≡ every_below 11 (λ j. not (applies j (seen k) q))
done_exactly k q whole = ap (λ (r : Report). eqb (number r.answer) 0) (told-sound k q whole) ∙ model.done_exactly (seen k) q

-- ---- all tables

none-reported : (a : Answer) (s : State) → (outcome a 0 s).report.wakeups ≡ 0
none-reported a s = by_number (eqb (number a) 1) _ _ refl refl
  where
    by_number : (b : Bool) (r t : Report) → r.wakeups ≡ 0 → t.wakeups ≡ 0 → (cond b r t).wakeups ≡ 0
    by_number true r t e f = e
    by_number false r t e f = f

abbrev Refused : Stored → Laid → Type 0
Refused k l = (accepted l.reply.report.answer ≡ true) ⊎ ((record { table = l.reply.table; rows = l.rows } ≡ k) × (l.reply.report.wakeups ≡ 0))

-- a refusal hands back table and rows as they were and reports no wake-up
pub refused_kept : (k : Stored) (q : Request) → (accepted (told k q).answer ≡ true) ⊎ ((kept k q ≡ k) × ((told k q).wakeups ≡ 0))
refused_kept k q =
    elim (unsound_kept k q) [
      | inl whole ↦ subst (Refused k) (sym (called-sound k q whole)) (by_model whole (model.refused_unchanged (seen k) q))
      | inr e ↦ subst (Refused k) (sym e) (inr (refl, refl))
    ]
  where
    by_model : is_sound k ≡ true
        → (accepted (call (seen k) q).report.answer ≡ true) ⊎ (call (seen k) q ≡ outcome (call (seen k) q).report.answer 0 (seen k))
        → Refused k (laid (call (seen k) q))
    by_model whole (inl e) = inl e
    by_model whole (inr e) = inr (
      ap (λ (o : Outcome). lay o.after) e ∙ sound-laid k whole,
      ap (λ (o : Outcome). o.report.wakeups) e ∙ none-reported (call (seen k) q).report.answer (seen k),
    )
