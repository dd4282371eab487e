-- The model's action by its kind, of the timer as it is read.
use Rattle.std.proofs.Common.{◌≡◌, ℕ, zero, suc, ◌<◌, ◌≤◌, refl, sym, ap, ◌∙◌, arith, rules}
use Rattle.model.specs.declared.tables.Timer.{Timer}
use Rattle.model.specs.State.{State}
use Rattle.model.specs.Parts.{timer}
use Rattle.model.specs.Effects.{post_semaphore, set_flags, act}
use Rattle.model.specs.Layout.{view}
use Rattle.words.proofs.Does.{same_word}
use Rattle.timed.specs.Armed.{act_of, Aimed}
use Rattle.timed.proofs.timers.act.Goals as goal

posts : (kind object mask : ℕ) (s : State) → kind ≡ 1 → post_semaphore object s ≡ act kind object mask s
unfolding act
posts kind object mask s e = rw e

sets : (kind object mask : ℕ) (s : State) → 0 < kind → (kind ≡ 1 → ⊥) → set_flags object mask s ≡ act kind object mask s
unfolding act
sets zero object mask s a b = absurd (omega arith)
sets (suc zero) object mask s a b = absurd (b refl)
sets (suc (suc kind)) object mask s a b = refl

-- what is asked of the timer in the image holds of its record
due : {t u : Timer} → t ≡ u → Aimed u → 0 < u.kind → Aimed t × (0 < t.kind)
due is aimed some = rw is (aimed, some)

module _ (o : ℕ) (s : State) {t : Timer} (is : t ≡ timer o s) where
  acts : act t.kind t.object t.mask s ≡ act_of o s
  acts = ap (λ (y : Timer). act y.kind y.object y.mask s) is

  act-posts : t.kind ≡ 1 → post_semaphore t.object s ≡ act_of o s
  act-posts e = posts t.kind t.object t.mask s e ∙ acts

  act-sets : 0 < (timer o s).kind → (t.kind ≡ 1 → ⊥) → set_flags t.object t.mask s ≡ act_of o s
  act-sets some other = sets t.kind t.object t.mask s (omega (arith, ap (λ (y : Timer). y.kind) is, some)) other ∙ acts

pub returns-in-Ok-Nothing : goal.returns-in-Ok-Nothing
returns-in-Ok-Nothing c =
    let none : c.timer-t.result.kind ≡ 0 = sym (rw c.in-Ok-Nothing.field-0-is at c.in-Ok-Nothing.ensures) in
    absurd (omega (arith, none, ap (λ (y : Timer). y.kind) c.timer-t.ensures, c.requires.o_bound.2))

pub returns-in-Ok-Post : goal.returns-in-Ok-Post
returns-in-Ok-Post c =
    let one = rw c.in-Ok-Post.field-0-is at c.in-Ok-Post.ensures in
    same_word c.post_semaphore.ensures (act_of c.args.o) (act-posts c.args.o (view c.args.image.now) c.timer-t.ensures (sym one))

pub returns-in-Ok-SetFlags : goal.returns-in-Ok-SetFlags
returns-in-Ok-SetFlags c =
    let more : 2 ≤ c.timer-t.result.kind = search rules in
    same_word c.set_flags.ensures (act_of c.args.o)
    (act-sets c.args.o (view c.args.image.now) c.timer-t.ensures c.requires.o_bound.2 (λ e. omega (arith, e, more)))
