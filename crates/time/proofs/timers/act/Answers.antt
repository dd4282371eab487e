-- The model's action by its kind.
use Rattle.std.proofs.Common.{◌≡◌, ℕ, zero, suc, ◌≤◌, refl, sym, arith, rules}
use Rattle.model.specs.State.{State}
use Rattle.model.specs.Effects.{post_semaphore, set_flags, act}
use Rattle.model.specs.Before.{view}
use Rattle.table.proofs.Views.{same_word}
use Rattle.time.proofs.timers.act.Goals as goal

nothing : (kind object mask : ℕ) (s : State) → kind ≡ 0 → s ≡ act kind object mask s
unfolding act
nothing kind object mask s e = rw e

posts : (kind object mask : ℕ) (s : State) → kind ≡ 1 → post_semaphore object s ≡ act kind object mask s
unfolding act
posts kind object mask s e = rw e

sets : (kind object mask : ℕ) (s : State) → 2 ≤ kind → set_flags object mask s ≡ act kind object mask s
unfolding act
sets zero object mask s h = absurd (omega arith)
sets (suc zero) object mask s h = absurd (omega arith)
sets (suc (suc kind)) object mask s h = refl

pub returns-in-Ok-Nothing : goal.returns-in-Ok-Nothing
returns-in-Ok-Nothing c =
    let x = c.args.x in
    let none = rw c.in-Ok-Nothing.field-0-is at c.in-Ok-Nothing.ensures in
    record { order = c.requires.whole.order; view = nothing x.kind x.object x.mask (view c.args.t c.args.rows.now) (sym none) }

pub returns-in-Ok-Post : goal.returns-in-Ok-Post
returns-in-Ok-Post c =
    let x = c.args.x in
    let one = rw c.in-Ok-Post.field-0-is at c.in-Ok-Post.ensures in
    same_word (act x.kind x.object x.mask) c.post_semaphore.ensures (posts x.kind x.object x.mask (view c.args.t c.args.rows.now) (sym one))

pub returns-in-Ok-SetFlags : goal.returns-in-Ok-SetFlags
returns-in-Ok-SetFlags c =
    let x = c.args.x in
    let more : 2 ≤ x.kind = search rules in
    same_word (act x.kind x.object x.mask) c.set_flags.ensures (sets x.kind x.object x.mask (view c.args.t c.args.rows.now) more)
