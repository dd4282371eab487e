-- By the one number, or by what is left to it.
use mathlib.Core.Path.{sym, ap, ◌∙◌}
use Prim.Native.Nat.{ℕ, ◌/◌, ◌%◌}
use native.Mathlib.Omega.{arith}
use Rattle.sequences.proofs.Numbers.{bytes_of}
use Rattle.sequences.proofs.RecordsLaid.{Fits}
use Rattle.model.specs.Parts.{timer}
use Rattle.model.specs.Ranges.{has_semaphore}
use Rattle.model.specs.Layout.{view, timers_at}
use Rattle.layout.proofs.Viewed.{timer_fits}
use Rattle.sound.proofs.OneNumber.{does_nothing, posts}
use Rattle.sound.proofs.timers.action_fits.Goals as goal
use Rattle.sound.proofs.timers.action_fits.Goals.{After-action-action}

fits : (c : After-action-action) → Fits timers_at (timer c.args.o (view c.args.image.now))
fits c =
    let b = c.args.image.now in
    timer_fits b (bytes_of b c.fits-image) c.args.o c.requires

pub returns-then-action-le1 : goal.returns-then-action-le1
returns-then-action-le1 c = does_nothing _ _ (fits (goal.at.returns-then-action-le1 c).After-action-action) (omega (arith, c.action-action.ensures, c.if-action-le1.true))

pub overflow_cast-action : goal.overflow_cast-action
overflow_cast-action c =
    omega (arith, c.action-action.ensures, fits (goal.at.overflow_cast-action c).After-action-action)

pub returns-then-action-eq128 : goal.returns-then-action-eq128
returns-then-action-eq128 c =
    let a = c.args in
    let v = view a.image.now in
    let is = c.action-action.ensures in
    posts (timer a.o v) v (fits (goal.at.returns-then-action-eq128 c).After-action-action) (ap (λ (n : ℕ). n % 65536 / 2) (sym is) ∙ c.if-action-eq128.true)
    (c.has_semaphore.ensures ∙ ap (λ (n : ℕ). has_semaphore (n / 65536) v) is)

pub setting_fits-requires : goal.setting_fits-requires
setting_fits-requires c =
    let is = c.action-action.ensures in record { named = c.requires; fact = (λ h. omega (arith, is, h, c.if-action-le1.false), λ h. c.if-action-eq128.false (ap (λ (n : ℕ). n % 65536 / 2) is ∙ h)) }
