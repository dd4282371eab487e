-- The test on what was read is the model's; a word delivered moves nobody, so the thread can be woken as it stood.
use mathlib.Core.Path.{◌≡◌, refl, sym, ◌∙◌}
use mathlib.Core.Bool.{Bool}
use Prim.Native.Nat.{ℕ}
use Rattle.model.specs.declared.tables.Thread.{Thread}
use Rattle.model.specs.Parts.{thread, with_delivered}
use Rattle.model.specs.Words.{holds}
use Rattle.model.specs.Layout.{view}
use Rattle.theorems.specs.Meeting.{wake_met}
use Rattle.words.proofs.Does.{rewritten_does, and_then, same_word}
use Rattle.words.proofs.Known.{rewritten_on}
use Rattle.serving.proofs.flags.wake_met.Goals as goal

tested : (t : Thread) (mode mask word : ℕ) (b c : Bool) → mode ≡ t.mode → mask ≡ t.mask → b ≡ holds mode mask word → b ≡ c
    → holds t.mode t.mask word ≡ c
tested t mode mask word b c e f test is = rw (← e, ← f) (sym test ∙ is)

pub wake-requires : goal.wake-requires
wake-requires c =
    rewritten_on c.args.i (with_delivered c.args.word) c.set_delivered.ensures (λ t. refl) c.requires

pub returns-then-holds : goal.returns-then-holds
unfolding wake_met
returns-then-holds c =
    let i = c.args.i in
    let word = c.args.word in
    let b = c.args.image.now in
    let read = c.mode-mode.ensures in
    let e = tested (thread i (view b)) _ _ word _ _ read c.mask-mask.ensures c.holds.ensures c.if-holds.true in
    let given = rewritten_does i (with_delivered word) c.requires.given.whole c.set_delivered.ensures (λ t. refl) in
    same_word (and_then given c.wake.ensures) (wake_met word i) (rw e)

pub returns-else-holds : goal.returns-else-holds
unfolding wake_met
returns-else-holds c =
    let i = c.args.i in
    let b = c.args.image.now in
    let read = c.mode-mode.ensures in
    let e = tested (thread i (view b)) _ _ c.args.word _ _ read c.mask-mask.ensures c.holds.ensures c.if-holds.false in
    record { whole = c.requires.given.whole; view = rw e }
