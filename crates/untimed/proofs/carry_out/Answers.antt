-- An accepted call has a number, and it isn't 22; what isn't accepted changes nothing.
use mathlib.Core.Path.{◌≡◌, sym, ap, ◌∙◌}
use Prim.Native.Nat.{ℕ, ◌<◌}
use native.Mathlib.Decide.{ℕ_discrete}
use native.Mathlib.Omega.{arith}
use Rattle.model.specs.Answers.{accepted}
use Rattle.model.specs.Kernel.{perform, next_state}
use Rattle.model.specs.Layout.{view}
use Rattle.theorems.proofs.Numbered.{call-number}
use Rattle.words.proofs.Does.{same_word}
use Rattle.untimed.proofs.Laid.{view-sound, sound-whole}
use Rattle.untimed.proofs.carry_out.Goals as goal

-- of the calls' numbers all but the last are below it
below : (n : ℕ) → n < 23 → (n ≡ 22 → ⊥) → n < 22
below n h other =
    elim (ℕ_discrete n 22) [
      | yes e ↦ absurd (other e)
      | no e ↦ omega arith
    ]

pub perform-requires : goal.perform-requires
perform-requires c =
    let q = c.args.q in
    let b = c.args.image.now in
    let ok = ap accepted (sym c.requires.a_value.0) ∙ sym c.is_accepted.ensures ∙ c.if-is_accepted.true in
    let range = call-number q (view b) q.call ok in record { whole = sound-whole b c.requires.image_value; accepted = record { sound = view-sound b c.requires.image_value; passed = ok }; call_bound = below q.call range.1 c.requires.a_value.1 }

pub returns-then-is_accepted : goal.returns-then-is_accepted
unfolding next_state
returns-then-is_accepted c =
    let ok = sym c.is_accepted.ensures ∙ c.if-is_accepted.true in
    same_word c.perform.ensures (next_state c.args.a c.args.q) (rw ok)

pub returns-else-is_accepted : goal.returns-else-is_accepted
unfolding next_state perform
returns-else-is_accepted c =
    let b = c.args.image.now in
    let no = sym c.is_accepted.ensures ∙ c.if-is_accepted.false in
    record { whole = sound-whole b c.requires.image_value; view = rw no }
