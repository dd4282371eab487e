-- By the length, and then by the test of the table.
use mathlib.Core.Path.{◌≡◌, sym, ◌∙◌, ap, ap₂}
use mathlib.Core.List.{List}
use Prim.Native.Nat.{ℕ}
use lib.ListN.{length}
use borrow.Author.Tests.{eq-eqb, ne_eqb}
use Rattle.model.specs.Before.{sound_table}
use Rattle.model.specs.Stored.{is_sound}
use Rattle.port.specs.Port.{stored_in, sound_image}
use Rattle.port.proofs.Images.{wrong_length, sound_as_table}
use Rattle.port.proofs.ordizgum_sound.Goals as goal
use Rattle.port.proofs.ordizgum_sound.Goals.{After-is_sound}

tested : (c : After-is_sound) → c.is_sound.result ≡ sound_image c.args.image.now
tested c =
    let s = c.args.image.now in
    let found = c.in-Some.ensures.cases in
    c.is_sound.ensures
    ∙ ap₂ sound_table c.read_table.ensures c.read_rows.ensures
    ∙ ap (λ (b : List ℕ). is_sound (stored_in b)) found.same
    ∙ sym (sound_as_table s (eq-eqb (length s) 920 found.long))

pub returns-in_default : goal.returns-in_default
returns-in_default c =
    let s = c.args.image.now in
    rw (wrong_length s (ne_eqb (length s) 920 c.in_default.ensures.cases))

pub returns-then-is_sound : goal.returns-then-is_sound
returns-then-is_sound c = rw (← tested (goal.at.returns-then-is_sound c).After-is_sound, c.if-is_sound.true)

pub returns-else-is_sound : goal.returns-else-is_sound
returns-else-is_sound c = rw (← tested (goal.at.returns-else-is_sound c).After-is_sound, c.if-is_sound.false)
