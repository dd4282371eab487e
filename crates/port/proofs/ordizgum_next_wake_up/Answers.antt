-- By the length, and then as the table's next wake-up is told.
use mathlib.Core.Path.{refl, ◌∙◌, ap, ap₂}
use mathlib.Core.List.{List, [], ◌∷◌}
use Prim.Native.Nat.{ℕ}
use lib.ListN.{length}
use borrow.Author.Tests.{eq-eqb, ne_eqb}
use Rattle.model.specs.declared.answers.Report.{Report}
use Rattle.model.specs.Answers.{number}
use Rattle.model.specs.Stored.{next_told}
use Rattle.image.specs.Image.{table_of, rows_of}
use Rattle.port.specs.Port.{next_in}
use Rattle.port.proofs.Images.{wrong_length, next_told_in}
use Rattle.port.proofs.ordizgum_next_wake_up.Goals as goal

pub returns-in_default : goal.returns-in_default
unfolding next_in
returns-in_default c =
    let s = c.args.image.now in
    let wrong = wrong_length s (ne_eqb (length s) 920 c.in_default.ensures.cases) in
    record { answer = rw wrong refl; next = rw wrong refl }

pub returns : goal.returns
returns c =
    let s = c.args.image.now in
    let found = c.in-Some.ensures.cases in
    let as-told =
    c.next_wake_up-told.ensures
    ∙ ap₂ next_told c.read_table.ensures c.read_rows.ensures
    ∙ ap (λ (b : List ℕ). next_told (table_of b) (rows_of b)) found.same
    in
    let told_in = next_told_in s (eq-eqb (length s) 920 found.long) in
    record {
      answer = c.from.ensures ∙ ap (λ (r : Report). number r.answer) as-told ∙ told_in.0;
      next = ap (λ (x : ℕ). x ∷ []) (ap (λ (r : Report). r.next) as-told ∙ told_in.1);
    }
