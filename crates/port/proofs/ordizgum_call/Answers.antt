-- By the length: nothing is told of an image of another one, which stays, and a call on the right one is reported as it is.
use mathlib.Core.Path.{refl, ◌∙◌, ap}
use mathlib.Core.List.{List}
use Prim.Native.Nat.{ℕ}
use lib.ListN.{length, get_or}
use borrow.Author.Tests.{ne_eqb}
use Rattle.rules.specs.Reports.{asked, report_numbers}
use Rattle.port.specs.Port.{report_of, image_after}
use Rattle.port.proofs.Images.{wrong_length}
use Rattle.port.proofs.ordizgum_call.Goals as goal

pub returns-in_default : goal.returns-in_default
unfolding report_of image_after
returns-in_default c =
    let s = c.args.image.now in
    let wrong = wrong_length s (ne_eqb (length s) 920 c.in_default.ensures.cases) in
    record { answer = rw wrong refl; report = rw wrong refl; image = rw wrong refl }

pub returns : goal.returns
returns c =
    let a = c.args in
    let q = asked a.call a.id a.a a.b a.c a.d in
    let same = c.in-Some.ensures.cases.same in
    let numbers =
    c.as_numbers-numbers.ensures
    ∙ ap report_numbers (c.call_of_length.ensures.report ∙ ap (λ (b : List ℕ). report_of b q) same)
    in
    record {
      answer = ap (λ (l : List ℕ). get_or l 0 0) numbers;
      report = numbers;
      image = c.call_of_length.ensures.image ∙ ap (λ (b : List ℕ). image_after b q) same;
    }
