-- What an accepted call has passed: each refusal that stands before the answers that accept.
use mathlib.Core.Path.{◌≡◌, refl, sym, ◌∙◌}
use mathlib.Core.Bool.{Bool, true, false, cond, not, true≢false}
use mathlib.Core.List.{List, [], ◌∷◌}
use Prim.Native.Nat.{ℕ, zero, suc}
use borrow.Author.Tests.{not-true}
use lib.ListN.{get_or, take}
use Rattle.sequences.specs.Lists.{every}
use Rattle.sequences.proofs.Tests.{left, right}
use Rattle.model.specs.declared.answers.Answer.TheVariants.{Done}
use Rattle.model.specs.Answers.{Given, ◌when◌, accepted, first-due}

abbrev pub refuses : Given → Bool
refuses g = not (accepted g.answer)

pub passed : (gs : List Given) (k : ℕ) → every refuses (take (suc k) gs) ≡ true
    → accepted (first-due gs) ≡ true → (get_or gs k (Done when false)).due ≡ false
passed [] k r a = refl
passed (g ∷ gs) zero r a = by_due g.due a
  where
    by_due : (b : Bool) → accepted (cond b g.answer (first-due gs)) ≡ true → b ≡ false
    by_due true h = absurd (true≢false (sym h ∙ not-true (accepted g.answer) (left (refuses g) true r)))
    by_due false h = refl
passed (g ∷ gs) (suc k) r a = passed gs k (right (refuses g) (every refuses (take (suc k) gs)) r) (by_due g.due a)
  where
    by_due : (b : Bool) → accepted (cond b g.answer (first-due gs)) ≡ true → accepted (first-due gs) ≡ true
    by_due true h = absurd (true≢false (sym h ∙ not-true (accepted g.answer) (left (refuses g) (every refuses (take (suc k) gs)) r)))
    by_due false h = h
