-- Where the quantum counts somebody runs, and what is left of its quantum is less.
use Rattle.std.proofs.Common.{◌≡◌, ℕ, ◌-◌, ◌≤◌, true, List, refl, ap, ◌∙◌}
use Rattle.sequences.specs.Lists.{alter}
use Rattle.sequences.proofs.Places.{alter_alike}
use Rattle.model.specs.declared.tables.Thread.{Thread}
use Rattle.model.specs.State.{State, absent_thread}
use Rattle.model.specs.Parts.{thread, with_threads, with_left, alter_thread}
use Rattle.model.specs.Tick.{quantum_counts}
use Rattle.model.specs.Layout.{view}
use Rattle.theorems.specs.Skip.{left_less}
use Rattle.theorems.specs.Leap.{spend}
use Rattle.words.proofs.Does.{same_word, rewritten_does}
use Rattle.timed.proofs.Turning.{chosen-named}
use Rattle.timed.proofs.quantum.spend.Goals as goal

module _ (s : State) {i left : ℕ} (chosen : i ≡ s.chosen) (now : left ≡ (thread i s).left) (m : ℕ) where
  enough : m ≤ (thread s.chosen s).left → m ≤ left
  enough h = rw (now, chosen) h

  spent : quantum_counts s ≡ true → alter_thread i (with_left (left - m)) s ≡ spend m s
  unfolding spend
  spent counts =
      rw counts
      (ap (λ (l : List Thread). with_threads l s)
      (alter_alike (with_left (left - m)) (left_less m) absent_thread s.threads i (ap (λ (k : ℕ). with_left (k - m) (thread i s)) now)
      ∙ ap (λ (k : ℕ). alter k (left_less m) s.threads) chosen))

pub left-left-requires : goal.left-left-requires
left-left-requires c =
    chosen-named c.requires.whole c.requires.image_value.0 c.chosen-c.ensures

pub set_left-requires : goal.set_left-requires
set_left-requires c =
    chosen-named c.requires.whole c.requires.image_value.0 c.chosen-c.ensures

pub returns : goal.returns
returns c =
    let m = c.args.m in
    same_word (rewritten_does c.chosen-c.result (with_left (c.left-left.result - m)) c.requires.whole c.set_left.ensures (λ t. refl)) (spend m)
    (spent (view c.args.image.now) c.chosen-c.ensures c.left-left.ensures m c.requires.image_value.0)
