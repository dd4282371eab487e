-- Who runs is ready, and stands on the list of its current priority still when its quantum is renewed.
use Rattle.std.proofs.Common.{◌≡◌, ℕ, ◌<◌, true, List, refl, ap, ◌∙◌}
use Rattle.model.specs.Parts.{thread, with_left, alter_thread, refilled}
use Rattle.model.specs.Words.{is_ready, become_ready, choice}
use Rattle.model.specs.Tick.{quantum_counts}
use Rattle.model.specs.Layout.{view}
use Rattle.fields.specs.Fields.{Alters}
use Rattle.words.specs.Images.{Whole, Does, On, Ready}
use Rattle.words.proofs.Does.{same_word, and_then, rewritten_does}
use Rattle.words.proofs.Known.{ready_on, rewritten_ready}
use Rattle.timed.specs.Turns.{turn_over}
use Rattle.timed.proofs.Turning.{renewed, chosen-named, chosen-ready}
use Rattle.timed.proofs.quantum.turn_over.Goals as goal

module _ {b : List ℕ} (pre : Whole b × ((quantum_counts (view b) ≡ true) × (choice (view b) ≡ (view b).chosen)))
    {i : ℕ} (chosen : i ≡ (view b).chosen) where
  named : i < 16
  named = chosen-named pre.0 pre.1.0 chosen

  ready : Ready b i
  ready =
      record {
        given = record { whole = pre.0; thread = named };
        ready = ap (λ (k : ℕ). is_ready k (view b)) chosen ∙ chosen-ready pre.0.placed pre.1.0 pre.1.1;
      }

  module _ {q : ℕ} {r : List ℕ} (all : q ≡ (thread i (view b)).quantum) (a : Alters b (alter_thread i (with_left q)) r) where
    stands : {p : ℕ} → p ≡ (thread i (view r)).current → On r p i
    stands e = ready_on e (rewritten_ready i (with_left q) a (λ t. refl) ready)

    turns : {t : List ℕ} → Does r (become_ready i) t → Does b turn_over t
    unfolding turn_over
    turns d =
        same_word (and_then (rewritten_does i (with_left q) pre.0 a (λ t. refl)) d) turn_over
        (ap (become_ready i) (renewed i (view b) all) ∙ ap (λ (k : ℕ). become_ready k (alter_thread k refilled (view b))) chosen)

pub quantum-all-requires : goal.quantum-all-requires
quantum-all-requires c =
    named (c.requires.whole, c.requires.image_value) c.chosen-c.ensures

pub set_left-requires : goal.set_left-requires
set_left-requires c =
    named (c.requires.whole, c.requires.image_value) c.chosen-c.ensures

pub current-p-requires : goal.current-p-requires
current-p-requires c =
    named (c.requires.whole, c.requires.image_value) c.chosen-c.ensures

pub become_ready-requires : goal.become_ready-requires
become_ready-requires c =
    stands (c.requires.whole, c.requires.image_value) c.chosen-c.ensures c.quantum-all.ensures c.set_left.ensures c.current-p.ensures

pub returns : goal.returns
returns c =
    turns (c.requires.whole, c.requires.image_value) c.chosen-c.ensures c.quantum-all.ensures c.set_left.ensures c.become_ready.ensures
