-- After the turn the first link of the list is read: it leads to who is chosen next. Its quantum is renewed, and counts if it has one, since the list
-- is shared as before.
use Rattle.std.proofs.Common.{◌≡◌, ℕ, ◌+◌, ◌-◌, ◌<◌, ◌≤◌, true, List, length, get_or, sym, refl, ap, ◌∙◌, arith}
use Rattle.sequences.specs.Links.{head_link}
use Rattle.model.specs.State.{State}
use Rattle.model.specs.Parts.{thread, ready_list, with_chosen, with_left, alter_thread}
use Rattle.model.specs.Words.{choice}
use Rattle.model.specs.Tick.{quantum_counts}
use Rattle.model.specs.Layout.{view}
use Rattle.fields.specs.Fields.{Alters}
use Rattle.rules.specs.Counting.{place}
use Rattle.words.specs.Images.{Whole, Does}
use Rattle.words.proofs.Accepted.{unmoved_does}
use Rattle.words.proofs.Does.{same_word, and_then, rewritten_does}
use Rattle.words.proofs.Firsts.{ready-first}
use Rattle.timed.specs.Counters.{running}
use Rattle.timed.specs.Turns.{turn_over, take_turns}
use Rattle.timed.proofs.Turning.{chosen-named, some_heir, heir_below, heir_takes, heir_runs}
use Rattle.timed.proofs.quantum.take_turns.Goals as goal

module _ {b : List ℕ} (pre : Whole b × ((quantum_counts (view b) ≡ true) × (choice (view b) ≡ (view b).chosen)))
    {i p : ℕ} (chosen : i ≡ (view b).chosen) (level : p ≡ (thread i (view b)).current) {r : List ℕ} (turn : Does b turn_over r) where
  abbrev link : ℕ
  link = get_or r (494 + p) 0

  abbrev heir : ℕ
  heir = link - 1

  inside : p < 8
  inside = omega (arith, level, pre.0.placed.priorities i)

  link_in : 494 + p < length r
  link_in = omega (arith, inside, turn.whole.size)

  link-is : link ≡ head_link (ready_list (thread (view b).chosen (view b)).current (turn_over (view b)))
  link-is =
      ready-first r turn.whole.size p inside
      ∙ ap (λ (s : State). head_link (ready_list p s)) turn.view
      ∙ ap (λ (k : ℕ). head_link (ready_list k (turn_over (view b)))) (level ∙ ap (λ (k : ℕ). (thread k (view b)).current) chosen)

  link-some : 1 ≤ link
  link-some = some_heir pre.0.placed pre.1.0 pre.1.1 link-is

  heir-named : heir < 16
  heir-named = heir_below pre.0.placed pre.1.0 pre.1.1 link-is

  module _ {q : ℕ} (all : q ≡ (thread heir (view r)).quantum) {u v : List ℕ}
      (renew : Alters r (alter_thread heir (with_left q)) u) (choose : Alters u (with_chosen heir) v) where
    now-all : q ≡ (thread heir (turn_over (view b))).quantum
    now-all = all ∙ ap (λ (s : State). (thread heir s).quantum) turn.view

    taken : Does b take_turns v
    taken =
        let d = rewritten_does heir (with_left q) turn.whole renew (λ t. refl) in
        same_word (and_then (and_then turn d) (unmoved_does d.whole choose refl refl refl)) take_turns
        (heir_takes pre.0.placed pre.1.0 pre.1.1 link-is now-all)

    runs : q ≡ running (view v)
    runs = now-all ∙ sym (heir_runs pre.0.placed pre.1.0 pre.1.1 link-is) ∙ sym (ap running taken.view)

pub current-p-requires : goal.current-p-requires
current-p-requires c =
    chosen-named c.requires.whole c.requires.image_value.0 c.chosen-c.ensures

pub overflow_sub-heir : goal.overflow_sub-heir
overflow_sub-heir c =
    link-some (c.requires.whole, c.requires.image_value) c.chosen-c.ensures c.current-p.ensures c.turn_over.ensures

pub quantum-all-requires : goal.quantum-all-requires
quantum-all-requires c =
    heir-named (c.requires.whole, c.requires.image_value) c.chosen-c.ensures c.current-p.ensures c.turn_over.ensures

pub set_left-requires : goal.set_left-requires
set_left-requires c =
    heir-named (c.requires.whole, c.requires.image_value) c.chosen-c.ensures c.current-p.ensures c.turn_over.ensures

pub returns : goal.returns
returns c =
    record {
      image = taken (c.requires.whole, c.requires.image_value) c.chosen-c.ensures c.current-p.ensures c.turn_over.ensures
          c.quantum-all.ensures c.set_left.ensures c.set_chosen.ensures;
      quantum = c.place.ensures
          ∙ ap place
          (runs (c.requires.whole, c.requires.image_value) c.chosen-c.ensures c.current-p.ensures c.turn_over.ensures
          c.quantum-all.ensures c.set_left.ensures c.set_chosen.ensures);
    }
