use mathlib.Core.Path.{◌≡◌, refl, ◌∙◌}
use mathlib.Core.List.{List, []}
use Prim.Native.Nat.{ℕ, ◌<◌}
use native.Mathlib.Omega.{arith}
use Rattle.sequences.specs.Links.{head_link}
use Rattle.model.specs.State.{flags_list}
use Rattle.model.specs.Parts.{list, alter_flags, with_word}
use Rattle.model.specs.Effects.{wake_each, met, change_word}
use Rattle.model.specs.Layout.{view}
use Rattle.fields.specs.Fields.{Alters}
use Rattle.words.specs.Images.{Whole}
use Rattle.words.proofs.Accepted.{unmoved_does}
use Rattle.serving.proofs.FlagWaiters.{Waking, turn_below, turn_on, waking_next, waking_closer, waking_done}
use Rattle.serving.proofs.flags.change_word.Goals as goal

module _ {b u : List ℕ} (w : Whole b) (o word : ℕ) (a : Alters b (alter_flags o (with_word word)) u) where
  -- a word moves nobody
  set_out : {link : ℕ} → o < 4 → link ≡ head_link (list (flags_list o) (view u))
      → Waking word (flags_list o) (wake_each word (met word (list (flags_list o) (view u)) (view u)) (view u)) u link
  set_out h e =
      record {
        whole = (unmoved_does w a refl refl refl).whole;
        named = omega arith;
        passed = [];
        rest = list (flags_list o) (view u);
        stand = refl;
        first = e;
        left = refl;
      }

  -- and changes no condition
  changed : wake_each word (met word (list (flags_list o) (view u)) (view u)) (view u) ≡ change_word o word (view b)
  unfolding change_word
  changed = rw a.view

pub loop-link-init : goal.loop-link-init
loop-link-init c =
    set_out c.requires.whole c.args.o c.args.word c.set_word.ensures c.requires.o_bound c.first_of-link.ensures

pub overflow_cast-i : goal.overflow_cast-i
overflow_cast-i c = omega (arith, turn_below c.loop-link.invariant c.loop-link-test.true)

pub overflow_add-link : goal.overflow_add-link
overflow_add-link c = omega (arith, turn_below c.loop-link.invariant c.loop-link-test.true)

pub bounds-image-i : goal.bounds-image-i
bounds-image-i c =
    let l = c.loop-link in
    omega (arith, turn_below l.invariant c.loop-link-test.true, l.invariant.whole.size)

pub wake_met-requires : goal.wake_met-requires
wake_met-requires c = turn_on c.loop-link.invariant c.loop-link-test.true

pub loop-link-smaller : goal.loop-link-smaller
loop-link-smaller c =
    waking_closer c.loop-link.invariant c.loop-link-test.true c.wake_met.ensures

pub loop-link-preserved : goal.loop-link-preserved
loop-link-preserved c =
    waking_next c.loop-link.invariant c.loop-link-test.true c.wake_met.ensures

pub returns : goal.returns
returns c =
    let l = c.loop-link in
    record {
      whole = l.invariant.whole;
      view = waking_done l.invariant c.loop-link-test.false ∙ changed c.requires.whole c.args.o c.args.word c.set_word.ensures;
    }
