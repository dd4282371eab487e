-- The call is allowed, so its object is there and its mask fits; the bits that word and mask share are at most the word.
use mathlib.Core.Path.{◌≡◌, refl}
use mathlib.Core.List.{List}
use Prim.Native.Nat.{ℕ, ◌-◌, ◌<◌, ◌≤◌}
use native.Mathlib.Omega.{arith}
use borrow.Author.Tests.{not-false}
use lib.Bits.{bit_and, and_le_l}
use Rattle.sequences.proofs.Tests.{left}
use Rattle.model.specs.declared.requests.Request.{Request}
use Rattle.model.specs.Parts.{flag_object}
use Rattle.model.specs.Ranges.{is_positive_16}
use Rattle.model.specs.Calls.{answers, unused_bcd}
use Rattle.model.specs.Effects.{change_word, clear_effect}
use Rattle.model.specs.Layout.{view}
use Rattle.rules.proofs.InRange.{positive_fits}
use Rattle.theorems.proofs.Allowing.{flags-named, not-due}
use Rattle.words.specs.Images.{Does}
use Rattle.words.proofs.Does.{same_word}
use Rattle.serving.proofs.flags.clear.Goals as goal
use Rattle.serving.proofs.flags.clear.Goals.{Start}

below : (s : Start) → s.args.q.id < 4
unfolding answers
below s = flags-named s.requires.allowed refl

mask_fits : (s : Start) → s.args.q.a ≤ 65535
unfolding answers
mask_fits s =
    let q = s.args.q in
    positive_fits q.a (left (is_positive_16 q.a) (unused_bcd q) (not-false _ (not-due s.requires.allowed 1 refl)))

by_read : {b r : List ℕ} (q : Request) (word : ℕ) → word ≡ (flag_object q.id (view b)).word
    → Does b (change_word q.id (word - bit_and word q.a)) r → Does b (clear_effect q) r
unfolding clear_effect
by_read q word e d = same_word d (clear_effect q) (rw e)

pub overflow_cast-mask : goal.overflow_cast-mask
overflow_cast-mask c = let h = mask_fits (goal.at.overflow_cast-mask c).Start in omega arith

pub word-word-requires : goal.word-word-requires
word-word-requires c = below (goal.at.word-word-requires c).Start

pub change_word-requires : goal.change_word-requires
change_word-requires c = record { whole = c.requires.whole; o_bound = below (goal.at.change_word-requires c).Start }

pub returns : goal.returns
returns c =
    by_read c.args.q _ c.word-word.ensures c.change_word.ensures

pub overflow_sub-word : goal.overflow_sub-word
overflow_sub-word c = and_le_l _ _
