use mathlib.Core.Path.{◌≡◌, sym, ◌∙◌, ap}
use mathlib.Core.List.{List}
use Prim.Native.Nat.{ℕ, suc, ◌+◌, ◌-◌, ◌≤◌, ◌<◌}
use native.Mathlib.Omega.{arith}
use lib.ListN.{get_or, take}
use lib.Seq.{take_all}
use Rattle.sequences.specs.Lists.{last_nonempty, head_or}
use Rattle.sequences.specs.Bytes.{four_at}
use Rattle.sequences.specs.Links.{head_link}
use Rattle.sequences.proofs.Highest.{last_below, last-here}
use Rattle.model.specs.State.{nobody}
use Rattle.model.specs.Parts.{ready_list}
use Rattle.model.specs.Words.{choice}
use Rattle.model.specs.Layout.{view}
use Rattle.fields.specs.Fields.{Sized}
use Rattle.layout.proofs.Viewed.{many-ready}
use Rattle.words.proofs.Firsts.{ready-first, head_linked, linked_long, unlinked_empty}
use Rattle.words.proofs.choosing.choice.Goals as goal
use Rattle.words.proofs.choosing.choice.Goals.{then-u32_at-eq0, else-u32_at-eq0}

-- list p, where all above it are empty
module _ (b : List ℕ) (size : Sized b) (above : ℕ) (here : 0 < above) (within : above ≤ 8)
    (last : last_nonempty (view b).ready ≡ last_nonempty (take above (view b).ready)) where
  abbrev l : List ℕ
  l = ready_list (above - 1) (view b)

  link-is : get_or b (494 + (above - 1)) 0 ≡ head_link l
  link-is = ready-first b size (above - 1) (omega arith)

  from-here : last_nonempty (view b).ready ≡ last_nonempty (take (suc (above - 1)) (view b).ready)
  from-here = let up : above ≡ suc (above - 1) = omega arith in last ∙ ap (λ (n : ℕ). last_nonempty (take n (view b).ready)) up

  chosen-here : 0 < get_or b (494 + (above - 1)) 0 → get_or b (494 + (above - 1)) 0 - 1 ≡ choice (view b)
  chosen-here h =
      let k : 0 < head_link l = omega (arith, link-is) in
      sym
      (ap (λ (x : List ℕ). head_or x nobody)
      (from-here ∙ last-here (view b).ready (above - 1) (omega (arith, many-ready b size)) (linked_long l k))
      ∙ head_linked l nobody k
      ∙ ap (λ (x : ℕ). x - 1) (sym link-is))

  not-here : get_or b (494 + (above - 1)) 0 ≡ 0 → last_nonempty (view b).ready ≡ last_nonempty (take (above - 1) (view b).ready)
  not-here e =
      from-here ∙ last_below (view b).ready (above - 1) (omega (arith, many-ready b size)) (unlinked_empty l (sym link-is ∙ e))

-- four lists at once
upper-empty : (b : List ℕ) → Sized b → four_at 498 b ≡ 0 → last_nonempty (view b).ready ≡ last_nonempty (take 4 (view b).ready)
upper-empty b size e =
    let whole = sym (ap last_nonempty (take_all 8 (view b).ready (omega (arith, many-ready b size)))) in
    let seventh = not-here b size 8 (omega arith) (omega arith) whole (omega (arith, e)) in
    let sixth = not-here b size 7 (omega arith) (omega arith) seventh (omega (arith, e)) in
    let fifth = not-here b size 6 (omega arith) (omega arith) sixth (omega (arith, e)) in
    not-here b size 5 (omega arith) (omega arith) fifth (omega (arith, e))

pub loop-p-init : goal.loop-p-init
loop-p-init c =
    let b = c.args.image.now in
    elim c.if-u32_at-eq0.branch [
      | then-u32_at-eq0 w ↦ rw w.above-is (omega arith, upper-empty b c.told-image (sym c.u32_at.ensures ∙ w.if-u32_at-eq0.true))
      | else-u32_at-eq0 w ↦
          rw w.above-is (omega arith, sym (ap last_nonempty (take_all 8 (view b).ready (omega (arith, many-ready b c.told-image)))))
    ]

pub returns-then-link-ne0 : goal.returns-then-link-ne0
returns-then-link-ne0 c =
    let l = c.loop-p in
    chosen-here c.args.image.now c.told-image l.p (omega arith) l.invariant.0 l.invariant.1 (omega arith)

pub loop-p-preserved : goal.loop-p-preserved
loop-p-preserved c =
    let l = c.loop-p in
    (omega arith, not-here c.args.image.now c.told-image l.p (omega arith) l.invariant.0 l.invariant.1 c.if-link-ne0.false)

pub returns : goal.returns
returns c =
    let ls = (view c.args.image.now).ready in
    let none : c.loop-p.p ≡ 0 = omega (arith, c.loop-p-test.false) in
    sym (ap (λ (k : List ℕ). head_or k nobody) (c.loop-p.invariant.1 ∙ ap (λ (n : ℕ). last_nonempty (take n ls)) none))
