use mathlib.Core.Path.{◌≡◌, ◌∙◌}
use mathlib.Core.List.{List}
use Prim.Native.Nat.{ℕ, ◌+◌, ◌-◌, ◌<◌, ◌≤◌}
use borrow.Author.Rules.{rules}
use native.Mathlib.Omega.{arith}
use lib.ListN.{length, get_or, take, drop, length-drop}
use lib.Seq.{get_or-take, get_or-drop, length-take-le}
use Rattle.sequences.proofs.Tests.{every_below-at}
use Rattle.model.specs.declared.tables.IdList.{IdList}
use Rattle.model.specs.Before.{list_at, no_ids}
use Rattle.soundness.specs.Lists.{wait_list_fits}
use Rattle.soundness.proofs.Counting.{up_to_more}
use Rattle.soundness.proofs.Walking.{walking_none, walking_all, part_length, part-more}
use Rattle.soundness.proofs.walks.walk_waits.Invariants.{asks_at}
use Rattle.soundness.proofs.walks.walk_waits.Goals as goal

-- the list of this turn
turn_at : (waits : List IdList) (from to k : ℕ) → k < to - from → get_or (take (to - from) (drop from waits)) k no_ids ≡ list_at waits (from + k)
turn_at waits from to k h = get_or-take (to - from) (drop from waits) k no_ids h ∙ get_or-drop from waits k no_ids

turns : (waits : List IdList) (from to : ℕ) → length waits ≡ 18 → from ≤ to → to ≤ 18 → length (take (to - from) (drop from waits)) ≡ to - from
turns waits from to size order end = length-take-le (to - from) (drop from waits) (omega (arith, length-drop from waits))

pub loop-l-init : goal.loop-l-init
loop-l-init c = walking_none _ _ c.requires.counts_up_to

pub walk_ids-one-requires : goal.walk_ids-one-requires
walk_ids-one-requires c =
    let a = c.args in
    let k = c.loop-l.l-index in
    record {
      ids_value = rw (turn_at a.waits.now a.from a.to k (omega arith)) (every_below-at (λ j. wait_list_fits (list_at a.waits.now j)) 18 (a.from + k) (omega arith) c.requires.j_value);
      counts_up_to = up_to_more (omega arith) c.loop-l.invariant.within;
    }

pub loop-l-preserved : goal.loop-l-preserved
loop-l-preserved c =
    let a = c.args in
    let k = c.loop-l.l-index in
    let here : k < a.to - a.from = omega arith in
    let turn = turn_at a.waits.now a.from a.to k here in
    let size : length a.waits.now ≡ 18 = search rules in
    let fit = c.requires.j_value in
    let asks = asks_at a.members a.threads.now a.waits.now a.from in
    part-more a.waits.now size fit a.from a.to (omega arith) (omega arith) asks (omega arith) c.loop-l.invariant
    (rw turn at c.walk_ids-one.ensures)

pub returns : goal.returns
returns c =
    let a = c.args in
    let size : length a.waits.now ≡ 18 = search rules in
    let end : c.loop-l.l-index ≡ a.to - a.from = omega (arith, turns a.waits.now a.from a.to size (omega arith) (omega arith)) in
    let many = part_length a.waits.now size c.requires.j_value a.from a.to (omega arith) (omega arith) in
    walking_all _ _ (rw end at c.loop-l.invariant) many
