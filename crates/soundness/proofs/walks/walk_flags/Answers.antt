use mathlib.Core.Path.{◌≡◌}
use Prim.Native.Nat.{◌+◌}
use borrow.Author.Rules.{rules}
use native.Mathlib.Omega.{arith}
use lib.ListN.{length}
use Rattle.sequences.proofs.Tests.{every_below-at}
use Rattle.model.specs.Before.{list_at}
use Rattle.soundness.specs.Lists.{wait_list_fits}
use Rattle.soundness.proofs.Counting.{up_to_more}
use Rattle.soundness.proofs.Walking.{walking_none, walking_all, part_length, part-more}
use Rattle.soundness.proofs.walks.walk_flags.Invariants.{asks_at}
use Rattle.soundness.proofs.walks.walk_flags.Goals as goal

pub loop-o-init : goal.loop-o-init
loop-o-init c = walking_none _ _ c.requires.counts_up_to

pub walk_ids-one-requires : goal.walk_ids-one-requires
walk_ids-one-requires c =
    record { ids_value = every_below-at (λ j. wait_list_fits (list_at c.args.waits.now j)) 18 (14 + c.loop-o.o) (omega arith) c.requires.j_value; counts_up_to = up_to_more (omega arith) c.loop-o.invariant.within }

pub loop-o-preserved : goal.loop-o-preserved
loop-o-preserved c =
    let a = c.args in
    let size : length a.waits.now ≡ 18 = search rules in
    let fit = c.requires.j_value in
    let asks = asks_at a.threads.now a.waits.now a.flags in
    part-more a.waits.now size fit 14 18 (omega arith) (omega arith) asks (omega arith) c.loop-o.invariant c.walk_ids-one.ensures

pub returns : goal.returns
returns c =
    let end : c.loop-o.o ≡ 4 = omega arith in
    let many = part_length c.args.waits.now (search rules) c.requires.j_value 14 18 (omega arith) (omega arith) in
    walking_all _ _ (rw end at c.loop-o.invariant) many
