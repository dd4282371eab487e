use mathlib.Core.Path.{refl}
use native.Mathlib.Nat.{add-sub_cancel_left}
use lib.ListN.{length}
use Rattle.sequences.proofs.Lending.{put_back}
use Rattle.packed.proofs.copy_at.Goals as goal

pub returns : goal.returns
returns c =
    let s = c.args.src.now in
    rw (add-sub_cancel_left c.args.from (length s), c.copy_from_slice.ensures.after) (put_back c.args.from (length s) c.args.dst.now c.requires s refl)
