-- A field is what was read from the part that the definition names for it.
use lib.ListN.{get_or}
use Rattle.image.specs.Image.{table_of}
use Rattle.image.proofs.reading.read_table.Goals as goal

pub returns : goal.returns
unfolding table_of
returns c =
    let s = c.args.image.now in
    λ i. record {
      clock = c.u32_at.ensures i;
      off = get_or s 4 0;
      chosen = get_or s 5 0;
      threads = c.read_all.ensures i;
      semaphores = c.read_all-2.ensures i;
      mutexes = c.read_all-3.ensures i;
      flags = c.read_all-4.ensures i;
      timers = c.read_all-5.ensures i;
      lengths = c.copy_from_slice.ensures.after i;
      waits = c.read_all-6.ensures i;
    }
