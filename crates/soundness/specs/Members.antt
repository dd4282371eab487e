-- The kinds of lists as the code has them: the number of each, and the mark that a list of it goes by, a priority or a word.
use Rattle.std.specs.Prelude.{ℕ}
use Rattle.soundness.specs.declared.walks.Members.{Members}
use Rattle.soundness.specs.declared.walks.Members.TheVariants.{Ready, Sleep, Stopped, Object, Flags}
use Rattle.soundness.specs.Lists.{of_ready, of_sleep, of_stopped, of_object, of_flags}

abbrev pub kind_of : Members → ℕ
kind_of (Ready priority) = of_ready
kind_of Sleep = of_sleep
kind_of Stopped = of_stopped
kind_of Object = of_object
kind_of (Flags word) = of_flags

abbrev pub mark_of : Members → ℕ
mark_of (Ready priority) = priority
mark_of Sleep = 0
mark_of Stopped = 0
mark_of Object = 0
mark_of (Flags word) = word
