-- The end of the running thread's quantum, as the code takes it: first it goes behind all others of its priority, then there is a new choice.
use Rattle.model.specs.State.{State}
use Rattle.model.specs.Parts.{alter_thread, refilled}
use Rattle.model.specs.Words.{become_ready, settle, choose}

unfoldable pub turn_over : State → State
turn_over s = become_ready s.chosen (alter_thread s.chosen refilled s)

unfoldable pub take_turns : State → State
take_turns s = choose (settle (turn_over s))
