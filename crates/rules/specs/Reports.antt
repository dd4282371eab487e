-- How a call is asked for and told in numbers: six of them in, five of them out. An image that isn't sound is told the same way whatever is asked.
use Rattle.std.specs.Prelude.{Bool, cond, List, [], ◌∷◌, ℕ}
use Rattle.model.specs.declared.answers.Answer.TheVariants.{Unsound}
use Rattle.model.specs.declared.answers.Report.{Report}
use Rattle.model.specs.declared.requests.Request.{Request}
use Rattle.model.specs.State.{nobody}
use Rattle.model.specs.Answers.{number}

abbrev pub asked : ℕ → ℕ → ℕ → ℕ → ℕ → ℕ → Request
asked call id a b c d = record { call = call; id = id; a = a; b = b; c = c; d = d }

abbrev pub unsound_report : Report
unsound_report = record { answer = Unsound; chosen = nobody; clock = 0; wakeups = 0; next = 0 }

-- a report as numbers, and how many they are
abbrev pub report_numbers : Report → List ℕ
report_numbers r = number r.answer ∷ r.chosen ∷ r.clock ∷ r.wakeups ∷ r.next ∷ []

abbrev pub report_length : ℕ
report_length = 5

-- the answer of what only tests: 0 for yes, 1 for no
abbrev pub zero_if : Bool → ℕ
zero_if b = cond b 0 1
