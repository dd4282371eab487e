-- soundness but for the choice, clause by clause and as laws
pub mod Fits
pub mod Readings
pub mod Clauses
pub mod Soundness
-- what keeps a table lawful: moves, changed records, words
pub mod Moves
pub mod InPlace
pub mod Records
pub mod Keeping
pub mod Staying
pub mod Priorities
-- calls, ticks and the choice
pub mod Choosing
pub mod Passed
pub mod Running
pub mod Threads
pub mod Semaphores
pub mod Mutexes
pub mod FlagObjects
pub mod Timers
pub mod Ticking
pub mod Accepting
pub mod Meeting
pub mod Heads
pub mod Undisturbed
-- many ticks at once
pub mod Retimed
pub mod Clock
pub mod Turns
pub mod Skips
pub mod LeapOne
pub mod Quiet
pub mod Counting
pub mod Jumps
pub mod Leaping
pub mod LeapPlaced
pub mod LeapKeeps
pub mod Spending
pub mod Spanned
-- answers
pub mod Lowest
pub mod Replies
pub mod Outcomes
pub mod ByNumber
pub mod Allowing
pub mod Numbered
-- the demands
pub mod Demand1
pub mod Demand2
pub mod Demand3
pub mod Histories
