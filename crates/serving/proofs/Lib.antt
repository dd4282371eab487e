pub mod FlagWaiters
