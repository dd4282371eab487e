pub mod Walking
pub mod TimerWalk
pub mod LimitWalk
pub mod Found
pub mod Turning
pub mod Arming
pub mod Passing
