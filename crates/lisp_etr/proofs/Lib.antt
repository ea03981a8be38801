pub mod TimerLaws
pub mod SafeLaws
pub mod WrittenOver
pub mod Refusals
pub mod RoundsLaws
pub mod HearingLaws
