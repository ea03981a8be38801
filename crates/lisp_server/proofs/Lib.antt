pub mod NonceLaws
pub mod ContactLaws
pub mod StandingLaws
pub mod NoticeLaws
pub mod KnownLaws
pub mod SendNoticeLaws
pub mod ReceivingLaws
pub mod AcceptLaws
