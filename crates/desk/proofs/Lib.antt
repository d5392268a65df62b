pub mod ShortReplies
pub mod InTurn
