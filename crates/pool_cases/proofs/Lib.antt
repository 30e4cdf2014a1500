pub mod ChangedReplies
