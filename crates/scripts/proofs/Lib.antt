-- what the calls of a script do
pub mod ScriptLaws
-- calls of a script one after the other
pub mod PlayLaws
-- which word names which call
pub mod CallLaws
