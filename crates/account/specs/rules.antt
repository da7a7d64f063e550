-- the calls on one store and its planes, and what each leaves and answers
pub mod Calls
-- the ink account, a plain machine fed with the calls alone
pub mod Accounts
-- demand 3, clause by clause
pub mod Claims
