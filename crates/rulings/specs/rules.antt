-- thin rulings: the two cut masks and the ink after the cut
pub mod Rulings
