mod Unreserved
mod InTurn
