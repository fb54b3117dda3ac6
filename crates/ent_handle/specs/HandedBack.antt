-- What was handed in, and why it was not taken.
pub record HandedBack (T E : Type 0) : Type 0 where
  pub value : T
  pub error : E
