--   CallWords   what each call answers to C, in one word
pub mod CallWords
