-- What the code's state stands for.
use Rattle.key_hash.specs.declared.state.State.{State}
use Rattle.key_hash.specs.Jhash.{Words}

-- the three words that a state holds
abbrev pub words_of : State → Words
words_of s = record { a = s.a; b = s.b; c = s.c }
