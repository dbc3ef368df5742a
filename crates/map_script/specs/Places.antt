-- The places of a line, each read from the front of its tokens: what is found there and the tokens after it, or what
-- is wrong.
use Rattle.std.specs.Prelude.{ℕ, ◌*◌, ◌==◌, nat_lt, Bool, false, List, [], ◌∷◌, length, Option, Some, None, unwrap_or, option_map, Result, Ok, Err, if◌then◌else◌, codes, bytes_eq}
use Rattle.std.specs.List.{list_all}
use Rattle.std.specs.Option.{ok_or}
use Rattle.std.specs.Result.{result_ok}
use Rattle.hex.specs.Hex.{decode_of, is_hex_digit}
use Rattle.map_script.specs.declared.refusal.Cause.{Cause}
use Rattle.map_script.specs.declared.refusal.Cause.TheVariants.{Missing, Extra, Number, Cpu, Flag, Digits, Length}
use Rattle.map_script.specs.Tokens.{number_of}

-- the next place, where nothing was wrong before
infixl 10 ◌>>=◌
abbrev pub ◌>>=◌ : {A B E : Type 0} → Result A E → (A → Result B E) → Result B E
(Ok found) >>= next = next found
(Err wrong) >>= next = Err wrong

-- the bytes that hexadecimal digits write
abbrev pub decoded : List ℕ → List ℕ
decoded digits = unwrap_or (result_ok (decode_of digits)) []

abbrev pub Tokens : Type 0
Tokens = List (List ℕ)

-- a parser of one place of a line: what it reads from the front of the tokens, and the tokens after it, or what is wrong
abbrev pub Parser : Type 0 → Type 0
Parser A = Tokens → Result (A × Tokens) Cause

-- any token
abbrev pub token : Parser (List ℕ)
token [] = Err Missing
token (first ∷ rest) = Ok (first, rest)

-- the end of the line
abbrev pub at_end : {A : Type 0} → A → Tokens → Result A Cause
at_end value [] = Ok value
at_end value (first ∷ rest) = Err Extra

-- the value of a token that has one, else what is wrong
abbrev pub valued : {A : Type 0} → Cause → (List ℕ → Option A) → Parser A
valued cause value tokens = do
  first ← token tokens
  found ← ok_or (value first.0) cause
  Ok (found, first.1)

-- N
abbrev pub number : Parser ℕ
number tokens = valued Number number_of tokens

-- CPU: a number below that of the map's CPUs
abbrev pub cpu : ℕ → Parser ℕ
cpu cpus tokens = do
  found ← number tokens
  if nat_lt found.0 cpus then Ok found else Err Cpu

-- START: a number, or `-` for none
abbrev pub start_of : List ℕ → Option (Option ℕ)
start_of word = if bytes_eq word (codes "-") then Some None else option_map Some (number_of word)

abbrev pub start : Parser (Option ℕ)
start tokens = valued Number start_of tokens

-- FLAG: BPF_ANY, BPF_NOEXIST and BPF_EXIST by name, or a number
abbrev pub flag_of : List ℕ → Option ℕ
flag_of word =
    if bytes_eq word (codes "any") then Some 0
    else if bytes_eq word (codes "noexist") then Some 1
    else if bytes_eq word (codes "exist") then Some 2
    else number_of word

abbrev pub flag : Parser ℕ
flag tokens = valued Flag flag_of tokens

-- KEY and VALUE: hexadecimal digits of either case, two for each byte of the place's size
abbrev pub bytes_in : ℕ → List ℕ → Result (List ℕ) Cause
bytes_in size word =
    if list_all is_hex_digit word then (if length word == 2 * size then Ok (decoded word) else Err Length) else Err Digits

abbrev pub bytes : ℕ → Parser (List ℕ)
bytes size tokens = do
  first ← token tokens
  found ← bytes_in size first.0
  Ok (found, first.1)

-- STOP: a KEY, or `-` for none
abbrev pub stop_in : ℕ → List ℕ → Result (Option (List ℕ)) Cause
stop_in size word = if bytes_eq word (codes "-") then Ok None else (bytes_in size word >>= λ key. Ok (Some key))

abbrev pub stop : ℕ → Parser (Option (List ℕ))
stop size tokens = do
  first ← token tokens
  found ← stop_in size first.0
  Ok (found, first.1)

-- this word, where nothing else may stand
abbrev pub word : Cause → List ℕ → Parser (Unit {0})
word cause text tokens = valued cause (λ first. if bytes_eq first text then Some tt else None) tokens

-- A word and a number. Where another word stands the line has one cause for all that may be wrong (`instead`), so that
-- the cause here never shows.
abbrev pub labelled : List ℕ → Parser ℕ
labelled label tokens = do
  found ← word Missing label tokens
  number found.1

-- the next token is this word
abbrev pub is_next : List ℕ → Tokens → Bool
is_next label [] = false
is_next label (first ∷ rest) = bytes_eq first label

-- a word and a number, or neither of them, which stands for 0
abbrev pub if_labelled : List ℕ → Parser ℕ
if_labelled label [] = Ok (0, [])
if_labelled label (first ∷ rest) = if bytes_eq first label then number rest else Ok (0, first ∷ rest)

-- a number, or the end, which stands for 0
abbrev pub number_or_end : Parser ℕ
number_or_end [] = Ok (0, [])
number_or_end (first ∷ rest) = number (first ∷ rest)

-- one cause for all that may be wrong
abbrev pub instead : {A : Type 0} → Cause → Result A Cause → Result A Cause
instead cause (Ok found) = Ok found
instead cause (Err other) = Err cause
