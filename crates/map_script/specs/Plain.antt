-- Lines in the form in which most are written: tokens with one space between each two, and a line feed.
use Rattle.std.specs.Prelude.{◌≡◌, ℕ, ◌==◌, ◌&&◌, ◌<◌, not, nat_le, true, Bool, List, [], ◌∷◌, ◌++◌, length, Option, Some, None, Result, Ok, Err}
use Rattle.std.specs.List.{list_all}
use Rattle.map_script.specs.declared.refusal.Cause.{Cause}
use Rattle.map_script.specs.declared.refusal.ScriptRefusal.{ScriptRefusal}
use Rattle.map_script.specs.Canonical.{spaced}
use Rattle.map_script.specs.Lines.{Line}
use Rattle.map_script.specs.Places.{◌>>=◌, Tokens, bytes_in}
use Rattle.map_script.specs.Reading.{of_line, at_line, IsReading}
use Rattle.map_script.specs.Tokens.{number_of}

-- a byte that may stand in a token: visible, and no `#`
abbrev pub is_mark : ℕ → Bool
is_mark byte = nat_le 33 byte && nat_le byte 126 && not (byte == 35)

abbrev pub is_token : List ℕ → Bool
is_token token = nat_le 1 (length token) && list_all is_mark token

abbrev pub AreTokens : Tokens → Type 0
AreTokens [] = Unit {0}
AreTokens (token ∷ tokens) = (is_token token ≡ true) × AreTokens tokens

-- tokens with a space between each two
abbrev pub joined : Tokens → List ℕ
joined [] = []
joined (token ∷ tokens) = token ++ spaced tokens

-- a text begins with a line of tokens that is read as this, and the rest stands behind it
pub record BeginsWith {A : Type 0} (read : Tokens → Result A Cause) (text : List ℕ) (found : A) (rest : List ℕ) : Type 0 where
  pub tokens : Tokens
  pub starts : text ≡ joined tokens ++ 10 ∷ rest
  pub are_tokens : AreTokens tokens
  pub reads : read tokens ≡ Ok found

-- a text begins with a number below that of the CPUs, and a space
pub record BeginsWithCpu (cpus : ℕ) (text : List ℕ) (found : ℕ) (rest : List ℕ) : Type 0 where
  pub token : List ℕ
  pub starts : text ≡ token ++ 32 ∷ rest
  pub is : is_token token ≡ true
  pub reads : number_of token ≡ Some found
  pub below : found < cpus

-- a text begins with the digits of bytes of this size
pub record BeginsWithBytes (size : ℕ) (text found rest : List ℕ) : Type 0 where
  pub token : List ℕ
  pub starts : text ≡ token ++ rest
  pub is : is_token token ≡ true
  pub reads : bytes_in size token ≡ Ok found

-- a line that says these tokens
abbrev pub saying : ℕ → Tokens → Line
saying number tokens = record { number = number; says = record { tokens = tokens; allowed = true } }

-- the first of some lines is read as this, and the rest stands behind it
pub record FirstIs {A : Type 0} (read : Tokens → Result A Cause) (lines : List Line) (found : A) (rest : List Line) : Type 0 where
  pub line : Line
  pub first : lines ≡ line ∷ rest
  pub reads : of_line line read ≡ Ok found

-- the same, and the line has this number
pub record FirstAt {A : Type 0} (number : ℕ) (read : Tokens → Result A Cause) (lines : List Line) (found : A) (rest : List Line) : Type 0 where
  pub tokens : Tokens
  pub first : lines ≡ saying number tokens ∷ rest
  pub reads : read tokens ≡ Ok found

-- what the first of some lines is read as, where there is one
abbrev pub first_read : {A : Type 0} → (Tokens → Result A Cause) → List Line → Result (Option A) ScriptRefusal
first_read read [] = Ok None
first_read read (line ∷ lines) = at_line line read >>= λ found. Ok (Some found)

-- what the first of some lines is read as, or that there is none, or the refusal as which it is read
abbrev pub IsNext : {A : Type 0} → (Tokens → Result A Cause) → List Line → List Line → Result (Option A) ScriptRefusal → Type 0
IsNext read lines rest (Ok (Some found)) = FirstIs read lines found rest
IsNext read lines rest (Ok None) = lines ≡ []
IsNext read lines rest (Err refusal) = IsReading (Err refusal) (first_read read lines)
