-- Lines of tokens: their text, and that it falls into the same lines of the same tokens again.
use Rattle.std.proofs.Common.{◌≡◌, ℕ, suc, ◌+◌, ◌≤◌, ◌==◌, ◌&&◌, Bool, true, false, not, nat_le, List, [], ◌∷◌, ◌++◌, length, take, filter, All, refl, ap, ◌∙◌, ◌⊎◌, inl, inr, append-nil, arith}
use Rattle.std.specs.List.{slice_split, list_all}
use Rattle.std.proofs.lemmas.Bool.{and_parts, cond-true, leb-true, ne_eqb, le-leb, not-true, and_from, not_from_false, or_right, eqb-false}
use Rattle.std.proofs.lemmas.List.{take_all}
use Rattle.std.proofs.lemmas.List.Elements.{All-nil, All-cons, All-append, All-weaker, All-get_or}
use Rattle.std.proofs.lemmas.List.Splits.{slice_split_at, slice_split_none}
use Rattle.std.proofs.lemmas.List.Sums.{AllPass-from_list_all, list_all-from_AllPass, position_or_len_is}
use Rattle.map_script.specs.Canonical.{spaced}
use Rattle.map_script.specs.Plain.{is_mark, is_token, AreTokens, joined, saying}
use Rattle.map_script.specs.Lines.{Said, Line, is_blank, is_hash, is_line_feed, is_allowed, before_comment, tokens_of, said_in, said_by, numbered, is_nothing, lines_of}

-- ---- what a byte of a token is

mark_parts : (byte : ℕ) → is_mark byte ≡ true → (33 ≤ byte) × (byte ≤ 126) × (byte ≡ 35 → ⊥)
mark_parts byte h =
    let ends = and_parts (nat_le 33 byte && nat_le byte 126) (not (byte == 35)) h in
    let bounds = and_parts (nat_le 33 byte) (nat_le byte 126) ends.0 in
    (leb-true 33 byte bounds.0, leb-true byte 126 bounds.1, eqb-false byte 35 (not-true (byte == 35) ends.1))

mark_is_no_blank : (byte : ℕ) → is_mark byte ≡ true → is_blank byte ≡ false
mark_is_no_blank byte h = let parts = mark_parts byte h in grind arith

-- a byte of a line of tokens
abbrev pub IsPiece : ℕ → Type 0
IsPiece byte = (byte ≡ 32) ⊎ (is_mark byte ≡ true)

piece_bounds : (byte : ℕ) → IsPiece byte → (32 ≤ byte) × (byte ≤ 126) × (byte ≡ 35 → ⊥)
piece_bounds byte (inl space) = (omega arith, omega arith, λ hash. omega arith)
piece_bounds byte (inr mark) = let parts = mark_parts byte mark in (omega arith, parts.1, parts.2)

pub piece_is_no_line_feed : (byte : ℕ) → IsPiece byte → is_line_feed byte ≡ false
piece_is_no_line_feed byte piece = let bounds = piece_bounds byte piece in ne_eqb byte 10 (λ same. omega arith)

piece_is_no_hash : (byte : ℕ) → IsPiece byte → is_hash byte ≡ false
piece_is_no_hash byte piece = ne_eqb byte 35 (piece_bounds byte piece).2

piece_is_allowed : (byte : ℕ) → IsPiece byte → is_allowed byte ≡ true
piece_is_allowed byte (inl space) = rw space refl
piece_is_allowed byte (inr mark) =
    let parts = mark_parts byte mark in
    or_right (is_blank byte) (nat_le 33 byte && nat_le byte 126) (and_from (nat_le 33 byte) (nat_le byte 126) (le-leb 33 byte parts.0) (le-leb byte 126 parts.1))

-- ---- a line falls into its tokens

marks_of : (token : List ℕ) → is_token token ≡ true → All (λ byte. is_mark byte ≡ true) token
marks_of token h = AllPass-from_list_all is_mark token (and_parts (nat_le 1 (length token)) (list_all is_mark token) h).1

no_blanks : (token : List ℕ) → is_token token ≡ true → All (λ byte. is_blank byte ≡ false) token
no_blanks token h = All-weaker (λ byte. is_mark byte ≡ true) (λ byte. is_blank byte ≡ false) mark_is_no_blank token (marks_of token h)

split_joined : (token : List ℕ) (tokens : List (List ℕ)) → AreTokens (token ∷ tokens) → slice_split is_blank (token ++ spaced tokens) ≡ token ∷ tokens
split_joined token [] h =
    ap (slice_split is_blank) (append-nil token) ∙ slice_split_none is_blank token (no_blanks token h.0)
split_joined token (next ∷ tokens) h =
    slice_split_at is_blank token 32 (next ++ spaced tokens) (no_blanks token h.0) refl
    ∙ ap (λ (parts : List (List ℕ)). token ∷ parts) (split_joined next tokens h.1)

pub some_length : (n : ℕ) → not (suc n == 0) ≡ true
some_length n = not_from_false (suc n == 0) (ne_eqb (suc n) 0 (λ same. omega arith))

abbrev pub is_some_token : List ℕ → Bool
is_some_token token = not (length token == 0)

some_token : (token : List ℕ) → is_token token ≡ true → is_some_token token ≡ true
some_token [] h = cc
some_token (byte ∷ bytes) h = some_length (length bytes)

all_kept : (tokens : List (List ℕ)) → AreTokens tokens → filter is_some_token tokens ≡ tokens
all_kept [] h = refl
all_kept (token ∷ tokens) h =
    cond-true (is_some_token token) (token ∷ filter is_some_token tokens) (filter is_some_token tokens) (some_token token h.0)
    ∙ ap (λ (rest : List (List ℕ)). token ∷ rest) (all_kept tokens h.1)

tokens_of-joined : (token : List ℕ) (tokens : List (List ℕ)) → AreTokens (token ∷ tokens) → tokens_of (joined (token ∷ tokens)) ≡ token ∷ tokens
tokens_of-joined token tokens h = ap (filter is_some_token) (split_joined token tokens h) ∙ all_kept (token ∷ tokens) h

-- ---- what a line of tokens says

pieces_of : (token : List ℕ) → is_token token ≡ true → All IsPiece token
pieces_of token h = All-weaker (λ byte. is_mark byte ≡ true) IsPiece (λ byte mark. inr mark) token (marks_of token h)

spaced_pieces : (tokens : List (List ℕ)) → AreTokens tokens → All IsPiece (spaced tokens)
spaced_pieces [] h = All-nil IsPiece
spaced_pieces (token ∷ tokens) h =
    All-cons IsPiece 32 (token ++ spaced tokens) (inl refl)
    (All-append IsPiece token (spaced tokens) (pieces_of token h.0) (spaced_pieces tokens h.1))

pub joined_pieces : (tokens : List (List ℕ)) → AreTokens tokens → All IsPiece (joined tokens)
joined_pieces [] h = All-nil IsPiece
joined_pieces (token ∷ tokens) h =
    All-append IsPiece token (spaced tokens) (pieces_of token h.0) (spaced_pieces tokens h.1)

whole_line : (line : List ℕ) → All (λ byte. is_hash byte ≡ false) line → before_comment line ≡ line
whole_line line free =
    ap (λ (n : ℕ). take n line) (position_or_len_is is_hash line (length line) 0 (omega arith) (λ k below. All-get_or (λ byte. is_hash byte ≡ false) line k 0 below free) (λ below. absurd (omega arith)))
    ∙ take_all (length line) line (omega arith)

abbrev said : List (List ℕ) → Bool → Said
said tokens allowed = record { tokens = tokens; allowed = allowed }

pub said_by-joined : (token : List ℕ) (tokens : List (List ℕ)) → AreTokens (token ∷ tokens) → said_by (joined (token ∷ tokens)) ≡ said (token ∷ tokens) true
said_by-joined token tokens h =
    let line = joined (token ∷ tokens) in
    let pieces : All IsPiece line = joined_pieces (token ∷ tokens) h in
    let whole : before_comment line ≡ line = whole_line line (All-weaker IsPiece (λ byte. is_hash byte ≡ false) piece_is_no_hash line pieces) in
    let allowed : list_all is_allowed line ≡ true = list_all-from_AllPass is_allowed line (All-weaker IsPiece (λ byte. is_allowed byte ≡ true) piece_is_allowed line pieces) in
    ap said_in whole ∙ ap (said (tokens_of line)) allowed
    ∙ ap (λ (found : List (List ℕ)). said found true) (tokens_of-joined token tokens h)

-- ---- a text falls into its lines

-- a line of some tokens
abbrev pub IsLine : List (List ℕ) → Type 0
IsLine [] = ⊥
IsLine (token ∷ tokens) = AreTokens (token ∷ tokens)

abbrev pub AreLines : List (List (List ℕ)) → Type 0
AreLines [] = Unit {0}
AreLines (tokens ∷ lines) = IsLine tokens × AreLines lines

-- lines of tokens, each ended by a line feed
abbrev pub text_of_lines : List (List (List ℕ)) → List ℕ
text_of_lines [] = []
text_of_lines (tokens ∷ lines) = joined tokens ++ 10 ∷ text_of_lines lines

-- lines that say these tokens, numbered from here on
abbrev pub saying_from : ℕ → List (List (List ℕ)) → List Line
saying_from number [] = []
saying_from number (tokens ∷ lines) = saying number tokens ∷ saying_from (number + 1) lines

abbrev pub says_something : Line → Bool
says_something line = not (is_nothing line.says)

abbrev pub line_saying : ℕ → Said → Line
line_saying number says = record { number = number; says = says }

lines_from : (number : ℕ) (lines : List (List (List ℕ))) → AreLines lines → filter says_something (numbered number (slice_split is_line_feed (text_of_lines lines))) ≡ saying_from number lines
lines_from number [] h = refl
lines_from number ([] ∷ lines) h = absurd h.0
lines_from number ((token ∷ tokens) ∷ lines) h =
    let line = joined (token ∷ tokens) in
    let rest = slice_split is_line_feed (text_of_lines lines) in
    let kept = filter says_something (numbered (number + 1) rest) in
    let free = All-weaker IsPiece (λ byte. is_line_feed byte ≡ false) piece_is_no_line_feed line (joined_pieces (token ∷ tokens) h.0) in
    ap (λ (parts : List (List ℕ)). filter says_something (numbered number parts)) (slice_split_at is_line_feed line 10 (text_of_lines lines) free refl)
    ∙ ap (λ (says : Said). filter says_something (line_saying number says ∷ numbered (number + 1) rest)) (said_by-joined token tokens h.0)
    ∙ cond-true (says_something (saying number (token ∷ tokens))) (saying number (token ∷ tokens) ∷ kept) kept (some_length (length tokens))
    ∙ ap (λ (found : List Line). saying number (token ∷ tokens) ∷ found) (lines_from (number + 1) lines h.1)

pub lines_of-text_of_lines : (lines : List (List (List ℕ))) → AreLines lines → lines_of (text_of_lines lines) ≡ saying_from 1 lines
lines_of-text_of_lines lines h = lines_from 1 lines h
