-- What a line says changes neither with its comment nor with its blanks.
use Rattle.std.proofs.Common.{◌≡◌, ℕ, suc, ◌+◌, ◌==◌, ◌&&◌, ◌||◌, nat_le, Bool, true, false, not, cond, List, [], ◌∷◌, ◌++◌, length, take, filter, count_by, refl, sym, ap, ◌∙◌, append-nil, arith}
use Rattle.std.specs.List.{slice_split, onto_first, list_all, prefix_len}
use Rattle.std.proofs.lemmas.Bool.{cond-true, cond-false, ne_eqb}
use Rattle.std.proofs.lemmas.List.Folds.{list_all-append}
use Rattle.std.proofs.lemmas.List.Splits.{slice_split-cons_no}
use Rattle.map_script.specs.Lines.{Said, is_blank, is_hash, is_allowed, before_comment, tokens_of, said_in, said_by}
use Rattle.map_script.proofs.Splitting.{some_part, split_at}
use Rattle.map_script.proofs.TokenLines.{is_some_token, some_length}

-- ---- a line without its comment, byte by byte

abbrev cut : List ℕ → List ℕ
cut [] = []
cut (byte ∷ line) = cond (is_hash byte) [] (byte ∷ cut line)

take_step : (stop : Bool) (n byte : ℕ) (line : List ℕ) → take (cond (not stop) (1 + n) 0) (byte ∷ line) ≡ cond stop [] (byte ∷ take n line)
take_step true n byte line = refl
take_step false n byte line = let next : 1 + n ≡ suc n = omega arith in ap (λ (m : ℕ). take m (byte ∷ line)) next

cut_is : (line : List ℕ) → before_comment line ≡ cut line
cut_is [] = refl
cut_is (byte ∷ line) =
    take_step (is_hash byte) (prefix_len (λ x. not (is_hash x)) line) byte line
    ∙ ap (λ (rest : List ℕ). cond (is_hash byte) [] (byte ∷ rest)) (cut_is line)

said_is : (line : List ℕ) → said_by line ≡ said_in (cut line)
said_is line = ap said_in (cut_is line)

one_step : (stop : Bool) (byte : ℕ) (a b : List ℕ) (f : List ℕ → Said) → f (byte ∷ a) ≡ f (byte ∷ b) → f (cond stop [] (byte ∷ a)) ≡ f (cond stop [] (byte ∷ b))
one_step true byte a b f h = refl
one_step false byte a b f h = h

-- two lines that begin alike are cut alike, in their common part or behind it
cut_same : (pre x y : List ℕ) (f : List ℕ → Said) → ((q : List ℕ) → f (q ++ cut x) ≡ f (q ++ cut y)) → f (cut (pre ++ x)) ≡ f (cut (pre ++ y))
cut_same [] x y f h = h []
cut_same (byte ∷ pre) x y f h =
    one_step (is_hash byte) byte (cut (pre ++ x)) (cut (pre ++ y)) f (cut_same pre x y (λ line. f (byte ∷ line)) (λ q. h (byte ∷ q)))

said_same : (pre x y : List ℕ) → ((q : List ℕ) → said_in (q ++ cut x) ≡ said_in (q ++ cut y)) → said_by (pre ++ x) ≡ said_by (pre ++ y)
said_same pre x y h = said_is (pre ++ x) ∙ cut_same pre x y said_in h ∙ sym (said_is (pre ++ y))

abbrev said : List (List ℕ) → Bool → Said
said tokens allowed = record { tokens = tokens; allowed = allowed }

says_same : (a b : List ℕ) → list_all is_allowed a ≡ list_all is_allowed b → tokens_of a ≡ tokens_of b → said_in a ≡ said_in b
says_same a b allowed tokens =
    ap (λ (all : Bool). said (tokens_of a) all) allowed ∙ ap (λ (found : List (List ℕ)). said found (list_all is_allowed b)) tokens

-- ---- what a blank is

blank_is_no_hash : (b : ℕ) → is_blank b ≡ true → is_hash b ≡ false
blank_is_no_hash b h = grind arith

cut_blank : (b : ℕ) (line : List ℕ) → is_blank b ≡ true → cut (b ∷ line) ≡ b ∷ cut line
cut_blank b line h = cond-false (is_hash b) [] (b ∷ cut line) (blank_is_no_hash b h)

allowed_blank : (b : ℕ) (line : List ℕ) → is_blank b ≡ true → list_all is_allowed (b ∷ line) ≡ list_all is_allowed line
allowed_blank b line h = ap (λ (blank : Bool). (blank || (nat_le 33 b && nat_le b 126)) && list_all is_allowed line) h

allowed_behind : (q x y : List ℕ) → list_all is_allowed x ≡ list_all is_allowed y → list_all is_allowed (q ++ x) ≡ list_all is_allowed (q ++ y)
allowed_behind q x y h =
    list_all-append is_allowed q x
    ∙ ap (λ (all : Bool). list_all is_allowed q && all) h
    ∙ sym (list_all-append is_allowed q y)

-- ---- a line falls apart at a blank

kept_step : (keep : Bool) (token : List ℕ) (a b : List (List ℕ)) → cond keep (token ∷ (a ++ b)) (a ++ b) ≡ cond keep (token ∷ a) a ++ b
kept_step true token a b = refl
kept_step false token a b = refl

kept_append : (a b : List (List ℕ)) → filter is_some_token (a ++ b) ≡ filter is_some_token a ++ filter is_some_token b
kept_append [] b = refl
kept_append (token ∷ a) b =
    ap (λ (rest : List (List ℕ)). cond (is_some_token token) (token ∷ rest) rest) (kept_append a b)
    ∙ kept_step (is_some_token token) token (filter is_some_token a) (filter is_some_token b)

tokens_blank : (q : List ℕ) (b : ℕ) (line : List ℕ) → is_blank b ≡ true → tokens_of (q ++ b ∷ line) ≡ tokens_of q ++ tokens_of line
tokens_blank q b line h = ap (filter is_some_token) (split_at is_blank q b line h) ∙ kept_append (slice_split is_blank q) (slice_split is_blank line)

-- ---- a line of blanks

token_first : (byte n : ℕ) (parts : List (List ℕ)) → length parts ≡ suc n → (length (filter is_some_token (onto_first byte parts)) == 0) ≡ false
token_first byte n [] h = absurd (omega (arith, h))
token_first byte n (part ∷ parts) h =
    let kept = filter is_some_token parts in
    ap (λ (tokens : List (List ℕ)). length tokens == 0) (cond-true (is_some_token (byte ∷ part)) ((byte ∷ part) ∷ kept) kept (some_length (length part)))
    ∙ ne_eqb (suc (length kept)) 0 (λ same. omega arith)

blank_more : (byte : ℕ) (line : List ℕ) → (length (tokens_of line) == 0) ≡ list_all is_blank line → (blank : Bool) → is_blank byte ≡ blank → (length (tokens_of (byte ∷ line)) == 0) ≡ list_all is_blank (byte ∷ line)
blank_more byte line so_far true is =
    ap (λ (tokens : List (List ℕ)). length tokens == 0) (tokens_blank [] byte line is) ∙ so_far
    ∙ sym (ap (λ (blank : Bool). blank && list_all is_blank line) is)
blank_more byte line so_far false is =
    ap (λ (parts : List (List ℕ)). length (filter is_some_token parts) == 0) (slice_split-cons_no is_blank byte line is)
    ∙ token_first byte (count_by is_blank line) (slice_split is_blank line) (some_part is_blank line)
    ∙ sym (ap (λ (blank : Bool). blank && list_all is_blank line) is)

-- a line has no token where each byte is a blank
pub no_token : (line : List ℕ) → (length (tokens_of line) == 0) ≡ list_all is_blank line
no_token [] = refl
no_token (byte ∷ line) = blank_more byte line (no_token line) (is_blank byte) refl

-- ---- what a line says

-- a comment says nothing
pub said_comment : (pre comment : List ℕ) → said_by (pre ++ 35 ∷ comment) ≡ said_by (pre ++ [])
said_comment pre comment = said_same pre (35 ∷ comment) [] (λ q. refl)

-- a blank that becomes another
pub said_blank : (pre l : List ℕ) (b c : ℕ) → is_blank b ≡ true → is_blank c ≡ true → said_by (pre ++ b ∷ l) ≡ said_by (pre ++ c ∷ l)
said_blank pre l b c hb hc =
    said_same pre (b ∷ l) (c ∷ l) (λ q.
    let line = cut l in
    ap (λ (x : List ℕ). said_in (q ++ x)) (cut_blank b l hb)
    ∙ says_same (q ++ b ∷ line) (q ++ c ∷ line)
    (allowed_behind q (b ∷ line) (c ∷ line) (allowed_blank b line hb ∙ sym (allowed_blank c line hc)))
    (tokens_blank q b line hb ∙ sym (tokens_blank q c line hc))
    ∙ sym (ap (λ (x : List ℕ). said_in (q ++ x)) (cut_blank c l hc)))

-- a blank in front of a blank
pub said_blanks : (pre l : List ℕ) (b c : ℕ) → is_blank b ≡ true → is_blank c ≡ true → said_by (pre ++ b ∷ c ∷ l) ≡ said_by (pre ++ c ∷ l)
said_blanks pre l b c hb hc =
    said_same pre (b ∷ c ∷ l) (c ∷ l) (λ q.
    let line = cut (c ∷ l) in
    let rest = cut l in
    let after : line ≡ c ∷ rest = cut_blank c l hc in
    ap (λ (x : List ℕ). said_in (q ++ x)) (cut_blank b (c ∷ l) hb ∙ ap (λ (x : List ℕ). b ∷ x) after)
    ∙ says_same (q ++ b ∷ c ∷ rest) (q ++ c ∷ rest)
    (allowed_behind q (b ∷ c ∷ rest) (c ∷ rest) (allowed_blank b (c ∷ rest) hb))
    (tokens_blank q b (c ∷ rest) hb ∙ ap (λ (x : List (List ℕ)). tokens_of q ++ x) (tokens_blank [] c rest hc) ∙ sym (tokens_blank q c rest hc))
    ∙ sym (ap (λ (x : List ℕ). said_in (q ++ x)) after))

-- a blank at the end
pub said_end : (pre : List ℕ) (b : ℕ) → is_blank b ≡ true → said_by (pre ++ b ∷ []) ≡ said_by (pre ++ [])
said_end pre b h =
    said_same pre (b ∷ []) [] (λ q.
    ap (λ (x : List ℕ). said_in (q ++ x)) (cut_blank b [] h)
    ∙ says_same (q ++ b ∷ []) (q ++ [])
    (allowed_behind q (b ∷ []) [] (allowed_blank b [] h))
    (tokens_blank q b [] h ∙ append-nil (tokens_of q) ∙ sym (ap tokens_of (append-nil q))))

-- a blank at the beginning
pub said_begin : (l : List ℕ) (b : ℕ) → is_blank b ≡ true → said_by (b ∷ l) ≡ said_by l
said_begin l b h =
    said_is (b ∷ l)
    ∙ ap said_in (cut_blank b l h)
    ∙ says_same (b ∷ cut l) (cut l) (allowed_blank b (cut l) h) (tokens_blank [] b (cut l) h)
    ∙ sym (said_is l)
