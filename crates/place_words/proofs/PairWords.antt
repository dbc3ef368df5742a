-- The bytes of a pair, word by word.
use Rattle.std.proofs.Common.{◌≡◌, ◌≤◌, ◌+◌, ℕ, List, ◌++◌, length, take, drop, ap, ◌∙◌, sym, append_assoc, arith, length-drop}
use Rattle.std.proofs.lemmas.List.{take-append-drop, take_at, take_all, drop_at, drop-drop}

-- so many of the bytes from a place on, where there are no more, are all of them
pub all_from : (start n : ℕ) (bytes part : List ℕ) → length bytes ≤ start + n → part ≡ take n (drop start bytes) → part ≡ drop start bytes
all_from start n bytes part few same =
    same ∙ take_all n (drop start bytes) (omega (arith, length-drop start bytes))

-- two words of a key are the key
joined : (key first second : List ℕ) → first ≡ take 8 key → second ≡ drop 8 key → first ++ second ≡ key
joined key first second front back =
    ap (λ (word : List ℕ). word ++ second) front ∙ ap (λ (word : List ℕ). take 8 key ++ word) back ∙ take-append-drop 8 key

-- and so whatever stands behind them
before_rest : (key first second rest : List ℕ) → first ≡ take 8 key → second ≡ drop 8 key → first ++ (second ++ rest) ≡ key ++ rest
before_rest key first second rest front back =
    sym (append_assoc first second rest) ∙ ap (λ (bytes : List ℕ). bytes ++ rest) (joined key first second front back)

-- so a key of two words stands in front
pub key_of_words : (key first second rest : List ℕ) → length key ≡ 16 → first ≡ take 8 key → second ≡ drop 8 key → take 16 (first ++ (second ++ rest)) ≡ key
key_of_words key first second rest long front back =
    ap (take 16) (before_rest key first second rest front back) ∙ take_at key rest 16 long

-- and a value of a word behind it
pub value_of_words : (key value first second third rest : List ℕ) → length key ≡ 16 → length value ≡ 8 → first ≡ take 8 key → second ≡ drop 8 key → third ≡ value → take 8 (drop 16 (first ++ (second ++ (third ++ rest)))) ≡ value
value_of_words key value first second third rest long short front back same =
    ap (λ (bytes : List ℕ). take 8 (drop 16 bytes)) (before_rest key first second (third ++ rest) front back) ∙ ap (take 8) (drop_at key (third ++ rest) 16 long) ∙ ap (λ (word : List ℕ). take 8 (word ++ rest)) same ∙ take_at value rest 8 short

-- bytes are their words, one behind another
pub words_of_bytes : (bytes first second third last : List ℕ) → first ≡ take 8 bytes → second ≡ take 8 (drop 8 bytes) → third ≡ take 8 (drop 16 bytes) → last ≡ drop 24 bytes → first ++ (second ++ (third ++ last)) ≡ bytes
words_of_bytes bytes first second third last one two three four =
    let behind_two : third ++ last ≡ drop 16 bytes =
    ap (λ (word : List ℕ). word ++ last) three ∙ ap (λ (word : List ℕ). take 8 (drop 16 bytes) ++ word) (four ∙ sym (drop-drop 8 16 bytes)) ∙ take-append-drop 8 (drop 16 bytes) in
    let behind_one : second ++ (third ++ last) ≡ drop 8 bytes =
    ap (λ (word : List ℕ). word ++ (third ++ last)) two ∙ ap (λ (word : List ℕ). take 8 (drop 8 bytes) ++ word) (behind_two ∙ sym (drop-drop 8 8 bytes)) ∙ take-append-drop 8 (drop 8 bytes) in
    ap (λ (word : List ℕ). word ++ (second ++ (third ++ last))) one ∙ ap (λ (word : List ℕ). take 8 bytes ++ word) behind_one ∙ take-append-drop 8 bytes
