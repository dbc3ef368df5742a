-- What changes nothing of what a text is read as: texts whose lines say the same, line by line, are read the same.
use Rattle.std.proofs.Common.{◌≡◌, ℕ, ◌+◌, Bool, true, false, cond, not, List, [], ◌∷◌, ◌++◌, map, length, filter, count_by, All, refl, sym, ap, ◌∙◌, append-nil, arith}
use Rattle.std.specs.List.{slice_split, onto_first}
use Rattle.std.proofs.lemmas.Bool.{not-true}
use Rattle.std.proofs.lemmas.List.{append_assoc}
use Rattle.std.proofs.lemmas.List.Elements.{All-cons, All-weaker}
use Rattle.std.proofs.lemmas.List.Splits.{length-slice_split, slice_split_at, slice_split_none, slice_split-cons_yes, slice_split-cons_no}
use Rattle.std.proofs.lemmas.List.Sums.{sum_by-append, AllPass-from_list_all}
use Rattle.map_script.specs.declared.script.Form.{Form}
use Rattle.map_script.specs.Lines.{Said, Line, is_line_feed, is_blank, is_nothing, said_by, numbered, lines_of, end_number}
use Rattle.map_script.specs.Reading.{version_of, read_as}
use Rattle.map_script.specs.SameLines.{in_one_line, ends_line}
use Rattle.map_script.proofs.BlankLemmas.{said_comment, said_blank, said_blanks, said_end, said_begin}

abbrev pub parts_of : List ℕ → List (List ℕ)
parts_of text = slice_split is_line_feed text

-- ---- lines that say the same have the same numbers

-- what lines say, numbered from here on
abbrev numbered_said : ℕ → List Said → List Line
numbered_said number [] = []
numbered_said number (says ∷ others) = record { number = number; says = says } ∷ numbered_said (number + 1) others

numbered-said : (number : ℕ) (lines : List (List ℕ)) → numbered number lines ≡ numbered_said number (map said_by lines)
numbered-said number [] = refl
numbered-said number (line ∷ lines) =
    ap (λ (others : List Line). record { number = number; says = said_by line } ∷ others) (numbered-said (number + 1) lines)

numbered_same : (number : ℕ) (lines others : List (List ℕ)) → map said_by lines ≡ map said_by others → numbered number lines ≡ numbered number others
numbered_same number lines others same =
    numbered-said number lines ∙ ap (numbered_said number) same ∙ sym (numbered-said number others)

lines_same : (x y : List ℕ) → map said_by (parts_of x) ≡ map said_by (parts_of y) → lines_of x ≡ lines_of y
lines_same x y same =
    ap (λ (lines : List Line). filter (λ line. not (is_nothing line.says)) lines) (numbered_same 1 (parts_of x) (parts_of y) same)

-- texts whose lines say the same, and which have as many lines, are read the same
pub read_by_lines : (form : Form) (x y : List ℕ) → map said_by (parts_of x) ≡ map said_by (parts_of y) → count_by is_line_feed x ≡ count_by is_line_feed y → read_as form x ≡ read_as form y
unfolding read_as
read_by_lines form x y same count =
    ap (λ (n : ℕ). version_of form (n + 1) (lines_of x)) count ∙ ap (version_of form (end_number y)) (lines_same x y same)

-- ---- parts that are alike stay alike behind any beginning

-- the first lines say the same behind any beginning, and the rests say the same
abbrev pub Alike : List (List ℕ) → List (List ℕ) → Type 0
Alike [] parts = ⊥
Alike (line ∷ lines) [] = ⊥
Alike (line ∷ lines) (other ∷ others) = ((pre : List ℕ) → said_by (pre ++ line) ≡ said_by (pre ++ other)) × (map said_by lines ≡ map said_by others)

pub alike_said : (lines others : List (List ℕ)) → Alike lines others → map said_by lines ≡ map said_by others
alike_said [] others h = absurd h
alike_said (line ∷ lines) [] h = absurd h
alike_said (line ∷ lines) (other ∷ others) h =
    ap (λ (says : Said). says ∷ map said_by lines) (h.0 [])
    ∙ ap (λ (says : List Said). said_by other ∷ says) h.1

-- a byte before both, be it a line feed or not
alike_cons : (feed : Bool) (byte : ℕ) (lines others : List (List ℕ)) → Alike lines others
    → Alike (cond feed ([] ∷ lines) (onto_first byte lines)) (cond feed ([] ∷ others) (onto_first byte others))
alike_cons feed byte [] others h = absurd h
alike_cons feed byte (line ∷ lines) [] h = absurd h
alike_cons true byte (line ∷ lines) (other ∷ others) h = (λ pre. refl, alike_said (line ∷ lines) (other ∷ others) h)
alike_cons false byte (line ∷ lines) (other ∷ others) h =
    (λ pre. ap said_by (sym (append_assoc pre (byte ∷ []) line)) ∙ h.0 (pre ++ byte ∷ []) ∙ ap said_by (append_assoc pre (byte ∷ []) other), h.1)

pub alike_behind : (before x y : List ℕ) → Alike (parts_of x) (parts_of y) → Alike (parts_of (before ++ x)) (parts_of (before ++ y))
alike_behind [] x y h = h
alike_behind (byte ∷ before) x y h =
    alike_cons (is_line_feed byte) byte (parts_of (before ++ x)) (parts_of (before ++ y)) (alike_behind before x y h)

-- ---- what is read

pub count-append : (x y : List ℕ) → count_by is_line_feed (x ++ y) ≡ count_by is_line_feed x + count_by is_line_feed y
count-append x y = sum_by-append (λ byte. cond (is_line_feed byte) 1 0) x y

-- texts that differ only where their parts are alike are read the same
pub read_same : (form : Form) (before x y : List ℕ) → Alike (parts_of x) (parts_of y) → count_by is_line_feed x ≡ count_by is_line_feed y → read_as form (before ++ x) ≡ read_as form (before ++ y)
read_same form before x y alike count =
    read_by_lines form (before ++ x) (before ++ y)
    (alike_said (parts_of (before ++ x)) (parts_of (before ++ y)) (alike_behind before x y alike))
    (count-append before x ∙ ap (λ (n : ℕ). count_by is_line_feed before + n) count ∙ sym (count-append before y))

-- ---- a blank among the lines

blank_is_no_feed : (byte : ℕ) → is_blank byte ≡ true → is_line_feed byte ≡ false
blank_is_no_feed byte h = grind arith

blank_parts : (b : ℕ) (rest : List ℕ) → is_blank b ≡ true → parts_of (b ∷ rest) ≡ onto_first b (parts_of rest)
blank_parts b rest h = slice_split-cons_no is_line_feed b rest (blank_is_no_feed b h)

-- a blank is no line feed more
blank_count : (b : ℕ) (rest : List ℕ) → is_blank b ≡ true → count_by is_line_feed (b ∷ rest) ≡ count_by is_line_feed rest
blank_count b rest h =
    let here : count_by is_line_feed (b ∷ []) ≡ 0 = ap (λ (feed : Bool). 0 + cond feed 1 0) (blank_is_no_feed b h) in
    let both : count_by is_line_feed (b ∷ rest) ≡ count_by is_line_feed (b ∷ []) + count_by is_line_feed rest = count-append (b ∷ []) rest in
    omega (arith, here, both)

alike_as : (lines lines' others others' : List (List ℕ)) → lines ≡ lines' → others ≡ others' → Alike lines' others' → Alike lines others
alike_as lines lines' others others' same also h = rw same (rw also h)

-- ---- one blank for another

blank_alike : (b c : ℕ) (lines : List (List ℕ)) → is_blank b ≡ true → is_blank c ≡ true → Alike (onto_first b lines) (onto_first c lines)
blank_alike b c [] hb hc = (λ pre. said_blank pre [] b c hb hc, refl)
blank_alike b c (line ∷ lines) hb hc = (λ pre. said_blank pre line b c hb hc, refl)

pub read_blank : (form : Form) (before rest : List ℕ) (b c : ℕ) → is_blank b ≡ true → is_blank c ≡ true → read_as form (before ++ b ∷ rest) ≡ read_as form (before ++ c ∷ rest)
read_blank form before rest b c hb hc =
    read_same form before (b ∷ rest) (c ∷ rest)
    (alike_as (parts_of (b ∷ rest)) (onto_first b (parts_of rest)) (parts_of (c ∷ rest)) (onto_first c (parts_of rest)) (blank_parts b rest hb) (blank_parts c rest hc)
    (blank_alike b c (parts_of rest) hb hc))
    (blank_count b rest hb ∙ sym (blank_count c rest hc))

-- ---- one blank for two

blanks_alike : (b c : ℕ) (lines : List (List ℕ)) → is_blank b ≡ true → is_blank c ≡ true → Alike (onto_first b (onto_first c lines)) (onto_first c lines)
blanks_alike b c [] hb hc = (λ pre. said_blanks pre [] b c hb hc, refl)
blanks_alike b c (line ∷ lines) hb hc = (λ pre. said_blanks pre line b c hb hc, refl)

pub read_blanks : (form : Form) (before rest : List ℕ) (b c : ℕ) → is_blank b ≡ true → is_blank c ≡ true → read_as form (before ++ b ∷ c ∷ rest) ≡ read_as form (before ++ c ∷ rest)
read_blanks form before rest b c hb hc =
    read_same form before (b ∷ c ∷ rest) (c ∷ rest)
    (alike_as (parts_of (b ∷ c ∷ rest)) (onto_first b (onto_first c (parts_of rest))) (parts_of (c ∷ rest)) (onto_first c (parts_of rest))
    (blank_parts b (c ∷ rest) hb ∙ ap (onto_first b) (blank_parts c rest hc)) (blank_parts c rest hc)
    (blanks_alike b c (parts_of rest) hb hc))
    (blank_count b (c ∷ rest) hb)

-- ---- a blank at the end of a line

-- where a line ends, its first part has no bytes
end_parts : (byte : ℕ) (rest : List ℕ) → is_line_feed byte ≡ true → parts_of (byte ∷ rest) ≡ [] ∷ parts_of rest
end_parts byte rest h = slice_split-cons_yes is_line_feed byte rest h

end_alike : (b : ℕ) (rest : List ℕ) → is_blank b ≡ true → ends_line rest ≡ true → Alike (onto_first b (parts_of rest)) (parts_of rest)
end_alike b [] hb ends = (λ pre. said_end pre b hb, refl)
end_alike b (byte ∷ rest) hb ends =
    alike_as (onto_first b (parts_of (byte ∷ rest))) ((b ∷ []) ∷ parts_of rest) (parts_of (byte ∷ rest)) ([] ∷ parts_of rest)
    (ap (onto_first b) (end_parts byte rest ends)) (end_parts byte rest ends) (λ pre. said_end pre b hb, refl)

pub read_at_end : (form : Form) (before rest : List ℕ) (b : ℕ) → is_blank b ≡ true → ends_line rest ≡ true → read_as form (before ++ b ∷ rest) ≡ read_as form (before ++ rest)
read_at_end form before rest b hb ends =
    read_same form before (b ∷ rest) rest
    (alike_as (parts_of (b ∷ rest)) (onto_first b (parts_of rest)) (parts_of rest) (parts_of rest) (blank_parts b rest hb) refl (end_alike b rest hb ends))
    (blank_count b rest hb)

-- ---- a blank at the beginning of a line

abbrev IsSome : List (List ℕ) → Type 0
IsSome [] = ⊥
IsSome (line ∷ lines) = Unit {0}

some_cons : (feed : Bool) (byte : ℕ) (lines : List (List ℕ)) → IsSome (cond feed ([] ∷ lines) (onto_first byte lines))
some_cons true byte lines = tt
some_cons false byte [] = tt
some_cons false byte (line ∷ lines) = tt

some_parts : (text : List ℕ) → IsSome (parts_of text)
some_parts [] = tt
some_parts (byte ∷ text) = some_cons (is_line_feed byte) byte (parts_of text)

begin_said : (b : ℕ) (lines : List (List ℕ)) → is_blank b ≡ true → IsSome lines → map said_by (onto_first b lines) ≡ map said_by lines
begin_said b [] hb some = absurd some
begin_said b (line ∷ lines) hb some = ap (λ (says : Said). says ∷ map said_by lines) (said_begin line b hb)

-- a blank at the beginning changes nothing of what the lines say
blank_said : (b : ℕ) (rest : List ℕ) → is_blank b ≡ true → map said_by (parts_of (b ∷ rest)) ≡ map said_by (parts_of rest)
blank_said b rest hb =
    ap (λ (lines : List (List ℕ)). map said_by lines) (blank_parts b rest hb) ∙ begin_said b (parts_of rest) hb (some_parts rest)

pub read_first : (form : Form) (rest : List ℕ) (b : ℕ) → is_blank b ≡ true → read_as form (b ∷ rest) ≡ read_as form rest
read_first form rest b hb = read_by_lines form (b ∷ rest) rest (blank_said b rest hb) (blank_count b rest hb)

pub read_at_begin : (form : Form) (before rest : List ℕ) (b : ℕ) → is_blank b ≡ true → read_as form (before ++ 10 ∷ b ∷ rest) ≡ read_as form (before ++ 10 ∷ rest)
read_at_begin form before rest b hb =
    read_same form before (10 ∷ b ∷ rest) (10 ∷ rest)
    (alike_as (parts_of (10 ∷ b ∷ rest)) ([] ∷ parts_of (b ∷ rest)) (parts_of (10 ∷ rest)) ([] ∷ parts_of rest) (end_parts 10 (b ∷ rest) refl) (end_parts 10 rest refl)
    (λ pre. refl, blank_said b rest hb))
    (count-append (10 ∷ []) (b ∷ rest) ∙ ap (λ (n : ℕ). count_by is_line_feed (10 ∷ []) + n) (blank_count b rest hb) ∙ sym (count-append (10 ∷ []) rest))

-- ---- a comment

comment_free : (comment : List ℕ) → in_one_line comment ≡ true → All (λ byte. is_line_feed byte ≡ false) (35 ∷ comment)
comment_free comment h =
    All-cons (λ byte. is_line_feed byte ≡ false) 35 comment refl
    (All-weaker (λ byte. not (is_line_feed byte) ≡ true) (λ byte. is_line_feed byte ≡ false) (λ byte no. not-true (is_line_feed byte) no) comment
    (AllPass-from_list_all (λ byte. not (is_line_feed byte)) comment h))

comment_alike : (comment rest : List ℕ) → in_one_line comment ≡ true → ends_line rest ≡ true → Alike (parts_of (35 ∷ (comment ++ rest))) (parts_of rest)
comment_alike comment [] one ends =
    alike_as (parts_of (35 ∷ (comment ++ []))) ((35 ∷ comment) ∷ []) (parts_of []) ([] ∷ [])
    (ap parts_of (append-nil (35 ∷ comment)) ∙ slice_split_none is_line_feed (35 ∷ comment) (comment_free comment one)) refl
    (λ pre. said_comment pre comment, refl)
comment_alike comment (byte ∷ rest) one ends =
    alike_as (parts_of (35 ∷ (comment ++ byte ∷ rest))) ((35 ∷ comment) ∷ parts_of rest) (parts_of (byte ∷ rest)) ([] ∷ parts_of rest)
    (slice_split_at is_line_feed (35 ∷ comment) byte rest (comment_free comment one) ends) (end_parts byte rest ends)
    (λ pre. said_comment pre comment, refl)

-- a comment has no line feed
comment_count : (comment : List ℕ) → in_one_line comment ≡ true → count_by is_line_feed (35 ∷ comment) ≡ 0
comment_count comment one =
    let uncut = ap (λ (parts : List (List ℕ)). length parts) (slice_split_none is_line_feed (35 ∷ comment) (comment_free comment one)) in
    omega (arith, uncut, length-slice_split is_line_feed (35 ∷ comment))

pub read_comment : (form : Form) (before comment rest : List ℕ) → in_one_line comment ≡ true → ends_line rest ≡ true → read_as form (before ++ 35 ∷ (comment ++ rest)) ≡ read_as form (before ++ rest)
read_comment form before comment rest one ends =
    let both : count_by is_line_feed (35 ∷ (comment ++ rest)) ≡ count_by is_line_feed (35 ∷ comment) + count_by is_line_feed rest = count-append (35 ∷ comment) rest in
    read_same form before (35 ∷ (comment ++ rest)) rest (comment_alike comment rest one ends) (omega (arith, both, comment_count comment one))
