-- Parts with zeros behind them, field by field.
use Rattle.std.proofs.Common.{◌≡◌, ℕ, suc, zero, ◌-◌, ◌*◌, ◌≤◌, ◌==◌, Bool, true, false, List, [], ◌∷◌, ◌++◌, length, take, drop, refl, sym, ap, ◌∙◌, arith, append_assoc, length-take}
use Rattle.std.specs.Prelude.{bytes_eq}
use Rattle.std.specs.List.{list_all}
use Rattle.std.proofs.Math.Seq.{take-append_seam, drop-append_seam}
use Rattle.std.proofs.lemmas.Bool.{and_parts, eqb-true}
use Rattle.std.proofs.lemmas.List.{take-append-drop, take-take, length-replicate, length-append, length-drop}
use Rattle.std.proofs.lemmas.Slice.Eq.{bytes_eq-Decides}
use Rattle.map_types.specs.Parts.{fields_of, values_in, zeros}
use Rattle.map_types.specs.ValueLen.{round8}
use Rattle.map_types.proofs.RoundLemmas.{rounded_up}

abbrev pub is_zero : ℕ → Bool
is_zero b = b == 0

-- whether so many fields have zeros behind their parts
abbrev pub are_padded : ℕ → ℕ → List ℕ → Bool
are_padded parts size fields = bytes_eq (fields_of (values_in parts size fields)) fields

same_test : (a b c d : List ℕ) → (a ≡ b → c ≡ d) → (c ≡ d → a ≡ b) → bytes_eq a b ≡ bytes_eq c d
same_test a b c d to from = by (bytes_eq a b) (bytes_eq c d) refl refl
  where
    by : (p q : Bool) → bytes_eq a b ≡ p → bytes_eq c d ≡ q → p ≡ q
    by true true one two = refl
    by false false one two = refl
    by true false one two = sym ((bytes_eq-Decides c d).1 (to ((bytes_eq-Decides a b).0 one))) ∙ two
    by false true one two = sym one ∙ (bytes_eq-Decides a b).1 (from ((bytes_eq-Decides c d).0 two))

fails : (a b : List ℕ) → (a ≡ b → ⊥) → bytes_eq a b ≡ false
fails a b other = by (bytes_eq a b) refl
  where
    by : (p : Bool) → bytes_eq a b ≡ p → p ≡ false
    by false is = refl
    by true is = absurd (other ((bytes_eq-Decides a b).0 is))

all_zeros : (bytes : List ℕ) → list_all is_zero bytes ≡ true → bytes ≡ zeros (length bytes)
all_zeros [] all = refl
all_zeros (b ∷ bytes) all =
    let parts = and_parts (b == 0) (list_all is_zero bytes) all in
    let first : b ≡ 0 = eqb-true b 0 parts.0 in
    let more = all_zeros bytes parts.1 in
    ap (λ c. c ∷ bytes) first ∙ ap (λ t. 0 ∷ t) more

zeros_all : (n : ℕ) → list_all is_zero (zeros n) ≡ true
zeros_all zero = refl
zeros_all (suc n) = zeros_all n

more_of : (part pad zeros back rest : List ℕ) → pad ≡ zeros → bytes_eq ((part ++ zeros) ++ rest) ((part ++ pad) ++ back) ≡ bytes_eq rest back
more_of part pad zeros back rest is =
    let same : ◌≡◌ {A = List ℕ} ((part ++ pad) ++ back) ((part ++ zeros) ++ back) = ap (λ p. (part ++ p) ++ back) is in
    same_test ((part ++ zeros) ++ rest) ((part ++ pad) ++ back) rest back
    (λ e. sym (drop-append_seam (part ++ zeros) rest) ∙ ap (drop (length (part ++ zeros))) (e ∙ same) ∙ drop-append_seam (part ++ zeros) back)
    (λ e. ap (λ r. (part ++ zeros) ++ r) e ∙ sym same)

other_of : (part pad zeros back rest : List ℕ) → length zeros ≡ length pad → list_all is_zero zeros ≡ true → list_all is_zero pad ≡ false → bytes_eq ((part ++ zeros) ++ rest) ((part ++ pad) ++ back) ≡ false
other_of part pad zeros back rest sized all other =
    fails ((part ++ zeros) ++ rest) ((part ++ pad) ++ back)
    (λ e.
    let behind : zeros ++ rest ≡ pad ++ back =
    sym (drop-append_seam part (zeros ++ rest)) ∙ ap (drop (length part)) (sym (append_assoc part zeros rest) ∙ e ∙ append_assoc part pad back) ∙ drop-append_seam part (pad ++ back) in
    let same : zeros ≡ pad =
    sym (take-append_seam zeros rest) ∙ ap (take (length zeros)) behind ∙ ap (λ n. take n (pad ++ back)) sized ∙ take-append_seam pad back in
    absurd (cc (sym all ∙ ap (list_all is_zero) same ∙ other)))

-- the part, what stands behind it in its field, and how much that is
record IsField (size whole : ℕ) (text : List ℕ) : Type 0 where
  pub falls : text ≡ (take size text ++ drop size (take whole text)) ++ drop whole text
  pub part : length (take size text) ≡ size
  pub pad : length (drop size (take whole text)) ≡ whole - size

is_field : (size whole : ℕ) (text : List ℕ) → size ≤ whole → whole ≤ length text → IsField size whole text
is_field size whole text within long =
    let front = take whole text in
    let same : take size front ≡ take size text = take-take size whole text within in
    let joined : take size text ++ drop size front ≡ front = ap (λ p. p ++ drop size front) (sym same) ∙ take-append-drop size front in
    let sized : length (take size text) ≡ size = omega (arith, length-take size text) in
    record {
      falls = sym (take-append-drop whole text) ∙ ap (λ f. f ++ drop whole text) (sym joined);
      part = sized;
      pad = omega (arith, ap length joined, length-append (take size text) (drop size front), length-take whole text, sized);
    }

module _ (size parts : ℕ) (text : List ℕ) (long : round8 size ≤ length text) where
  one_field : IsField size (round8 size) text
  one_field = is_field size (round8 size) text (rounded_up size 8) long

  by_field : are_padded (suc parts) size text ≡ bytes_eq ((take size text ++ zeros (round8 size - size)) ++ fields_of (values_in parts size (drop (round8 size) text))) ((take size text ++ drop size (take (round8 size) text)) ++ drop (round8 size) text)
  by_field =
      ap (λ n. bytes_eq ((take size text ++ zeros (round8 n - n)) ++ fields_of (values_in parts size (drop (round8 size) text))) text) one_field.part
      ∙ ap (bytes_eq ((take size text ++ zeros (round8 size - size)) ++ fields_of (values_in parts size (drop (round8 size) text)))) one_field.falls

  pub padded_more : list_all is_zero (drop size (take (round8 size) text)) ≡ true → are_padded (suc parts) size text ≡ are_padded parts size (drop (round8 size) text)
  padded_more all =
      by_field
      ∙ more_of (take size text) (drop size (take (round8 size) text)) (zeros (round8 size - size)) (drop (round8 size) text) (fields_of (values_in parts size (drop (round8 size) text)))
      (all_zeros (drop size (take (round8 size) text)) all ∙ ap zeros one_field.pad)

  pub padded_other : list_all is_zero (drop size (take (round8 size) text)) ≡ false → are_padded (suc parts) size text ≡ false
  padded_other other =
      by_field
      ∙ other_of (take size text) (drop size (take (round8 size) text)) (zeros (round8 size - size)) (drop (round8 size) text) (fields_of (values_in parts size (drop (round8 size) text)))
      (length-replicate (round8 size - size) 0 ∙ sym one_field.pad) (zeros_all (round8 size - size)) other

-- how many bytes are left of so many fields
pub fields_left : (parts whole long : ℕ) → long ≡ suc parts * whole → (whole ≤ long) × (long - whole ≡ parts * whole)
fields_left parts whole long is = (omega (arith, is), omega (arith, is))

-- ---- what a loop knows

pub record IsPaddedSoFar (parts left size : ℕ) (fields rest : List ℕ) : Type 0 where
  pub long : length rest ≡ left * round8 size
  pub so_far : are_padded parts size fields ≡ are_padded left size rest

pub field_more : (parts full left size : ℕ) (fields rest : List ℕ) → IsPaddedSoFar parts full size fields rest → full ≡ suc left → list_all is_zero (drop size (take (round8 size) rest)) ≡ true → IsPaddedSoFar parts left size fields (drop (round8 size) rest)
field_more parts full left size fields rest so_far is all =
    let fits = fields_left left (round8 size) (length rest) (so_far.long ∙ ap (λ n. n * round8 size) is) in
    record {
      long = length-drop (round8 size) rest ∙ fits.1;
      so_far = so_far.so_far ∙ ap (λ n. are_padded n size rest) is ∙ padded_more size left rest fits.0 all;
    }

pub field_other : (parts full left size : ℕ) (fields rest : List ℕ) → IsPaddedSoFar parts full size fields rest → full ≡ suc left → list_all is_zero (drop size (take (round8 size) rest)) ≡ false → are_padded parts size fields ≡ false
field_other parts full left size fields rest so_far is other =
    let fits = fields_left left (round8 size) (length rest) (so_far.long ∙ ap (λ n. n * round8 size) is) in
    so_far.so_far ∙ ap (λ n. are_padded n size rest) is ∙ padded_other size left rest fits.0 other

no_fields : (rest : List ℕ) → length rest ≡ 0 → bytes_eq [] rest ≡ true
no_fields [] none = refl
no_fields (b ∷ rest) none = absurd (omega arith)

pub fields_done : (parts full size : ℕ) (fields rest : List ℕ) → IsPaddedSoFar parts full size fields rest → full ≡ 0 → are_padded parts size fields ≡ true
fields_done parts full size fields rest so_far is =
    so_far.so_far ∙ ap (λ n. are_padded n size rest) is ∙ no_fields rest (so_far.long ∙ ap (λ n. n * round8 size) is ∙ omega arith)
