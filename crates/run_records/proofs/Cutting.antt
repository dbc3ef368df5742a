-- Strands that are cut into pieces, one after another.
use Rattle.std.proofs.Common.{◌≡◌, ℕ, ◌+◌, ◌<◌, ◌≤◌, List, [], ◌∷◌, ◌++◌, length, take, drop, get_or, refl, ap, sym, ◌∙◌, append-nil, append_assoc}
use Rattle.std.proofs.lemmas.List.{drop_more, drop_all}
use Rattle.place_words.specs.declared.history.Strand.{Strand}
use Rattle.run_records.specs.declared.pieces.Piece.{Piece}
use Rattle.run_records.specs.Parts.{behind_steps, cpus_of, cut_strands, first_steps, left_in}

pub left_none : (strands : List Strand) → left_in 0 strands ≡ strands
left_none [] = refl
left_none (strand ∷ strands) = refl

-- One piece more

pub cut_more : (cpus : ℕ) (pieces : List Piece) (n : ℕ) (d : Piece) (strands left after : List Strand) (part : Strand) (parts more : List Strand) → n < length pieces
    → part ≡ record { phase = (get_or pieces n d).phase; cpus = cpus_of cpus (get_or pieces n d).cpu; steps = take (get_or pieces n d).count (first_steps left) } → after ≡ behind_steps (get_or pieces n d).count left
    → more ≡ parts ++ part ∷ [] → parts ++ cut_strands cpus (drop n pieces) left ≡ cut_strands cpus pieces strands → more ++ cut_strands cpus (drop (n + 1) pieces) after ≡ cut_strands cpus pieces strands
cut_more cpus pieces n d strands left after part parts more within part_is after_is more_is so_far =
    let piece : Piece = get_or pieces n d in
    (λ i. more_is i ++ cut_strands cpus (drop (n + 1) pieces) (after_is i))
    ∙ append_assoc parts (part ∷ []) (cut_strands cpus (drop (n + 1) pieces) (behind_steps piece.count left))
    ∙ ap (λ (s : Strand). parts ++ s ∷ cut_strands cpus (drop (n + 1) pieces) (behind_steps piece.count left)) part_is
    ∙ ap (λ (l : List Piece). parts ++ cut_strands cpus l left) (sym (drop_more pieces n d within))
    ∙ so_far

pub cut_done : (cpus : ℕ) (pieces : List Piece) (n : ℕ) (strands left parts : List Strand) → length pieces ≤ n → parts ++ cut_strands cpus (drop n pieces) left ≡ cut_strands cpus pieces strands → parts ≡ cut_strands cpus pieces strands
cut_done cpus pieces n strands left parts past so_far =
    sym (append-nil parts) ∙ ap (λ (l : List Piece). parts ++ cut_strands cpus l left) (sym (drop_all n pieces past)) ∙ so_far
