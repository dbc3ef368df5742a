-- Rows of turns: parts of a row, contents that are alike, and freelists that are found empty.
use Rattle.std.proofs.Common.{◌≡◌, ℕ, List, [], ◌∷◌, ◌++◌, refl, ap, ◌∙◌}
use Rattle.map_types.specs.declared.attr.Shape.{Shape}
use Rattle.map_types.specs.declared.kind.DomainId.{DomainId}
use Rattle.place_words.specs.declared.free_part.FreePart.TheVariants.{FoundEmpty}
use Rattle.place_words.specs.declared.history.Part.TheVariants as parts
use Rattle.place_words.specs.Histories.{Content, in_bucket, on_freelist, in_locals, in_global, in_own, content_after}
use Rattle.place_words.specs.Traces.{Turn, on_freelist_of, found_empty, after_turn, after_turns, AreAllowed}
use Rattle.place_words.proofs.DoneLaws.{after_empty as after_empty_one}

-- Parts of a row

-- turns that are allowed one after another: the first of them are, and from what they leave on the others
pub allowed_both : (shape : Shape) (cpu : ℕ) (contents : DomainId → Content) (first second : List Turn)
    → AreAllowed shape cpu contents (first ++ second) → AreAllowed shape cpu contents first × AreAllowed shape cpu (after_turns shape cpu contents first) second
allowed_both shape cpu contents [] second allowed = (tt, allowed)
allowed_both shape cpu contents (turn ∷ first) second allowed =
    let later = allowed_both shape cpu (after_turn shape cpu contents turn) first second allowed.1 in
    ((allowed.0, later.0), later.1)

-- Contents that are alike

-- Freelists that are found empty

-- such a turn leaves what lies there
pub empty_leaves : (shape : Shape) (cpu : ℕ) (content : Content) → content_after shape cpu (parts.Free FoundEmpty) content ≡ content
empty_leaves shape cpu (in_bucket bodies) = refl
empty_leaves shape cpu (on_freelist stack) = refl
empty_leaves shape cpu (in_locals lists) = refl
empty_leaves shape cpu (in_global set) = refl
empty_leaves shape cpu (in_own set) = refl

after_empties : (shape : Shape) (cpu : ℕ) (cpus : List ℕ) (contents : DomainId → Content)
    → after_turns shape cpu contents (found_empty cpus) ≡ contents
after_empties shape cpu [] contents = refl
after_empties shape cpu (giver ∷ cpus) contents =
    after_empties shape cpu cpus (after_turn shape cpu contents (on_freelist_of giver FoundEmpty)) ∙ after_empty_one shape cpu giver contents

-- and so do many
pub after_empty : (shape : Shape) (cpu : ℕ) (contents : DomainId → Content) (cpus : List ℕ) (lock : DomainId)
    → after_turns shape cpu contents (found_empty cpus) lock ≡ contents lock
after_empty shape cpu contents cpus lock =
    ap (λ (after : DomainId → Content). after lock) (after_empties shape cpu cpus contents)
