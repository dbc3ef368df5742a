-- Any number of sections, each known by its first line, with what was found so far.
use Rattle.std.proofs.Common.{◌≡◌, ℕ, zero, suc, ◌≤◌, List, [], ◌∷◌, ◌++◌, length, map, Option, Some, None, Ok, Err, refl, sym, ap, ◌∙◌, arith, append_assoc}
use Rattle.std.proofs.lemmas.List.{append-nil}
use Rattle.record_reading.specs.Sections.{Line, Section, go_on, told, known_by, next_ones, joined_on, at_most, any_number}
use Rattle.record_reading.proofs.LoopLemmas.{Outcome, behind_these}

-- no section gives lines back
abbrev pub Shrinks : {H B : Type 0} → (H → Section B) → Type 0
Shrinks {H} {B} body = (h : H) (lines : List Line) (b : B) (rest : List Line) → body h lines ≡ Ok (b, rest) → length rest ≤ length lines

module _ {S H B : Type 0} (head : S → Line → Option H) (body : H → Section B) (next : S → H → S) (shrinks : Shrinks body) where
  abbrev Found : Type 0
  Found = List (H × B)

  abbrev go : ℕ → S → Section Found
  go most s = at_most most head body next s

  -- what stands behind a first line that is known, or isn't
  abbrev known : Option H → Line → List Line → Outcome (Option (H × B))
  known o line lines = known_by o body line lines

  abbrev on : ℕ → S → Outcome (Option (H × B)) → Outcome Found
  on most s here = go_on (go_on here (λ a rest. go_on (next_ones (go most) next s a rest) (λ b left. Ok ((a, b), left)))) (λ p rest. Ok (joined_on p, rest))

  abbrev before : H → B → Outcome Found → Outcome Found
  before h b left = go_on left (λ more rest. Ok ((h, b) ∷ more, rest))

  on_none : (most : ℕ) (s : S) (line : Line) (lines : List Line) → on most s (known None line lines) ≡ Ok ([], line ∷ lines)
  unfolding go_on known_by
  on_none most s line lines = refl

  on_fails : (most : ℕ) (s : S) (h : H) (line : Line) (lines rest : List Line) → body h lines ≡ Err rest → on most s (known (Some h) line lines) ≡ Err rest
  unfolding go_on known_by
  on_fails most s h line lines rest e = rw e refl

  on_more : (most : ℕ) (s : S) (h : H) (line : Line) (lines : List Line) (b : B) (rest : List Line) → body h lines ≡ Ok (b, rest) → on most s (known (Some h) line lines) ≡ before h b (go most (next s h) rest)
  unfolding go_on known_by
  on_more most s h line lines b rest e = rw e (by (go most (next s h) rest))
    where
      by : (o : Outcome Found) → go_on (go_on o (λ c left. Ok ((Some (h, b), c), left))) (λ (p : Option (H × B) × Found) left. Ok (joined_on p, left)) ≡ before h b o
      by (Ok (more, left)) = refl
      by (Err left) = refl

  none_left : (most : ℕ) (s : S) → go most s [] ≡ Ok ([], [])
  unfolding go_on
  none_left zero s = refl
  none_left (suc most) s = refl

  -- where there is room for each line, it doesn't matter for how many more there is
  enough : (most more : ℕ) (s : S) (lines : List Line) → length lines ≤ most → length lines ≤ more → go most s lines ≡ go more s lines
  enough most more s [] few also = none_left most s ∙ sym (none_left more s)
  enough zero more s (line ∷ lines) few also = absurd (omega arith)
  enough (suc most) zero s (line ∷ lines) few also = absurd (omega arith)
  enough (suc most) (suc more) s (line ∷ lines) few also =
      by (head s line) (λ h b rest e. enough most more (next s h) rest (omega (arith, shrinks h lines b rest e)) (omega (arith, shrinks h lines b rest e)))
    where
      by : (o : Option H) → ((h : H) (b : B) (rest : List Line) → body h lines ≡ Ok (b, rest) → go most (next s h) rest ≡ go more (next s h) rest) → on most s (known o line lines) ≡ on more s (known o line lines)
      by None same = on_none most s line lines ∙ sym (on_none more s line lines)
      by (Some h) same = by_body (body h lines) refl
        where
          by_body : (r : Outcome B) → body h lines ≡ r → on most s (known (Some h) line lines) ≡ on more s (known (Some h) line lines)
          by_body (Ok (b, rest)) e = on_more most s h line lines b rest e ∙ ap (before h b) (same h b rest e) ∙ sym (on_more more s h line lines b rest e)
          by_body (Err rest) e = on_fails most s h line lines rest e ∙ sym (on_fails more s h line lines rest e)

  abbrev all : S → Section Found
  all s = any_number head body next s

  pub any_end : (s : S) (lines : List Line) → lines ≡ [] → all s lines ≡ Ok ([], lines)
  any_end s lines is = ap (all s) is ∙ none_left 0 s ∙ ap (λ (l : List Line). Ok ([], l)) (sym is)

  pub any_stop : (s : S) (lines : List Line) (line : Line) (behind : List Line) → lines ≡ line ∷ behind → head s line ≡ None → all s lines ≡ Ok ([], lines)
  any_stop s lines line behind is h =
      ap (all s) is ∙ ap (λ o. on (length behind) s (known o line behind)) h ∙ on_none (length behind) s line behind ∙ ap (λ (l : List Line). Ok ([], l)) (sym is)

  pub any_fails : (s : S) (lines : List Line) (line : Line) (behind : List Line) → lines ≡ line ∷ behind → (h : H) → head s line ≡ Some h → (rest : List Line) → body h behind ≡ Err rest → all s lines ≡ Err rest
  any_fails s lines line behind is h known_is rest e =
      ap (all s) is ∙ ap (λ o. on (length behind) s (known o line behind)) known_is ∙ on_fails (length behind) s h line behind rest e

  pub any_more : (s : S) (lines : List Line) (line : Line) (behind : List Line) → lines ≡ line ∷ behind → (h : H) → head s line ≡ Some h → (b : B) (rest : List Line) → body h behind ≡ Ok (b, rest) → all s lines ≡ before h b (all (next s h) rest)
  any_more s lines line behind is h known_is b rest e =
      ap (all s) is ∙ ap (λ o. on (length behind) s (known o line behind)) known_is ∙ on_more (length behind) s h line behind b rest e
      ∙ ap (before h b) (enough (length behind) (length rest) (next s h) rest (shrinks h behind b rest e) (omega arith))

  -- ---- what is made of each of them

  module _ {C : Type 0} (make : H × B → C) where
    abbrev pub all_made : S → Section (List C)
    all_made s = told (map make) (all s)

    pub record AnySoFar (first now : S) (old new : List Line) (found : List C) : Type 0 where
      pub so_far : all_made first old ≡ behind_these found (all_made now new)

    nothing_before : (left : Outcome (List C)) → left ≡ behind_these [] left
    unfolding go_on
    nothing_before (Ok (more, rest)) = refl
    nothing_before (Err rest) = refl

    one_before : (found : List C) (h : H) (b : B) (left : Outcome Found) → behind_these found (go_on (before h b left) (λ a rest. Ok (map make a, rest))) ≡ behind_these (found ++ make (h, b) ∷ []) (go_on left (λ a rest. Ok (map make a, rest)))
    unfolding go_on
    one_before found h b (Ok (more, rest)) = ap (λ (l : List C). Ok (l, rest)) (sym (append_assoc found (make (h, b) ∷ []) (map make more)))
    one_before found h b (Err rest) = refl

    pub begin : (s now : S) (old : List Line) (found : List C) → now ≡ s → found ≡ [] → AnySoFar s now old old found
    begin s now old found same none = record { so_far = nothing_before (all_made s old) ∙ (λ i. behind_these (sym none i) (all_made (sym same i) old)) }

    pub more : {first now : S} {old new : List Line} {found : List C} → AnySoFar first now old new found → (line : Line) (behind : List Line) → new ≡ line ∷ behind → (h : H) → head now line ≡ Some h → (b : B) (rest : List Line) → body h behind ≡ Ok (b, rest)
        → AnySoFar first (next now h) old rest (found ++ make (h, b) ∷ [])
    more {first} {now} {old} {new} {found} so line behind is h known_is b rest e =
        record { so_far = so.so_far ∙ ap (λ (o : Outcome Found). behind_these found (go_on o (λ a left. Ok (map make a, left)))) (any_more now new line behind is h known_is b rest e) ∙ one_before found h b (all (next now h) rest) }

    pub fails : {first now : S} {old new : List Line} {found : List C} → AnySoFar first now old new found → (line : Line) (behind : List Line) → new ≡ line ∷ behind → (h : H) → head now line ≡ Some h → (rest : List Line) → body h behind ≡ Err rest
        → all_made first old ≡ Err rest
    unfolding go_on
    fails {first} {now} {old} {new} {found} so line behind is h known_is rest e =
        so.so_far ∙ ap (λ (o : Outcome Found). behind_these found (go_on o (λ a left. Ok (map make a, left)))) (any_fails now new line behind is h known_is rest e)

    ends : {first now : S} {old new : List Line} {found : List C} → AnySoFar first now old new found → all now new ≡ Ok ([], new) → all_made first old ≡ Ok (found, new)
    unfolding go_on
    ends {first} {now} {old} {new} {found} so e =
        so.so_far ∙ ap (λ (o : Outcome Found). behind_these found (go_on o (λ a left. Ok (map make a, left)))) e ∙ ap (λ (l : List C). Ok (l, new)) (append-nil found)

    pub stops : {first now : S} {old new : List Line} {found : List C} → AnySoFar first now old new found → (line : Line) (behind : List Line) → new ≡ line ∷ behind → head now line ≡ None → all_made first old ≡ Ok (found, new)
    stops {first} {now} {old} {new} {found} so line behind is h = ends so (any_stop now new line behind is h)

    pub ended : {first now : S} {old new : List Line} {found : List C} → AnySoFar first now old new found → new ≡ [] → all_made first old ≡ Ok (found, new)
    ended {first} {now} {old} {new} {found} so is = ends so (any_end now new is)
