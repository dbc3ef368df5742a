-- The calls of a map that doesn't evict whose turns of freelists are made inside a bucket's turn: a removal, and an update that finds the
-- map full.
use Rattle.std.proofs.Common.{◌≡◌, ℕ, suc, ◌+◌, ◌<◌, true, false, List, [], ◌∷◌, ◌++◌, length, map, None, refl, ap, ◌∙◌, sym, subst, arith}
use Rattle.std.proofs.lemmas.Bool.{lt-ltb}
use Rattle.std.proofs.lemmas.List.{append_assoc}
use Rattle.map_types.specs.declared.attr.Shape.{Shape}
use Rattle.map_types.specs.declared.kind.DomainId.{DomainId}
use Rattle.map_types.specs.declared.kind.DomainId.TheVariants.{Bucket, Freelist}
use Rattle.map_types.specs.Kind.{is_lru}
use Rattle.map_types.specs.Shape.{HasBounds}
use Rattle.map_types.specs.Stored.{Stored}
use Rattle.place_words.specs.declared.bucket_part.BucketPart.{BucketPart}
use Rattle.place_words.specs.declared.free_part.FreePart.TheVariants.{Pushed, FoundEmpty}
use Rattle.place_words.specs.declared.history.Part.TheVariants as parts
use Rattle.place_words.specs.Bodies.{numbers}
use Rattle.place_words.specs.Buckets.{bucket_after}
use Rattle.place_words.specs.Freelists.{AllowsOnFreelist}
use Rattle.place_words.specs.Histories.{Content, in_bucket, content_after}
use Rattle.place_words.specs.Locks.{is_lock}
use Rattle.place_words.specs.PlainTraces.{found_empty}
use Rattle.place_words.specs.Turns.{Turn, on_lock, on_freelist_of, after_turn, after_turns, AreAllowed}
use Rattle.place_words.proofs.LockLemmas.{same_lock}
use Rattle.place_words.proofs.PlacedContents.{after_both}
use Rattle.place_words.proofs.Settled.{turned_here, turned_elsewhere}
use Rattle.place_words.specs.declared.step.Step.{Step}
use Rattle.place_words.specs.declared.step.Step.TheVariants as steps
use Rattle.place_words.specs.State.{State}
use Rattle.place_words.specs.Interleaving.{Drawn, Event, does, is_inner, part_steps, seen_by, lists_in, interleaved, AreEnabled}
use Rattle.core_runs.proofs.Nests.{stamped, AreFrom, from_less, AreBeside, AreOfRank, drawn, nest, begins, begun_first, HasBegun, begun_next, nest_goes, nest_ends}
use Rattle.core_runs.proofs.OwnNest.{put_back}
use Rattle.core_runs.proofs.PlainGoes.{Goes, stamped_both, length_both, pushing, left_of, AreThere, pushing_beside, pushing_runs}
use Rattle.core_runs.proofs.PlainRuns.{core_lists, tied_alike, then_alike, on_stack, AreCpus, freelist_there, bucket_lists}
use Rattle.core_runs.proofs.Tied.{IsTied, with_lists, lists_here, lists_else, take_tied, give_same}

pub allowed_parts : (shape : Shape) (cpu : ℕ) (contents : DomainId → Content) (xs ys : List Turn) → AreAllowed shape cpu contents (xs ++ ys) → AreAllowed shape cpu contents xs × AreAllowed shape cpu (after_turns shape cpu contents xs) ys
allowed_parts shape cpu contents [] ys allowed = (tt, allowed)
allowed_parts shape cpu contents (x ∷ xs) ys allowed = let rest = allowed_parts shape cpu (after_turn shape cpu contents x) xs ys allowed.1 in ((allowed.0, rest.0), rest.1)

pushing_ranks : (cpu : ℕ) (es : List ℕ) → AreOfRank 4 (pushing cpu es)
pushing_ranks cpu [] = tt
pushing_ranks cpu (e ∷ es) = (refl, pushing_ranks cpu es)

pushing_length : (cpu : ℕ) (es : List ℕ) → length (pushing cpu es) ≡ length es
pushing_length cpu [] = refl
pushing_length cpu (e ∷ es) = ap suc (pushing_length cpu es)

-- the turns of freelists leave the buckets
pub pushing_else : (shape : Shape) (cpu bucket : ℕ) (es : List ℕ) (contents : DomainId → Content) → after_turns shape cpu contents (pushing cpu es) (Bucket bucket) ≡ contents (Bucket bucket)
pushing_else shape cpu bucket [] contents = refl
pushing_else shape cpu bucket (e ∷ es) contents = pushing_else shape cpu bucket es _ ∙ turned_elsewhere shape cpu contents (on_freelist_of cpu (Pushed e)) (Bucket bucket) refl

module _ {shape : Shape} (bounds : HasBounds shape) (plain : is_lru shape.kind ≡ false) {cpu : ℕ} (within : cpu < shape.cpus) where
  -- A turn of a bucket that takes elements out, each pushed inside it.
  pub goes_removing : (contents : DomainId → Content) (Known : ℕ → ℕ → Type 0) (bucket : ℕ) (part : BucketPart) (es : List ℕ) (bodies : List Stored) → bucket < shape.buckets → is_inner (parts.Bucket part) ≡ false
      → part_steps shape cpu (Bucket bucket) None (parts.Bucket part) ≡ [] → seen_by (parts.Bucket part) ≡ []
      → contents (Bucket bucket) ≡ in_bucket bodies → AreAllowed shape cpu contents (pushing cpu es) → AreThere es (numbers bodies) → numbers (bucket_after shape cpu part bodies) ≡ left_of es (numbers bodies)
      → Goes shape cpu contents Known (pushing cpu es ++ on_lock (Bucket bucket) (parts.Bucket part) ∷ []) Known
  unfolding AreEnabled
  goes_removing contents Known bucket part es bodies less outer quiet blind lies allowed there_all left = record {
    run = λ s n call later tied from more.
        let last : ℕ = n + length es in
        let turn : Turn = on_lock (Bucket bucket) (parts.Bucket part) in
        let between : DomainId → Content = after_turns shape cpu contents (pushing cpu es) in
        let now : DomainId → Content = after_turn shape cpu between turn in
        let is : is_lock shape (Bucket bucket) ≡ true = lt-ltb bucket shape.buckets less in
        let long = pushing_length cpu es in
        let whole : after_turns shape cpu contents (pushing cpu es ++ turn ∷ []) ≡ now = after_both shape cpu contents (pushing cpu es) (turn ∷ []) in
        let nested : stamped n cpu call (pushing cpu es ++ turn ∷ []) ++ later ≡ nest shape cpu call turn outer last n (pushing cpu es) later =
        ap (λ (l : List Drawn). l ++ later) (stamped_both n cpu call (pushing cpu es) (turn ∷ [])) ∙ append_assoc (stamped n cpu call (pushing cpu es)) (stamped (n + length (pushing cpu es)) cpu call (turn ∷ [])) later
        ∙ ap (λ (k : ℕ). stamped n cpu call (pushing cpu es) ++ drawn k cpu call turn ∷ later) (omega (arith, long)) in
        let later_from : AreFrom (suc last) later = from_less (suc last) (n + length (pushing cpu es ++ turn ∷ [])) later (let sum = length_both (pushing cpu es) (turn ∷ []) in let one : length (turn ∷ []) ≡ 1 = refl in omega (arith, sum, long, one)) from in
        let took = take_tied bounds within tied (Bucket bucket) is tt in
        let was : core_lists contents (Bucket bucket) ≡ bucket_lists (numbers bodies) = ap lists_in lies in
        let lies_then : between (Bucket bucket) ≡ in_bucket bodies = pushing_else shape cpu bucket es contents ∙ lies in
        subst (λ (l : List Drawn). AreEnabled shape s (interleaved shape contents [] l)) (sym nested)
        (subst (AreEnabled shape s) (sym (begins shape cpu call turn outer contents last n 4 (pushing cpu es) later (omega (arith, long)) (pushing_beside cpu es) (pushing_ranks cpu es) refl later_from)) (
          took.enabled,
          pushing_runs bounds plain within call bucket less part outer last later es (numbers bodies) contents
              (tied_alike (λ other. sym (put_back (Bucket bucket) (bucket_lists (numbers bodies)) (core_lists contents) was other)) took.tied)
              (last ∷ []) n refl (begun_first shape cpu call turn outer n last) there_all allowed
              (λ t began has held.
              let after : bucket_lists (left_of es (numbers bodies)) ≡ lists_in (now (Bucket bucket)) =
              ap bucket_lists (sym left) ∙ sym (ap lists_in (turned_here shape cpu between turn (Bucket bucket) (same_lock (Bucket bucket)) ∙ ap (content_after shape cpu (parts.Bucket part)) lies_then)) in
              let gave = give_same bounds within (Bucket bucket) held (lists_in (now (Bucket bucket))) is tt (lists_here (Bucket bucket) (bucket_lists (left_of es (numbers bodies))) (core_lists between) ∙ after) in
              let gives : List Event = does (steps.Give cpu (Bucket bucket) (lists_in (now (Bucket bucket)))) ∷ interleaved shape now [] later in
              subst (AreEnabled shape t) (sym (nest_ends shape cpu call turn outer between began last last later has later_from
              ∙ ap (λ (l : List Step). map does l ++ (seen_by (parts.Bucket part) ++ gives)) quiet ∙ ap (λ (l : List Event). l ++ gives) blind)) (
                gave.enabled,
                subst (λ (c : DomainId → Content). (u : State) → IsTied shape cpu [] (core_lists c) Known u → AreEnabled shape u (interleaved shape c [] later)) whole more _
                    (tied_alike (then_alike shape cpu between turn (with_lists (Bucket bucket) (bucket_lists (left_of es (numbers bodies))) (core_lists between)) (λ other away. lists_else (Bucket bucket) other (bucket_lists (left_of es (numbers bodies))) (core_lists between) away)) gave.tied),
              )),
        ));
  }

-- Freelists that are found empty inside a bucket's turn
module _ {shape : Shape} (bounds : HasBounds shape) (plain : is_lru shape.kind ≡ false) {cpu : ℕ} (within : cpu < shape.cpus) where
  looks_beside : (cpus : List ℕ) → AreBeside 4 (found_empty cpus)
  looks_beside [] = tt
  looks_beside (c ∷ cpus) = ((refl, refl), looks_beside cpus)

  looks_ranks : (cpus : List ℕ) → AreOfRank 4 (found_empty cpus)
  looks_ranks [] = tt
  looks_ranks (c ∷ cpus) = (refl, looks_ranks cpus)

  looks_length : (cpus : List ℕ) → length (found_empty cpus) ≡ length cpus
  looks_length [] = refl
  looks_length (c ∷ cpus) = ap suc (looks_length cpus)

  pub looks_else : (bucket : ℕ) (cpus : List ℕ) (contents : DomainId → Content) → after_turns shape cpu contents (found_empty cpus) (Bucket bucket) ≡ contents (Bucket bucket)
  looks_else bucket [] contents = refl
  looks_else bucket (c ∷ cpus) contents = looks_else bucket cpus (after_turn shape cpu contents (on_freelist_of c FoundEmpty)) ∙ turned_elsewhere shape cpu contents (on_freelist_of c FoundEmpty) (Bucket bucket) refl

  looking_runs : {Known : ℕ → ℕ → Type 0} (call bucket : ℕ) (part : BucketPart) (outer : is_inner (parts.Bucket part) ≡ false) (last : ℕ) (later : List Drawn) (cpus : List ℕ) {s : State} (contents : DomainId → Content) → IsTied shape cpu (Bucket bucket ∷ []) (core_lists contents) Known s
      → (begun : List ℕ) (n : ℕ) → last ≡ n + length cpus → HasBegun shape cpu call (on_lock (Bucket bucket) (parts.Bucket part)) outer begun n last
      → AreAllowed shape cpu contents (found_empty cpus) → AreCpus shape cpus
      → ((t : State) (began : List ℕ) → HasBegun shape cpu call (on_lock (Bucket bucket) (parts.Bucket part)) outer began last last
      → IsTied shape cpu (Bucket bucket ∷ []) (core_lists (after_turns shape cpu contents (found_empty cpus))) Known t
      → AreEnabled shape t (interleaved shape (after_turns shape cpu contents (found_empty cpus)) began (drawn last cpu call (on_lock (Bucket bucket) (parts.Bucket part)) ∷ later)))
      → AreEnabled shape s (interleaved shape contents begun (nest shape cpu call (on_lock (Bucket bucket) (parts.Bucket part)) outer last n (found_empty cpus) later))
  unfolding AreEnabled
  looking_runs call bucket part outer last later [] {s = s} contents tied begun n is has allowed there_all more = more s begun (subst (λ (k : ℕ). HasBegun shape cpu call (on_lock (Bucket bucket) (parts.Bucket part)) outer begun k last) (omega (arith, is)) has) tied
  looking_runs call bucket part outer last later (c ∷ cpus) {s = s} contents tied begun n is has allowed there_all more =
      let turn : Turn = on_freelist_of c FoundEmpty in
      let now : DomainId → Content = after_turn shape cpu contents turn in
      let stack = on_stack (contents (Freelist c)) (AllowsOnFreelist FoundEmpty) allowed.0 in
      let is_there : is_lock shape (Freelist c) ≡ true = freelist_there shape plain c there_all.0 in
      let took = take_tied bounds within tied (Freelist c) is_there (omega arith, tt) in
      let after : lists_in (contents (Freelist c)) ≡ lists_in (now (Freelist c)) =
      ap lists_in (stack.lies ∙ sym (turned_here shape cpu contents turn (Freelist c) (same_lock (Freelist c)) ∙ ap (content_after shape cpu (parts.Free FoundEmpty)) stack.lies)) in
      let gave = give_same bounds within (Freelist c) took.tied (lists_in (now (Freelist c))) is_there (omega arith, tt) after in
      subst (AreEnabled shape s) (sym (nest_goes shape cpu call (on_lock (Bucket bucket) (parts.Bucket part)) outer contents begun last n 4 turn (found_empty cpus) later (omega (arith, is)) (looks_beside cpus) refl refl refl has)) (
        took.enabled,
        (
          gave.enabled,
          looking_runs call bucket part outer last later cpus now (tied_alike (then_alike shape cpu contents turn (core_lists contents) (λ other apart. refl)) gave.tied)
              (n ∷ last ∷ begun) (suc n) (omega (arith, is)) (begun_next shape cpu call (on_lock (Bucket bucket) (parts.Bucket part)) outer begun n last (omega (arith, is)) has) allowed.1 there_all.1 more,
        ),
      )

  -- An update that finds the map full.
  pub goes_full : (contents : DomainId → Content) (Known : ℕ → ℕ → Type 0) (bucket : ℕ) (part : BucketPart) (cpus : List ℕ) (bodies : List Stored) → bucket < shape.buckets → is_inner (parts.Bucket part) ≡ false
      → part_steps shape cpu (Bucket bucket) None (parts.Bucket part) ≡ [] → seen_by (parts.Bucket part) ≡ [] → AreAllowed shape cpu contents (found_empty cpus) → AreCpus shape cpus
      → contents (Bucket bucket) ≡ in_bucket bodies → numbers (bucket_after shape cpu part bodies) ≡ numbers bodies
      → Goes shape cpu contents Known (found_empty cpus ++ on_lock (Bucket bucket) (parts.Bucket part) ∷ []) Known
  unfolding AreEnabled
  goes_full contents Known bucket part cpus bodies less outer quiet blind allowed there_all lies keeps = record {
    run = λ s n call later tied from more.
        let last : ℕ = n + length cpus in
        let turn : Turn = on_lock (Bucket bucket) (parts.Bucket part) in
        let between : DomainId → Content = after_turns shape cpu contents (found_empty cpus) in
        let now : DomainId → Content = after_turn shape cpu between turn in
        let is : is_lock shape (Bucket bucket) ≡ true = lt-ltb bucket shape.buckets less in
        let long = looks_length cpus in
        let whole : after_turns shape cpu contents (found_empty cpus ++ turn ∷ []) ≡ now = after_both shape cpu contents (found_empty cpus) (turn ∷ []) in
        let nested : stamped n cpu call (found_empty cpus ++ turn ∷ []) ++ later ≡ nest shape cpu call turn outer last n (found_empty cpus) later =
        ap (λ (l : List Drawn). l ++ later) (stamped_both n cpu call (found_empty cpus) (turn ∷ [])) ∙ append_assoc (stamped n cpu call (found_empty cpus)) (stamped (n + length (found_empty cpus)) cpu call (turn ∷ [])) later
        ∙ ap (λ (k : ℕ). stamped n cpu call (found_empty cpus) ++ drawn k cpu call turn ∷ later) (omega (arith, long)) in
        let later_from : AreFrom (suc last) later = from_less (suc last) (n + length (found_empty cpus ++ turn ∷ [])) later (let sum = length_both (found_empty cpus) (turn ∷ []) in let one : length (turn ∷ []) ≡ 1 = refl in omega (arith, sum, long, one)) from in
        let took = take_tied bounds within tied (Bucket bucket) is tt in
        let lies_then : between (Bucket bucket) ≡ in_bucket bodies = looks_else bucket cpus contents ∙ lies in
        subst (λ (l : List Drawn). AreEnabled shape s (interleaved shape contents [] l)) (sym nested)
        (subst (AreEnabled shape s) (sym (begins shape cpu call turn outer contents last n 4 (found_empty cpus) later (omega (arith, long)) (looks_beside cpus) (looks_ranks cpus) refl later_from)) (
          took.enabled,
          looking_runs call bucket part outer last later cpus contents took.tied (last ∷ []) n refl (begun_first shape cpu call turn outer n last) allowed there_all
              (λ t began has held.
              let after : lists_in (between (Bucket bucket)) ≡ lists_in (now (Bucket bucket)) =
              ap lists_in lies_then ∙ ap bucket_lists (sym keeps) ∙ sym (ap lists_in (turned_here shape cpu between turn (Bucket bucket) (same_lock (Bucket bucket)) ∙ ap (content_after shape cpu (parts.Bucket part)) lies_then)) in
              let gave = give_same bounds within (Bucket bucket) held (lists_in (now (Bucket bucket))) is tt after in
              let gives : List Event = does (steps.Give cpu (Bucket bucket) (lists_in (now (Bucket bucket)))) ∷ interleaved shape now [] later in
              subst (AreEnabled shape t) (sym (nest_ends shape cpu call turn outer between began last last later has later_from
              ∙ ap (λ (l : List Step). map does l ++ (seen_by (parts.Bucket part) ++ gives)) quiet ∙ ap (λ (l : List Event). l ++ gives) blind)) (
                gave.enabled,
                subst (λ (c : DomainId → Content). (u : State) → IsTied shape cpu [] (core_lists c) Known u → AreEnabled shape u (interleaved shape c [] later)) whole more _
                    (tied_alike (then_alike shape cpu between turn (core_lists between) (λ other away. refl)) gave.tied),
              )),
        ));
  }
