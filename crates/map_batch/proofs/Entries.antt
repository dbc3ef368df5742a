-- The entries of a batch write so far, one more of them, and where it ends.
use Rattle.std.proofs.Common.{◌≡◌, ℕ, suc, List, [], ◌∷◌, ◌++◌, map, take, drop, sym, ap, ◌∙◌, subst, append_assoc, inl, inr, None, Some}
use Rattle.std.specs.Prelude.{reverse}
use Rattle.std.proofs.lemmas.List.{map-append, reverse-append, take-append-drop}
use Rattle.map_types.specs.declared.call.Verb.{Verb}
use Rattle.map_types.specs.declared.refusal.Errno.{Errno}
use Rattle.map_types.specs.declared.reply.Reply.{Reply}
use Rattle.map_types.specs.declared.reply.Reply.TheVariants.{Count}
use Rattle.place_words.specs.Walks.{IsKeyTrace, refused_with}
use Rattle.place_table.specs.Calls.{CanCall, Called, spare_element}
use Rattle.place_table.specs.Known.{turn_at}
use Rattle.place_table.specs.Passes.{PassView, TableView}
use Rattle.hash_ops.specs.Calls.{LosesAtMost}
use Rattle.map_batch.specs.Writes.{AreSomeOf}
use Rattle.map_batch.proofs.Joined.{Wrote, wrote_none, wrote_more, wrote_stopped, can_again}

-- what one more call lost comes before what was lost so far
some_more : (lock : ℕ) (locks more so_far : List ℕ) → LosesAtMost lock more → AreSomeOf locks so_far → AreSomeOf (lock ∷ locks) (more ++ so_far)
some_more lock locks more so_far (inl none) are = inl (subst (λ (l : List ℕ). AreSomeOf locks (l ++ so_far)) (sym none) are)
some_more lock locks more so_far (inr one) are = inr (so_far, ap (λ (l : List ℕ). l ++ so_far) one, are)

-- these entries lost no lock but each its own, once at most; the last one's comes first
abbrev pub LoseTheirs : {A : Type 0} → (A → ℕ) → List A → List ℕ → Type 0
LoseTheirs lock_of begun lost = AreSomeOf (reverse (map lock_of begun)) lost

-- The calls of so many entries were made and none was refused; where `Loses` holds, each of them gave back no lock without a part but the
-- entry's own.
module _ {A : Type 0} (verb_of : A → Verb) (lock_of : A → ℕ) (Loses : Type 0) (t : TableView) (p : PassView) (xs : List A) where
  pub record SoFar (q : PassView) (n : ℕ) : Type 0 where
    pub ready : CanCall t q
    pub wrote : Wrote t p q (map verb_of (take n xs)) (Count None n)
    pub loses : Loses → LoseTheirs lock_of (take n xs) wrote.lost

  -- and of these entries such an answer is given, after these were begun
  abbrev pub Ends : PassView → List A → List A → Reply → Type 0
  Ends q entries begun reply = (wrote : Wrote t p q (map verb_of entries) reply) × (Loses → LoseTheirs lock_of begun wrote.lost)

module _ {A : Type 0} {verb_of : A → Verb} {lock_of : A → ℕ} {Loses : Type 0} {t : TableView} {p : PassView} (xs : List A) where
  pub so_far_none : CanCall t p → SoFar verb_of lock_of Loses t p xs p 0
  so_far_none can = record { ready = can; wrote = (wrote_none can).0; loses = λ _. (wrote_none can).1 }

  module _ {q : PassView} {n : ℕ} (so_far : SoFar verb_of lock_of Loses t p xs q n) where
    -- as a batch of those alone, and as the whole where they are all
    pub those_before : Ends verb_of lock_of Loses t p xs q (take n xs) (take n xs) (Count None n)
    those_before = (so_far.wrote, so_far.loses)

    pub all_done : (begun : List A) → take n xs ≡ xs → take n xs ≡ begun → Ends verb_of lock_of Loses t p xs q xs begun (Count None n)
    all_done begun all are = subst (λ (e : List A × List A). Ends verb_of lock_of Loses t p xs q e.0 e.1 (Count None n)) (λ i. (all i, are i)) those_before

    module _ {r : PassView} (x : A) (next : take (suc n) xs ≡ take n xs ++ x ∷ []) {answer : Reply} (called : Called t q r (verb_of x) answer) (loses : Loses → LosesAtMost (lock_of x) called.lost)
        (trace : IsKeyTrace t.shape q.cpu (spare_element q) (verb_of x) (map (turn_at t.shape) called.told) answer) where
      abbrev Both : List Verb → Reply → Type 0
      Both entries reply = (both : Wrote t p r entries reply) × (both.lost ≡ called.lost ++ so_far.wrote.lost)

      -- the locks of the entries begun, with this one
      locks_are : reverse (map lock_of (take (suc n) xs)) ≡ lock_of x ∷ reverse (map lock_of (take n xs))
      locks_are =
          ap (λ (l : List A). reverse (map lock_of l)) next ∙ ap (λ (l : List ℕ). reverse l) (map-append lock_of (take n xs) (x ∷ [])) ∙ reverse-append (map lock_of (take n xs)) (lock_of x ∷ [])

      lose_more : Loses → (lost : List ℕ) → lost ≡ called.lost ++ so_far.wrote.lost → LoseTheirs lock_of (take (suc n) xs) lost
      lose_more is lost are =
          subst (λ (l : List ℕ). AreSomeOf l lost) (sym locks_are)
          (subst (AreSomeOf (lock_of x ∷ reverse (map lock_of (take n xs)))) (sym are)
          (some_more (lock_of x) (reverse (map lock_of (take n xs))) called.lost so_far.wrote.lost (loses is) (so_far.loses is)))

      pub one_more : refused_with answer ≡ None → SoFar verb_of lock_of Loses t p xs r (suc n)
      one_more none =
          let entries : map verb_of (take n xs) ++ verb_of x ∷ [] ≡ map verb_of (take (suc n) xs) = sym (ap (map verb_of) next ∙ map-append verb_of (take n xs) (x ∷ [])) in
          let both = subst (λ (l : List Verb). Both l (Count None (suc n))) entries (wrote_more so_far.wrote called trace none) in
          record {
            ready = can_again so_far.ready called.leaves;
            wrote = both.0;
            loses = λ is. lose_more is both.0.lost both.1;
          }

      pub stopped : (errno : Errno) → refused_with answer ≡ Some errno → Ends verb_of lock_of Loses t p xs r xs (take (suc n) xs) (Count (Some errno) n)
      stopped errno refused =
          let later : List A = drop (suc n) xs in
          let parts : take n xs ++ x ∷ later ≡ xs = sym (append_assoc (take n xs) (x ∷ []) later) ∙ ap (λ (l : List A). l ++ later) (sym next) ∙ take-append-drop (suc n) xs in
          let entries : map verb_of (take n xs) ++ verb_of x ∷ map verb_of later ≡ map verb_of xs = sym (map-append verb_of (take n xs) (x ∷ later)) ∙ ap (map verb_of) parts in
          let both = subst (λ (l : List Verb). Both l (Count (Some errno) n)) entries (wrote_stopped so_far.wrote called (map verb_of later) errno trace refused) in
          (both.0, λ is. lose_more is both.0.lost both.1)
