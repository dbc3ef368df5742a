-- A history that is replayed turn by turn.
use Rattle.std.proofs.Common.{◌≡◌, ℕ, zero, suc, ◌+◌, ◌<◌, ◌≤◌, true, List, [], ◌∷◌, ◌++◌, length, take, get_or, Some, refl, ap, sym, ◌∙◌, subst, arith}
use Rattle.std.specs.Prelude.{slice_get}
use Rattle.std.proofs.lemmas.List.{take_more}
use Rattle.map_types.specs.declared.attr.Shape.{Shape}
use Rattle.map_types.specs.declared.kind.DomainId.{DomainId}
use Rattle.place_words.specs.declared.history.Entry.{Entry}
use Rattle.place_words.specs.Histories.{Content, Allows, content_after, opening_content, replayed, AllAllowed}
use Rattle.place_words.proofs.HistoryLemmas.{content_more, legal_more}
use Rattle.replay_words.specs.Replays.{Leads, IsFirstFlaw, IsStep}

-- the first turns of a history lead to what lies there now
abbrev pub LeadsFirst : Shape → DomainId → List Entry → ℕ → Content → Type 0
LeadsFirst shape lock entries index now = Leads shape lock (take index entries) now

module _ (shape : Shape) (lock : DomainId) (entries : List Entry) where
  pub none_lead : (now : Content) → opening_content shape lock ≡ now → LeadsFirst shape lock entries 0 now
  unfolding replayed AllAllowed
  none_lead now is = record { legal = tt; left = is }

  -- the entry at an index, as it is read
  pub entry_there : (index : ℕ) (entry other : Entry) → index < length entries → entry ≡ get_or entries index other → slice_get entries index ≡ Some entry
  entry_there index entry other within is = there entries index within is where
    there : (xs : List Entry) (i : ℕ) → i < length xs → entry ≡ get_or xs i other → slice_get xs i ≡ Some entry
    there [] i less same = absurd (omega arith)
    there (x ∷ xs) zero less same = ap Some (sym same)
    there (x ∷ xs) (suc i) less same = there xs i (omega arith) same

  take_entry : (index : ℕ) (entry other : Entry) → index < length entries → entry ≡ get_or entries index other → take (index + 1) entries ≡ take index entries ++ entry ∷ []
  take_entry index entry other within is =
      take_more entries index other within ∙ ap (λ (e : Entry). take index entries ++ e ∷ []) (sym is)

  -- a turn more that is allowed
  pub more_lead : (index : ℕ) (before now : Content) (entry other : Entry) → LeadsFirst shape lock entries index before → index < length entries → entry ≡ get_or entries index other
      → IsStep shape entry.cpu entry.part before now true → LeadsFirst shape lock entries (index + 1) now
  more_lead index before now entry other leads within is step =
      subst (λ (es : List Entry). Leads shape lock es now) (sym (take_entry index entry other within is)) (record {
        legal = legal_more shape lock (take index entries) entry leads.legal (subst (Allows shape entry.cpu entry.part) (sym leads.left) step.0);
        left = content_more shape lock (take index entries) entry ∙ ap (content_after shape entry.cpu entry.part) leads.left ∙ sym step.1;
      })

  -- one that isn't
  pub flaw_at : (index : ℕ) (before : Content) (entry other : Entry) → LeadsFirst shape lock entries index before → index < length entries → entry ≡ get_or entries index other
      → (Allows shape entry.cpu entry.part before → ⊥) → IsFirstFlaw shape lock entries index
  flaw_at index before entry other leads within is step = record {
    before = leads.legal;
    entry = entry;
    there = entry_there index entry other within is;
    refused = λ allowed. step (subst (Allows shape entry.cpu entry.part) leads.left allowed);
  }

  -- all turns
  pub all_lead : (index : ℕ) (now : Content) → LeadsFirst shape lock entries index now → length entries ≤ index → Leads shape lock entries now
  all_lead index now leads past = subst (λ (es : List Entry). Leads shape lock es now) (all entries index past) leads where
    all : (xs : List Entry) (i : ℕ) → length xs ≤ i → take i xs ≡ xs
    all [] zero less = refl
    all [] (suc i) less = refl
    all (x ∷ xs) zero less = absurd (omega arith)
    all (x ∷ xs) (suc i) less = ap (λ (rest : List Entry). x ∷ rest) (all xs i (omega arith))
