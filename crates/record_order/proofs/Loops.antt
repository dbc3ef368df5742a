-- A loop over histories, against the entries of all, and one over the entries of a history.
use Rattle.std.proofs.Common.{◌≡◌, ℕ, ◌+◌, ◌<◌, List, ◌∷◌, [], ◌++◌, length, get_or, drop, ap, sym, ◌∙◌}
use Rattle.std.proofs.lemmas.List.{append_assoc}
use Rattle.std.proofs.Math.Numerals.{add-one}
use Rattle.std.proofs.Math.Seq.{drop-cons}
use Rattle.place_words.specs.declared.history.Entry.{Entry}
use Rattle.place_words.specs.declared.history.LockHistory.{LockHistory}
use Rattle.place_words.specs.Tickets.{all_entries, tickets_of}
use Rattle.place_words.proofs.Ascending.{tickets_append}
use Rattle.record_order.specs.TicketTables.{least_after, next_least}

pub tickets_more : (hs : List LockHistory) (i : ℕ) (h : LockHistory) (was now total : List ℕ) → i < length hs → h ≡ get_or hs i h → now ≡ was ++ tickets_of h.entries
    → was ++ tickets_of (all_entries (drop i hs)) ≡ total → now ++ tickets_of (all_entries (drop (i + 1) hs)) ≡ total
tickets_more hs i h was now total less at added before =
    let left : drop i hs ≡ h ∷ drop (i + 1) hs = drop-cons hs i h less ∙ (λ j. sym at j ∷ drop (sym (add-one i) j) hs) in
    let rest : List ℕ = tickets_of (all_entries (drop (i + 1) hs)) in
    ap (λ (l : List ℕ). l ++ rest) added
    ∙ (append_assoc was (tickets_of h.entries) rest
    ∙ (ap (λ (l : List ℕ). was ++ l) (sym (tickets_append h.entries (all_entries (drop (i + 1) hs))) ∙ ap (λ (l : List LockHistory). tickets_of (all_entries l)) (sym left)) ∙ before))

module _ (es : List Entry) (i : ℕ) (e : Entry) (less : i < length es) (at : get_or es i e ≡ e) where
  here : drop i es ≡ e ∷ drop (i + 1) es
  here = drop-cons es i e less ∙ (λ j. at j ∷ drop (sym (add-one i) j) es)

  pub ticket_more : (was now total : List ℕ) → now ≡ was ++ e.ticket ∷ [] → was ++ tickets_of (drop i es) ≡ total → now ++ tickets_of (drop (i + 1) es) ≡ total
  ticket_more was now total added before =
      let rest : List ℕ = tickets_of (drop (i + 1) es) in
      ap (λ (l : List ℕ). l ++ rest) added
      ∙ (append_assoc was (e.ticket ∷ []) rest ∙ (ap (λ (l : List Entry). was ++ tickets_of l) (sym here) ∙ before))

  pub least_more : (was now total : List ℕ) (least next : ℕ) → next ≡ next_least e.ticket → now ≡ was ++ least ∷ []
      → was ++ least_after least (tickets_of (drop i es)) ≡ total → now ++ least_after next (tickets_of (drop (i + 1) es)) ≡ total
  least_more was now total least next is added before =
      let rest : List ℕ = tickets_of (drop (i + 1) es) in
      (λ j. added j ++ least_after (is j) rest)
      ∙ (append_assoc was (least ∷ []) (least_after (next_least e.ticket) rest)
      ∙ (ap (λ (l : List Entry). was ++ least_after least (tickets_of l)) (sym here) ∙ before))
