-- What a moment's histories were is found again at the end: of each history the entries whose tickets were drawn by then.
use Rattle.std.proofs.Common.{◌≡◌, ℕ, suc, ◌+◌, ◌<◌, ◌≤◌, Bool, true, false, cond, ltb, List, [], ◌∷◌, ◌++◌, refl, ap, sym, ◌∙◌, subst, append-nil, arith, inl, inr}
use Rattle.std.proofs.Math.Path.{fun_ext}
use Rattle.std.specs.Prelude.{IsSome, None, Option}
use Rattle.std.specs.List.{flat_map}
use Rattle.std.proofs.lemmas.Bool.{cases_lt, lt-ltb, le-ltb}
use Rattle.map_types.specs.declared.attr.Shape.{Shape}
use Rattle.map_types.specs.declared.kind.DomainId.{DomainId}
use Rattle.map_types.specs.declared.kind.MapKind.TheVariants.{Hash}
use Rattle.map_types.specs.ElementLists.{times, one, IsIn}
use Rattle.map_types.specs.Kind.{is_lru}
use Rattle.map_types.proofs.RowLemmas.{times_append, by_test}
use Rattle.place_words.specs.declared.history.Entry.{Entry}
use Rattle.place_words.specs.declared.history.LockHistory.{LockHistory}
use Rattle.place_words.specs.Histories.{Content, AllAllowed, IsLegal, content, content_after, opening_content}
use Rattle.place_words.specs.Named.{entries_of}
use Rattle.place_words.specs.Phases.{drawn_before, state_at}
use Rattle.place_words.specs.Tickets.{tickets_of, AscendIn}
use Rattle.place_words.proofs.AnyStart.{IsStart}
use Rattle.place_words.proofs.Ascending.{tickets_append}
use Rattle.place_words.proofs.EvictingDone.{IsAtRest}

-- One history

pub before_both : (n : ℕ) (xs ys : List Entry) → drawn_before n (xs ++ ys) ≡ drawn_before n xs ++ drawn_before n ys
before_both n [] ys = refl
before_both n (entry ∷ xs) ys = by (ltb entry.ticket n) (before_both n xs ys)
  where
    by : (b : Bool) → drawn_before n (xs ++ ys) ≡ drawn_before n xs ++ drawn_before n ys → cond b (entry ∷ drawn_before n (xs ++ ys)) (drawn_before n (xs ++ ys)) ≡ cond b (entry ∷ drawn_before n xs) (drawn_before n xs) ++ drawn_before n ys
    by true rest = ap (λ (es : List Entry). entry ∷ es) rest
    by false rest = rest

-- whose tickets are all below it
before_all : (n : ℕ) (xs : List Entry) → ((t : ℕ) → 1 ≤ times t (tickets_of xs) → t < n) → drawn_before n xs ≡ xs
before_all n [] below = refl
before_all n (entry ∷ xs) below =
    let here : entry.ticket < n = below entry.ticket (by_test entry.ticket entry.ticket (λ b. 1 ≤ cond b (suc (times entry.ticket (tickets_of xs))) (times entry.ticket (tickets_of xs))) (λ same. omega arith) (λ other. absurd (other refl))) in
    ap (λ (b : Bool). cond b (entry ∷ drawn_before n xs) (drawn_before n xs)) (lt-ltb entry.ticket n here)
    ∙ ap (λ (es : List Entry). entry ∷ es) (before_all n xs (λ t there. below t (by_test entry.ticket t (λ b. 1 ≤ cond b (suc (times t (tickets_of xs))) (times t (tickets_of xs))) (λ same. omega arith) (λ other. there))))

-- none of whose tickets is below it
before_none : (n : ℕ) (xs : List Entry) → ((t : ℕ) → t < n → times t (tickets_of xs) ≡ 0) → drawn_before n xs ≡ []
before_none n [] past = refl
before_none n (entry ∷ xs) past =
    let here : ltb entry.ticket n ≡ false = elim (cases_lt entry.ticket n) [
      | inl below ↦
          let none = past entry.ticket below in
          absurd (by_test entry.ticket entry.ticket (λ b. cond b (suc (times entry.ticket (tickets_of xs))) (times entry.ticket (tickets_of xs)) ≡ 0 → ⊥) (λ same is. omega (arith, is)) (λ other. absurd (other refl)) none)
      | inr more ↦ le-ltb entry.ticket n more
    ] in
    ap (λ (b : Bool). cond b (entry ∷ drawn_before n xs) (drawn_before n xs)) here
    ∙ before_none n xs (λ t below. by_test entry.ticket t (λ b. cond b (suc (times t (tickets_of xs))) (times t (tickets_of xs)) ≡ 0 → times t (tickets_of xs) ≡ 0) (λ same is. absurd (omega (arith, is))) (λ other is. is) (past t below))

-- All histories

-- how often a ticket stands in some histories
abbrev pub tickets_in : ℕ → (ℕ → List Entry) → List ℕ → ℕ
tickets_in t log ks = times t (tickets_of (flat_map log ks))

counts_both : (t : ℕ) (xs ys : List Entry) → times t (tickets_of (xs ++ ys)) ≡ times t (tickets_of xs) + times t (tickets_of ys)
counts_both t xs ys = ap (times t) (tickets_append xs ys) ∙ times_append t (tickets_of xs) (tickets_of ys)

module _ (log then later : ℕ → List Entry) (goes_on : (k : ℕ) → log k ≡ then k ++ later k) where
  counts_split : (t : ℕ) (ks : List ℕ) → tickets_in t log ks ≡ tickets_in t then ks + tickets_in t later ks
  counts_split t [] = omega arith
  counts_split t (k ∷ ks) =
      omega (
        arith,
        counts_both t (log k) (flat_map log ks),
        counts_both t (then k) (flat_map then ks),
        counts_both t (later k) (flat_map later ks),
        ap (λ (xs : List Entry). times t (tickets_of xs)) (goes_on k),
        counts_both t (then k) (later k),
        counts_split t ks,
      )

  count_one : (f : ℕ → List Entry) (t k : ℕ) (ks : List ℕ) → IsIn k ks → times t (tickets_of (f k)) ≤ tickets_in t f ks
  count_one f t k [] inside = absurd (omega (arith, inside))
  count_one f t k (x ∷ ks) inside =
      let all = counts_both t (f x) (flat_map f ks) in
      by_test x k (λ b. 0 < cond b (suc (times k ks)) (times k ks) → times t (tickets_of (f k)) ≤ tickets_in t f (x ∷ ks))
      (λ same _. subst (λ (y : ℕ). times t (tickets_of (f y)) ≤ tickets_in t f (x ∷ ks)) same (omega (arith, all)))
      (λ other rest. omega (arith, all, count_one f t k ks rest))
      inside

  -- At a moment the tickets below n stood in the histories, each once. Each history went on from there, and at the end no ticket
  -- stands twice. Then the entries with tickets below n are those of that moment.
  pub cut_is : (ks : List ℕ) (n drawn : ℕ) → ((t : ℕ) → tickets_in t then ks ≡ one (ltb t n)) → ((t : ℕ) → tickets_in t log ks ≡ one (ltb t drawn)) → (k : ℕ) → IsIn k ks → drawn_before n (log k) ≡ then k
  cut_is ks n drawn once_then once_now k inside =
      ap (drawn_before n) (goes_on k) ∙ (before_both n (then k) (later k) ∙ ((λ i. before_all n (then k) below i ++ before_none n (later k) past i) ∙ append-nil (then k)))
    where
      most : (b : Bool) → one b ≤ 1
      most true = omega arith
      most false = omega arith

      below : (t : ℕ) → 1 ≤ times t (tickets_of (then k)) → t < n
      below t there = elim (cases_lt t n) [
        | inl less ↦ less
        | inr more ↦ let none : one (ltb t n) ≡ 0 = ap one (le-ltb t n more) in absurd (omega (arith, there, count_one then t k ks inside, once_then t, none))
      ]

      past : (t : ℕ) → t < n → times t (tickets_of (later k)) ≡ 0
      past t less =
          let some : one (ltb t n) ≡ 1 = ap one (lt-ltb t n less) in
          omega (arith, count_one later t k ks inside, counts_split t ks, once_then t, once_now t, some, most (ltb t drawn))

-- So the state that a record tells of that moment is one from which a run may start

pub start_at : (shape : Shape) (histories : List LockHistory) (ticket : ℕ) (marked : List ℕ) (spares : ℕ → Option ℕ) (logs : DomainId → List Entry)
    → ((lock : DomainId) → drawn_before ticket (entries_of histories lock) ≡ logs lock) → ((lock : DomainId) → IsLegal shape lock (logs lock))
    → (is_lru shape.kind ≡ true → IsAtRest shape (λ lock. content shape lock (logs lock))) → (is_lru shape.kind ≡ true → (cpu : ℕ) → spares cpu ≡ None)
    → (shape.kind ≡ Hash → (cpu : ℕ) → cpu < shape.cpus → IsSome (spares cpu)) → IsStart shape (state_at histories ticket marked spares)
start_at shape histories ticket marked spares logs are legal rests no_spares some_spares =
    let same : (λ (lock : DomainId). drawn_before ticket (entries_of histories lock)) ≡ logs = fun_ext are in
    record {
      legal = λ lock. subst (IsLegal shape lock) (sym (are lock)) (legal lock);
      rests = λ lru. subst (λ (now : DomainId → List Entry). IsAtRest shape (λ lock. content shape lock (now lock))) (sym same) (rests lru);
      no_spares = no_spares;
      spares = some_spares;
    }

-- Each history is legal at that moment, since it ascends and is legal at the end

none_from : (n from : ℕ) (xs : List Entry) (to : ℕ) → n ≤ from → AscendIn from (tickets_of xs) to → drawn_before n xs ≡ []
none_from n from [] to past ascend = refl
none_from n from (entry ∷ xs) to past ascend =
    ap (λ (b : Bool). cond b (entry ∷ drawn_before n xs) (drawn_before n xs)) (le-ltb entry.ticket n (omega (arith, past, ascend.0)))
    ∙ none_from n (suc entry.ticket) xs to (omega (arith, past, ascend.0)) ascend.1

split_at : (n from : ℕ) (xs : List Entry) (to : ℕ) → AscendIn from (tickets_of xs) to → (first : List Entry) × (rest : List Entry) × (xs ≡ first ++ rest) × (drawn_before n xs ≡ first)
split_at n from [] to ascend = ([], [], refl, refl)
split_at n from (entry ∷ xs) to ascend = elim (cases_lt entry.ticket n) [
  | inl below ↦
      let parts = split_at n (suc entry.ticket) xs to ascend.1 in
      (entry ∷ parts.0, parts.1, ap (λ (es : List Entry). entry ∷ es) parts.2, ap (λ (b : Bool). cond b (entry ∷ drawn_before n xs) (drawn_before n xs)) (lt-ltb entry.ticket n below) ∙ ap (λ (es : List Entry). entry ∷ es) parts.3)
  | inr past ↦ ([], entry ∷ xs, refl, none_from n entry.ticket (entry ∷ xs) to past (omega arith, ascend.1))
]

allowed_first : (shape : Shape) (here : Content) (xs ys : List Entry) → AllAllowed shape here (xs ++ ys) → AllAllowed shape here xs
unfolding AllAllowed
allowed_first shape here [] ys all = tt
allowed_first shape here (entry ∷ xs) ys all = (all.0, allowed_first shape (content_after shape entry.cpu entry.part here) xs ys all.1)

pub legal_before : (shape : Shape) (lock : DomainId) (n to : ℕ) (entries : List Entry) → AscendIn 0 (tickets_of entries) to → IsLegal shape lock entries → IsLegal shape lock (drawn_before n entries)
legal_before shape lock n to entries ascend legal =
    let parts = split_at n 0 entries to ascend in
    subst (IsLegal shape lock) (sym parts.3) (allowed_first shape (opening_content shape lock) parts.0 parts.1 (subst (IsLegal shape lock) parts.2 legal))
