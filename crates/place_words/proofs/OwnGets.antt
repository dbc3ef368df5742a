-- Where each CPU has a list set of its own, no set is empty between calls, so that each turn of one gives an element.
use Rattle.std.proofs.Common.{◌≡◌, ◌≢◌, ℕ, ◌<◌, ◌≤◌, Bool, true, false, cond, eqb, List, [], ◌∷◌, ◌++◌, refl, ap, sym, ◌∙◌, subst}
use Rattle.std.specs.Prelude.{None, find, unwrap_or}
use Rattle.std.specs.List.{range_with_len}
use Rattle.std.proofs.lemmas.Bool.{true≢false}
use Rattle.map_types.specs.declared.attr.Shape.{Shape}
use Rattle.map_types.specs.declared.kind.DomainId.TheVariants.{CpuLru, Bucket}
use Rattle.place_words.specs.declared.history.Entry.{Entry}
use Rattle.place_words.specs.declared.history.Part.TheVariants as parts
use Rattle.place_words.specs.declared.list_part.OwnPart.{OwnPart}
use Rattle.place_words.specs.declared.list_part.OwnPart.TheVariants as own
use Rattle.place_words.specs.Choices.{own_turn, own_got}
use Rattle.place_words.specs.Histories.{Content, content, content_after, own_in}
use Rattle.place_words.specs.Logs.{State, all_turned, locals_at, own_at, Taking, taken_own, taken_shared, acquired, freed_at, freeing}
use Rattle.place_words.specs.Sets.{ListSet, new_set, has_row, own_after}
use Rattle.place_words.specs.Takings.{set_of}
use Rattle.place_words.specs.Turns.{Turn, on_lock, on_bucket_of, bucket_of_key}
use Rattle.place_words.proofs.EachTurn.{TurnLaw}
use Rattle.place_words.proofs.ListContents.{lies_own, log_stays}
use Rattle.place_words.proofs.Giving.{own_push_leaves, own_leaves, AreOfBuckets, probes_first, probes_are, buckets_elsewhere, keeps_both}
use Rattle.place_words.proofs.HistoryLemmas.{content_more}
use Rattle.place_words.proofs.NeverEmpty.{set_count, own_gives}

-- Own sets

abbrev pub EachOwn : Shape → State → Type 0
EachOwn shape state = (on : ℕ) → on < shape.cpus → 1 ≤ set_count (own_at shape state on)

module _ (shape : Shape) (apart : shape.common ≡ false) where
  abbrev KeepsOwn : ℕ → ℕ → List Turn → Type 0
  KeepsOwn cpu number turns = (state : State) → EachOwn shape state → EachOwn shape (all_turned shape cpu number turns state)

  buckets_keep_own : (cpu number : ℕ) (turns : List Turn) → AreOfBuckets turns → KeepsOwn cpu number turns
  buckets_keep_own cpu number turns are state kept on within =
      subst (λ (entries : List Entry). 1 ≤ set_count (unwrap_or (own_in (content shape (CpuLru on) entries)) (new_set [])))
      (sym (log_stays shape cpu number turns state (CpuLru on) (buckets_elsewhere (CpuLru on) (λ bucket. refl) turns are))) (kept on within)

  own_keeps : (cpu number from : ℕ) (part : OwnPart) → ((set : ListSet) → 1 ≤ set_count (own_after part set)) → KeepsOwn cpu number (on_lock (CpuLru from) (parts.Own part) ∷ [])
  own_keeps cpu number from part leaves state kept on within = by (eqb from on)
    where
      by : (b : Bool) → 1 ≤ set_count (unwrap_or (own_in (content shape (CpuLru on) (cond b (state.logs (CpuLru on) ++ (record { ticket = state.next_ticket; cpu = cpu; call = number; part = parts.Own part }) ∷ []) (state.logs (CpuLru on))))) (new_set []))
      by true =
          let lies = content_more shape (CpuLru on) (state.logs (CpuLru on)) (record { ticket = state.next_ticket; cpu = cpu; call = number; part = parts.Own part }) ∙ ap (content_after shape cpu (parts.Own part)) (lies_own shape state on) in
          subst (λ (here : Content). 1 ≤ set_count (unwrap_or (own_in here) (new_set []))) (sym lies) (leaves (own_at shape state on))
      by false = kept on within

  taken_keeps : (cpu number key_hash : ℕ) (state : State) → cpu < shape.cpus → EachOwn shape state → KeepsOwn cpu number (taken_own shape cpu key_hash state).turns × ((taken_own shape cpu key_hash state).got ≢ None)
  unfolding taken_own
  taken_keeps cpu number key_hash state within kept =
      let part : OwnPart = own_turn key_hash state.bits (own_at shape state cpu) in
      let gives : own_got part ≢ None = own_gives key_hash state.bits (own_at shape state cpu) (kept cpu within) in
      let first : List Turn = probes_first shape state (CpuLru cpu) (parts.Own part) in (
        keeps_both shape (EachOwn shape) cpu number first (on_lock (CpuLru cpu) (parts.Own part) ∷ [])
            (buckets_keep_own cpu number first (probes_are shape state (CpuLru cpu) (parts.Own part)))
            (own_keeps cpu number cpu part (λ set. own_leaves part set gives)),
        gives,
      )

  freeing_keeps : (cpu number : ℕ) (before : State) (e : ℕ) → KeepsOwn cpu number (freeing shape before e ∷ [])
  unfolding freeing
  freeing_keeps cpu number before e = by shape.common apart
    where
      by : (common : Bool) → common ≡ false → KeepsOwn cpu number (cond common (freed_at e (find (λ on. has_row e (locals_at shape before on).pending) (range_with_len 0 shape.cpus))) (on_lock (CpuLru (set_of shape e)) (parts.Own (own.Push e))) ∷ [])
      by true is = absurd (true≢false is)
      by false is = own_keeps cpu number (set_of shape e) (own.Push e) (own_push_leaves e)

  acquired_own : (cpu number key_hash : ℕ) (state : State) → acquired shape cpu number key_hash state ≡ taken_own shape cpu key_hash state
  unfolding acquired
  acquired_own cpu number key_hash state = ap (λ (b : Bool). cond b (taken_shared shape cpu number key_hash state (locals_at shape state cpu) (locals_at shape state cpu).free) (taken_own shape cpu key_hash state)) apart

  pub own_law : (cpu number : ℕ) → cpu < shape.cpus → TurnLaw shape cpu number (λ side key value. Unit {0}) (EachOwn shape) (λ turns. (state : State) → EachOwn shape state → EachOwn shape (all_turned shape cpu number turns state)) ⊥
  own_law cpu number within = record {
    none = λ state kept. kept;
    both = keeps_both shape (EachOwn shape) cpu number;
    keeps = λ turns keep. keep;
    in_key = λ key part is. buckets_keep_own cpu number (on_bucket_of shape key part ∷ []) (bucket_of_key shape key, refl, tt);
    in_bucket = λ bucket within part is. buckets_keep_own cpu number (on_lock (Bucket bucket) (parts.Bucket part) ∷ []) (bucket, refl, tt);
    pushes = λ plain e state kept. kept;
    looks = λ plain from there part state kept. kept;
    frees = λ lru. freeing_keeps cpu number;
    takes = λ lru key_hash state kept. subst (λ (taking : Taking). KeepsOwn cpu number taking.turns) (sym (acquired_own cpu number key_hash state)) (taken_keeps cpu number key_hash state within kept).0;
    lacks = λ lru key_hash state kept none. (taken_keeps cpu number key_hash state within kept).1 (ap (λ (taking : Taking). taking.got) (sym (acquired_own cpu number key_hash state)) ∙ none);
  }
