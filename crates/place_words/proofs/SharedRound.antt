-- A round of thefts in serial order does what the rules say, and brings home what it stole.
use Rattle.std.proofs.Common.{◌≡◌, ◌≢◌, ℕ, zero, suc, ◌+◌, ◌-◌, ◌<◌, ◌≤◌, Bool, true, List, [], ◌∷◌, ◌++◌, refl, ap, ◌∙◌, sym, subst, arith}
use Rattle.std.proofs.Math.Path.{fun_ext}
use Rattle.std.specs.Prelude.{Option, None, Some, MatchOption, option_to_list}
use Rattle.std.specs.List.{range_with_len}
use Rattle.std.proofs.lemmas.Option.{none-some}
use Rattle.map_types.specs.declared.attr.Shape.{Shape}
use Rattle.map_types.specs.declared.kind.DomainId.{DomainId}
use Rattle.map_types.specs.declared.kind.DomainId.TheVariants.{Local}
use Rattle.map_types.specs.declared.row.Row.{Row}
use Rattle.key_hash.specs.Bucket.{bucket_number}
use Rattle.place_words.specs.declared.history.Part.{Part}
use Rattle.place_words.specs.declared.history.Part.TheVariants as parts
use Rattle.place_words.specs.declared.list_part.LocalPart.{LocalPart}
use Rattle.place_words.specs.declared.list_part.LocalPart.TheVariants as local
use Rattle.place_words.specs.declared.list_part.Stolen.{Stolen}
use Rattle.place_words.specs.declared.list_part.Stolen.TheVariants.{Free, Nothing}
use Rattle.place_words.specs.declared.visits.Look.{Look}
use Rattle.place_words.specs.declared.visits.Try.{Try}
use Rattle.place_words.specs.Choices.{sparing_over, forced_after, stolen_of, steal_of, steal_got}
use Rattle.place_words.specs.Histories.{Content, Allows, content_after, in_bucket, on_freelist, in_locals, in_global, in_own}
use Rattle.place_words.specs.Locals.{LocalLists, new_locals, local_after}
use Rattle.place_words.specs.Locks.{is_same_lock}
use Rattle.place_words.specs.Logs.{State, Taking, lies_in, locals_at, turned, all_turned, placed, probed, after_turns_of, home_or, stolen}
use Rattle.place_words.specs.Shrinking.{freed}
use Rattle.place_words.specs.Takings.{listed_rows, rows_brought, probes_of, local_probes, stolen_element, ring_next, brings_home, Chase, IsChased, Steals}
use Rattle.place_words.specs.Turns.{Turn, turns_of, ring, on_lock, after_turn, after_turns, AreAllowed}
use Rattle.place_words.proofs.ChaseDone.{chasing}
use Rattle.place_words.proofs.PlacedContents.{after_both}
use Rattle.place_words.proofs.PlacedLaws.{placed-append, lies_after}
use Rattle.place_words.proofs.Settled.{IsSettled}
use Rattle.place_words.proofs.SharedFrees.{locals_there}
use Rattle.place_words.proofs.SharedTakes.{steal_chases, steal_settles, steal_all_allowed}
use Rattle.place_words.proofs.StealChoices.{steal_allowed, steal_none, none_stolen, ring_next_below}
use Rattle.place_words.proofs.Supplies.{is_chased}
use Rattle.place_words.proofs.DoneLaws.{either_same}

-- CPUs that the map has
abbrev pub AreBelow : ℕ → List ℕ → Type 0
AreBelow n [] = Unit {0}
AreBelow n (x ∷ xs) = (x < n) × AreBelow n xs

below_both : (n : ℕ) (xs ys : List ℕ) → AreBelow n xs → AreBelow n ys → AreBelow n (xs ++ ys)
below_both n [] ys a b = b
below_both n (x ∷ xs) ys a b = (a.0, below_both n xs ys a.1 b)

range_below : (n a m : ℕ) → a + m ≤ n → AreBelow n (range_with_len a m)
range_below n a zero most = tt
range_below n a (suc m) most = (omega (arith, most), range_below n (a + 1) m (omega (arith, most)))

pub ring_below : (n cpu : ℕ) → cpu < n → AreBelow n (ring cpu n)
ring_below n cpu below = below_both n (range_with_len cpu (n - cpu)) (range_with_len 0 cpu) (range_below n cpu (n - cpu) (omega (arith, below))) (range_below n 0 cpu (omega (arith, below)))

-- a computed theft is one
steal_form : (bits : ℕ → Bool) (free : List ℕ) (pending : List Row) → (taken : Stolen) × (first : List Look) × (second : List Try) × (steal_of bits free pending ≡ local.Steal taken first second)
steal_form bits (e ∷ free) pending = (Free e, [], [], refl)
steal_form bits [] pending =
    let first : List Look = sparing_over bits (Rattle.std.specs.Prelude.reverse pending) in
    let second : List Try = forced_after first (Rattle.std.specs.Prelude.reverse pending) in
    (stolen_of (freed first second), first, second, refl)

-- one that gets nothing
pub none_form : (bits : ℕ → Bool) (free : List ℕ) (pending : List Row) → steal_got (steal_of bits free pending) ≡ None → steal_of bits free pending ≡ local.Steal Nothing [] []
none_form bits free pending none =
    let empty = steal_none bits free pending none in
    ap (λ (es : List ℕ). steal_of bits es pending) empty.0 ∙ ap (λ (rows : List Row). steal_of bits [] rows) empty.1

nothing_leaves : (shape : Shape) (cpu : ℕ) (content : Content) → content_after shape cpu (parts.Local (local.Steal Nothing [] [])) content ≡ content
unfolding local_after
nothing_leaves shape cpu (in_bucket bodies) = refl
nothing_leaves shape cpu (on_freelist stack) = refl
nothing_leaves shape cpu (in_locals lists) = refl
nothing_leaves shape cpu (in_global set) = refl
nothing_leaves shape cpu (in_own set) = refl

pub after_nothing : (shape : Shape) (cpu from : ℕ) (contents : DomainId → Content) → after_turn shape cpu contents (on_lock (Local from) (parts.Local (local.Steal Nothing [] []))) ≡ contents
after_nothing shape cpu from contents = fun_ext (λ lock. either_same (is_same_lock (Local from) lock) _ _ (nothing_leaves shape cpu (contents lock)))

-- a chase that was computed from contents that are the same
pub is_chased_as : (shape : Shape) (cpu number : ℕ) (state : State) (contents : DomainId → Content) → lies_in shape state ≡ contents → (lock : DomainId) (part : Part) (turns : List Turn) → after_turns shape cpu contents turns lock ≡ contents lock
    → Chase shape (rows_brought part ++ listed_rows (contents lock)) (probes_of part) turns → IsChased shape lock part (placed shape cpu number (turns ++ on_lock lock part ∷ []) state)
is_chased_as shape cpu number state contents same lock part turns =
    subst (λ (c : DomainId → Content). after_turns shape cpu c turns lock ≡ c lock → Chase shape (rows_brought part ++ listed_rows (c lock)) (probes_of part) turns → IsChased shape lock part (placed shape cpu number (turns ++ on_lock lock part ∷ []) state))
    same (is_chased shape cpu number state lock part turns)

module _ (shape : Shape) (cpu number key_hash : ℕ) (state : State) (shared : shape.common ≡ true) (within : cpu < shape.cpus) (settled : IsSettled shape (lies_in shape state) (bucket_number key_hash shape.buckets) [])
    (none_free : (locals_at shape state cpu).free ≡ []) (none_pending : (locals_at shape state cpu).pending ≡ []) where
  -- what a round did, where the computed state lies as this one
  pub record IsRound (now : State) (cpus : List ℕ) (taking : Taking) : Type 0 where
    pub steals : Steals shape cpu key_hash cpus taking.got (placed shape cpu number taking.turns now)
    pub allowed : AreAllowed shape cpu (lies_in shape now) taking.turns
    pub settled_then : IsSettled shape (after_turns shape cpu (lies_in shape now) taking.turns) (bucket_number key_hash shape.buckets) (option_to_list taking.got)

  lies_there : (c : ℕ) → lies_in shape state (Local c) ≡ in_locals (locals_at shape state c)
  lies_there c = (locals_there (lies_in shape state (Local c)) (new_locals c) (λ (l : LocalLists). c < shape.cpus → l.steal < shape.cpus) (settled.fit (Local c))).0

  abbrev theft : ℕ → LocalPart
  theft from = steal_of state.bits (locals_at shape state from).free (locals_at shape state from).pending

  -- nothing was there
  round_on : (now : State) (from : ℕ) (others : List ℕ) (later : Taking) → lies_in shape now ≡ lies_in shape state → Allows shape cpu (parts.Local (local.Steal Nothing [] [])) (lies_in shape state (Local from))
      → ((then : State) → lies_in shape then ≡ lies_in shape state → IsRound then others later)
      → IsRound now (from ∷ others) (after_turns_of (probed shape state (Local from) (parts.Local (local.Steal Nothing [] []))) later)
  round_on now from others later same may rest =
      let part : Part = parts.Local (local.Steal Nothing [] []) in
      let turn : Turn = on_lock (Local from) part in
      let then : State = turned shape cpu number turn now in
      let stays : lies_in shape then ≡ lies_in shape now = lies_after shape cpu number turn now ∙ after_nothing shape cpu from (lies_in shape now) in
      let step = rest then (stays ∙ same) in
      let leaves : lies_in shape then ≡ after_turn shape cpu (lies_in shape now) turn = lies_after shape cpu number turn now in
      record {
        steals = (placed shape cpu number (turn ∷ []) now, placed shape cpu number later.turns then, Nothing, [], [], refl, is_chased shape cpu number now (Local from) part [] refl tt, step.steals);
        allowed = (
          subst (λ (contents : DomainId → Content). Allows shape cpu part (contents (Local from))) (sym same) may,
          subst (λ (contents : DomainId → Content). AreAllowed shape cpu contents later.turns) leaves step.allowed,
        );
        settled_then = subst (λ (contents : DomainId → Content). IsSettled shape (after_turns shape cpu contents later.turns) (bucket_number key_hash shape.buckets) (option_to_list later.got)) leaves step.settled_then;
      }

  -- something is stolen and comes home
  round_ends : (now : State) (from e : ℕ) (others : List ℕ) → lies_in shape now ≡ lies_in shape state → from < shape.cpus → steal_got (theft from) ≡ Some e
      → IsRound now (from ∷ others) (after_turns_of (probed shape state (Local from) (parts.Local (theft from))) (record { turns = brings_home shape cpu key_hash from e ∷ []; got = Some e }))
  round_ends now from e others same below got =
      let theirs : LocalLists = locals_at shape state from in
      let own : LocalLists = locals_at shape state cpu in
      let cursor : ℕ = ring_next from shape.cpus in
      let apart : from ≢ cpu = λ is. none-some e (sym (none_stolen state.bits theirs.free theirs.pending (ap (λ c. (locals_at shape state c).free) is ∙ none_free) (ap (λ c. (locals_at shape state c).pending) is ∙ none_pending)) ∙ got) in
      let home : Turn = brings_home shape cpu key_hash from e in
      let chase : List Turn = chasing shape (listed_rows (lies_in shape state (Local from))) (local_probes (theft from)) in
      let first : Turn = on_lock (Local from) (parts.Local (theft from)) in
      let tried : List Turn = chase ++ first ∷ [] in
      let then : State = all_turned shape cpu number tried now in
      let form = steal_form state.bits theirs.free theirs.pending in
      let chases = steal_chases shape cpu from key_hash e cursor state.bits (lies_in shape state) theirs own shared within below apart (lies_there from) (lies_there cpu) got (ring_next_below from shape.cpus below) settled in
      let chased_there = is_chased_as shape cpu number now (lies_in shape state) same (Local from) (parts.Local (theft from)) chase (chases.elsewhere (Local from) (λ bucket. refl)) chases.chase in
      let took : stolen_element form.0 ≡ Some e = ap steal_got (sym form.3) ∙ got in
      record {
        steals = (
          placed shape cpu number tried now,
          placed shape cpu number (home ∷ []) then,
          form.0,
          form.1,
          form.2,
          placed-append shape cpu number tried (home ∷ []) now,
          subst (λ (part : LocalPart). IsChased shape (Local from) (parts.Local part) (placed shape cpu number tried now)) form.3 chased_there,
          subst (λ (o : Option ℕ). MatchOption o (Steals shape cpu key_hash others (Some e) (placed shape cpu number (home ∷ []) then)) (λ x. (Some e ≡ Some x) × (turns_of (placed shape cpu number (home ∷ []) then) ≡ brings_home shape cpu key_hash from x ∷ []))) (sym took) (refl, refl),
        );
        allowed = subst (λ (contents : DomainId → Content). AreAllowed shape cpu contents (tried ++ home ∷ [])) (sym same)
            (steal_all_allowed shape cpu from key_hash e cursor state.bits (lies_in shape state) theirs own shared within below apart (lies_there from) (lies_there cpu) got (ring_next_below from shape.cpus below) settled);
        settled_then = subst (λ (contents : DomainId → Content). IsSettled shape (after_turns shape cpu contents (tried ++ home ∷ [])) (bucket_number key_hash shape.buckets) (e ∷ [])) (sym same)
            (subst (λ (contents : DomainId → Content). IsSettled shape contents (bucket_number key_hash shape.buckets) (e ∷ []))
            (sym (after_both shape cpu (lies_in shape state) tried (home ∷ []) ∙ ap (λ (contents : DomainId → Content). after_turn shape cpu contents home) (after_both shape cpu (lies_in shape state) chase (first ∷ []))))
            (steal_settles shape cpu from key_hash e cursor state.bits (lies_in shape state) theirs own shared within below apart (lies_there from) (lies_there cpu) got (ring_next_below from shape.cpus below) settled));
      }

  round_step : (now : State) (from : ℕ) (others : List ℕ) (got : Option ℕ) (later : Taking) → lies_in shape now ≡ lies_in shape state → from < shape.cpus → steal_got (theft from) ≡ got → ((then : State) → lies_in shape then ≡ lies_in shape state → IsRound then others later)
      → IsRound now (from ∷ others) (after_turns_of (probed shape state (Local from) (parts.Local (theft from))) (home_or shape cpu key_hash from got later))
  round_step now from others None later same below got rest =
      let lists : LocalLists = locals_at shape state from in
      let is = none_form state.bits lists.free lists.pending got in
      subst (λ (part : LocalPart). IsRound now (from ∷ others) (after_turns_of (probed shape state (Local from) (parts.Local part)) later)) (sym is)
      (round_on now from others later same
      (subst (λ (content : Content). Allows shape cpu (parts.Local (local.Steal Nothing [] [])) content) (sym (lies_there from))
      (subst (λ (part : LocalPart). Rattle.place_words.specs.Locals.AllowsOnLocal shape part lists) is (steal_allowed shape state.bits lists))) rest)
  round_step now from others (Some e) later same below got rest = round_ends now from e others same below got

  pub rounds : (cpus : List ℕ) → AreBelow shape.cpus cpus → (now : State) → lies_in shape now ≡ lies_in shape state → IsRound now cpus (stolen shape cpu key_hash state cpus)
  rounds [] below now same = record {
    steals = (refl, refl);
    allowed = tt;
    settled_then = subst (λ (contents : DomainId → Content). IsSettled shape contents (bucket_number key_hash shape.buckets) []) (sym same) settled;
  }
  rounds (from ∷ others) below now same =
      round_step now from others (steal_got (theft from)) (stolen shape cpu key_hash state others) same below.0 refl (λ then is. rounds others below.1 then is)
