-- Turns one after another, each with what the log of its lock had before it: where each of them is allowed, each stands in a legal
-- history and leaves legal logs.
use Rattle.std.proofs.Common.{◌≡◌, ℕ, ◌<◌, Bool, true, false, cond, eqb, List, [], ◌∷◌, ◌++◌, refl, ap, sym, ◌∙◌, subst}
use Rattle.std.proofs.Math.Path.{fun_ext}
use Rattle.std.specs.Prelude.{Option, IsSome}
use Rattle.std.proofs.lemmas.Bool.{eq-eqb}
use Rattle.map_types.specs.declared.attr.Shape.{Shape}
use Rattle.map_types.specs.declared.kind.DomainId.{DomainId}
use Rattle.map_types.specs.ElementLists.{put}
use Rattle.map_types.specs.Kind.{is_lru}
use Rattle.place_words.specs.declared.bucket_part.BucketPart.TheVariants.{Lookup, Update, Delete, Take, Next, First, Walk, Evict}
use Rattle.place_words.specs.declared.bucket_part.Put.{Put}
use Rattle.place_words.specs.declared.bucket_part.Put.TheVariants as puts
use Rattle.place_words.specs.declared.history.Part.{Part}
use Rattle.place_words.specs.declared.history.Part.TheVariants as parts
use Rattle.place_words.specs.Histories.{Content, Allows, content, content_after, IsLegal}
use Rattle.place_words.specs.Locks.{is_same_lock}
use Rattle.place_words.specs.Logs.{State, turned, all_turned, lies_in, placed}
use Rattle.place_words.specs.PlainTraces.{spare_after_put, spare_after_part, spare_after}
use Rattle.place_words.specs.Turns.{Turn, TurnAt, turns_of, AreLegalAt, after_turn, AreAllowed}
use Rattle.place_words.proofs.HistoryLemmas.{content_more, legal_more}
use Rattle.place_words.proofs.LockLemmas.{one_lock}
use Rattle.place_words.proofs.ListContents.{all_turned-append}
use Rattle.map_types.proofs.RowLemmas.{by_test}

pub placed-append : (shape : Shape) (cpu number : ℕ) (xs ys : List Turn) (state : State) → placed shape cpu number (xs ++ ys) state ≡ placed shape cpu number xs state ++ placed shape cpu number ys (all_turned shape cpu number xs state)
placed-append shape cpu number [] ys state = refl
placed-append shape cpu number (turn ∷ xs) ys state = ap (λ (rest : List TurnAt). (record { turn = turn; earlier = state.logs turn.lock }) ∷ rest) (placed-append shape cpu number xs ys (turned shape cpu number turn state))

pub placed_turns : (shape : Shape) (cpu number : ℕ) (turns : List Turn) (state : State) → turns_of (placed shape cpu number turns state) ≡ turns
placed_turns shape cpu number [] state = refl
placed_turns shape cpu number (turn ∷ turns) state = ap (λ (rest : List Turn). turn ∷ rest) (placed_turns shape cpu number turns (turned shape cpu number turn state))

-- Logs

abbrev pub AreLegal : Shape → State → Type 0
AreLegal shape state = (lock : DomainId) → IsLegal shape lock (state.logs lock)

module _ (shape : Shape) (cpu number : ℕ) where
  -- what a turn leaves under each lock
  pub lies_after : (turn : Turn) (state : State) → lies_in shape (turned shape cpu number turn state) ≡ after_turn shape cpu (lies_in shape state) turn
  lies_after turn state = fun_ext (λ lock. by lock (is_same_lock turn.lock lock) refl)
    where
      by : (lock : DomainId) (b : Bool) → is_same_lock turn.lock lock ≡ b → content shape lock (cond b (state.logs lock ++ (record { ticket = state.next_ticket; cpu = cpu; call = number; part = turn.part }) ∷ []) (state.logs lock)) ≡ cond b (content_after shape cpu turn.part (lies_in shape state lock)) (lies_in shape state lock)
      by lock true same = content_more shape lock (state.logs lock) (record { ticket = state.next_ticket; cpu = cpu; call = number; part = turn.part })
      by lock false other = refl

  pub turned_legal : (turn : Turn) (state : State) → AreLegal shape state → Allows shape cpu turn.part (lies_in shape state turn.lock) → AreLegal shape (turned shape cpu number turn state)
  turned_legal turn state legal allowed lock = by (is_same_lock turn.lock lock) refl
    where
      by : (b : Bool) → is_same_lock turn.lock lock ≡ b → IsLegal shape lock (cond b (state.logs lock ++ (record { ticket = state.next_ticket; cpu = cpu; call = number; part = turn.part }) ∷ []) (state.logs lock))
      by true same = legal_more shape lock (state.logs lock) (record { ticket = state.next_ticket; cpu = cpu; call = number; part = turn.part }) (legal lock)
          (subst (λ (l : DomainId). Allows shape cpu turn.part (lies_in shape state l)) (one_lock turn.lock lock same) allowed)
      by false other = legal lock

  -- Turns stand in legal histories, and leave legal logs.
  pub record GoLegally (turns : List Turn) (state : State) : Type 0 where
    pub at_place : AreLegalAt shape cpu (placed shape cpu number turns state)
    pub after : AreLegal shape (all_turned shape cpu number turns state)

  pub legally_none : (state : State) → AreLegal shape state → GoLegally [] state
  legally_none state legal = record { at_place = tt; after = legal }

  pub legally_one : (turn : Turn) (state : State) → AreLegal shape state → Allows shape cpu turn.part (lies_in shape state turn.lock) → GoLegally (turn ∷ []) state
  legally_one turn state legal allowed = record { at_place = ((legal turn.lock, allowed), tt); after = turned_legal turn state legal allowed }

  legal_both : (xs ys : List TurnAt) → AreLegalAt shape cpu xs → AreLegalAt shape cpu ys → AreLegalAt shape cpu (xs ++ ys)
  legal_both [] ys first second = second
  legal_both (x ∷ xs) ys first second = (first.0, legal_both xs ys first.1 second)

  pub legally_both : (xs ys : List Turn) (state : State) → GoLegally xs state → GoLegally ys (all_turned shape cpu number xs state) → GoLegally (xs ++ ys) state
  legally_both xs ys state first second = record {
    at_place = subst (AreLegalAt shape cpu) (sym (placed-append shape cpu number xs ys state)) (legal_both _ _ first.at_place second.at_place);
    after = subst (AreLegal shape) (sym (all_turned-append shape cpu number xs ys state)) second.after;
  }

  -- where each is allowed
  pub legally_allowed : (turns : List Turn) (state : State) → AreLegal shape state → AreAllowed shape cpu (lies_in shape state) turns → GoLegally turns state
  legally_allowed [] state legal allowed = legally_none state legal
  legally_allowed (turn ∷ turns) state legal allowed =
      legally_both (turn ∷ []) turns state (legally_one turn state legal allowed.0)
      (legally_allowed turns (turned shape cpu number turn state) (turned_legal turn state legal allowed.0)
      (subst (λ (contents : DomainId → Content). AreAllowed shape cpu contents turns) (sym (lies_after turn state)) allowed.1))

-- Spares

put_here : {A : Type 0} (f : ℕ → A) (i : ℕ) (x : A) → put f i x i ≡ x
unfolding put
put_here f i x = by (eqb i i) (eq-eqb i i refl)
  where
    by : (b : Bool) → b ≡ true → cond b x (f i) ≡ x
    by true is = refl
    by false is = absurd cc

-- the spare of the CPU whose turns these are
pub spares_after : (shape : Shape) (cpu number : ℕ) (turns : List Turn) (state : State) → is_lru shape.kind ≡ false → (all_turned shape cpu number turns state).spares cpu ≡ spare_after (state.spares cpu) turns
spares_after shape cpu number [] state plain = refl
spares_after shape cpu number (turn ∷ turns) state plain =
    spares_after shape cpu number turns (turned shape cpu number turn state) plain ∙ ap (λ (spare : Option ℕ). spare_after spare turns) (by (is_lru shape.kind) plain)
  where
    by : (b : Bool) → b ≡ false → (cond b state.spares (put state.spares cpu (spare_after_part (state.spares cpu) turn.part))) cpu ≡ spare_after_part (state.spares cpu) turn.part
    by true is = absurd cc
    by false is = put_here state.spares cpu (spare_after_part (state.spares cpu) turn.part)

-- a spare is left where there was one
put_spare : (spare : Option ℕ) (put : Put) → IsSome spare → IsSome (spare_after_put spare put)
put_spare spare (puts.Added e) some = some
put_spare spare (puts.Replaced new old) some = refl
put_spare spare (puts.Written e) some = some
put_spare spare puts.Exists some = some
put_spare spare puts.Absent some = some
put_spare spare puts.Full some = some

part_spare : (spare : Option ℕ) (part : Part) → IsSome spare → IsSome (spare_after_part spare part)
part_spare spare (parts.Bucket (Lookup side key got)) some = some
part_spare spare (parts.Bucket (Update side flags key value offer done)) some = put_spare spare done some
part_spare spare (parts.Bucket (Delete key removed)) some = some
part_spare spare (parts.Bucket (Take key removed)) some = some
part_spare spare (parts.Bucket (Next key found)) some = some
part_spare spare (parts.Bucket (First key)) some = some
part_spare spare (parts.Bucket (Walk remove room result)) some = some
part_spare spare (parts.Bucket (Evict e probed)) some = some
part_spare spare (parts.Free part) some = some
part_spare spare (parts.Local part) some = some
part_spare spare (parts.Global part) some = some
part_spare spare (parts.Own part) some = some

pub spares_stay : (shape : Shape) (cpu number : ℕ) (turns : List Turn) (state : State) → ((c : ℕ) → c < shape.cpus → IsSome (state.spares c)) → (c : ℕ) → c < shape.cpus → IsSome ((all_turned shape cpu number turns state).spares c)
unfolding put
spares_stay shape cpu number [] state all c within = all c within
spares_stay shape cpu number (turn ∷ turns) state all c within = spares_stay shape cpu number turns (turned shape cpu number turn state) (by (is_lru shape.kind)) c within
  where
    written : (c : ℕ) → c < shape.cpus → IsSome (put state.spares cpu (spare_after_part (state.spares cpu) turn.part) c)
    written c within =
        by_test c cpu (λ b. IsSome (cond b (spare_after_part (state.spares cpu) turn.part) (state.spares c)))
        (λ same. part_spare (state.spares cpu) turn.part (subst (λ (n : ℕ). IsSome (state.spares n)) same (all c within)))
        (λ other. all c within)

    by : (b : Bool) → (c : ℕ) → c < shape.cpus → IsSome ((cond b state.spares (put state.spares cpu (spare_after_part (state.spares cpu) turn.part))) c)
    by true c within = all c within
    by false c within = written c within
