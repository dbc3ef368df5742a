-- A refill with its global turn, and a theft that is brought home, between settled contents.
use Rattle.std.proofs.Common.{◌≡◌, ◌≢◌, ℕ, zero, ◌+◌, ◌<◌, ◌≤◌, Bool, true, false, cond, eqb, List, [], ◌∷◌, ◌++◌, reverse, refl, ap, ◌∙◌, sym, subst, arith}
use Rattle.std.specs.Prelude.{Some, option_to_list}
use Rattle.std.proofs.lemmas.Bool.{ne_eqb}
use Rattle.map_types.specs.declared.attr.Shape.{Shape}
use Rattle.map_types.specs.declared.kind.DomainId.{DomainId}
use Rattle.map_types.specs.declared.kind.DomainId.TheVariants.{Local, Global}
use Rattle.map_types.specs.declared.row.Row.{Row}
use Rattle.map_types.specs.ElementLists.{times}
use Rattle.map_types.specs.Listed.{elements_of}
use Rattle.map_types.proofs.RowLemmas.{times_append}
use Rattle.key_hash.specs.Bucket.{bucket_number}
use Rattle.place_words.specs.declared.history.Part.TheVariants as parts
use Rattle.place_words.specs.declared.list_part.GlobalPart.{GlobalPart}
use Rattle.place_words.specs.declared.list_part.LocalPart.{LocalPart}
use Rattle.place_words.specs.declared.list_part.LocalPart.TheVariants as local
use Rattle.place_words.specs.Choices.{global_turn, refill_of, refill_got, steal_of, steal_got}
use Rattle.place_words.specs.Histories.{Content, Allows, content_after, in_locals, in_global}
use Rattle.place_words.specs.Locals.{LocalLists}
use Rattle.place_words.specs.Moves.{elements_in, elements_of_set}
use Rattle.place_words.specs.RowMoves.{rows_of, gone_by_global, gone_by_local}
use Rattle.place_words.specs.Sets.{ListSet, row_with}
use Rattle.place_words.specs.Takings.{listed_rows, rows_brought, global_probes, local_probes}
use Rattle.place_words.specs.Turns.{Turn, on_lock, after_turn, after_turns, AreAllowed}
use Rattle.place_words.proofs.AcquireLeaves.{turn_allowed, refill_elements, refill_rows, refill_cursor, steal_elements, steal_rows, steal_cursor, add_cursor, home_allowed}
use Rattle.place_words.proofs.ChaseDone.{names_of, chasing, CanChase, IsChasing, chased}
use Rattle.place_words.proofs.DoneLaws.{allowed_both}
use Rattle.place_words.proofs.GlobalChoices.{global_probed, global_brings, global_gone_listed, refill_allowed}
use Rattle.place_words.proofs.ListSums.{local_once, global_once}
use Rattle.place_words.proofs.ListTurns.{rows_fewer, part_of}
use Rattle.place_words.proofs.PlacedContents.{after_both}
use Rattle.place_words.proofs.ProbeLaws.{IsRemoving, removing_of}
use Rattle.place_words.proofs.RowCounts.{any, rows_append, rows_any, rows_reverse, rows_least}
use Rattle.place_words.proofs.Settled.{is_of, elements_on, rows_on, listed, IsFit, IsSettled, once_on}
use Rattle.place_words.proofs.SharedFrees.{local_no_bucket, global_no_bucket}
use Rattle.place_words.proofs.StealChoices.{steal_allowed, steal_probed, stolen_was_pending}
use Rattle.place_words.proofs.Supplies.{row_held}
use Rattle.place_words.proofs.TwoLists.{two_of, Between, both_give, second_there}

none_held : (b : Bool) → cond b 0 0 ≡ zero
none_held true = refl
none_held false = refl

-- A refill

module _ (shape : Shape) (cpu key_hash : ℕ) (bits : ℕ → Bool) (contents : DomainId → Content) (set : ListSet) (lists : LocalLists) (shared : shape.common ≡ true) (within : cpu < shape.cpus)
    (there : contents Global ≡ in_global set) (here : contents (Local cpu) ≡ in_locals lists) (none_free : lists.free ≡ []) (settled : IsSettled shape contents (bucket_number key_hash shape.buckets) []) where
  abbrev inner : GlobalPart
  inner = global_turn bits lists.pending set

  abbrev refill : LocalPart
  refill = refill_of key_hash (global_turn bits lists.pending set)

  abbrev refill_rows_seen : List Row
  refill_rows_seen = rows_brought (parts.Global inner) ++ listed_rows (contents Global)

  abbrev refill_chase : List Turn
  refill_chase = chasing shape refill_rows_seen (global_probes inner)

  pub once_both : (e : ℕ) → times e (elements_of_set set) + times e (elements_of lists.pending) ≤ 1
  once_both e =
      let at_there : elements_on e (contents Global) ≡ times e (elements_of_set set) = ap (elements_on e) there in
      let at_here : elements_on e (contents (Local cpu)) ≡ times e (lists.free ++ elements_of lists.pending) = ap (elements_on e) here in
      omega (arith, at_there, at_here, times_append e lists.free (elements_of lists.pending), two_of shape contents Global (Local cpu) (global_once shape shared) (local_once shape cpu shared within) refl (elements_on e), once_on settled e)

  rows_seen : (e : ℕ) (of : ℕ → Bool) → rows_of e of (rows_brought (parts.Global (global_turn bits lists.pending set)) ++ listed_rows (contents Global)) ≡ rows_on e of (contents Global) + rows_on e of (contents (Local cpu))
  rows_seen e of =
      let brought : rows_of e of (rows_brought (parts.Global inner)) ≡ rows_of e of (reverse lists.pending) = ap (rows_of e of) (global_brings bits lists.pending set) in
      let at_here : rows_on e of (contents (Local cpu)) ≡ rows_of e of lists.pending = ap (rows_on e of) here in
      omega (arith, rows_append e of (rows_brought (parts.Global inner)) (listed_rows (contents Global)), brought, at_here, rows_reverse e of lists.pending)

  global_removing : IsRemoving (global_probes (global_turn bits lists.pending set)) (gone_by_global (global_turn bits lists.pending set))
  global_removing = removing_of (global_probes inner) (gone_by_global inner) (global_probed bits lists.pending set)

  two_rows : (e : ℕ) (of : ℕ → Bool) → rows_on e of (contents Global) + rows_on e of (contents (Local cpu)) ≤ listed shape contents e of
  two_rows e of = two_of shape contents Global (Local cpu) (global_once shape shared) (local_once shape cpu shared within) refl (rows_on e of)

  few_rows : (e : ℕ) → rows_of e any (rows_brought (parts.Global (global_turn bits lists.pending set)) ++ listed_rows (contents Global)) ≤ 1
  few_rows e =
      omega (arith, rows_seen e any, rows_fewer e any (contents Global), rows_fewer e any (contents (Local cpu)), two_of shape contents Global (Local cpu) (global_once shape shared) (local_once shape cpu shared within) refl (elements_on e), once_on settled e)

  can_refill : CanChase shape cpu (rows_brought (parts.Global (global_turn bits lists.pending set)) ++ listed_rows (contents Global)) contents (global_probes (global_turn bits lists.pending set))
  can_refill = record {
    fits = settled.fit;
    removed = global_removing.removed;
    few = λ e.
        let names : times e (names_of (global_probes inner)) ≡ times e (gone_by_global inner) = ap (times e) global_removing.names in
        let seen : times e (elements_of (rows_brought (parts.Global inner) ++ listed_rows (contents Global))) ≡ times e (elements_of (rows_brought (parts.Global inner) ++ listed_rows (in_global set))) =
        ap (λ (content : Content). times e (elements_of (rows_brought (parts.Global inner) ++ listed_rows content))) there in
        omega (arith, names, seen, global_gone_listed bits lists.pending set e, rows_any e refill_rows_seen);
    there = λ e bucket among. omega (arith, rows_seen e (is_of shape bucket), two_rows e (is_of shape bucket), settled.placed e bucket, none_held (eqb (bucket_number key_hash shape.buckets) bucket));
  }

  pub refill_chases : IsChasing shape cpu (rows_brought (parts.Global (global_turn bits lists.pending set)) ++ listed_rows (contents Global)) contents (global_probes (global_turn bits lists.pending set))
      (chasing shape (rows_brought (parts.Global (global_turn bits lists.pending set)) ++ listed_rows (contents Global)) (global_probes (global_turn bits lists.pending set)))
  refill_chases = chased shape cpu refill_rows_seen few_rows (global_probes inner) contents can_refill

  global_allowed : Allows shape cpu (parts.Global (global_turn bits lists.pending set)) (contents Global)
  global_allowed = subst (Allows shape cpu (parts.Global inner)) (sym there) (turn_allowed shape cpu key_hash bits set lists none_free once_both)

  local_allowed : Allows shape cpu (parts.Local (refill_of key_hash (global_turn bits lists.pending set))) (contents (Local cpu))
  local_allowed = subst (Allows shape cpu (parts.Local refill)) (sym here) (refill_allowed shape key_hash bits set lists none_free)

  pub refill_between : Between shape cpu contents (bucket_number key_hash shape.buckets) Global (Local cpu) (parts.Global (global_turn bits lists.pending set)) (parts.Local (refill_of key_hash (global_turn bits lists.pending set)))
      (rows_brought (parts.Global (global_turn bits lists.pending set)) ++ listed_rows (contents Global)) (global_probes (global_turn bits lists.pending set)) (option_to_list (refill_got (refill_of key_hash (global_turn bits lists.pending set))))
  refill_between = record {
    gone = gone_by_global inner;
    new = row_with key_hash (refill_got refill);
    elements = λ e.
        let at_there = ap (λ (content : Content). elements_on e (content_after shape cpu (parts.Global inner) content)) there in
        let at_here = ap (λ (content : Content). elements_on e (content_after shape cpu (parts.Local refill) content)) here in
        let was_there = ap (elements_on e) there in
        let was_here = ap (elements_on e) here in
        omega (arith, at_there, at_here, was_there, was_here, refill_elements shape cpu key_hash bits set lists none_free once_both e);
    rows_then = λ e of.
        let at_there = ap (λ (content : Content). rows_on e of (content_after shape cpu (parts.Global inner) content)) there in
        let at_here = ap (λ (content : Content). rows_on e of (content_after shape cpu (parts.Local refill) content)) here in
        let both : rows_on e of (in_global set) + rows_on e of (in_locals lists) ≡ rows_on e of (contents Global) + rows_on e of (contents (Local cpu)) =
        let was_there = ap (rows_on e of) there in let was_here = ap (rows_on e of) here in omega (arith, was_there, was_here) in
        let after = refill_rows shape cpu key_hash bits set lists none_free once_both e of in
        omega (arith, at_there, at_here, after) ∙ ap (λ n. cond (eqb (times e (gone_by_global inner)) 0) n 0 + rows_of e of (row_with key_hash (refill_got refill))) both;
    named = λ e. sym (ap (times e) global_removing.names);
    gives = λ e bucket. row_held shape key_hash (refill_got refill) e bucket;
    among = λ e of some. rows_seen e of;
    first_fits = subst (λ (content : Content). IsFit shape Global (content_after shape cpu (parts.Global inner) content)) (sym there) tt;
    second_fits = subst (λ (content : Content). IsFit shape (Local cpu) (content_after shape cpu (parts.Local refill) content)) (sym here)
        (λ below. subst (λ k. k < shape.cpus) (sym (refill_cursor shape cpu key_hash bits set lists none_free once_both)) (cursor_below below));
  }
    where
      cursor_below : cpu < shape.cpus → lists.steal < shape.cpus
      cursor_below = subst (IsFit shape (Local cpu)) here (settled.fit (Local cpu))

  -- what lies there after it, and that each of its turns is allowed
  pub refill_settles : IsSettled shape (after_turn shape cpu (after_turn shape cpu (after_turns shape cpu contents (chasing shape (rows_brought (parts.Global (global_turn bits lists.pending set)) ++ listed_rows (contents Global)) (global_probes (global_turn bits lists.pending set))))
      (on_lock Global (parts.Global (global_turn bits lists.pending set)))) (on_lock (Local cpu) (parts.Local (refill_of key_hash (global_turn bits lists.pending set))))) (bucket_number key_hash shape.buckets) (option_to_list (refill_got (refill_of key_hash (global_turn bits lists.pending set))))
  refill_settles =
      both_give shape cpu contents (bucket_number key_hash shape.buckets) Global (Local cpu) (parts.Global inner) (parts.Local refill) refill_rows_seen (global_probes inner) refill_chase (option_to_list (refill_got refill))
      (global_once shape shared) (local_once shape cpu shared within) refl refl global_no_bucket (local_no_bucket cpu) settled refill_chases refill_between

  pub refill_all_allowed : AreAllowed shape cpu contents ((chasing shape (rows_brought (parts.Global (global_turn bits lists.pending set)) ++ listed_rows (contents Global)) (global_probes (global_turn bits lists.pending set))
      ++ on_lock Global (parts.Global (global_turn bits lists.pending set)) ∷ []) ++ on_lock (Local cpu) (parts.Local (refill_of key_hash (global_turn bits lists.pending set))) ∷ [])
  refill_all_allowed =
      let first : Turn = on_lock Global (parts.Global inner) in
      allowed_both shape cpu contents (refill_chase ++ first ∷ []) (on_lock (Local cpu) (parts.Local refill) ∷ [])
      (allowed_both shape cpu contents refill_chase (first ∷ []) refill_chases.allowed (subst (Allows shape cpu (parts.Global inner)) (sym (refill_chases.elsewhere Global (λ bucket. refl))) global_allowed, tt)) (
        subst (λ (content : Content). Allows shape cpu (parts.Local refill) content)
            (sym (ap (λ (c : DomainId → Content). c (Local cpu)) (after_both shape cpu contents refill_chase (first ∷ [])) ∙ refill_chases.elsewhere (Local cpu) (λ bucket. refl))) local_allowed,
        tt,
      )

-- A theft that gives an element, which is brought home

module _ (shape : Shape) (cpu from key_hash e cursor : ℕ) (bits : ℕ → Bool) (contents : DomainId → Content) (theirs own : LocalLists) (shared : shape.common ≡ true) (within : cpu < shape.cpus) (from_within : from < shape.cpus) (apart : from ≢ cpu)
    (there : contents (Local from) ≡ in_locals theirs) (here : contents (Local cpu) ≡ in_locals own) (got : steal_got (steal_of bits theirs.free theirs.pending) ≡ Some e) (below : cursor < shape.cpus) (settled : IsSettled shape contents (bucket_number key_hash shape.buckets) []) where
  abbrev steal : LocalPart
  steal = steal_of bits theirs.free theirs.pending

  abbrev add : LocalPart
  add = local.Add key_hash e cursor

  other : eqb from cpu ≡ false
  other = ne_eqb from cpu apart

  back : eqb cpu from ≡ false
  back = ne_eqb cpu from (λ same. apart (sym same))

  steal_once : (x : ℕ) → times x (elements_in (in_locals theirs)) + times x (elements_in (in_locals own)) ≤ 1
  steal_once x =
      let at_there : elements_on x (contents (Local from)) ≡ times x (elements_in (in_locals theirs)) = ap (elements_on x) there in
      let at_here : elements_on x (contents (Local cpu)) ≡ times x (elements_in (in_locals own)) = ap (elements_on x) here in
      omega (arith, at_there, at_here, two_of shape contents (Local from) (Local cpu) (local_once shape from shared from_within) (local_once shape cpu shared within) other (elements_on x), once_on settled x)

  steal_removing : IsRemoving (local_probes (steal_of bits theirs.free theirs.pending)) (gone_by_local (steal_of bits theirs.free theirs.pending))
  steal_removing = removing_of (local_probes steal) (gone_by_local steal) (steal_probed bits theirs.free theirs.pending)

  rows_there : (x : ℕ) (of : ℕ → Bool) → rows_of x of (listed_rows (contents (Local from))) ≡ rows_of x of theirs.pending
  rows_there x of = ap (rows_on x of) there

  stolen_names : (x : ℕ) → times x (names_of (local_probes (steal_of bits theirs.free theirs.pending))) ≤ times x (elements_of theirs.pending)
  stolen_names x = let names : times x (names_of (local_probes steal)) ≡ times x (gone_by_local steal) = ap (times x) steal_removing.names in omega (arith, names, stolen_was_pending bits theirs.free theirs.pending x)

  can_steal : CanChase shape cpu (listed_rows (contents (Local from))) contents (local_probes (steal_of bits theirs.free theirs.pending))
  can_steal = record {
    fits = settled.fit;
    removed = steal_removing.removed;
    few = λ x. omega (arith, stolen_names x, rows_there x any, rows_any x theirs.pending);
    there = λ x bucket among.
        omega (arith, settled.placed x bucket, none_held (eqb (bucket_number key_hash shape.buckets) bucket), part_of shape cpu contents (Local from) (parts.Local steal) (local_once shape from shared from_within) (rows_on x (is_of shape bucket)));
  }

  pub steal_chases : IsChasing shape cpu (listed_rows (contents (Local from))) contents (local_probes (steal_of bits theirs.free theirs.pending)) (chasing shape (listed_rows (contents (Local from))) (local_probes (steal_of bits theirs.free theirs.pending)))
  steal_chases =
      chased shape cpu (listed_rows (contents (Local from)))
      (λ x. omega (arith, rows_fewer x any (contents (Local from)), part_of shape cpu contents (Local from) (parts.Local steal) (local_once shape from shared from_within) (elements_on x), once_on settled x))
      (local_probes steal) contents can_steal

  steal_between : Between shape cpu contents (bucket_number key_hash shape.buckets) (Local from) (Local cpu) (parts.Local (steal_of bits theirs.free theirs.pending)) (parts.Local (local.Add key_hash e cursor))
      (listed_rows (contents (Local from))) (local_probes (steal_of bits theirs.free theirs.pending)) (e ∷ [])
  steal_between = record {
    gone = gone_by_local steal;
    new = row_with key_hash (Some e);
    elements = λ x.
        let at_there = ap (λ (content : Content). elements_on x (content_after shape cpu (parts.Local steal) content)) there in
        let at_here = ap (λ (content : Content). elements_on x (content_after shape cpu (parts.Local add) content)) here in
        let was_there = ap (elements_on x) there in
        let was_here = ap (elements_on x) here in
        omega (arith, at_there, at_here, was_there, was_here, steal_elements shape cpu key_hash e cursor bits theirs own got below steal_once x);
    rows_then = λ x of.
        let at_there = ap (λ (content : Content). rows_on x of (content_after shape cpu (parts.Local steal) content)) there in
        let at_here = ap (λ (content : Content). rows_on x of (content_after shape cpu (parts.Local add) content)) here in
        let both : rows_on x of (in_locals theirs) + rows_on x of (in_locals own) ≡ rows_on x of (contents (Local from)) + rows_on x of (contents (Local cpu)) =
        let was_there = ap (rows_on x of) there in let was_here = ap (rows_on x of) here in omega (arith, was_there, was_here) in
        let after = steal_rows shape cpu key_hash e cursor bits theirs own got below steal_once x of in
        omega (arith, at_there, at_here, after) ∙ ap (λ n. cond (eqb (times x (gone_by_local steal)) 0) n 0 + rows_of x of (row_with key_hash (Some e))) both;
    named = λ x. sym (ap (times x) steal_removing.names);
    gives = λ x bucket. row_held shape key_hash (Some e) x bucket;
    among = λ x of some.
        let was_here : rows_on x of (contents (Local cpu)) ≡ rows_of x of own.pending = ap (rows_on x of) here in
        let whole = times_append x own.free (elements_of own.pending) in
        let whole_there = times_append x theirs.free (elements_of theirs.pending) in
        omega (arith, some, was_here, stolen_names x, steal_once x, whole, whole_there, rows_least x of own.pending);
    first_fits = subst (λ (content : Content). IsFit shape (Local from) (content_after shape cpu (parts.Local steal) content)) (sym there)
        (λ within. subst (λ k. k < shape.cpus) (sym (steal_cursor bits theirs)) (cursor_below within));
    second_fits = subst (λ (content : Content). IsFit shape (Local cpu) (content_after shape cpu (parts.Local add) content)) (sym here)
        (λ within. subst (λ k. k < shape.cpus) (sym (add_cursor key_hash e cursor own)) below);
  }
    where
      cursor_below : from < shape.cpus → theirs.steal < shape.cpus
      cursor_below = subst (IsFit shape (Local from)) there (settled.fit (Local from))

  pub steal_settles : IsSettled shape (after_turn shape cpu (after_turn shape cpu (after_turns shape cpu contents (chasing shape (listed_rows (contents (Local from))) (local_probes (steal_of bits theirs.free theirs.pending))))
      (on_lock (Local from) (parts.Local (steal_of bits theirs.free theirs.pending)))) (on_lock (Local cpu) (parts.Local (local.Add key_hash e cursor)))) (bucket_number key_hash shape.buckets) (e ∷ [])
  steal_settles =
      both_give shape cpu contents (bucket_number key_hash shape.buckets) (Local from) (Local cpu) (parts.Local steal) (parts.Local add) (listed_rows (contents (Local from))) (local_probes steal)
      (chasing shape (listed_rows (contents (Local from))) (local_probes steal)) (e ∷ [])
      (local_once shape from shared from_within) (local_once shape cpu shared within) other back (local_no_bucket from) (local_no_bucket cpu) settled steal_chases steal_between

  pub steal_all_allowed : AreAllowed shape cpu contents ((chasing shape (listed_rows (contents (Local from))) (local_probes (steal_of bits theirs.free theirs.pending)) ++ on_lock (Local from) (parts.Local (steal_of bits theirs.free theirs.pending)) ∷ [])
      ++ on_lock (Local cpu) (parts.Local (local.Add key_hash e cursor)) ∷ [])
  steal_all_allowed =
      let turns : List Turn = chasing shape (listed_rows (contents (Local from))) (local_probes steal) in
      let first : Turn = on_lock (Local from) (parts.Local steal) in
      let may_steal : Allows shape cpu (parts.Local steal) (contents (Local from)) = subst (Allows shape cpu (parts.Local steal)) (sym there) (steal_allowed shape bits theirs) in
      let may_add : Allows shape cpu (parts.Local add) (contents (Local cpu)) = subst (Allows shape cpu (parts.Local add)) (sym here) (home_allowed shape cpu key_hash e cursor bits theirs own got below steal_once) in
      allowed_both shape cpu contents (turns ++ first ∷ []) (on_lock (Local cpu) (parts.Local add) ∷ [])
      (allowed_both shape cpu contents turns (first ∷ []) steal_chases.allowed (subst (Allows shape cpu (parts.Local steal)) (sym (steal_chases.elsewhere (Local from) (λ bucket. refl))) may_steal, tt)) (
        subst (λ (content : Content). Allows shape cpu (parts.Local add) content)
            (sym (ap (λ (c : DomainId → Content). c (Local cpu)) (after_both shape cpu contents turns (first ∷ []))
            ∙ second_there shape cpu contents (bucket_number key_hash shape.buckets) (Local from) (Local cpu) (parts.Local steal) (parts.Local add) (listed_rows (contents (Local from))) (local_probes steal) turns (e ∷ [])
            (local_once shape from shared from_within) (local_once shape cpu shared within) other back (local_no_bucket from) (local_no_bucket cpu) settled steal_chases steal_between)) may_add,
        tt,
      )
