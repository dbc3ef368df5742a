-- What a refill with its global turn leaves of the elements and rows under both locks, and what a theft leaves with the turn
-- that brings home what it took.
use Rattle.std.proofs.Common.{◌≡◌, ℕ, zero, suc, ◌+◌, ◌<◌, ◌≤◌, Bool, false, cond, eqb, List, [], ◌∷◌, drop, reverse, refl, ap, ◌∙◌, sym, subst, arith}
use Rattle.std.specs.Prelude.{Option, None, Some, option_to_list}
use Rattle.std.proofs.lemmas.Bool.{ne_eqb}
use Rattle.map_types.specs.declared.attr.Shape.{Shape}
use Rattle.map_types.specs.declared.row.Row.{Row}
use Rattle.map_types.specs.ElementLists.{times}
use Rattle.map_types.specs.Listed.{elements_of}
use Rattle.place_words.specs.declared.history.Part.TheVariants as parts
use Rattle.place_words.specs.declared.list_part.GlobalPart.{GlobalPart}
use Rattle.place_words.specs.declared.list_part.LocalPart.{LocalPart}
use Rattle.place_words.specs.declared.list_part.LocalPart.TheVariants as local
use Rattle.place_words.specs.declared.visits.Look.{Look}
use Rattle.place_words.specs.declared.visits.Try.{Try}
use Rattle.place_words.specs.Choices.{global_turn, refill_of, refill_got, steal_of, stolen_of, sparing_over, forced_after, steal_got}
use Rattle.place_words.specs.Globals.{AllowsOnGlobal, global_after}
use Rattle.place_words.specs.Histories.{in_locals, in_global}
use Rattle.place_words.specs.Locals.{LocalLists, last_of, AllowsOnLocal, local_after}
use Rattle.place_words.specs.Moves.{elements_in, elements_of_set, brought_to_global, taken_from_global, brought_to_local, taken_from_local}
use Rattle.place_words.specs.Rotation.{visits_of, visited_elements}
use Rattle.place_words.specs.RowMoves.{rows_of, gone_by_global, gone_by_local, new_in_local}
use Rattle.place_words.specs.Sets.{ListSet, row_with}
use Rattle.place_words.specs.Shrinking.{freed}
use Rattle.place_words.specs.Takings.{listed_rows, rows_brought}
use Rattle.map_types.proofs.RowLemmas.{by_test, times_append}
use Rattle.place_words.proofs.GlobalChoices.{flush_names, elements_turned, global_turn_fits, global_brings, refill_is}
use Rattle.place_words.proofs.KeepLaws.{keeps_elements, keeps_rows}
use Rattle.place_words.proofs.OwnLaws.{no_head, visits_name}
use Rattle.place_words.proofs.RowCounts.{rows_least, rows_reverse}
use Rattle.place_words.proofs.StealChoices.{steal_allowed, stolen_was_pending, add_allowed}

-- A refill

-- the elements that the global turn brings there are those that were pending
pub global_brought : (bits : ℕ → Bool) (pending : List Row) (set : ListSet) → brought_to_global (global_turn bits pending set) ≡ elements_of (reverse pending)
unfolding global_turn
global_brought bits pending set = flush_names bits (reverse pending)

module _ (shape : Shape) (cpu key_hash : ℕ) (bits : ℕ → Bool) (set : ListSet) (lists : LocalLists) (none_free : lists.free ≡ []) (once : (e : ℕ) → times e (elements_of_set set) + times e (elements_of lists.pending) ≤ 1) where
  abbrev turn : GlobalPart
  turn = global_turn bits lists.pending set

  abbrev refill : LocalPart
  refill = refill_of key_hash (global_turn bits lists.pending set)

  -- the refill, written out
  abbrev told : LocalPart
  told = local.Refill key_hash (visits_of bits (reverse lists.pending)) (taken_from_global (global_turn bits lists.pending set)) (last_of (taken_from_global (global_turn bits lists.pending set)))

  pub once_there : (e : ℕ) → times e (elements_of_set set) ≤ 1
  once_there e = omega (arith, once e)

  pub once_here : (e : ℕ) → times e (elements_in (in_locals lists)) ≤ 1
  once_here e =
      let none : times e lists.free ≡ 0 = ap (times e) none_free in
      omega (arith, once e, none, times_append e lists.free (elements_of lists.pending))

  pub turn_allowed : AllowsOnGlobal (global_turn bits lists.pending set) set
  turn_allowed =
      global_turn_fits bits lists.pending set (λ e. omega (arith, once e)) (λ e some. omega (arith, once e, some))

  told_allowed : AllowsOnLocal shape told lists
  told_allowed = (none_free, visits_name bits (reverse lists.pending) ∙ elements_turned lists.pending, refl)

  -- under both locks the same elements lie before and after
  pub refill_elements : (e : ℕ) → times e (elements_in (in_global (global_after turn set))) + times e (elements_in (in_locals (local_after refill lists)))
      ≡ times e (elements_in (in_global set)) + times e (elements_in (in_locals lists))
  refill_elements e =
      let there = keeps_elements shape cpu (parts.Global turn) (in_global set) turn_allowed once_there e in
      let here = keeps_elements shape cpu (parts.Local told) (in_locals lists) told_allowed once_here e in
      let is : times e (elements_in (in_locals (local_after refill lists))) ≡ times e (elements_in (in_locals (local_after told lists))) = ap (λ (part : LocalPart). times e (elements_in (in_locals (local_after part lists)))) (refill_is key_hash bits lists.pending set) in
      let brought : times e (brought_to_global turn) ≡ times e (elements_of (reverse lists.pending)) = ap (times e) (global_brought bits lists.pending set) in
      let flushed : times e (visited_elements (visits_of bits (reverse lists.pending))) ≡ times e (elements_of (reverse lists.pending)) = ap (times e) (visits_name bits (reverse lists.pending)) in
      omega (arith, there, here, is, brought, flushed)

  -- what was pending is listed with its hashes now, and all that was listed, but for what the shrink freed
  pub refill_global_rows : (e : ℕ) (of : ℕ → Bool) → rows_of e of (listed_rows (in_global (global_after turn set)))
      ≡ cond (eqb (times e (gone_by_global turn)) 0) (rows_of e of (listed_rows (in_global set)) + rows_of e of lists.pending) 0
  refill_global_rows e of =
      let there = keeps_rows shape cpu (parts.Global turn) (in_global set) turn_allowed once_there e of in
      let brought : rows_of e of (rows_brought (parts.Global turn)) ≡ rows_of e of lists.pending = ap (rows_of e of) (global_brings bits lists.pending set) ∙ rows_reverse e of lists.pending in
      omega (arith, there) ∙ ap (λ n. cond (eqb (times e (gone_by_global turn)) 0) (rows_of e of (listed_rows (in_global set)) + n) 0) brought

  -- and pending is the row of what was got, with the new hash
  pub refill_pending : (local_after refill lists).pending ≡ row_with key_hash (refill_got refill)
  unfolding local_after
  refill_pending =
      ap (λ (part : LocalPart). (local_after part lists).pending) (refill_is key_hash bits lists.pending set)
      ∙ ap (λ (part : LocalPart). row_with key_hash (refill_got part)) (sym (refill_is key_hash bits lists.pending set))

  -- what was brought is free, last first, but for what was got; and the cursor stays
  pub refill_free : (local_after refill lists).free ≡ drop 1 (reverse (taken_from_global turn))
  unfolding local_after
  refill_free = ap (λ (part : LocalPart). (local_after part lists).free) (refill_is key_hash bits lists.pending set)

  pub refill_cursor : (local_after refill lists).steal ≡ lists.steal
  unfolding local_after
  refill_cursor = ap (λ (part : LocalPart). (local_after part lists).steal) (refill_is key_hash bits lists.pending set)

  -- where nothing was got, nothing is free or pending then
  pub refill_leaves_none : refill_got refill ≡ None → ((local_after refill lists).free ≡ []) × ((local_after refill lists).pending ≡ [])
  refill_leaves_none none =
      let last : last_of (taken_from_global turn) ≡ None = ap refill_got (sym (refill_is key_hash bits lists.pending set)) ∙ none in
      let empty : reverse (taken_from_global turn) ≡ [] = no_head (reverse (taken_from_global turn)) last in (
        refill_free ∙ ap (λ (es : List ℕ). drop 1 es) empty,
        refill_pending ∙ ap (row_with key_hash) none,
      )

  -- under both locks together
  pub refill_rows : (e : ℕ) (of : ℕ → Bool) → rows_of e of (listed_rows (in_global (global_after turn set))) + rows_of e of (listed_rows (in_locals (local_after refill lists)))
      ≡ cond (eqb (times e (gone_by_global turn)) 0) (rows_of e of (listed_rows (in_global set)) + rows_of e of (listed_rows (in_locals lists))) 0 + rows_of e of (row_with key_hash (refill_got refill))
  refill_rows e of =
      let here : rows_of e of (local_after refill lists).pending ≡ rows_of e of (row_with key_hash (refill_got refill)) = ap (rows_of e of) refill_pending in
      omega (arith, refill_global_rows e of, here)

-- A theft

times_self : (e : ℕ) → times e (e ∷ []) ≡ 1
times_self e = by_test e e (λ b. cond b 1 0 ≡ suc zero) (λ same. refl) (λ other. absurd (other refl))

-- one list may lose what it has where the other has none
both_where : (gone there here : ℕ) → (1 ≤ gone → here ≡ 0) → cond (eqb gone 0) there 0 + here ≡ cond (eqb gone 0) (there + here) 0
both_where zero there here none = refl
both_where (suc n) there here none =
    let some : eqb (suc n) 0 ≡ false = ne_eqb (suc n) 0 (λ same. omega (arith, same)) in
    subst (λ (b : Bool). cond b there 0 + here ≡ cond b (there + here) 0) (sym some) (let empty : here ≡ 0 = none (omega arith) in omega (arith, empty))

steal_takes : (bits : ℕ → Bool) (free : List ℕ) (pending : List Row) → taken_from_local (steal_of bits free pending) ≡ option_to_list (steal_got (steal_of bits free pending))
steal_takes bits [] pending = refl
steal_takes bits (e ∷ free) pending = refl

steal_brings : (bits : ℕ → Bool) (free : List ℕ) (pending : List Row) → brought_to_local (steal_of bits free pending) ≡ []
steal_brings bits [] pending = refl
steal_brings bits (e ∷ free) pending = refl

steal_gives_no_row : (bits : ℕ → Bool) (free : List ℕ) (pending : List Row) → new_in_local (steal_of bits free pending) ≡ []
steal_gives_no_row bits [] pending = refl
steal_gives_no_row bits (e ∷ free) pending = refl

cursor_kept : (es : List ℕ) (first : List Look) (second : List Try) (lists : LocalLists) → (local_after (local.Steal (stolen_of es) first second) lists).steal ≡ lists.steal
unfolding local_after
cursor_kept [] first second lists = refl
cursor_kept (e ∷ es) first second lists = refl

cursor_stays : (bits : ℕ → Bool) (free : List ℕ) (pending : List Row) (lists : LocalLists) → (local_after (steal_of bits free pending) lists).steal ≡ lists.steal
unfolding local_after
cursor_stays bits [] pending lists =
    let first : List Look = sparing_over bits (reverse pending) in
    let second : List Try = forced_after first (reverse pending) in
    cursor_kept (freed first second) first second lists
cursor_stays bits (e ∷ free) pending lists = refl

-- a theft leaves the cursor of the lists from which it takes, and what comes home sets the own one
pub steal_cursor : (bits : ℕ → Bool) (lists : LocalLists) → (local_after (steal_of bits lists.free lists.pending) lists).steal ≡ lists.steal
steal_cursor bits lists = cursor_stays bits lists.free lists.pending lists

pub add_cursor : (key_hash e cursor : ℕ) (lists : LocalLists) → (local_after (local.Add key_hash e cursor) lists).steal ≡ cursor
unfolding local_after
add_cursor key_hash e cursor lists = refl

module _ (shape : Shape) (cpu key_hash e cursor : ℕ) (bits : ℕ → Bool) (there here : LocalLists) (got : steal_got (steal_of bits there.free there.pending) ≡ Some e) (below : cursor < shape.cpus)
    (once : (x : ℕ) → times x (elements_in (in_locals there)) + times x (elements_in (in_locals here)) ≤ 1) where
  abbrev steal : LocalPart
  steal = steal_of bits there.free there.pending

  abbrev add : LocalPart
  add = local.Add key_hash e cursor

  once_from : (x : ℕ) → times x (elements_in (in_locals there)) ≤ 1
  once_from x = omega (arith, once x)

  once_home : (x : ℕ) → times x (elements_in (in_locals here)) ≤ 1
  once_home x = omega (arith, once x)

  taken_is : (x : ℕ) → times x (taken_from_local steal) ≡ times x (e ∷ [])
  taken_is x = ap (times x) (steal_takes bits there.free there.pending) ∙ ap (λ (o : Option ℕ). times x (option_to_list o)) got

  stolen_off : (x : ℕ) → times x (elements_in (in_locals (local_after steal there))) + times x (e ∷ []) ≡ times x (elements_in (in_locals there))
  stolen_off x =
      let kept = keeps_elements shape cpu (parts.Local steal) (in_locals there) (steal_allowed shape bits there) once_from x in
      let none : times x (brought_to_local steal) ≡ 0 = ap (times x) (steal_brings bits there.free there.pending) in
      omega (arith, kept, none, taken_is x)

  -- what was stolen wasn't at home
  pub not_home : times e (elements_in (in_locals here)) ≡ 0
  not_home = omega (arith, stolen_off e, once e, times_self e)

  pub home_allowed : AllowsOnLocal shape add here
  home_allowed =
      let whole = times_append e here.free (elements_of here.pending) in
      add_allowed shape key_hash e cursor here (omega (arith, not_home, whole)) (omega (arith, not_home, whole)) below

  -- under both locks the same elements lie before and after
  pub steal_elements : (x : ℕ) → times x (elements_in (in_locals (local_after steal there))) + times x (elements_in (in_locals (local_after add here)))
      ≡ times x (elements_in (in_locals there)) + times x (elements_in (in_locals here))
  steal_elements x =
      let home = keeps_elements shape cpu (parts.Local add) (in_locals here) home_allowed once_home x in
      omega (arith, stolen_off x, home)

  -- there the row of a stolen pending element vanishes, and all others stay
  pub steal_there : (x : ℕ) (of : ℕ → Bool) → rows_of x of (local_after steal there).pending ≡ cond (eqb (times x (gone_by_local steal)) 0) (rows_of x of there.pending) 0
  steal_there x of =
      let kept = keeps_rows shape cpu (parts.Local steal) (in_locals there) (steal_allowed shape bits there) once_from x of in
      let none : rows_of x of (new_in_local steal) ≡ 0 = ap (rows_of x of) (steal_gives_no_row bits there.free there.pending) in
      let plain : rows_of x of there.pending + 0 ≡ rows_of x of there.pending = omega arith in
      omega (arith, kept, none) ∙ ap (λ n. cond (eqb (times x (gone_by_local steal)) 0) n 0) plain

  -- at home its row is new, and all others stay
  pub steal_home : (x : ℕ) (of : ℕ → Bool) → rows_of x of (local_after add here).pending ≡ rows_of x of here.pending + rows_of x of (row_with key_hash (Some e))
  steal_home x of =
      let kept = keeps_rows shape cpu (parts.Local add) (in_locals here) home_allowed once_home x of in
      omega (arith, kept)

  -- under both locks together
  pub steal_rows : (x : ℕ) (of : ℕ → Bool) → rows_of x of (listed_rows (in_locals (local_after steal there))) + rows_of x of (listed_rows (in_locals (local_after add here)))
      ≡ cond (eqb (times x (gone_by_local steal)) 0) (rows_of x of (listed_rows (in_locals there)) + rows_of x of (listed_rows (in_locals here))) 0 + rows_of x of (row_with key_hash (Some e))
  steal_rows x of =
      let gone = stolen_was_pending bits there.free there.pending x in
      let whole = times_append x here.free (elements_of here.pending) in
      let whole_there = times_append x there.free (elements_of there.pending) in
      let at_home = rows_least x of here.pending in
      let joined = both_where (times x (gone_by_local steal)) (rows_of x of there.pending) (rows_of x of here.pending) (λ some. omega (arith, some, gone, whole, whole_there, at_home, once x)) in
      omega (arith, steal_there x of, steal_home x of, joined)
