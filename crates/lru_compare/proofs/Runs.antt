-- Runs call by call.
use Rattle.std.proofs.Common.{◌≡◌, ℕ, ◌+◌, ◌-◌, ◌≤◌, ◌<◌, true, false, List, [], ◌∷◌, length, take, drop, get_or, Option, Some, None, refl, sym, ap, ◌∙◌, suc, cond, nat_lt, is_some, add-one, append_assoc, ◌++◌, subst}
use native.Mathlib.Omega.{arith}
use Rattle.std.proofs.Math.Seq.{drop-cons}
use Rattle.map_types.specs.declared.call.Call.{Call}
use Rattle.map_types.specs.declared.call.Verb.{Verb}
use Rattle.map_types.specs.declared.call.Verb.TheVariants.{Lookup, Update, Delete, Take, Next, BatchRead, BatchUpdate, BatchDelete, Each}
use Rattle.map_types.specs.declared.kind.Side.{Side}
use Rattle.map_types.specs.declared.kind.Side.TheVariants.{Prog, Sys}
use Rattle.map_types.specs.declared.refusal.Errno.{Errno}
use Rattle.map_types.specs.declared.reply.Reply.{Reply}
use Rattle.map_types.specs.declared.reply.Reply.TheVariants.{Done, Value}
use Rattle.lru_compare.specs.Run.{strict}
use Rattle.lru_compare.specs.declared.run.StrictOut.{StrictOut}
use Rattle.map_script.specs.declared.script.Script.{Script}
use Rattle.lru_compare.specs.Strict.{Held, holds_none, after_call, replies_from, held_after, within_capacity, unless_refused, refusal, value_of, with_pairs, without, looked_up, taken_out}

-- a call evicts one pair at most
within_one : (held : Held) → (within_capacity held).evicted ≤ held.evicted + 1
within_one held = elim (nat_lt held.capacity (length held.pairs)) as (λ b. (cond b (record { capacity = held.capacity; pairs = take (length held.pairs - 1) held.pairs; evicted = suc held.evicted }) held).evicted ≤ held.evicted + 1) [
  | true ↦ omega arith
  | false ↦ omega arith
]

unless_one : (why : Option Errno) (after before : Held) → after.evicted ≡ before.evicted → (unless_refused why after before).0.evicted ≤ before.evicted + 1
unless_one None after before same = omega (arith, within_one after)
unless_one (Some errno) after before same = omega arith

looked_one : (side : Side) (key : List ℕ) (found : Option (List ℕ)) (held : Held) → (looked_up side key found held).0.evicted ≤ held.evicted + 1
looked_one side key None held = omega arith
looked_one Prog key (Some value) held = omega arith
looked_one Sys key (Some value) held = omega arith

taken_one : (key : List ℕ) (answer : List ℕ → Reply) (found : Option (List ℕ)) (held : Held) → (taken_out key answer found held).0.evicted ≤ held.evicted + 1
taken_one key answer None held = omega arith
taken_one key answer (Some value) held = omega arith

pub evicts_one : (verb : Verb) (held : Held) → (after_call verb held).0.evicted ≤ held.evicted + 1
unfolding after_call
evicts_one (Lookup side key) held = looked_one side key (value_of key held) held
evicts_one (Update side flags key value) held = unless_one (refusal flags (is_some (value_of key held))) (with_pairs held ((key, value) ∷ without key held)) held refl
evicts_one (Delete key) held = taken_one key (λ value. Done) (value_of key held) held
evicts_one (Take key) held = taken_one key Value (value_of key held) held
evicts_one (Next key) held = omega arith
evicts_one (BatchRead remove count start flags) held = omega arith
evicts_one (BatchUpdate flags pairs) held = omega arith
evicts_one (BatchDelete flags keys) held = omega arith
evicts_one (Each flags stop) held = omega arith

-- the next call of a run
pub next_held : (held : Held) (calls : List Call) (i : ℕ) (call : Call) → i < length calls → call ≡ get_or calls i call
    → held_after held (drop i calls) ≡ held_after (after_call call.verb held).0 (drop (i + 1) calls)
next_held held calls i call within is =
    ap (held_after held) (drop-cons calls i call within) ∙ ap (λ c. held_after held (c ∷ drop (suc i) calls)) (sym is)
    ∙ ap (λ n. held_after (after_call call.verb held).0 (drop n calls)) (sym (add-one i))

pub next_replies : (held : Held) (calls : List Call) (i : ℕ) (call : Call) → i < length calls → call ≡ get_or calls i call
    → replies_from held (drop i calls) ≡ (after_call call.verb held).1 ∷ replies_from (after_call call.verb held).0 (drop (i + 1) calls)
next_replies held calls i call within is =
    ap (replies_from held) (drop-cons calls i call within) ∙ ap (λ c. replies_from held (c ∷ drop (suc i) calls)) (sym is)
    ∙ ap (λ n. (after_call call.verb held).1 ∷ replies_from (after_call call.verb held).0 (drop n calls)) (sym (add-one i))

-- the replies and what is held go on with the next call, which evicts one pair at most
pub goes_on : (start held now : Held) (calls : List Call) (i : ℕ) (call : Call) (so_far after : List Reply) (reply : Reply) → i < length calls → call ≡ get_or calls i call
    → now ≡ (after_call call.verb held).0 → reply ≡ (after_call call.verb held).1 → after ≡ so_far ++ reply ∷ []
    → held_after held (drop i calls) ≡ held_after start calls → so_far ++ replies_from held (drop i calls) ≡ replies_from start calls
    → (held_after now (drop (i + 1) calls) ≡ held_after start calls) × (after ++ replies_from now (drop (i + 1) calls) ≡ replies_from start calls) × (now.evicted ≤ held.evicted + 1)
goes_on start held now calls i call so_far after reply within is now_is reply_is after_is held_so_far replies_so_far =
    let here : after ≡ so_far ++ (after_call call.verb held).1 ∷ [] = after_is ∙ ap (λ r. so_far ++ r ∷ []) reply_is in
    let rest : replies_from now (drop (i + 1) calls) ≡ replies_from (after_call call.verb held).0 (drop (i + 1) calls) = ap (λ h. replies_from h (drop (i + 1) calls)) now_is in (
      ap (λ h. held_after h (drop (i + 1) calls)) now_is ∙ sym (next_held held calls i call within is) ∙ held_so_far,
      ap (λ l. l ++ replies_from now (drop (i + 1) calls)) here ∙ ap (λ l. (so_far ++ (after_call call.verb held).1 ∷ []) ++ l) rest
          ∙ append_assoc so_far ((after_call call.verb held).1 ∷ []) (replies_from (after_call call.verb held).0 (drop (i + 1) calls))
          ∙ ap (λ l. so_far ++ l) (sym (next_replies held calls i call within is)) ∙ replies_so_far,
      subst (λ h. h.evicted ≤ held.evicted + 1) (sym now_is) (evicts_one call.verb held),
    )

-- what a run answers
pub run_told : (script : Script) (cache after : Held) (calls : List Call) (replies listed : List Reply) (count : ℕ) → cache ≡ holds_none script.shape.capacity → calls ≡ script.calls
    → replies ≡ replies_from cache calls → after ≡ held_after cache calls → listed ≡ replies → count ≡ after.evicted
    → ◌≡◌ {A = StrictOut} (record { replies = listed; evicted = count }) (strict script)
unfolding strict
run_told script cache after calls replies listed count cache_is calls_is replies_are after_is listed_is count_is =
    ap (λ l. record { replies = l; evicted = count }) (listed_is ∙ replies_are ∙ ap (λ h. replies_from h calls) cache_is ∙ ap (replies_from (holds_none script.shape.capacity)) calls_is)
    ∙ ap (λ n. record { replies = replies_from (holds_none script.shape.capacity) script.calls; evicted = n })
    (count_is ∙ ap (λ h. h.evicted) (after_is ∙ ap (λ h. held_after h calls) cache_is ∙ ap (held_after (holds_none script.shape.capacity)) calls_is))
