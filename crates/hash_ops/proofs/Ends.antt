-- The ends of calls: what a call leaves from where it began.
use Rattle.std.proofs.Common.{◌≡◌, ℕ, ◌<◌, Bool, true, false, cond, List, [], Option, inl, refl, subst}
use Rattle.std.specs.Prelude.{IsFalse, MatchBool, Result, Ok, Err}
use Rattle.std.proofs.lemmas.List.Elements.{All-nil}
use Rattle.map_types.specs.declared.refusal.Errno.TheVariants as errnos
use Rattle.map_types.specs.declared.reply.Reply.{Reply}
use Rattle.map_types.specs.declared.reply.Reply.TheVariants.{Done, Refused}
use Rattle.map_types.specs.Kind.{is_lru}
use Rattle.percpu_values.specs.BodyList.{BodyList}
use Rattle.place_words.specs.Traces.{bucket_of_key}
use Rattle.place_table.specs.declared.view.Turned.{Turned}
use Rattle.place_table.specs.Calls.{finds_moved_on}
use Rattle.place_table.specs.Known.{IsBy, Learns}
use Rattle.place_table.specs.Passes.{PassView, TableView}
use Rattle.place_table.proofs.Going.{goes_nowhere, learns_none}
use Rattle.hash_ops.specs.Calls.{CanCall, CalledWhole, UpdateCall, Updated, Updates, spare_element, verb_of}
use Rattle.hash_ops.specs.declared.map.PlainRefusal.{PlainRefusal}
use Rattle.hash_ops.specs.declared.map.PlainRefusal.TheVariants as refusals
use Rattle.hash_ops.specs.Under.{Enters, AnsweredAt, UpdateEnds}
use Rattle.hash_ops.proofs.Under.{called_on}

-- whether the map evicts or not, there is nothing
nothing : {A : Type 0} (evicts : Bool) → [] ≡ cond {A = List A} evicts [] []
nothing true = refl
nothing false = refl

-- Calls, from where the pass was in no call
module _ (t : TableView) (bucket : ℕ) (p q s : PassView) (chain : BodyList) (enters : Enters t bucket p q chain) (can : CanCall t p) (update : UpdateCall) (here : bucket ≡ bucket_of_key t.shape update.key) where
  updated : (reply : Reply) → AnsweredAt t bucket q s (verb_of update) reply → Updated t p s update reply
  updated reply ends = called_on t bucket p q s chain (verb_of update) update.key reply enters can.in_no_call.holds_nothing here ends

  pub updates_of : (result : Result (Unit {0}) PlainRefusal) → UpdateEnds t bucket q s (verb_of update) result → Updates t p s update result
  updates_of (Ok done) ends = updated Done ends
  updates_of (Err refusals.Einval) ends = absurd ends
  updates_of (Err refusals.Enoent) ends = updated (Refused errnos.Enoent) ends
  updates_of (Err refusals.Eexist) ends = updated (Refused errnos.Eexist) ends
  updates_of (Err refusals.E2big) ends = updated (Refused errnos.E2big) ends

by_either : (evicts : Bool) (P Q : Type 0) → P → Q → MatchBool evicts P Q
by_either true P Q first second = first
by_either false P Q first second = second

either_same : (evicts : Bool) (spare : Option ℕ) → spare ≡ cond evicts spare spare
either_same true spare = refl
either_same false spare = refl

-- flags that are unknown are refused, and nothing was done
pub called_unknown : (t : TableView) (p : PassView) (update : UpdateCall) → CanCall t p → 2 < update.flags → CalledWhole t p p (verb_of update) (Refused errnos.Einval)
called_unknown t p update can unknown = (
  record {
    steps = [];
    lost = [];
    leaves = record {
      made = record { goes = goes_nowhere p; held = refl; notes = refl };
      in_no_call = can.in_no_call;
      by_call = All-nil (IsBy p.cpu p.call);
      other_spares = λ other _. refl;
      bits = λ _. refl;
      learns = subst (Learns t.shape p.view p.view []) (nothing (is_lru t.shape.kind)) (learns_none t.shape p.view);
    };
    told = [];
    told_are = tt;
    trace = by_either (is_lru t.shape.kind) _ _ (inl (unknown, refl, refl)) (inl (unknown, refl, refl));
    none_moved = λ _ _ _. All-nil (λ (turn : Turned). IsFalse (finds_moved_on turn.entry.part));
    spare = either_same (is_lru t.shape.kind) (spare_element p);
  },
  refl,
)
