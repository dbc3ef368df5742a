-- What an update of a map of each sort answers, as an update of any map.
use Rattle.std.proofs.Common.{◌≡◌, Bool, true, false, sym, subst}
use Rattle.std.specs.Prelude.{IsTrue, IsFalse, MatchBool, Result, Ok, Err}
use Rattle.map_types.specs.declared.refusal.Errno.{Errno}
use Rattle.map_types.specs.Kind.{is_lru}
use Rattle.place_table.specs.Passes.{PassView, TableView}
use Rattle.place_table.proofs.Worlds.{true_false}
use Rattle.hash_ops.specs.declared.map.PlainRefusal.{PlainRefusal}
use Rattle.hash_ops.specs.declared.map.PlainRefusal.TheVariants as plain
use Rattle.hash_ops.specs.Calls as plain_calls
use Rattle.lru_ops.specs.declared.map.LruRefusal.{LruRefusal}
use Rattle.lru_ops.specs.declared.map.LruRefusal.TheVariants as lru
use Rattle.lru_ops.specs.Calls as lru_calls
use Rattle.map_batch.specs.Calls.{table_of, IsOfItsSort, UpdateCall, Updates, answer_of_plain, answer_of_lru}
use Rattle.map_batch.specs.declared.any_map.AnyMap.{AnyMap}
use Rattle.map_batch.specs.declared.any_map.AnyMap.TheVariants.{Plain, Lru}

-- the sort that a map is of is the one that counts
on_evicting : (b : Bool) (P Q : Type 0) → b ≡ true → P → MatchBool b P Q
on_evicting true P Q is first = first
on_evicting false P Q is first = absurd (true_false (sym is))

on_plain : (b : Bool) (P Q : Type 0) → b ≡ false → Q → MatchBool b P Q
on_plain true P Q is second = absurd (true_false is)
on_plain false P Q is second = second

module _ (t : TableView) (before after : PassView) (update : UpdateCall) where
  plain_updates : (answer : Result (Unit {0}) PlainRefusal) → IsFalse (is_lru t.shape.kind) → plain_calls.Updates t before after update answer → Updates t before after update (answer_of_plain answer)
  plain_updates (Ok done) is updates = on_plain (is_lru t.shape.kind) _ _ is updates
  plain_updates (Err plain.Einval) is updates = updates
  plain_updates (Err plain.Enoent) is updates = on_plain (is_lru t.shape.kind) _ _ is updates
  plain_updates (Err plain.Eexist) is updates = on_plain (is_lru t.shape.kind) _ _ is updates
  plain_updates (Err plain.E2big) is updates = on_plain (is_lru t.shape.kind) _ _ is updates

  lru_updates : (answer : Result (Unit {0}) LruRefusal) → IsTrue (is_lru t.shape.kind) → lru_calls.Updates t before after update answer → Updates t before after update (answer_of_lru answer)
  lru_updates (Ok done) is updates = on_evicting (is_lru t.shape.kind) _ _ is updates
  lru_updates (Err lru.Einval) is updates = updates
  lru_updates (Err lru.Enoent) is updates = on_evicting (is_lru t.shape.kind) _ _ is updates
  lru_updates (Err lru.Eexist) is updates = on_evicting (is_lru t.shape.kind) _ _ is updates
  lru_updates (Err lru.Enomem) is updates = on_evicting (is_lru t.shape.kind) _ _ is updates

  -- the same of a map of which it is known which sort it is
  module _ (map : AnyMap) (sort : IsOfItsSort map) (result : Result (Unit {0}) Errno) where
    pub of_plain : map ≡ Plain t → (answer : Result (Unit {0}) PlainRefusal) → plain_calls.Updates t before after update answer → result ≡ answer_of_plain answer → Updates (table_of map) before after update result
    of_plain is answer updates answered =
        subst (λ (m : AnyMap). Updates (table_of m) before after update result) (sym is)
        (subst (Updates t before after update) (sym answered) (plain_updates answer (subst IsOfItsSort is sort) updates))

    pub of_lru : map ≡ Lru t → (answer : Result (Unit {0}) LruRefusal) → lru_calls.Updates t before after update answer → result ≡ answer_of_lru answer → Updates (table_of map) before after update result
    of_lru is answer updates answered =
        subst (λ (m : AnyMap). Updates (table_of m) before after update result) (sym is)
        (subst (Updates t before after update) (sym answered) (lru_updates answer (subst IsOfItsSort is sort) updates))
