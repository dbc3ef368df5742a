-- What a target line gives, and that it is read again from its canonical text.
use Rattle.std.proofs.Common.{◌≡◌, ℕ, ◌≤◌, ◌==◌, ◌&&◌, nat_le, Bool, true, false, not, cond, [], ◌∷◌, ◌++◌, Ok, Err, refl, sym, ap, ◌∙◌}
use Rattle.std.specs.Prelude.{IfOk, codes, decimal}
use Rattle.std.proofs.lemmas.Bool.{and_parts, and_from, cond-true, cond_both, leb-true, le-leb, not-true}
use Rattle.map_types.specs.Kind.{is_percpu}
use Rattle.map_types.specs.declared.attr.CreateAttr.{CreateAttr}
use Rattle.map_types.specs.declared.kind.MapKind.{MapKind}
use Rattle.map_script.specs.declared.refusal.Cause.TheVariants as causes
use Rattle.map_script.specs.declared.script.Target.{Target}
use Rattle.map_script.specs.Canonical.{label_and_number, unless_zero, kind_name, target_tokens}
use Rattle.map_script.specs.Grammar.{kind_of, map_attr, target_attr, are_alike, is_target, target_line}
use Rattle.map_script.specs.Places.{Tokens, valued, at_end, word, labelled, if_labelled, instead}
use Rattle.map_script.specs.WellFormed.{IsTarget}
use Rattle.map_script.proofs.CallScripts.{IsAttr, AreAsked, labelled_gives, if_labelled_gives}
use Rattle.map_script.proofs.Gives.{and_then, and_any, Found, end_gives, instead_gives}
use Rattle.map_script.proofs.LinesRead.{then, valued_at, number_at, if_labelled_at, last_labelled_at, no_flags}
use Rattle.map_script.proofs.TokenValues.{IsNumber, kind_of-kind_name}

-- ---- what it gives

-- the attributes and the count that it asks for
pub record IsAsked (source : CreateAttr) (asked : CreateAttr × ℕ) : Type 0 where
  pub numbers : IsAttr asked.0
  pub counted : IsNumber asked.1
  pub key_size : asked.0.key_size ≡ source.key_size
  pub value_size : asked.0.value_size ≡ source.value_size
  pub cpus : asked.0.cpus ≡ source.cpus
  pub values : is_percpu asked.0.kind ≡ is_percpu source.kind
  pub some : 1 ≤ asked.1
  pub few : asked.1 ≤ 65536

same_values : (kind other : MapKind) → are_alike kind other ≡ true → is_percpu other ≡ is_percpu kind
same_values kind other h = go (is_percpu kind) h
  where
    go : (percpu : Bool) → cond percpu (is_percpu other) (not (is_percpu other)) ≡ true → is_percpu other ≡ percpu
    go true h = h
    go false h = not-true (is_percpu other) h

alike_values : (kind other : MapKind) → is_percpu other ≡ is_percpu kind → are_alike kind other ≡ true
alike_values kind other h = go (is_percpu kind) h
  where
    go : (percpu : Bool) → is_percpu other ≡ percpu → cond percpu (is_percpu other) (not (is_percpu other)) ≡ true
    go true h = h
    go false h = ap not h

-- before its ranges are judged
record IsAskedFor (source : CreateAttr) (asked : CreateAttr × ℕ) : Type 0 where
  numbers : IsAttr asked.0
  counted : IsNumber asked.1
  key_size : asked.0.key_size ≡ source.key_size
  value_size : asked.0.value_size ≡ source.value_size
  cpus : asked.0.cpus ≡ source.cpus

in_ranges : (source : CreateAttr) (asked : CreateAttr × ℕ) → IsAskedFor source asked → is_target source asked ≡ true → IsAsked source asked
in_ranges source asked h within =
    let both = and_parts (are_alike source.kind asked.0.kind && nat_le 1 asked.1) (nat_le asked.1 65536) within in
    let first = and_parts (are_alike source.kind asked.0.kind) (nat_le 1 asked.1) both.0 in
    record {
      numbers = h.numbers;
      counted = h.counted;
      key_size = h.key_size;
      value_size = h.value_size;
      cpus = h.cpus;
      values = same_values source.kind asked.0.kind first.0;
      some = leb-true 1 asked.1 first.1;
      few = leb-true asked.1 65536 both.1;
    }

pub target_gives : (source : CreateAttr) (tokens : Tokens) → IsAttr source → IfOk (target_line source tokens) (IsAsked source)
unfolding target_line
target_gives source tokens h =
    instead_gives (IsAsked source) causes.Target _ (
    and_any (IsAsked source) (word causes.Target (codes "target") tokens) _ (λ name.
    and_any (IsAsked source) (valued causes.Target kind_of name.1) _ (λ kind.
    and_then (Found IsNumber) (IsAsked source) (labelled (codes "max") kind.1) _ (labelled_gives (codes "max") kind.1) (λ max max_is.
    and_then (Found IsNumber) (IsAsked source) (labelled (codes "count") max.1) _ (labelled_gives (codes "count") max.1) (λ count count_is.
    and_then (Found IsNumber) (IsAsked source) (if_labelled (codes "flags") count.1) _ (if_labelled_gives (codes "flags") count.1) (λ flags flags_is.
    and_then (Found IsNumber) (IsAsked source) (if_labelled (codes "seed") flags.1) _ (if_labelled_gives (codes "seed") flags.1) (λ seed seed_is.
    let asked_for : CreateAttr × ℕ = (target_attr source kind.0 max.0 flags.0 seed.0, count.0) in
    let numbers : IsAskedFor source asked_for = record {
      numbers = record { key = h.key; value = h.value; max = max_is; cpus = h.cpus; flags = flags_is; seed = seed_is };
      counted = count_is;
      key_size = refl;
      value_size = refl;
      cpus = refl;
    } in
    and_then (IsAskedFor source) (IsAsked source) (at_end asked_for seed.1) _ (end_gives (IsAskedFor source) asked_for seed.1 numbers) (λ asked numbers.
    cond_both (is_target source asked) (Ok asked) (Err causes.Target) (λ r. IfOk r (IsAsked source))
    (λ within. in_ranges source asked numbers within) (λ beyond. tt)))))))))

-- ---- its canonical text

pub target_read : (source : CreateAttr) (target : Target) → AreAsked target → IsTarget source target → target_line source (codes "target" ∷ target_tokens target) ≡ Ok (target.attr, target.count)
unfolding target_line
target_read source target numbers h =
    let attr = target.attr in
    let seed = unless_zero attr.seed (label_and_number (codes "seed") attr.seed) in
    let options = unless_zero attr.flags (label_and_number (codes "flags") attr.flags) ++ seed in
    let without_flags : if_labelled (codes "flags") seed ≡ Ok (0, seed) = no_flags (attr.seed == 0) (decimal attr.seed ∷ []) in
    let same : target_attr source attr.kind attr.max_entries attr.flags attr.seed ≡ attr =
    λ n. map_attr attr.kind (sym h.key_size n) (sym h.value_size n) attr.max_entries (sym h.cpus n) attr.flags attr.seed in
    let within : is_target source (attr, target.count) ≡ true =
    and_from (are_alike source.kind attr.kind && nat_le 1 target.count) (nat_le target.count 65536)
    (and_from (are_alike source.kind attr.kind) (nat_le 1 target.count) (alike_values source.kind attr.kind h.values) (le-leb 1 target.count h.some))
    (le-leb target.count 65536 h.few) in
    ap (instead causes.Target)
    (then _ _ (attr.kind, _) _ (valued_at causes.Target kind_of (kind_name attr.kind) attr.kind _ (kind_of-kind_name attr.kind))
    (then _ _ (attr.max_entries, _) _ (number_at attr.max_entries _ numbers.attr.max)
    (then _ _ (target.count, options) _ (number_at target.count _ numbers.count)
    (then _ _ (attr.flags, seed) _ (if_labelled_at (codes "flags") attr.flags seed refl numbers.attr.flags without_flags)
    (then _ _ (attr.seed, []) (Ok (attr, target.count)) (last_labelled_at (codes "seed") attr.seed refl numbers.attr.seed)
    (ap (λ (made : CreateAttr). cond (is_target source (made, target.count)) (Ok (made, target.count)) (Err causes.Target)) same
    ∙ cond-true (is_target source (attr, target.count)) (Ok (attr, target.count)) (Err causes.Target) within))))))
