-- Whether what was read is what is asked for.
use Rattle.std.proofs.Common.{◌≡◌, ◌≢◌, ℕ, ◌-◌, Bool, true, false, List, length, drop, Option, None, Some, ap, sym, ◌∙◌, subst, arith, MatchBool, length-drop}
use Rattle.std.specs.Prelude.{if◌then◌else◌}
use Rattle.std.proofs.lemmas.Option.{same_Some}
use Rattle.map_types.specs.declared.reply.Reply.{Reply}
use Rattle.place_words.specs.Turns.{Turn}
use Rattle.evicting_traces.specs.Reading.{Seen, IsSeenAs, IsTurnsAs, passed, turns_in}
use Rattle.evicting_traces.specs.Laws.{IsCountedAs, counted}
use Rattle.evicting_traces.proofs.Readers.{lengths}

module _ {A : Type 0} where
  other_pair : {L : Type 0} (found : Option (A × L)) (a b : A) (rest : L) → found ≡ Some (b, rest) → (a ≢ b) → (other : L) → found ≢ Some (a, other)
  other_pair {L = L} found a b rest is differ other = λ some. differ (ap (λ (p : A × L). p.0) (same_Some (a, other) (b, rest) (sym some ∙ is)))

  pub nothing_seen : {found : Option (A × List Seen)} (a : A) → found ≡ None → IsSeenAs found a None
  nothing_seen a none = λ rest some. absurd cc

  pub nothing_turned : {found : Option (A × List Turn)} (a : A) → found ≡ None → IsTurnsAs found a None
  nothing_turned a none = λ rest some. absurd cc

  seen_tested : (found : Option (A × List Seen)) (a b : A) (rest : List Seen) (test : Bool) → found ≡ Some (b, rest) → MatchBool test (a ≡ b) (a ≢ b) → IsSeenAs found a (if test then Some rest else None)
  seen_tested found a b rest true is same = is ∙ ap (λ (x : A). Some (x, rest)) (sym same)
  seen_tested found a b rest false is differ = other_pair found a b rest is differ

  turns_tested : (found : Option (A × List Turn)) (a b : A) (rest : List Seen) (test : Bool) → found ≡ Some (b, turns_in rest) → MatchBool test (a ≡ b) (a ≢ b) → IsTurnsAs found a (if test then Some rest else None)
  turns_tested found a b rest true is same = is ∙ ap (λ (x : A). Some (x, turns_in rest)) (sym same)
  turns_tested found a b rest false is differ = other_pair found a b (turns_in rest) is differ

  pub this_seen : {found : Option (A × List Seen)} (a : A) {b : A} {rest : List Seen} (test : Bool) {result : Option (List Seen)} → found ≡ Some (b, rest) → MatchBool test (a ≡ b) (a ≢ b) → result ≡ (if test then Some rest else None) → IsSeenAs found a result
  this_seen {found = found} a {b = b} {rest = rest} test is same result_is = subst (IsSeenAs found a) (sym result_is) (seen_tested found a b rest test is same)

  pub this_turned : {found : Option (A × List Turn)} (a : A) {b : A} (rest : List Seen) (test : Bool) {result : Option (List Seen)} → found ≡ Some (b, turns_in rest) → MatchBool test (a ≡ b) (a ≢ b) → result ≡ (if test then Some rest else None) → IsTurnsAs found a result
  this_turned {found = found} a {b = b} rest test is same result_is = subst (IsTurnsAs found a) (sym result_is) (turns_tested found a b rest test is same)

  pub also_seen : {found other : Option (A × List Seen)} (a : A) (result : Option (List Seen)) → found ≡ other → IsSeenAs other a result → IsSeenAs found a result
  also_seen a result same is = subst (λ (o : Option (A × List Seen)). IsSeenAs o a result) (sym same) is

  pub also_turned : {found other : Option (A × List Turn)} (a : A) (result : Option (List Seen)) → found ≡ other → IsTurnsAs other a result → IsTurnsAs found a result
  also_turned a result same is = subst (λ (o : Option (A × List Turn)). IsTurnsAs o a result) (sym same) is

-- how many turns these are
none_counted : (seens : List Seen) (found : Option (Reply × List Seen)) (reply : Reply) → ((rest : List Seen) → found ≢ Some (reply, rest)) → (n : ℕ) → counted (length seens) found ≢ Some (n, reply)
none_counted seens None reply differs n = λ some. absurd cc
none_counted seens (Some (other, rest)) reply differs n = λ some.
    let pair : ◌≡◌ {A = ℕ × Reply} (length seens - length rest, other) (n, reply) = same_Some (length seens - length rest, other) (n, reply) some in
    differs rest (ap (λ (r : Reply). Some (r, rest)) (ap (λ (p : ℕ × Reply). p.1) pair))

pub seen_counted : (seens : List Seen) (found : Option (Reply × List Seen)) (reply : Reply) (result : Option (List Seen)) → IsSeenAs found reply result → IsCountedAs seens found reply result
seen_counted seens found reply None is = none_counted seens found reply is
seen_counted seens found reply (Some rest) is = ap (counted (length seens)) is

pub counted_alike : (seens : List Seen) (found other : Option (Reply × List Seen)) (reply : Reply) (result : Option (List Seen)) → found ≡ other → IsCountedAs seens other reply result → IsCountedAs seens found reply result
counted_alike seens found other reply result same is = subst (λ (o : Option (Reply × List Seen)). IsCountedAs seens o reply result) (sym same) is

none_passed : (seens : List Seen) (found : Option (Reply × List Turn)) (reply : Reply) → ((rest : List Turn) → found ≢ Some (reply, rest)) → (rest : List Seen) → passed seens found ≢ Some (reply, rest)
none_passed seens None reply differs rest = λ some. absurd cc
none_passed seens (Some (other, left)) reply differs rest = λ some.
    let left_is : List Seen = drop (length seens - length left) seens in
    let pair : ◌≡◌ {A = Reply × List Seen} (other, left_is) (reply, rest) = same_Some (other, left_is) (reply, rest) some in
    differs left (ap (λ (r : Reply). Some (r, left)) (ap (λ (p : Reply × List Seen). p.0) pair))

taken_twice : (whole left dropped : ℕ) → dropped ≡ whole - (whole - left) → whole - dropped ≡ whole - left
taken_twice whole left dropped is = omega (arith, is)

pub turns_counted : (seens : List Seen) (found : Option (Reply × List Turn)) (reply : Reply) (result : Option (List Seen)) → IsTurnsAs found reply result → IsCountedAs seens (passed seens found) reply result
turns_counted seens found reply None is = none_counted seens (passed seens found) reply (none_passed seens found reply is)
turns_counted seens found reply (Some rest) is =
    let many : length (turns_in rest) ≡ length rest = lengths rest in
    let left : length (drop (length seens - length (turns_in rest)) seens) ≡ length seens - (length seens - length (turns_in rest)) = length-drop (length seens - length (turns_in rest)) seens in
    ap (λ (o : Option (Reply × List Turn)). counted (length seens) (passed seens o)) is
    ∙ ap (λ (n : ℕ). Some (n, reply)) (taken_twice (length seens) (length (turns_in rest)) (length (drop (length seens - length (turns_in rest)) seens)) left)
    ∙ ap (λ (n : ℕ). Some (length seens - n, reply)) many
