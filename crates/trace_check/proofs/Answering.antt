-- Whether what was read is what is asked for; and looks at the heads of buckets, one after another.
use Rattle.std.proofs.Common.{◌≡◌, ◌≢◌, ℕ, suc, ◌+◌, ◌-◌, ◌<◌, ◌≤◌, Bool, true, false, List, [], ◌∷◌, Option, None, Some, ap, sym, ◌∙◌, subst, arith, MatchBool}
use Rattle.std.specs.Prelude.{if◌then◌else◌}
use Rattle.std.specs.List.{range_with_len}
use Rattle.std.proofs.lemmas.Option.{same_Some}
use Rattle.map_types.specs.declared.attr.Shape.{Shape}
use Rattle.map_types.specs.declared.reply.Reply.TheVariants.{Value}
use Rattle.place_words.specs.Turns.{Turn}
use Rattle.place_words.specs.Walks.{buckets_from}
use Rattle.trace_check.specs.Reading.{IsReadAs, then_read}
use Rattle.trace_check.specs.Calls.{read_head, read_firsts, after_first, read_next}

module _ {A : Type 0} where
  pub nothing_read : {found : Option (A × List Turn)} (a : A) → found ≡ None → IsReadAs found a None
  nothing_read a none = λ rest some. absurd cc

  tested : (found : Option (A × List Turn)) (a b : A) (rest : List Turn) (test : Bool) → found ≡ Some (b, rest) → MatchBool test (a ≡ b) (a ≢ b) → IsReadAs found a (if test then Some rest else None)
  tested found a b rest true is same = is ∙ ap (λ (x : A). Some (x, rest)) (sym same)
  tested found a b rest false is differ =
      λ other some. differ (ap (λ (p : A × List Turn). p.0) (same_Some (a, other) (b, rest) (sym some ∙ is)))

  pub this_read : {found : Option (A × List Turn)} (a : A) {b : A} {rest : List Turn} (test : Bool) {result : Option (List Turn)} → found ≡ Some (b, rest) → MatchBool test (a ≡ b) (a ≢ b) → result ≡ (if test then Some rest else None) → IsReadAs found a result
  this_read {found = found} a {b = b} {rest = rest} test is same result_is = subst (IsReadAs found a) (sym result_is) (tested found a b rest test is same)

  -- what is read is read in another way
  pub also_read : {found other : Option (A × List Turn)} (a : A) (result : Option (List Turn)) → found ≡ other → IsReadAs other a result → IsReadAs found a result
  also_read a result same is = subst (λ (o : Option (A × List Turn)). IsReadAs o a result) (sym same) is

pub more_buckets : (shape : Shape) (bucket : ℕ) → bucket < shape.buckets → buckets_from shape bucket ≡ bucket ∷ buckets_from shape (bucket + 1)
more_buckets shape bucket below =
    let long : shape.buckets - bucket ≡ suc (shape.buckets - (bucket + 1)) = omega arith in
    ap (range_with_len bucket) long

pub no_more_buckets : (shape : Shape) (bucket : ℕ) → shape.buckets ≤ bucket → buckets_from shape bucket ≡ []
no_more_buckets shape bucket past = let none : shape.buckets - bucket ≡ 0 = omega arith in ap (range_with_len bucket) none

first_looked : (shape : Shape) (bucket : ℕ) (turns behind : List Turn) (key : Option (List ℕ)) → bucket < shape.buckets → read_head bucket turns ≡ Some (key, behind)
    → read_firsts (buckets_from shape bucket) turns ≡ after_first (read_firsts (buckets_from shape (bucket + 1))) key behind
first_looked shape bucket turns behind key below head =
    ap (λ (l : List ℕ). read_firsts l turns) (more_buckets shape bucket below)
    ∙ ap (then_read (after_first (read_firsts (buckets_from shape (bucket + 1))))) head

pub head_found : (shape : Shape) (bucket : ℕ) (turns behind : List Turn) (key : Option (List ℕ)) (found : List ℕ) → bucket < shape.buckets → read_head bucket turns ≡ Some (key, behind) → key ≡ Some found
    → read_firsts (buckets_from shape bucket) turns ≡ Some (Value found, behind)
head_found shape bucket turns behind key found below head is =
    first_looked shape bucket turns behind key below head ∙ ap (λ (o : Option (List ℕ)). after_first (read_firsts (buckets_from shape (bucket + 1))) o behind) is

pub head_empty : (shape : Shape) (bucket : ℕ) (turns behind : List Turn) (key : Option (List ℕ)) → bucket < shape.buckets → read_head bucket turns ≡ Some (key, behind) → key ≡ None
    → read_firsts (buckets_from shape bucket) turns ≡ read_firsts (buckets_from shape (bucket + 1)) behind
head_empty shape bucket turns behind key below head is =
    first_looked shape bucket turns behind key below head ∙ ap (λ (o : Option (List ℕ)). after_first (read_firsts (buckets_from shape (bucket + 1))) o behind) is

pub next_of : (shape : Shape) (key : Option (List ℕ)) (given same : List ℕ) (turns : List Turn) → key ≡ Some given → same ≡ given → read_next shape key turns ≡ read_next shape (Some same) turns
next_of shape key given same turns is are = ap (λ (o : Option (List ℕ)). read_next shape o turns) (is ∙ ap Some (sym are))
