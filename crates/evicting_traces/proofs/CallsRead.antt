-- A call of any verb, read against its reply.
use Rattle.std.proofs.Common.{◌≡◌, ℕ, List, Option, ap}
use Rattle.map_types.specs.declared.attr.Shape.{Shape}
use Rattle.map_types.specs.declared.call.Verb.{Verb}
use Rattle.map_types.specs.declared.reply.Reply.{Reply}
use Rattle.place_words.specs.Turns.{Turn}
use Rattle.evicting_traces.specs.Reading.{Seen, IsSeenAs, IsTurnsAs, passed}
use Rattle.evicting_traces.specs.Laws.{IsCountedAs}
use Rattle.evicting_traces.specs.Calls.{read_evicting}
use Rattle.evicting_traces.proofs.Answering.{also_seen, seen_counted, counted_alike, turns_counted}

module _ (shape : Shape) (cpu : ℕ) (seens : List Seen) (verb other : Verb) (reply : Reply) (result : Option (List Seen)) where
  pub verb_seen : verb ≡ other → IsSeenAs (read_evicting shape cpu other seens) reply result → IsCountedAs seens (read_evicting shape cpu verb seens) reply result
  verb_seen is read =
      seen_counted seens (read_evicting shape cpu verb seens) reply result (also_seen reply result (ap (λ (v : Verb). read_evicting shape cpu v seens) is) read)

  pub verb_turned : (found : Option (Reply × List Turn)) → verb ≡ other → read_evicting shape cpu other seens ≡ passed seens found → IsTurnsAs found reply result → IsCountedAs seens (read_evicting shape cpu verb seens) reply result
  verb_turned found is alone read =
      counted_alike seens (read_evicting shape cpu verb seens) (read_evicting shape cpu other seens) reply result (ap (λ (v : Verb). read_evicting shape cpu v seens) is)
      (counted_alike seens (read_evicting shape cpu other seens) (passed seens found) reply result alone (turns_counted seens found reply result read))
