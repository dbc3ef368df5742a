-- What batch writes did, on a map of any kind.
use Rattle.std.proofs.Common.{◌≡◌, ℕ, ◌+◌, List, [], ◌∷◌, ◌++◌, map, length, ap, sym, ◌∙◌, subst, arith, Option, None, Some, MatchOption}
use Rattle.std.specs.Prelude.{◌<◌, ◌==◌, slice_index_or}
use Rattle.std.proofs.lemmas.List.{length-map}
use Rattle.map_types.specs.declared.attr.Shape.{Shape}
use Rattle.map_types.specs.declared.call.Verb.{Verb}
use Rattle.map_types.specs.declared.call.Verb.TheVariants as verbs
use Rattle.map_types.specs.declared.kind.Side.TheVariants.{Sys}
use Rattle.map_types.specs.declared.refusal.Errno.{Errno}
use Rattle.map_types.specs.declared.refusal.Errno.TheVariants.{Einval}
use Rattle.map_types.specs.declared.reply.Reply.TheVariants.{Refused, Count}
use Rattle.place_words.specs.declared.bucket_part.BucketPart.TheVariants.{Delete}
use Rattle.place_words.specs.Turns.{Turn, turns_of, on_bucket_of}
use Rattle.place_words.specs.Walks.{Writes, updates_of, deletes_of}
use Rattle.place_table.specs.declared.view.Turned.{Turned}
use Rattle.place_table.specs.Calls.{spare_element}
use Rattle.place_table.specs.Known.{turn_of, turn_at}
use Rattle.refusals.specs.Batch.{done_in, missed_in, count, UpdatesDoEach, DeletesDoEach, UpdatesAreCounted, DeletesAreCounted, NoneWasMissed, StopsAtTheFirstMissed}
use Rattle.refusals.proofs.KeyTraces.{by_kind}
use Rattle.refusals.proofs.MadeLemmas.{turns_at}
use Rattle.refusals.proofs.BatchTraces.{CountOne, updates_count, deletes_count, writes_count, DoesEach, does_each, none_missed, LastMissed, last_missed}

each_of : (stop : Option Errno) (done entries length_of : ℕ) → entries ≡ length_of → DoesEach stop done 0 entries → MatchOption stop (done ≡ length_of) (λ errno. done < length_of)
each_of None done entries length_of same each = omega (arith, same, each)
each_of (Some errno) done entries length_of same each = omega (arith, same, each)

pub updates_do_each : UpdatesDoEach
updates_do_each t before after flags pairs stop done called =
    by_kind (flags == 0) called.trace
    (λ _ writes. each_of stop done (length (updates_of pairs)) (length pairs) (length-map pairs (λ (pair : List ℕ × List ℕ). verbs.Update Sys 0 pair.0 pair.1))
    (does_each t.shape before.cpu (spare_element before) (updates_of pairs) 0 (map (turn_at t.shape) called.told) stop done writes))
    (λ _ unknown. let other : Count stop done ≡ Refused Einval = unknown.1 in absurd cc)

pub deletes_do_each : DeletesDoEach
deletes_do_each t before after flags keys stop done called =
    by_kind (flags == 0) called.trace
    (λ _ writes. each_of stop done (length (deletes_of keys)) (length keys) (length-map keys (λ (key : List ℕ). verbs.Delete key))
    (does_each t.shape before.cpu (spare_element before) (deletes_of keys) 0 (map (turn_at t.shape) called.told) stop done writes))
    (λ _ unknown. let other : Count stop done ≡ Refused Einval = unknown.1 in absurd cc)

module _ (shape : Shape) (cpu : ℕ) (spare : Option ℕ) (flags : ℕ) (told : List Turned) (stop : Option Errno) (done : ℕ) where
  counted : (entries : List Verb) → CountOne shape cpu entries → Writes shape cpu spare entries 0 (map (turn_at shape) told) (Count stop done) → count done_in (map (turn_of shape) told) ≡ done
  counted entries one writes = ap (count done_in) (sym (turns_at shape told)) ∙ omega (arith, writes_count shape cpu spare entries 0 (map (turn_at shape) told) stop done one writes)

pub updates_are_counted : UpdatesAreCounted
updates_are_counted t before after flags pairs stop done called =
    by_kind (flags == 0) called.trace
    (λ _ writes. counted t.shape before.cpu (spare_element before) flags called.told stop done (updates_of pairs) (updates_count t.shape before.cpu pairs) writes)
    (λ _ unknown. let other : Count stop done ≡ Refused Einval = unknown.1 in absurd cc)

pub deletes_are_counted : DeletesAreCounted
deletes_are_counted t before after flags keys stop done called =
    by_kind (flags == 0) called.trace
    (λ _ writes. counted t.shape before.cpu (spare_element before) flags called.told stop done (deletes_of keys) (deletes_count t.shape before.cpu keys) writes)
    (λ _ unknown. let other : Count stop done ≡ Refused Einval = unknown.1 in absurd cc)

pub none_was_missed : NoneWasMissed
none_was_missed t before after flags keys done called =
    by_kind (flags == 0) called.trace
    (λ _ writes. ap (count missed_in) (sym (turns_at t.shape called.told)) ∙ none_missed t.shape before.cpu (spare_element before) keys 0 (map (turn_at t.shape) called.told) done writes)
    (λ _ unknown. let other : Count None done ≡ Refused Einval = unknown.1 in absurd cc)

module _ (shape : Shape) (cpu : ℕ) (keys : List (List ℕ)) (told : List Turned) where
  abbrev Ends : ℕ → Type 0
  Ends k = (turns : List Turn) × (map (turn_of shape) told ≡ turns ++ on_bucket_of shape (slice_index_or keys k []) (Delete (slice_index_or keys k []) None) ∷ []) × (count missed_in turns ≡ 0)

  ends_at : (done k : ℕ) → done ≡ 0 + k → LastMissed shape cpu keys (turns_of (map (turn_at shape) told)) k → Ends done
  ends_at done k is last = subst Ends (let same : k ≡ done = omega (arith, is) in same) (last.others, sym (turns_at shape told) ∙ last.turns_are, last.found_all)

pub stops_at_missed : StopsAtTheFirstMissed
stops_at_missed t before after flags keys errno done called =
    by_kind (flags == 0) called.trace
    (λ _ writes. let last = last_missed t.shape before.cpu (spare_element before) keys 0 (map (turn_at t.shape) called.told) errno done writes in let ends = ends_at t.shape before.cpu keys called.told done last.1 last.2 last.3 in (last.0, ends.0, ends.1, ends.2))
    (λ _ unknown. let other : Count (Some errno) done ≡ Refused Einval = unknown.1 in absurd cc)
