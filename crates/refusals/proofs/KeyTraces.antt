-- The turn of the key's bucket in the trace of a call on one key, of a map of any kind.
use Rattle.std.proofs.Common.{◌≡◌, ℕ, Bool, true, false, inl, inr, ⊎_elim, List, [], ◌∷◌, ◌++◌, refl, ap, sym, ◌∙◌, subst, Option, None, Some, MatchBool, MatchOption}
use Rattle.std.specs.Prelude.{◌⊎◌, ◌==◌, ◌&&◌}
use Rattle.std.proofs.lemmas.List.{map-append}
use Rattle.map_types.specs.declared.attr.Shape.{Shape}
use Rattle.map_types.specs.declared.call.Verb.TheVariants as verbs
use Rattle.map_types.specs.declared.kind.Side.{Side}
use Rattle.map_types.specs.declared.refusal.Errno.TheVariants.{Enomem, Einval}
use Rattle.map_types.specs.declared.reply.Reply.{Reply}
use Rattle.map_types.specs.declared.reply.Reply.TheVariants.{Done, Refused}
use Rattle.map_types.specs.Kind.{is_lru, is_percpu}
use Rattle.place_words.specs.declared.bucket_part.BucketPart.TheVariants.{Update}
use Rattle.place_words.specs.declared.bucket_part.Put.{Put}
use Rattle.place_words.specs.Evicting.{IsWriteTrace, IsOfferTrace, OffersOne}
use Rattle.place_words.specs.PlainTraces.{IsPutTrace, IsLookupTrace, reply_of_put}
use Rattle.place_words.specs.Turns.{Turn, TurnAt, turns_of, on_bucket_of}
use Rattle.place_words.specs.Walks.{IsKeyTrace}

-- a trace goes by the kind of the map
pub by_kind : {A B X : Type 0} (b : Bool) → MatchBool b A B → (b ≡ true → A → X) → (b ≡ false → B → X) → X
by_kind true both lru plain = lru refl both
by_kind false both lru plain = plain refl both

pub lookup_trace : (shape : Shape) (cpu : ℕ) (spare : Option ℕ) (side : Side) (key : List ℕ) (turns : List TurnAt) (reply : Reply)
    → IsKeyTrace shape cpu spare (verbs.Lookup side key) turns reply → IsLookupTrace shape side key (turns_of turns) reply
lookup_trace shape cpu spare side key turns reply trace = by_kind (is_lru shape.kind) trace (λ lru is. is) (λ plain is. is)

-- the turn of the key's bucket in an update
pub record PutTurn (shape : Shape) (side : Side) (flags : ℕ) (key value : List ℕ) (turns : List Turn) (reply : Reply) : Type 0 where
  pub offer : Option ℕ
  pub put : Put
  pub front : List Turn
  pub back : List Turn
  pub turns_are : turns ≡ front ++ on_bucket_of shape key (Update side flags key value offer put) ∷ back
  pub reply_is : reply ≡ reply_of_put put

-- an update made none: its flags aren't known, or it found no element; or it made this one
abbrev pub MadeNone : Reply → Type 0
MadeNone reply = (reply ≡ Refused Einval) ⊎ (reply ≡ Refused Enomem)

module _ (shape : Shape) (cpu : ℕ) (spare : Option ℕ) (side : Side) (flags : ℕ) (key value : List ℕ) where
  abbrev Put_in : List TurnAt → Reply → Type 0
  Put_in turns reply = MadeNone reply ⊎ PutTurn shape side flags key value (turns_of turns) reply

  put_plain : (turns : List Turn) (reply : Reply) → IsPutTrace shape cpu spare side flags key value turns reply → PutTurn shape side flags key value turns reply
  put_plain turns reply trace = record { offer = None; put = trace.put; front = trace.looks; back = []; turns_are = trace.turns_are; reply_is = trace.reply_is }

  put_written : (turns : List TurnAt) (reply : Reply) → IsWriteTrace shape side flags key value turns reply → PutTurn shape side flags key value (turns_of turns) reply
  put_written turns reply trace = record { offer = None; put = trace.put; front = []; back = []; turns_are = trace.turns_are; reply_is = trace.reply_is }

  offered : (got : Option ℕ) (taking rest : List TurnAt) (reply : Reply)
      → MatchOption got ((rest ≡ []) × (reply ≡ Refused Enomem)) (λ e. OffersOne shape side flags key value e rest reply) → Put_in (taking ++ rest) reply
  offered None taking rest reply offers = inl (inr offers.1)
  offered (Some e) taking rest reply offers = inr (record {
    offer = Some e;
    put = offers.put;
    front = turns_of taking;
    back = turns_of offers.freeing;
    turns_are = map-append (λ (at : TurnAt). at.turn) taking rest ∙ ap (λ (l : List Turn). turns_of taking ++ l)
        (ap turns_of offers.turns_are ∙ ap (λ (x : Turn). x ∷ turns_of offers.freeing) offers.bucket_is);
    reply_is = offers.reply_is;
  })

  put_offered : (turns : List TurnAt) (reply : Reply) → IsOfferTrace shape cpu side flags key value turns reply → Put_in turns reply
  put_offered turns reply trace = subst (λ (l : List TurnAt). Put_in l reply) (sym trace.turns_are) (offered trace.got trace.taking trace.rest reply trace.offers)

  pub put_turn : (turns : List TurnAt) (reply : Reply) → IsKeyTrace shape cpu spare (verbs.Update side flags key value) turns reply → Put_in turns reply
  put_turn turns reply trace =
      by_kind (is_lru shape.kind) trace
      (λ lru evicting. ⊎_elim (λ unknown. inl (inl unknown.2)) (λ known. by_kind (is_percpu shape.kind && (flags == 2)) known.1 (λ _ alone. inr (put_written turns reply alone)) (λ _ offer. put_offered turns reply offer)) evicting)
      (λ plain is. ⊎_elim (λ unknown. inl (inl unknown.2)) (λ known. inr (put_plain (turns_of turns) reply known.1)) is)

  pub done_turn : (turns : List TurnAt) → IsKeyTrace shape cpu spare (verbs.Update side flags key value) turns Done → PutTurn shape side flags key value (turns_of turns) Done
  done_turn turns trace = ⊎_elim (λ none. ⊎_elim (λ unknown. absurd cc) (λ without. absurd cc) none) (λ turn. turn) (put_turn turns Done trace)
