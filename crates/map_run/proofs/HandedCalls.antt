-- What a walk over all elements handed over is a call of it, where its callback answers whether a key is that at which the walk stops.
use Rattle.std.proofs.Common.{◌≡◌, ℕ, Bool, List, map, Option, ap, sym, ◌∙◌, subst}
use Rattle.std.specs.Prelude.{Err}
use Rattle.std.specs.Borrow.{Bor}
use Rattle.std.specs.Fn.{Shared}
use Rattle.map_types.specs.declared.call.Verb.TheVariants.{Each}
use Rattle.map_types.specs.declared.refusal.Errno.TheVariants as errnos
use Rattle.map_types.specs.declared.reply.Reply.{Reply}
use Rattle.map_types.specs.declared.reply.Reply.TheVariants.{Refused}
use Rattle.place_words.specs.Handing.{Callback, IsHandingTrace, StopsAt, is_stop}
use Rattle.place_words.specs.Turns.{Turn}
use Rattle.place_words.proofs.HandingAlong.{MayAsWell, handing_along}
use Rattle.place_table.specs.Calls.{CanCall, Called}
use Rattle.place_table.specs.Known.{turn_of}
use Rattle.place_table.specs.Passes.{PassView, TableView}
use Rattle.bucket_walks.proofs.Ends.{called_looked}
use Rattle.bucket_walks.proofs.Told.{turns_alone}
use Rattle.elem_walk.specs.declared.walk.WalkRefusal.{WalkRefusal}
use Rattle.elem_walk.specs.declared.walk.WalkRefusal.TheVariants.{Einval}
use Rattle.elem_walk.specs.Walks.{Answers, Handing, WalksOver}

-- whatever a callback may answer for a key and a value says whether the walk stops at the key
abbrev pub SaysStop : {F : Type 0} → Shared F (Bor (List ℕ) × (Bor (List ℕ) × Unit {0})) Bool → F → Option (List ℕ) → Type 0
SaysStop returns call stop = (key value : Bor (List ℕ)) (answer : Bool) → returns.post call (key, (value, tt)) answer → (bytes : List ℕ) → answer ≡ is_stop stop (key.now, bytes)

answers_stop : {F : Type 0} (returns : Shared F (Bor (List ℕ) × (Bor (List ℕ) × Unit {0})) Bool) (call : F) (stop : Option (List ℕ)) → SaysStop returns call stop → MayAsWell (Answers returns call) (StopsAt stop)
answers_stop returns call stop says pair answer may = says may.first may.second answer may.says.met pair.1 ∙ ap (λ (key : List ℕ). is_stop stop (key, pair.1)) may.shows.0

handed_called : {F : Type 0} {t : TableView} {p q : PassView} {returns : Shared F (Bor (List ℕ) × (Bor (List ℕ) × Unit {0})) Bool} {call : F} (flags : ℕ) (stop : Option (List ℕ)) (reply : Reply) → CanCall t p → Handing t (Answers returns call) p q flags reply
    → SaysStop returns call stop → Called t p q (Each flags stop) reply
handed_called {t = t} {p = p} {returns = returns} {call = call} flags stop reply can handing says =
    called_looked (Each flags stop) reply can handing.looked
    (subst (λ (turns : List Turn). IsHandingTrace t.shape p.cpu (StopsAt stop) flags turns reply) (sym (turns_alone t.shape handing.told))
    (handing_along t.shape p.cpu (answers_stop returns call stop says) flags (map (turn_of t.shape) handing.told) reply handing.trace))

-- of the table that a map has
pub each_called : {F : Type 0} {t u : TableView} {p q : PassView} {returns : Shared F (Bor (List ℕ) × (Bor (List ℕ) × Unit {0})) Bool} {call : F} (flags : ℕ) (stop : Option (List ℕ)) (reply : Reply) → t ≡ u → CanCall u p → Handing t (Answers returns call) p q flags reply
    → SaysStop returns call stop → Called u p q (Each flags stop) reply
each_called {t = t} {u = u} {p = p} {q = q} {returns = returns} {call = call} flags stop reply same can handing says =
    handed_called {t = u} {p = p} {q = q} {returns = returns} {call = call} flags stop reply can (subst (λ (v : TableView). Handing v (Answers returns call) p q flags reply) same handing) says

-- a walk that was refused for its flags
pub refused_handing : {t : TableView} {Says : Callback} {p q : PassView} {flags : ℕ} (refusal : WalkRefusal) → refusal ≡ Einval → WalksOver t Says p q flags (Err refusal) → Handing t Says p q flags (Refused errnos.Einval)
refused_handing {t} {Says} {p} {q} {flags} refusal is walks = (subst (λ (r : WalkRefusal). WalksOver t Says p q flags (Err r)) is walks).2
