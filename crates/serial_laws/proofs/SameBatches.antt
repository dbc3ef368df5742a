-- On a map that doesn't evict every call by logs is the call on plain lists, batch writes entry by entry.
use Rattle.std.proofs.Common.{◌≡◌, ℕ, suc, ◌<◌, Bool, true, false, nat_lt, ◌==◌, cond, List, [], ◌∷◌, ◌++◌, map, Option, Some, None, refl, ap, sym, subst}
use Rattle.std.specs.Prelude.{min, unwrap_or}
use Rattle.std.specs.List.{AllByRecursion}
use Rattle.map_types.specs.Kind.{is_lru}
use Rattle.map_types.specs.Shape.{HasBounds}
use Rattle.map_types.specs.declared.attr.Shape.{Shape}
use Rattle.map_types.specs.declared.call.Verb.{Verb}
use Rattle.map_types.specs.declared.call.Verb.TheVariants.{Lookup, Update, Delete, Take, Next, BatchRead, BatchUpdate, BatchDelete, Each}
use Rattle.map_types.specs.declared.kind.Side.TheVariants.{Sys}
use Rattle.map_types.specs.declared.refusal.Errno.{Errno}
use Rattle.map_types.specs.declared.refusal.Errno.TheVariants.{Enoent, Einval}
use Rattle.map_types.specs.declared.reply.Reply.{Reply}
use Rattle.map_types.specs.declared.reply.Reply.TheVariants.{Done, Refused}
use Rattle.map_script.specs.WellFormed.{HasSizes}
use Rattle.place_words.specs.declared.finals.Finals.{Finals}
use Rattle.place_words.specs.Logs.{State, Does, all_turned, key_does, counted_or, writes, read_does, each_does, does}
use Rattle.place_words.specs.Turns.{Turn}
use Rattle.place_words.specs.Walks.{buckets_from, refused_with}
use Rattle.place_words.proofs.DoneLaws.{IsKeyVerb}
use Rattle.place_words.proofs.EachTurn.{buckets_within}
use Rattle.map_report.specs.Serial.{unless_stopped, each_done, after_call}
use Rattle.map_report.specs.Soundness.{IsSound}
use Rattle.map_report.specs.Turns.{Happened, all_happened, unless_refused, each_turns, call_turns}
use Rattle.serial_laws.proofs.EachCall.{updates_fit, deletes_fit}
use Rattle.serial_laws.proofs.Leads.{leads_none}
use Rattle.serial_laws.proofs.SameCalls.{Follows, IsSame, same_first, key_same, follows_on}
use Rattle.serial_laws.proofs.SameEach.{each_same}
use Rattle.serial_laws.proofs.SameWalks.{next_same, walks_same}
use Rattle.serial_laws.proofs.SoundRun.{sound_key}

-- a call that does nothing
same_none : (shape : Shape) (cpu : ℕ) (lists : Finals) (reply : Reply) → IsSame shape cpu lists (record { turns = []; reply = reply }) [] (lists, reply)
same_none shape cpu lists reply = record { turns_are = refl; reply_is = refl; leads = leads_none shape cpu lists }

-- what is the same either way
either : (shape : Shape) (cpu : ℕ) (lists : Finals) (b : Bool) (did other : Does) (turns others : List Turn) (after later : Finals × Reply) → IsSame shape cpu lists did turns after → IsSame shape cpu lists other others later
    → IsSame shape cpu lists (cond b did other) (cond b turns others) (cond b after later)
either shape cpu lists true did other turns others after later first second = first
either shape cpu lists false did other turns others after later first second = second

module _ (shape : Shape) (bounds : HasBounds shape) (plain : is_lru shape.kind ≡ false) (cpu number : ℕ) (few : cpu < shape.cpus) where
  -- an entry that is refused ends a batch
  stop_same : (told : Option Errno) (done : ℕ) (next : Finals) (later : Does) (turns : List Turn) (after : Finals × Reply) → IsSame shape cpu next later turns after
      → IsSame shape cpu next (counted_or told done later) (unless_refused told turns) (unless_stopped told done next after)
  stop_same None done next later turns after same = same
  stop_same (Some errno) done next later turns after same = record { turns_are = refl; reply_is = refl; leads = leads_none shape cpu next }

  -- entries, each a call on one key
  module _ {A : Type 0} (verb_of : A → Verb) (on_key : (entry : A) → IsKeyVerb (verb_of entry)) where
    abbrev one_after : A → Finals → Finals × Reply
    one_after entry = after_call shape cpu (verb_of entry)

    abbrev one_turns : A → Finals → List Turn
    one_turns entry = call_turns shape cpu (verb_of entry)

    entries_same : (entries : List A) → AllByRecursion (λ (entry : A). HasSizes shape (verb_of entry)) entries → (done : ℕ) (lists : Finals) (before : List Happened) (state : State) → IsSound shape lists → Follows shape lists before state
        → IsSame shape cpu lists (writes shape cpu number state (map verb_of entries) done) (each_turns one_after one_turns entries lists) (each_done one_after entries done lists)
    entries_same [] fit done lists before state sound follows = record { turns_are = refl; reply_is = refl; leads = leads_none shape cpu lists }
    entries_same (entry ∷ entries) fit done lists before state sound follows =
        let verb : Verb = verb_of entry in
        let did : Does = key_does shape cpu number state verb in
        let turns : List Turn = call_turns shape cpu verb lists in
        let next : Finals = (after_call shape cpu verb lists).0 in
        let reply : Reply = (after_call shape cpu verb lists).1 in
        let same = key_same shape bounds plain lists before state number cpu verb follows few (on_key entry) sound in
        let rest_turns : List Turn = each_turns one_after one_turns entries next in
        let rest_after : Finals × Reply = each_done one_after entries (suc done) next in
        let rest = entries_same entries fit.1 (suc done) next (before ++ all_happened cpu number state.next_ticket turns) (all_turned shape cpu number turns state)
        (sound_key shape cpu verb lists bounds plain few (on_key entry) fit.0 sound) (follows_on shape bounds plain lists next before state number cpu turns follows same.leads) in
        let moved = subst (λ (ts : List Turn). IsSame shape cpu next (writes shape cpu number (all_turned shape cpu number ts state) (map verb_of entries) (suc done)) rest_turns rest_after) (sym same.turns_are) rest in
        let later : Does = writes shape cpu number (all_turned shape cpu number did.turns state) (map verb_of entries) (suc done) in
        let stopped = subst (λ (told : Option Errno). IsSame shape cpu next (counted_or told done later) (unless_refused (refused_with reply) rest_turns) (unless_stopped (refused_with reply) done next rest_after)) (ap refused_with (sym same.reply_is))
        (stop_same (refused_with reply) done next later rest_turns rest_after moved) in
        same_first shape cpu did.turns turns (unless_refused (refused_with reply) rest_turns) (counted_or (refused_with did.reply) done later) lists next (unless_stopped (refused_with reply) done next rest_after) same.turns_are same.leads stopped

  -- Every call does by logs what it does on lists.
  pub call_same : (lists : Finals) (before : List Happened) (state : State) (verb : Verb) → HasSizes shape verb → Follows shape lists before state → IsSound shape lists
      → IsSame shape cpu lists (does shape cpu number state verb) (call_turns shape cpu verb lists) (after_call shape cpu verb lists)
  unfolding does read_does each_does call_turns after_call
  call_same lists before state (Lookup side key) sizes follows sound = key_same shape bounds plain lists before state number cpu (Lookup side key) follows few tt sound
  call_same lists before state (Update side flags key value) sizes follows sound = key_same shape bounds plain lists before state number cpu (Update side flags key value) follows few tt sound
  call_same lists before state (Delete key) sizes follows sound = key_same shape bounds plain lists before state number cpu (Delete key) follows few tt sound
  call_same lists before state (Take key) sizes follows sound = key_same shape bounds plain lists before state number cpu (Take key) follows few tt sound
  call_same lists before state (Next key) sizes follows sound = next_same shape bounds cpu lists before state follows sound key
  call_same lists before state (BatchRead remove count start flags) sizes follows sound =
      let from : ℕ = unwrap_or start 0 in
      either shape cpu lists (flags == 0) _ _ _ _ _ _
      (either shape cpu lists (count == 0) _ _ _ _ _ _ (same_none shape cpu lists Done)
      (either shape cpu lists (nat_lt from shape.buckets) _ _ _ _ _ _
      (walks_same shape bounds plain cpu number few remove (min count shape.elements) (buckets_from shape from) (buckets_within shape from) [] lists before state sound follows)
      (same_none shape cpu lists (Refused Enoent))))
      (same_none shape cpu lists (Refused Einval))
  call_same lists before state (BatchUpdate flags pairs) sizes follows sound =
      either shape cpu lists (flags == 0) _ _ _ _ _ _
      (entries_same (λ (pair : List ℕ × List ℕ). Update Sys 0 pair.0 pair.1) (λ pair. tt) pairs (updates_fit shape pairs sizes) 0 lists before state sound follows)
      (same_none shape cpu lists (Refused Einval))
  call_same lists before state (BatchDelete flags keys) sizes follows sound =
      either shape cpu lists (flags == 0) _ _ _ _ _ _
      (entries_same (λ (key : List ℕ). Delete key) (λ key. tt) keys (deletes_fit shape keys sizes) 0 lists before state sound follows)
      (same_none shape cpu lists (Refused Einval))
  call_same lists before state (Each flags stop) sizes follows sound =
      either shape cpu lists (flags == 0) _ _ _ _ _ _
      (each_same shape cpu lists before state follows sound stop)
      (same_none shape cpu lists (Refused Einval))
