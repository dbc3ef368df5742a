-- Batch writes, entry by entry.
use Rattle.std.proofs.Common.{◌≡◌, ℕ, suc, ◌+◌, ◌<◌, ◌≤◌, List, [], ◌∷◌, length, drop, map, Option, None, Some, refl, ap, ◌∙◌, arith, get_or, length-drop}
use Rattle.std.proofs.Math.Seq.{drop-cons}
use Rattle.map_types.specs.declared.attr.Shape.{Shape}
use Rattle.map_types.specs.declared.call.Verb.{Verb}
use Rattle.map_types.specs.declared.refusal.Errno.{Errno}
use Rattle.map_types.specs.declared.reply.Reply.{Reply}
use Rattle.map_types.specs.declared.reply.Reply.TheVariants.{Count}
use Rattle.place_words.specs.Walks.{refused_with}
use Rattle.evicting_traces.specs.Reading.{Seen, then_read}
use Rattle.evicting_traces.specs.Calls.{reply_of_refusal, read_key, after_write, read_writes}
use Rattle.evicting_traces.proofs.Ways.{nothing}

-- the entries at a place, and behind it
pub entries_at : {X : Type 0} (of : X → Verb) (xs : List X) (at : ℕ) (x : X) → at < length xs → map of (drop at xs) ≡ of (get_or xs at x) ∷ map of (drop (at + 1) xs)
entries_at of xs at x within =
    let one : suc at ≡ at + 1 = omega arith in
    ap (map of) (drop-cons xs at x within) ∙ ap (λ n. of (get_or xs at x) ∷ map of (drop n xs)) one

pub entries_end : {X : Type 0} (of : X → Verb) (xs : List X) (at : ℕ) → length xs ≤ at → map of (drop at xs) ≡ []
entries_end of xs at all = let long = length-drop at xs in ap (map of) (nothing (drop at xs) (omega (arith, long, all)))

refused_is : (r : Option Errno) → refused_with (reply_of_refusal r) ≡ r
refused_is None = refl
refused_is (Some errno) = refl

module _ (shape : Shape) (cpu done : ℕ) (seens : List Seen) where
  abbrev behind : List Verb → Reply → List Seen → Option (Reply × List Seen)
  behind entries answer = after_write done (read_writes shape cpu entries (suc done)) (refused_with answer)

  module _ {whole entries : List Verb} {entry : Verb} (are : whole ≡ entry ∷ entries) where
    pub entry_unread : read_key shape cpu entry seens ≡ None → read_writes shape cpu whole done seens ≡ None
    entry_unread none = ap (λ l. read_writes shape cpu l done seens) are ∙ ap (then_read (behind entries)) none

    entry_read : (r : Option Errno) (rest : List Seen) → read_key shape cpu entry seens ≡ Some (reply_of_refusal r, rest) → read_writes shape cpu whole done seens ≡ after_write done (read_writes shape cpu entries (suc done)) r rest
    entry_read r rest is =
        ap (λ l. read_writes shape cpu l done seens) are ∙ ap (then_read (behind entries)) is ∙ ap (λ o. after_write done (read_writes shape cpu entries (suc done)) o rest) (refused_is r)

    pub entry_refused : (r : Option Errno) (errno : Errno) (rest : List Seen) → read_key shape cpu entry seens ≡ Some (reply_of_refusal r, rest) → r ≡ Some errno → read_writes shape cpu whole done seens ≡ Some (Count (Some errno) done, rest)
    entry_refused r errno rest is refused = entry_read r rest is ∙ ap (λ o. after_write done (read_writes shape cpu entries (suc done)) o rest) refused

    pub entry_done : (r : Option Errno) (rest : List Seen) → read_key shape cpu entry seens ≡ Some (reply_of_refusal r, rest) → r ≡ None → read_writes shape cpu whole done seens ≡ read_writes shape cpu entries (done + 1) rest
    entry_done r rest is good =
        let one : suc done ≡ done + 1 = omega arith in
        entry_read r rest is ∙ ap (λ o. after_write done (read_writes shape cpu entries (suc done)) o rest) good ∙ ap (λ n. read_writes shape cpu entries n rest) one

  pub all_done : {whole : List Verb} → whole ≡ [] → read_writes shape cpu whole done seens ≡ Some (Count None done, seens)
  all_done are = ap (λ l. read_writes shape cpu l done seens) are

-- what isn't something is nothing
pub not_refused : (r : Option Errno) → ((errno : Errno) → r ≡ Some errno → ⊥) → r ≡ None
not_refused None is = refl
not_refused (Some errno) is = absurd (is errno refl)
