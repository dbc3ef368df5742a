-- What a walk over the global lists leaves under their lock and under that of the CPU's local lists, where what it removes goes.
use Rattle.std.proofs.Common.{◌≡◌, ℕ, ◌≤◌, ◌-◌, List, [], ◌∷◌, ◌++◌, sym, refl, ap, ◌∙◌, None}
use Rattle.std.specs.Prelude.{reverse}
use Rattle.place_words.specs.declared.bucket_part.Seen.{Seen}
use Rattle.place_words.specs.declared.bucket_part.Seen.TheVariants.{Removed, Held}
use Rattle.map_types.specs.ElementLists.{times, without}
use Rattle.place_words.specs.declared.step.Lists.{Lists}
use Rattle.place_words.specs.State.{rows}
use Rattle.place_table.specs.declared.view.Hold.{Hold}
use Rattle.place_table.specs.declared.view.InHand.{InHand}
use Rattle.place_table.specs.declared.view.Notes.{Notes}
use Rattle.place_table.specs.Views.{hold_with}
use Rattle.lru_lists.specs.declared.bits.ProbeCall.{ProbeCall}
use Rattle.lru_ops.specs.declared.probing.Destination.TheVariants.{LocalFree}
use Rattle.lru_ops.specs.Askings.{held_after, lists_after, taken_after, came_with, came_after}
use Rattle.lru_ops.specs.Evictions.{lists_with, held_with, taken_with}
use Rattle.lru_ops.proofs.Asked.{now_with, taken_none}
use Rattle.lru_ops.proofs.SetWork.{taken_by, free_after, rows_after}

-- under the lock of the walk
abbrev pub left_after : List ProbeCall → Lists → Lists
left_after [] now = now
left_after (probe ∷ probes) now = left_after probes (now_with LocalFree probe.element probe.probed now)

local_one : (e : ℕ) (seen : Seen) (hold local : Hold) → held_with LocalFree e seen (hold ∷ local ∷ []) ≡ hold_with hold (now_with LocalFree e seen hold.now) ∷ hold_with local (lists_with e seen local.now) ∷ []
local_one e Removed hold local = refl
local_one e (Held holder) hold local = refl

pub local_held : (probes : List ProbeCall) (hold local : Hold) → held_after LocalFree probes (hold ∷ local ∷ []) ≡ hold_with hold (left_after probes hold.now) ∷ hold_with local (lists_after probes local.now) ∷ []
local_held [] hold local = refl
local_held (probe ∷ probes) hold local =
    ap (held_after LocalFree probes) (local_one probe.element probe.probed hold local)
    ∙ local_held probes (hold_with hold (now_with LocalFree probe.element probe.probed hold.now)) (hold_with local (lists_with probe.element probe.probed local.now))

-- free is what was free
left_one : (e : ℕ) (seen : Seen) (now : Lists) → (now_with LocalFree e seen now).free ≡ now.free
left_one e Removed now = refl
left_one e (Held holder) now = refl

pub left_free : (probes : List ProbeCall) (now : Lists) → (left_after probes now).free ≡ now.free
left_free [] now = refl
left_free (probe ∷ probes) now = left_free probes (now_with LocalFree probe.element probe.probed now) ∙ left_one probe.element probe.probed now

-- and listed what was listed, without what was removed
abbrev AreAlike : Lists → Lists → Type 0
AreAlike now then = (now.first ≡ then.first) × (now.second ≡ then.second)

alike_one : (e : ℕ) (seen : Seen) (now then : Lists) → AreAlike now then → AreAlike (now_with LocalFree e seen now) (lists_with e seen then)
alike_one e Removed now then same = (ap (without e) same.0, ap (without e) same.1)
alike_one e (Held holder) now then same = same

alike_after : (probes : List ProbeCall) (now then : Lists) → AreAlike now then → AreAlike (left_after probes now) (lists_after probes then)
alike_after [] now then same = same
alike_after (probe ∷ probes) now then same =
    alike_after probes (now_with LocalFree probe.element probe.probed now) (lists_with probe.element probe.probed then) (alike_one probe.element probe.probed now then same)

pub left_rows : (x : ℕ) (probes : List ProbeCall) (now : Lists) → times x (rows now) ≤ 1 → times x (rows (left_after probes now)) ≡ times x (rows now) - times x (taken_by probes)
left_rows x probes now once =
    let same = alike_after probes now now (refl, refl) in
    (λ i. times x (same.0 i ++ same.1 i)) ∙ rows_after x probes now once

-- the hand and what is carried are as before
taken_one : (cpu e : ℕ) (seen : Seen) (hand : List InHand) → taken_with LocalFree cpu e seen hand ≡ hand
taken_one cpu e Removed hand = refl
taken_one cpu e (Held holder) hand = refl

pub local_taken : (cpu : ℕ) (probes : List ProbeCall) (hand : List InHand) → taken_after LocalFree cpu probes hand ≡ hand
local_taken cpu probes hand = taken_none LocalFree taken_one cpu probes hand

-- What was removed is noted of the turn around, to whose lists it came: it stands there before what had come, as on the free list.
came_one : (e : ℕ) (seen : Seen) (n : Notes) (below : List Notes) (now : Lists) → now.free ≡ n.came → came_with LocalFree e seen (n ∷ below) ≡ record n { came = (lists_with e seen now).free } ∷ below
came_one e Removed n below now same = ap (λ (l : List ℕ). record n { came = e ∷ l } ∷ below) (sym same)
came_one e (Held holder) n below now same = ap (λ (l : List ℕ). record n { came = l } ∷ below) (sym same)

came_free : (probes : List ProbeCall) (n : Notes) (below : List Notes) (now : Lists) → now.free ≡ n.came → came_after LocalFree probes (n ∷ below) ≡ record n { came = (lists_after probes now).free } ∷ below
came_free [] n below now same = ap (λ (l : List ℕ). record n { came = l } ∷ below) (sym same)
came_free (probe ∷ probes) n below now same =
    let then : Lists = lists_with probe.element probe.probed now in
    ap (came_after LocalFree probes) (came_one probe.element probe.probed n below now same)
    ∙ came_free probes (record n { came = then.free }) below then refl

pub local_came : (probes : List ProbeCall) (n : Notes) (below : List Notes) → came_after LocalFree probes (n ∷ below) ≡ record n { came = reverse (taken_by probes) ++ n.came } ∷ below
local_came probes n below =
    let now : Lists = record { free = n.came; first = []; second = []; cursor = None } in
    came_free probes n below now refl ∙ ap (λ (l : List ℕ). record n { came = l } ∷ below) (free_after probes now)
