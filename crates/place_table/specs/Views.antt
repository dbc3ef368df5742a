-- What a pass knows, and how each step changes it.
use Rattle.std.specs.Prelude.{ℕ, zero, suc, ◌+◌, ◌==◌, ◌<◌, nat_lt, max, Bool, true, false, not, ◌&&◌, ◌||◌, List, [], ◌∷◌, ◌++◌, length, Option, None, Some, is_some, if◌then◌else◌}
use Rattle.map_types.specs.declared.attr.Shape.{Shape}
use Rattle.map_types.specs.declared.kind.DomainId.{DomainId}
use Rattle.map_types.specs.declared.kind.DomainId.TheVariants.{Bucket, Local, Global}
use Rattle.place_words.specs.declared.history.Entry.{Entry}
use Rattle.place_words.specs.declared.history.StrandStep.{StrandStep}
use Rattle.place_words.specs.declared.home.Home.{Home}
use Rattle.place_words.specs.declared.home.Home.TheVariants as homes
use Rattle.place_words.specs.declared.owner.Owner.{Owner}
use Rattle.place_words.specs.declared.owner.Owner.TheVariants as owners
use Rattle.place_words.specs.declared.history.Part.{Part}
use Rattle.place_words.specs.declared.list_part.GlobalPart.{GlobalPart}
use Rattle.place_words.specs.declared.list_part.GlobalPart.TheVariants as global
use Rattle.place_words.specs.declared.visits.Flush.{Flush}
use Rattle.place_words.specs.declared.history.Part.TheVariants as parts
use Rattle.key_hash.specs.Bucket.{bucket_number}
use Rattle.map_types.specs.Kind.{is_lru}
use Rattle.place_words.specs.Histories.{Content, content, content_after}
use Rattle.place_words.specs.Locks.{lock_count, lock_named, lock_number, rank_of}
use Rattle.place_words.specs.Openings.{first_spares}
use Rattle.map_types.specs.declared.kind.MapKind.{MapKind}
use Rattle.place_words.specs.declared.step.Lists.{Lists}
use Rattle.place_words.specs.State.{no_lists, rows}
use Rattle.place_words.specs.Steps.{with_free, without_free, with_row, without_row, left_by, joined_by}
use Rattle.place_table.specs.StoredHashes.{stored_in}
use Rattle.place_table.specs.declared.view.View.{View}
use Rattle.place_table.specs.declared.view.Hold.{Hold}
use Rattle.place_table.specs.declared.view.InHand.{InHand}
use Rattle.place_table.specs.declared.view.HashIn.{HashIn}
use Rattle.place_table.specs.declared.view.HomeIn.{HomeIn}
use Rattle.place_table.specs.declared.view.HomeRead.{HomeRead}
use Rattle.place_table.specs.declared.view.Notes.{Notes}
use Rattle.place_table.specs.declared.view.OwnerSeen.{OwnerSeen}
use Rattle.place_table.specs.declared.view.Known.{Known}
use Rattle.place_table.specs.declared.view.Turned.{Turned}
use Rattle.place_table.specs.declared.view.Moment.{Moment}
use Rattle.place_table.specs.declared.view.BitSeen.{BitSeen}
use Rattle.place_table.specs.declared.view.WordStep.{WordStep}
use Rattle.place_table.specs.declared.view.Ticket.{Ticket}
use Rattle.place_table.specs.declared.view.Ticket.TheVariants as tickets
use Rattle.place_table.specs.Words.{owner_word, home_word, bit_word, ticket_word, ticket_bound}
use Rattle.place_words.specs.Codes.{owner_code, home_code}
use Rattle.place_table.specs.declared.view.Ended.{Ended}
use Rattle.map_types.specs.ElementLists.{times, one}

abbrev pub is_among : ℕ → List ℕ → Bool
is_among n [] = false
is_among n (x ∷ xs) = if x == n then true else is_among n xs

-- the hold of a lock, none where it isn't held
abbrev pub hold_at : ℕ → List Hold → Option Hold
hold_at k [] = None
hold_at k (hold ∷ holds) = if hold.lock == k then Some hold else hold_at k holds

-- Locks are taken in the order of their ranks: each lock held has a rank above those of the locks taken before it.
abbrev pub IsAboveAll : Shape → ℕ → List Hold → Type 0
IsAboveAll shape rank [] = Unit {0}
IsAboveAll shape rank (hold ∷ holds) = (rank_of (lock_named shape hold.lock) < rank) × IsAboveAll shape rank holds

abbrev pub Ascends : Shape → List Hold → Type 0
Ascends shape [] = Unit {0}
Ascends shape (hold ∷ holds) = IsAboveAll shape (rank_of (lock_named shape hold.lock)) holds × Ascends shape holds

abbrev pub is_in_hand_of : ℕ → ℕ → List InHand → Bool
is_in_hand_of e cpu [] = false
is_in_hand_of e cpu (x ∷ xs) = if (x.element == e) && (x.cpu == cpu) then true else is_in_hand_of e cpu xs

-- what was last noted of the stored hash of an element in a CPU's hand
abbrev pub hash_known : ℕ → ℕ → List HashIn → Option HashIn
hash_known e cpu [] = None
hash_known e cpu (x ∷ xs) = if (x.element == e) && (x.cpu == cpu) then Some x else hash_known e cpu xs

-- the bucket of the last hash that was given to an element in a CPU's hand, none where none was given since it came there
abbrev pub bucket_known : ℕ → ℕ → List HashIn → Option ℕ
bucket_known e cpu [] = None
bucket_known e cpu (x ∷ xs) =
    if (x.element == e) && (x.cpu == cpu) then (if x.given then Some x.bucket else None) else bucket_known e cpu xs

-- those that are still in these hands
abbrev pub kept_hashes : List InHand → List HashIn → List HashIn
kept_hashes hand [] = []
kept_hashes hand (x ∷ xs) = if is_in_hand_of x.element x.cpu hand then x ∷ kept_hashes hand xs else kept_hashes hand xs

-- the last reading of the home of an element in the hand of a CPU, none where it wasn't read
abbrev pub home_known : ℕ → ℕ → List HomeIn → Option HomeIn
home_known e cpu [] = None
home_known e cpu (x ∷ xs) = if (x.element == e) && (x.cpu == cpu) then Some x else home_known e cpu xs

-- those of what is in hand, those of other elements, and one more of an element that is in hand
abbrev pub kept_readings : List InHand → List HomeIn → List HomeIn
kept_readings hand [] = []
kept_readings hand (x ∷ xs) = if is_in_hand_of x.element x.cpu hand then x ∷ kept_readings hand xs else kept_readings hand xs

abbrev pub without_readings : ℕ → List HomeIn → List HomeIn
without_readings e [] = []
without_readings e (x ∷ xs) = if x.element == e then without_readings e xs else x ∷ without_readings e xs

abbrev pub with_reading : ℕ → ℕ → ℕ → Home → List InHand → List HomeIn → List HomeIn
with_reading at turns e home [] readings = readings
with_reading at turns e home (x ∷ xs) readings =
    if x.element == e then record { element = e; cpu = x.cpu; home = home; at = at; turns = turns } ∷ with_reading at turns e home xs readings
    else with_reading at turns e home xs readings

-- A lock is taken: an element that was read to be on the local lists under it, and is on them no more, is on the global ones.
abbrev pub home_then : Shape → Hold → ℕ → Home → Home
home_then shape hold e (homes.In (Local c)) =
    if (lock_number shape (Local c) == hold.lock) && (times e (rows hold.now) == 0) then homes.In Global else homes.In (Local c)
home_then shape hold e home = home

abbrev pub readings_then : Shape → Hold → List HomeIn → List HomeIn
readings_then shape hold [] = []
readings_then shape hold (x ∷ xs) =
    record x { home = home_then shape hold x.element x.home } ∷ readings_then shape hold xs

abbrev pub hash_given : ℕ → InHand → Option ℕ → List HashIn → List HashIn
hash_given buckets x None rest = rest
hash_given buckets x (Some h) rest = record { element = x.element; cpu = x.cpu; bucket = bucket_number h buckets; given = true } ∷ rest

-- those that a content which a CPU gives back gives to what came in that turn and is in its hand
abbrev pub hashes_given : ℕ → ℕ → Content → List ℕ → List InHand → List HashIn → List HashIn
hashes_given cpu buckets content came [] hashes = hashes
hashes_given cpu buckets content came (x ∷ xs) hashes =
    if (x.cpu == cpu) && is_among x.element came then hash_given buckets x (stored_in content x.element) (hashes_given cpu buckets content came xs hashes)
    else hashes_given cpu buckets content came xs hashes

-- the turns of a lock, none where they aren't known
abbrev pub known_log : ℕ → List Known → Option (List Entry)
known_log k [] = None
known_log k (x ∷ xs) = if x.lock == k then Some x.log else known_log k xs

-- the bit of an element, none where it isn't known
abbrev pub bit_seen : ℕ → List BitSeen → Option Bool
bit_seen e [] = None
bit_seen e (x ∷ xs) = if x.element == e then Some x.bit else bit_seen e xs

abbrev pub has_all_below : ℕ → List ℕ → Bool
has_all_below zero cpus = true
has_all_below (suc n) cpus = is_among n cpus && has_all_below n cpus

-- a pass has all CPUs of the map
abbrev pub has_all : View → Bool
has_all v = has_all_below v.shape.cpus v.cpus

abbrev pub numbers_below : ℕ → List ℕ
numbers_below zero = []
numbers_below (suc n) = n ∷ numbers_below n

-- what a pass with no CPU knows, as what is left of one that was joined to another
abbrev pub spent : Shape → View
spent shape = record {
  shape = shape;
  cpus = [];
  held = [];
  hand = [];
  carried = [];
  hashes = [];
  readings = [];
  notes = [];
  known = [];
  bits = [];
  ticket = tickets.Unread;
  reached = 0;
  refused = 0;
  steps = [];
  kept = [];
  touched = [];
  homes_read = [];
  ended = [];
  lost = [];
}

-- the first pass has all CPUs and all spares, and knows that no turn was made and no bit is set
abbrev pub no_turns : ℕ → List Known
no_turns zero = []
no_turns (suc n) = record { lock = n; log = [] } ∷ no_turns n

abbrev pub no_bits : ℕ → List BitSeen
no_bits zero = []
no_bits (suc n) = record { element = n; bit = false } ∷ no_bits n

abbrev pub spares_from : ℕ → List ℕ → List InHand
spares_from cpu [] = []
spares_from cpu (spare ∷ spares) = record { element = spare; cpu = cpu } ∷ spares_from (suc cpu) spares

abbrev pub first_hand : MapKind → Shape → List InHand
first_hand kind shape = spares_from 0 (first_spares shape kind)

abbrev pub first_view : Shape → View
first_view shape = record (spent shape) {
  cpus = numbers_below shape.cpus;
  hand = first_hand shape.kind shape;
  known = no_turns (lock_count shape);
  bits = no_bits shape.elements;
}

abbrev pub no_notes : Notes
no_notes = record { came = []; marks = []; asked = []; owners = []; homes = []; flushed = []; off = []; changed = [] }

-- Its strand has one step more on a word. This one and those below are numbered: so many steps on words had been made before.
abbrev pub touching : ℕ → ℕ → Option ℕ → ℕ → View → List WordStep
touching at word seen left v = v.touched ++ record { at = at; word = word; seen = seen; left = left } ∷ []

-- Tickets: the ticket word is read, and a ticket is drawn from it.

-- how far the turn is with its ticket once the word was read as n
abbrev pub found_below : ℕ → Ticket
found_below n = if nat_lt n ticket_bound then tickets.Drawing else tickets.Refused

abbrev pub ticketed : Ticket → ℕ → List WordStep → View → View
ticketed ticket reached touched v = record v { ticket = ticket; reached = reached; touched = touched }

abbrev pub ticket_read : ℕ → ℕ → View → View
ticket_read at n v = ticketed (found_below n) n (touching at (ticket_word v.shape) (Some n) n v) v

abbrev pub ticket_drawn : ℕ → ℕ → View → View
ticket_drawn at t v = ticketed (tickets.Drawn t) v.reached (touching at (ticket_word v.shape) (Some t) (1 + t) v) v

-- it is read and no ticket is drawn
abbrev pub ticket_seen : ℕ → ℕ → View → View
ticket_seen at n v = ticketed v.ticket n (touching at (ticket_word v.shape) (Some n) n v) v

-- the turns of locks are learned
abbrev pub learning : List Known → View → View
learning known v = record v { known = known }

-- what the ticket word is known to have reached once the turn with this ticket is over
abbrev pub reached_by : Ticket → ℕ → ℕ
reached_by (tickets.Drawn t) n = suc t
reached_by ticket n = n

-- and what `refused` is then
abbrev pub refused_by : Ticket → ℕ → ℕ
refused_by (tickets.Drawn t) n = n
refused_by ticket n = suc n

-- No turn that the pass has made has this number or a higher one: a turn that gets no ticket is told with this number, which is above
-- those of the turns before it.
abbrev pub next : View → ℕ
next v = v.reached + v.refused

abbrev pub number_by : Ticket → ℕ → ℕ
number_by (tickets.Drawn t) n = t
number_by ticket n = n

-- the number of the turn that is given back next: its ticket, where it has one
abbrev pub ticket_of : View → ℕ
ticket_of v = number_by v.ticket (next v)

-- the entry with it
abbrev pub numbered_entry : View → Entry → Entry
numbered_entry v e = record e { ticket = ticket_of v }

-- a hold with other lists
abbrev pub hold_with : Hold → Lists → Hold
hold_with hold now = record hold { now = now }

-- one lock more is held
abbrev pub holding : ℕ → Hold → View → View
holding at hold v = record v {
  held = hold ∷ v.held;
  readings = readings_then v.shape hold v.readings;
  notes = no_notes ∷ v.notes;
  touched = touching at hold.lock (Some 0) (1 + hold.cpu) v;
}

abbrev pub holds_below : List Hold → List Hold
holds_below [] = []
holds_below (hold ∷ holds) = holds

abbrev pub notes_below : List Notes → List Notes
notes_below [] = []
notes_below (notes ∷ below) = below

-- the elements that came in the turn of a lock that is held, and those of the lock taken last
abbrev pub came_at : ℕ → List Hold → List Notes → List ℕ
came_at k [] notes = []
came_at k (hold ∷ holds) [] = []
came_at k (hold ∷ holds) (n ∷ notes) = if hold.lock == k then n.came else came_at k holds notes

abbrev pub came_last : List Notes → List ℕ
came_last [] = []
came_last (n ∷ notes) = n.came

-- what a pass has and has noted at a moment
abbrev pub moment_of : View → Moment
moment_of v = record { held = v.held; hand = v.hand; carried = v.carried; notes = v.notes }

-- a turn of the lock k, after these turns there, which a pass ended when it knew this
abbrev pub turned : ℕ → List Entry → Entry → View → Turned
turned k earlier entry v = record { lock = k; earlier = earlier; entry = entry; moment = moment_of v }

-- the place of its entry in the history of its lock
abbrev pub place_of : Turned → ℕ
place_of step = length step.earlier

abbrev pub kept_step : Shape → ℕ → ℕ → StrandStep
kept_step shape k index = record { lock = lock_named shape k; index = index }

-- a pass with all CPUs knows the turns of the lock that it gives back
abbrev pub learned : Hold → Entry → View → List Known
learned hold entry v =
    if has_all v then record { lock = hold.lock; log = hold.log ++ entry ∷ [] } ∷ v.known else v.known

-- an owner that was read is noted under the lock taken last
abbrev pub with_owner_read : ℕ → Owner → List Notes → List Notes
with_owner_read e owner [] = []
with_owner_read e owner (n ∷ below) = record n { owners = record { element = e; owner = owner } ∷ n.owners } ∷ below

-- What was read of owners under a bucket's lock belongs from then on to the turn around it too.
abbrev pub owners_last : List Notes → List OwnerSeen
owners_last [] = []
owners_last (n ∷ notes) = n.owners

abbrev pub with_owners_read : List OwnerSeen → List Notes → List Notes
with_owners_read [] below = below
with_owners_read (x ∷ xs) below = with_owner_read x.element x.owner (with_owners_read xs below)

-- What a turn of the global lists flushed belongs to the turn of the local lists around it.
abbrev pub with_flushed : List Flush → List Notes → List Notes
with_flushed flushed [] = []
with_flushed flushed (n ∷ below) = record n { flushed = n.flushed ++ flushed } ∷ below

abbrev pub passed_on_by_global : GlobalPart → List Notes → List Notes
passed_on_by_global (global.Turn flushed active inactive free shrink) below = with_flushed flushed below
passed_on_by_global (global.Push e) below = below

-- what is noted once the turn of the lock taken last is given back with a part: it hands some of its notes on to the turn around it
abbrev pub passed_on : Part → List Notes → List Notes
passed_on (parts.Bucket part) notes = with_owners_read (owners_last notes) (notes_below notes)
passed_on (parts.Global part) notes = passed_on_by_global part (notes_below notes)
passed_on part notes = notes_below notes

-- What is known of hashes once a turn is given back: on a map that evicts, those of what came in it too.
abbrev pub hashes_after : Hold → Entry → View → List HashIn
hashes_after hold entry v =
    if is_lru v.shape.kind then
    hashes_given hold.cpu v.shape.buckets (content_after v.shape entry.cpu entry.part (content v.shape (lock_named v.shape hold.lock) hold.log)) (came_last v.notes) v.hand v.hashes
    else v.hashes

-- the lock taken last is given back with this entry, and these steps are recorded then
abbrev pub given : ℕ → Hold → Entry → List StrandStep → View → View
given at hold entry kept v = record v {
  held = holds_below v.held;
  hashes = hashes_after hold entry v;
  notes = passed_on entry.part v.notes;
  known = learned hold entry v;
  ticket = tickets.Unread;
  reached = reached_by v.ticket v.reached;
  refused = refused_by v.ticket v.refused;
  steps = v.steps ++ turned hold.lock hold.log entry v ∷ [];
  kept = kept;
  touched = touching at hold.lock None 0 v;
}

-- and without a part: the record of its turns is lost
abbrev pub with_lost : List ℕ → View → View
with_lost lost v = record v { lost = lost }

abbrev pub losing : ℕ → Hold → Entry → View → View
losing at hold entry v = with_lost (hold.lock ∷ v.lost) (given at hold entry v.kept v)

-- other notes and other bits known
abbrev pub noted : List Notes → List BitSeen → List WordStep → List HomeIn → View → View
noted notes bits touched readings v = record v { notes = notes; bits = bits; touched = touched; readings = readings }

-- other looks at homes
abbrev pub with_homes_read : List HomeRead → View → View
with_homes_read homes_read v = record v { homes_read = homes_read }

-- a note belongs to the lock taken last, and is dropped where none is held
abbrev pub with_mark : ℕ → List Notes → List Notes
with_mark e [] = []
with_mark e (n ∷ below) = record n { marks = e ∷ n.marks } ∷ below

abbrev pub with_clear : ℕ → Bool → List Notes → List Notes
with_clear e bit [] = []
with_clear e bit (n ∷ below) = record n { asked = record { element = e; bit = bit; cleared = true } ∷ n.asked } ∷ below

abbrev pub with_bit_read : ℕ → Bool → List Notes → List Notes
with_bit_read e bit [] = []
with_bit_read e bit (n ∷ below) = record n { asked = record { element = e; bit = bit; cleared = false } ∷ n.asked } ∷ below

-- nothing is noted of a home that is read while no lock is held
abbrev pub with_home_read : ℕ → Home → List Hold → List Notes → List Notes
with_home_read e home [] notes = notes
with_home_read e home (hold ∷ holds) [] = []
with_home_read e home (hold ∷ holds) (n ∷ below) = record n { homes = record { element = e; home = home } ∷ n.homes } ∷ below

-- a pass with all CPUs keeps what a bit is
abbrev pub bits_with : ℕ → Bool → View → List BitSeen
bits_with e bit v = if has_all v then record { element = e; bit = bit } ∷ v.bits else v.bits

abbrev pub marked : ℕ → ℕ → View → View
marked at e v = noted (with_mark e v.notes) (bits_with e true v) (touching at (bit_word v.shape e) None 1 v) v.readings v

-- the bit was this, and is 0 now
abbrev pub cleared : ℕ → ℕ → Bool → View → View
cleared at e was v = noted (with_clear e was v.notes) (bits_with e false v) (touching at (bit_word v.shape e) (Some (one was)) 0 v) v.readings v

abbrev pub bit_read : ℕ → ℕ → Bool → View → View
bit_read at e bit v = noted (with_bit_read e bit v.notes) (bits_with e bit v) (touching at (bit_word v.shape e) (Some (one bit)) (one bit) v) v.readings v

abbrev pub owner_read : ℕ → ℕ → Owner → View → View
owner_read at e owner v =
    noted (with_owner_read e owner v.notes) v.bits (touching at (owner_word v.shape e) (Some (owner_code owner)) (owner_code owner) v) v.readings v

-- where the home is local lists, their lock has had so many turns
abbrev pub home_read : ℕ → ℕ → ℕ → Home → View → View
home_read at turns e home v =
    with_homes_read (v.homes_read ++ record { element = e; home = home; at = at; turns = turns } ∷ [])
    (noted (with_home_read e home v.held v.notes) v.bits (touching at (home_word v.shape e) (Some (home_code home)) (home_code home) v) (with_reading at turns e home v.hand v.readings) v)

-- what lies under a lock that is held, as the pass knows it, and the locks held where other lists lie under one
abbrev pub now_at : ℕ → List Hold → Lists
now_at k [] = no_lists
now_at k (hold ∷ holds) = if hold.lock == k then hold.now else now_at k holds

abbrev pub with_now : ℕ → Lists → List Hold → List Hold
with_now k now [] = []
with_now k now (hold ∷ holds) =
    if hold.lock == k then record hold { now = now } ∷ holds
    else hold ∷ with_now k now holds

-- an element comes from the free list of a lock, or to its lists from another home, in the turn of that lock
abbrev pub with_came : ℕ → ℕ → List Hold → List Notes → List Notes
with_came k e [] notes = notes
with_came k e (hold ∷ holds) [] = []
with_came k e (hold ∷ holds) (n ∷ notes) = if hold.lock == k then record n { came = e ∷ n.came } ∷ notes else n ∷ with_came k e holds notes

-- the owner of an element is changed, which is noted of the turn of the lock taken last
abbrev pub with_changed : ℕ → Owner → List Notes → List Notes
with_changed e owner [] = []
with_changed e owner (n ∷ below) = record n { changed = record { element = e; owner = owner } ∷ n.changed } ∷ below

-- an element comes to the hand of a CPU, or leaves it
abbrev pub with_in_hand : ℕ → ℕ → List InHand → List InHand
with_in_hand e cpu hand = record { element = e; cpu = cpu } ∷ hand

abbrev pub without_in_hand : ℕ → ℕ → List InHand → List InHand
without_in_hand e cpu [] = []
without_in_hand e cpu (x ∷ xs) =
    if (x.element == e) && (x.cpu == cpu) then without_in_hand e cpu xs else x ∷ without_in_hand e cpu xs

-- one that comes from one home to another, which is noted where that is a lock
abbrev pub with_come_home : Shape → Home → Home → ℕ → List Hold → List Notes → List Notes
with_come_home shape from (homes.In lock) e held notes =
    if home_code from == home_code (homes.In lock) then notes else with_came (lock_number shape lock) e held notes
with_come_home shape from to e held notes = notes

-- one that goes from local lists to the global ones, which is noted of the turn of the local lists
abbrev pub with_off : ℕ → ℕ → List Hold → List Notes → List Notes
with_off k e [] notes = notes
with_off k e (hold ∷ holds) [] = []
with_off k e (hold ∷ holds) (n ∷ notes) = if hold.lock == k then record n { off = e ∷ n.off } ∷ notes else n ∷ with_off k e holds notes

abbrev pub is_local : DomainId → Bool
is_local (Local cpu) = true
is_local lock = false

-- One that is carried to the global lists left local lists in the turn under way where it was pending when their lock was taken, or
-- came to them since.
abbrev pub has_left : Shape → ℕ → Hold → List ℕ → Bool
has_left shape e hold came =
    is_local (lock_named shape hold.lock) && (is_some (stored_in (content shape (lock_named shape hold.lock) hold.log) e) || is_among e came)

abbrev pub with_carried_off : Shape → ℕ → List Hold → List Notes → List Notes
with_carried_off shape e [] notes = notes
with_carried_off shape e (hold ∷ holds) [] = []
with_carried_off shape e (hold ∷ holds) (n ∷ notes) =
    (if has_left shape e hold n.came then record n { off = e ∷ n.off } else n) ∷ with_carried_off shape e holds notes

abbrev pub left_local : Shape → Home → ℕ → List Hold → List Notes → List Notes
left_local shape (homes.In (Local cpu)) e held notes = with_off (lock_number shape (Local cpu)) e held notes
left_local shape (homes.Hand cpu) e held notes = with_carried_off shape e held notes
left_local shape from e held notes = notes

abbrev pub with_left_home : Shape → Home → Home → ℕ → List Hold → List Notes → List Notes
with_left_home shape from (homes.In Global) e held notes = left_local shape from e held notes
with_left_home shape from to e held notes = notes

-- other lists lie under locks that are held, other elements are in hand or carried, and other notes are made
abbrev pub with_places : List Hold → List InHand → List InHand → List HomeIn → List Notes → List WordStep → View → View
with_places held hand carried readings notes touched v = record v {
  held = held;
  hand = hand;
  carried = carried;
  hashes = kept_hashes hand v.hashes;
  readings = readings;
  notes = notes;
  touched = touched;
}

-- by a step that leaves a word so, other lists lie under one lock that is held, other elements are in hand, and these notes are
-- made
abbrev pub moved : ℕ → ℕ → Lists → List InHand → List Notes → ℕ → ℕ → View → View
moved at k now hand notes word left v =
    with_places (with_now k now v.held) hand v.carried (kept_readings hand v.readings) notes (touching at word None left v) v

-- what the pass knows to lie under a lock of this name
abbrev pub now_under : DomainId → View → Lists
now_under lock v = now_at (lock_number v.shape lock) v.held

-- the head of a lock's free list comes to a CPU's hand, which is noted in the turn of that lock
abbrev pub claimed : ℕ → DomainId → ℕ → ℕ → View → View
claimed at lock e cpu v =
    moved at (lock_number v.shape lock) (with_row lock e (without_free e (now_under lock v))) (with_in_hand e cpu v.hand)
    (with_changed e (owners.Hand cpu) (with_came (lock_number v.shape lock) e v.held v.notes)) (owner_word v.shape e) (1 + cpu) v

-- an element in a CPU's hand goes to the head of a lock's free list
abbrev pub settled : ℕ → DomainId → ℕ → ℕ → View → View
settled at lock e cpu v =
    moved at (lock_number v.shape lock) (with_free e (without_row e (now_under lock v))) (without_in_hand e cpu v.hand) (with_changed e owners.Free v.notes) (owner_word v.shape e) 0 v

-- an element in a CPU's hand goes to the head of a bucket
abbrev pub attached : ℕ → ℕ → ℕ → ℕ → View → View
attached at bucket e cpu v =
    moved at (lock_number v.shape (Bucket bucket)) (with_row (Bucket bucket) e (now_under (Bucket bucket) v)) (without_in_hand e cpu v.hand) (with_changed e (owners.Bucket bucket) v.notes) (owner_word v.shape e) (32 + bucket) v

-- other hashes are known
abbrev pub with_hashes : List HashIn → View → View
with_hashes hashes v = record v { hashes = hashes }

-- On a map that evicts an element that comes to a CPU's hand from a bucket has a hash of that bucket, which wasn't given to it.
abbrev pub with_hash_of : ℕ → ℕ → ℕ → View → View
with_hash_of bucket e cpu v =
    with_hashes (if is_lru v.shape.kind then record { element = e; cpu = cpu; bucket = bucket; given = false } ∷ v.hashes else v.hashes) v

-- an element of a bucket comes to a CPU's hand
abbrev pub detached : ℕ → ℕ → ℕ → ℕ → View → View
detached at bucket e cpu v =
    with_hash_of bucket e cpu
    (moved at (lock_number v.shape (Bucket bucket)) (without_row e (now_under (Bucket bucket) v)) (with_in_hand e cpu v.hand) (with_changed e (owners.Hand cpu) v.notes) (owner_word v.shape e) (1 + cpu) v)

-- An element leaves a home or comes to one: the lists of a lock that is held, or the hand of a CPU that carries it.
abbrev pub held_without : Shape → Home → Owner → ℕ → List Hold → List Hold
held_without shape (homes.In lock) owner e held =
    with_now (lock_number shape lock) (left_by owner e (now_at (lock_number shape lock) held)) held
held_without shape from owner e held = held

abbrev pub held_with : Shape → Home → Owner → ℕ → List Hold → List Hold
held_with shape (homes.In lock) owner e held =
    with_now (lock_number shape lock) (joined_by lock owner e (now_at (lock_number shape lock) held)) held
held_with shape to owner e held = held

abbrev pub carried_without : Home → ℕ → List InHand → List InHand
carried_without (homes.Hand cpu) e carried = without_in_hand e cpu carried
carried_without from e carried = carried

abbrev pub carried_with : Home → ℕ → List InHand → List InHand
carried_with (homes.Hand cpu) e carried = with_in_hand e cpu carried
carried_with to e carried = carried

-- an element of this owner goes from one home to the head of another, which is noted in the turn of a lock that it comes to
abbrev pub rehomed : ℕ → Home → Home → Owner → ℕ → View → View
rehomed at from to owner e v =
    with_places (held_with v.shape to owner e (held_without v.shape from owner e v.held)) v.hand (carried_with to e (carried_without from e v.carried))
    (without_readings e v.readings) (with_come_home v.shape from to e v.held (with_left_home v.shape from to e v.held v.notes))
    (touching at (home_word v.shape e) None (home_code to) v) v

-- the CPUs of a pass without one
abbrev pub without_cpu : ℕ → List ℕ → List ℕ
without_cpu cpu [] = []
without_cpu cpu (c ∷ cs) = if c == cpu then without_cpu cpu cs else c ∷ without_cpu cpu cs

-- of elements in hand those in the hand of a CPU, and those in other hands
abbrev pub in_hand_of : ℕ → List InHand → List InHand
in_hand_of cpu [] = []
in_hand_of cpu (x ∷ xs) = if x.cpu == cpu then x ∷ in_hand_of cpu xs else in_hand_of cpu xs

abbrev pub in_other_hands : ℕ → List InHand → List InHand
in_other_hands cpu [] = []
in_other_hands cpu (x ∷ xs) = if x.cpu == cpu then in_other_hands cpu xs else x ∷ in_other_hands cpu xs

-- and those in the hand of none of these CPUs
abbrev pub in_no_hand_of : List ℕ → List InHand → List InHand
in_no_hand_of cpus [] = []
in_no_hand_of cpus (x ∷ xs) = if is_among x.cpu cpus then in_no_hand_of cpus xs else x ∷ in_no_hand_of cpus xs

-- the current strand of a pass, as one that has ended, and all its strands in order, this one last
abbrev pub current_strand : View → Ended
current_strand v = record { cpus = v.cpus; steps = v.steps; kept = v.kept; touched = v.touched }

abbrev pub all_strands : View → List Ended
all_strands v = v.ended ++ current_strand v ∷ []

-- a step of the strand is recorded
abbrev pub is_recorded : Ended → Bool
is_recorded strand = not (length strand.kept == 0)

-- A new strand begins, with no lock held. What only a pass with all CPUs knows is known no more.
abbrev pub begun_anew : View → View
begun_anew v = record v {
  held = [];
  notes = [];
  known = [];
  bits = [];
  ticket = tickets.Unread;
  steps = [];
  kept = [];
  touched = [];
  homes_read = [];
}

-- A CPU is split off. What stays: the other CPUs, with what is in their hands, and a new strand.
abbrev pub split_from : ℕ → View → View
split_from cpu v = record (begun_anew v) {
  cpus = without_cpu cpu v.cpus;
  hand = in_other_hands cpu v.hand;
  carried = in_other_hands cpu v.carried;
  hashes = kept_hashes (in_other_hands cpu v.hand) v.hashes;
  readings = kept_readings (in_other_hands cpu v.hand) v.readings;
  ended = [];
}

-- What is split off: the CPU, with what is in its hand, a new strand, and the strand that was under way, which ends, with all
-- that had ended before it.
abbrev pub split_off : ℕ → View → View
split_off cpu v = record (begun_anew v) {
  cpus = cpu ∷ [];
  hand = in_hand_of cpu v.hand;
  carried = in_hand_of cpu v.carried;
  hashes = kept_hashes (in_hand_of cpu v.hand) v.hashes;
  readings = kept_readings (in_hand_of cpu v.hand) v.readings;
  ended = all_strands v;
}

-- A pass takes in another's CPUs, with what is in their hands. What is in the hand of a CPU that it has itself is what it knows to be
-- there; no CPU is in two passes. The strands of both end, and a new one begins.
abbrev pub joined : View → View → View
joined v other = record (begun_anew v) {
  cpus = v.cpus ++ other.cpus;
  hand = v.hand ++ in_no_hand_of v.cpus other.hand;
  carried = v.carried ++ other.carried;
  hashes = v.hashes ++ other.hashes;
  readings = v.readings ++ other.readings;
  reached = max v.reached other.reached;
  refused = v.refused + other.refused;
  ended = all_strands v ++ all_strands other;
  lost = v.lost ++ other.lost;
}
