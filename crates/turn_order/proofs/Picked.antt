-- Turns whose tickets ascend, and which are those that a test picks, stand as in the order of all.
use Rattle.std.proofs.Common.{◌≡◌, Bool, true, List}
use Rattle.std.specs.Prelude.{filter, IsTrue}
use Rattle.std.specs.List.{Contains}
use Rattle.place_words.specs.declared.history.LockHistory.{LockHistory}
use Rattle.place_words.specs.Interleaving.{Drawn, tickets_of}
use Rattle.place_words.specs.Tickets.{AscendIn}
use Rattle.turn_order.specs.Ordered.{ordered}
use Rattle.turn_order.specs.OrderLaws.{turn_count, AreDrawnOnce}
use Rattle.turn_order.proofs.Members.{IsAmong, among_filter, filter_among, among_contains, contains_among}
use Rattle.turn_order.proofs.InOrder.{ascend_filter, one_list}
use Rattle.turn_order.proofs.TicketOrder.{ordered_ascend}

pub picked : (histories : List LockHistory) → AreDrawnOnce histories → (p : Drawn → Bool) (xs : List Drawn) → AscendIn 0 (tickets_of xs) (turn_count histories)
    → ((x : Drawn) → IsAmong x xs → IsAmong x (ordered histories) × (p x ≡ true)) → ((x : Drawn) → IsAmong x (ordered histories) → p x ≡ true → IsAmong x xs) → xs ≡ filter p (ordered histories)
picked histories once p xs ascend are all =
    one_list 0 0 xs (filter p (ordered histories)) (turn_count histories) ascend (ascend_filter p 0 (ordered histories) (turn_count histories) (ordered_ascend histories once))
    (λ x there. among_filter p x (ordered histories) (are x there).1 (are x there).0)
    (λ x there. let found = filter_among p x (ordered histories) there in all x found.0 found.1)

pub picked_in_order : (histories : List LockHistory) → AreDrawnOnce histories → (p : Drawn → Bool) (xs : List Drawn) → AscendIn 0 (tickets_of xs) (turn_count histories)
    → ((x : Drawn) → Contains xs x → Contains (ordered histories) x × IsTrue (p x)) → ((x : Drawn) → Contains (ordered histories) x → IsTrue (p x) → Contains xs x) → xs ≡ filter p (ordered histories)
picked_in_order histories once p xs ascend are all =
    picked histories once p xs ascend
    (λ x there. let found = are x (among_contains x xs there) in (contains_among x (ordered histories) found.0, found.1))
    (λ x there passes. contains_among x xs (all x (among_contains x (ordered histories) there) passes))
