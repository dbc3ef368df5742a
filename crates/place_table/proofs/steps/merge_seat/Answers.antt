use Rattle.place_table.proofs.Joins.{joins}
use Rattle.place_table.proofs.steps.merge_seat.Goals as goal

pub join_seat-requires : goal.join_seat-requires
join_seat-requires g c =
    (c.requires.table.0, c.requires.table.1, c.requires.slots, c.requires.words, λ s r a apart b. rw c.requires.shape (joins _ _ _ _ _ apart c.requires.idle.0 c.requires.idle.1 s r a apart b))
