use Rattle.place_table.proofs.bucket_turns.mark_for.Goals as goal

pub mark_on-requires : goal.mark_on-requires
mark_on-requires c lru = c.requires
