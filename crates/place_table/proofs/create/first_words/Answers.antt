use Rattle.std.proofs.Common.{◌+◌, refl, arith}
use Rattle.map_types.proofs.CreationLemmas.{bounds_of_shape}
use Rattle.place_table.proofs.FirstWords.{owners_have_codes, words_are}
use Rattle.place_table.proofs.create.first_words.Goals as goal

pub push_codes-requires : goal.push_codes-requires
push_codes-requires c = owners_have_codes c.args.shape.now c.args.owners.now (bounds_of_shape c.args.shape.now c.requires.shape) c.requires.owners

pub returns : goal.returns
returns c =
    words_are c.args.shape.now c.args.owners.now c.in_ok-words.words.items c.push_zeros.new.words.items c.push_codes.new.words.items c.push_homes.new.words.items c.push_zeros-2.new.words.items c.count_locks-locks.result (c.args.shape.now.elements + 1)
    c.requires.owners c.in_ok-words.ensures.items c.count_locks-locks.ensures refl c.in_ok-push_zeros.ensures c.in_ok-push_codes.ensures c.in_ok-push_homes.ensures c.in_ok-push_zeros-2.ensures

pub overflow_add-shape : goal.overflow_add-shape
overflow_add-shape c = let bounds = bounds_of_shape c.args.shape.now c.requires.shape in omega arith
