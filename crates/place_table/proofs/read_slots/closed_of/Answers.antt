use Rattle.std.proofs.Common.{◌∙◌, arith}
use Rattle.map_types.proofs.CreationLemmas.{bounds_of_shape}
use Rattle.place_table.proofs.Leaves.{finals_left}
use Rattle.place_table.proofs.read_slots.closed_of.Goals as goal

pub spares_left-requires : goal.spares_left-requires
spares_left-requires c = let bounds = bounds_of_shape c.args.shape.now c.requires.shape in omega arith

pub returns : goal.returns
returns c = λ log lost bit strands contents told counted apart histories set finished.
    let kept = c.in_ok-histories.ensures log lost strands histories finished in record {
      strands_lost = kept.strands_lost;
      left = record {
        histories_are = kept.are_kept.kept_are;
        lost_is = kept.are_kept.lost_is;
        strands_are = kept.told_are;
        finals_are = finals_left c.args.shape.now log bit c.args.spares.now contents told counted
            c.args.lists c.args.emptied.freelists.items c.args.emptied.buckets.items _ apart
            c.of.ensures
            (c.of-2.ensures ∙ c.in_ok-freelists.ensures)
            c.in_ok-spares.ensures
            c.of-3.ensures
            c.of-4.ensures
            set;
      };
    }
