use Rattle.std.proofs.Common.{ℕ, List, arith, ◌<◌, length, get_or, ap, ◌∙◌}
use Rattle.place_words.specs.declared.step.Lists.{Lists}
use Rattle.map_types.specs.ElementLists.{put}
use Rattle.place_words.specs.State.{no_lists}
use Rattle.place_core.specs.Answers.{view_of}
use Rattle.place_core.proofs.RehomeLemmas.{reads_words, can_rehome, rehome_both, rehome_off, rehome_on, rehome_carried}
use Rattle.place_core.proofs.rehome.rehome.Goals as goal

pub returns-in_ok-joined-in-In-In : goal.returns-in_ok-joined-in-In-In
returns-in_ok-joined-in-In-In c =
    let core = view_of c.args.cells.now in
    let words = reads_words core c.args.element c.index-owner.result.now c.index-home.result.now c.requires c.if-element-cells.false c.index-owner.ensures c.index-home.ensures in
    let can = can_rehome core c.args.cpu c.args.element c.args.to c.index-owner.result.now c.index-home.result.now c.if-not-cells.false c.if-cpu-cells.false c.if-element-cells.false words c.if-not-may_leave.ensures c.if-not-may_enter.ensures in
    let first : c.lock_number-first.result < length c.args.cells.now.lists.items = omega (arith, c.lock_number-first.ensures.within, c.requires.locks) in
    let second : c.lock_number-second.result < length c.args.cells.now.lists.items = omega (arith, c.lock_number-second.ensures.within, c.requires.locks) in
    rehome_both core c.args.cpu c.args.element c.args.to c.index-owner.result.now c.index-home.result.now c.requires words can c.in-In-In.from c.in-In-In.target c.lock_number-first.result c.lock_number-second.result c.index.result.now c.in_ok-left-in-In-In.left c.under_after-under.result.now c.in_ok-joined-in-In-In.joined c.in-In-In.is-0 c.in-In-In.is-1 first second c.index.ensures c.in_ok-left-in-In-In.ensures c.lock_number-first.ensures.exact (c.under_after-under.ensures ∙ ap (λ (lists : List Lists). put (λ (k : ℕ). get_or lists k no_lists) c.lock_number-first.result c.in_ok-left-in-In-In.left c.lock_number-second.result) c.as_slice.ensures.value) c.in_ok-joined-in-In-In.ensures c.lock_number-second.ensures.exact

pub returns-in_ok-left-in-In-Hand : goal.returns-in_ok-left-in-In-Hand
returns-in_ok-left-in-In-Hand c =
    let core = view_of c.args.cells.now in
    let words = reads_words core c.args.element c.index-owner.result.now c.index-home.result.now c.requires c.if-element-cells.false c.index-owner.ensures c.index-home.ensures in
    let can = can_rehome core c.args.cpu c.args.element c.args.to c.index-owner.result.now c.index-home.result.now c.if-not-cells.false c.if-cpu-cells.false c.if-element-cells.false words c.if-not-may_leave.ensures c.if-not-may_enter.ensures in
    let first : c.lock_number-first-in-In-Hand.result < length c.args.cells.now.lists.items = omega (arith, c.lock_number-first-in-In-Hand.ensures.within, c.requires.locks) in
    rehome_off core c.args.cpu c.args.element c.args.to c.index-owner.result.now c.index-home.result.now c.requires words can c.in-In-Hand.from c.in-In-Hand.field-0-1 c.lock_number-first-in-In-Hand.result c.index-in-In-Hand.result.now c.in_ok-left-in-In-Hand.left c.in-In-Hand.is-0 c.in-In-Hand.is-1 first c.index-in-In-Hand.ensures c.in_ok-left-in-In-Hand.ensures c.lock_number-first-in-In-Hand.ensures.exact

pub returns-in_ok-joined-in-Hand-In : goal.returns-in_ok-joined-in-Hand-In
returns-in_ok-joined-in-Hand-In c =
    let core = view_of c.args.cells.now in
    let words = reads_words core c.args.element c.index-owner.result.now c.index-home.result.now c.requires c.if-element-cells.false c.index-owner.ensures c.index-home.ensures in
    let can = can_rehome core c.args.cpu c.args.element c.args.to c.index-owner.result.now c.index-home.result.now c.if-not-cells.false c.if-cpu-cells.false c.if-element-cells.false words c.if-not-may_leave.ensures c.if-not-may_enter.ensures in
    let second : c.lock_number-second-in-Hand-In.result < length c.args.cells.now.lists.items = omega (arith, c.lock_number-second-in-Hand-In.ensures.within, c.requires.locks) in
    rehome_on core c.args.cpu c.args.element c.args.to c.index-owner.result.now c.index-home.result.now c.requires words can c.in-Hand-In.target c.in-Hand-In.field-0-0 c.lock_number-second-in-Hand-In.result c.index-in-Hand-In.result.now c.in_ok-joined-in-Hand-In.joined c.in-Hand-In.is-0 c.in-Hand-In.is-1 second c.index-in-Hand-In.ensures c.in_ok-joined-in-Hand-In.ensures c.lock_number-second-in-Hand-In.ensures.exact

pub returns-in-Hand-Hand : goal.returns-in-Hand-Hand
returns-in-Hand-Hand c =
    let core = view_of c.args.cells.now in
    let words = reads_words core c.args.element c.index-owner.result.now c.index-home.result.now c.requires c.if-element-cells.false c.index-owner.ensures c.index-home.ensures in
    let can = can_rehome core c.args.cpu c.args.element c.args.to c.index-owner.result.now c.index-home.result.now c.if-not-cells.false c.if-cpu-cells.false c.if-element-cells.false words c.if-not-may_leave.ensures c.if-not-may_enter.ensures in
    rehome_carried core c.args.cpu c.args.element c.args.to c.index-owner.result.now c.index-home.result.now c.requires words can c.in-Hand-Hand.field-0-0 c.in-Hand-Hand.field-0-1 c.in-Hand-Hand.is-0 c.in-Hand-Hand.is-1
