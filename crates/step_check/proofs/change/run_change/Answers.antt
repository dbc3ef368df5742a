use Rattle.std.proofs.Common.{[], ◌∷◌, subst, sym}
use Rattle.place_words.specs.Interleaving.{does}
use Rattle.step_check.specs.Answers.{view_of}
use Rattle.step_check.specs.Ran.{Ran, step_of}
use Rattle.step_check.specs.declared.change.Change.{Change}
use Rattle.step_check.proofs.RunLemmas.{ran_claim, ran_settle, ran_attach, ran_detach, ran_rehome}
use Rattle.step_check.proofs.change.run_change.Goals as goal

pub returns-in-Claim : goal.returns-in-Claim
returns-in-Claim c =
    subst (λ (x : Change). Ran (view_of c.args.kept.now) (does (step_of c.args.cpu x) ∷ []) (view_of c.claim.new.kept) c.claim.result) (sym c.in-Claim.is)
    (ran_claim (view_of c.args.kept.now) (view_of c.claim.new.kept) c.args.cpu c.in-Claim.element c.in-Claim.lock c.claim.result c.requires c.claim.ensures)

pub returns-in-Settle : goal.returns-in-Settle
returns-in-Settle c =
    subst (λ (x : Change). Ran (view_of c.args.kept.now) (does (step_of c.args.cpu x) ∷ []) (view_of c.settle.new.kept) c.settle.result) (sym c.in-Settle.is)
    (ran_settle (view_of c.args.kept.now) (view_of c.settle.new.kept) c.args.cpu c.in-Settle.element c.in-Settle.lock c.settle.result c.requires c.settle.ensures)

pub returns-in-Attach : goal.returns-in-Attach
returns-in-Attach c =
    subst (λ (x : Change). Ran (view_of c.args.kept.now) (does (step_of c.args.cpu x) ∷ []) (view_of c.attach.new.kept) c.attach.result) (sym c.in-Attach.is)
    (ran_attach (view_of c.args.kept.now) (view_of c.attach.new.kept) c.args.cpu c.in-Attach.element c.in-Attach.bucket c.attach.result c.requires c.attach.ensures)

pub returns-in-Detach : goal.returns-in-Detach
returns-in-Detach c =
    subst (λ (x : Change). Ran (view_of c.args.kept.now) (does (step_of c.args.cpu x) ∷ []) (view_of c.detach.new.kept) c.detach.result) (sym c.in-Detach.is)
    (ran_detach (view_of c.args.kept.now) (view_of c.detach.new.kept) c.args.cpu c.in-Detach.element c.in-Detach.bucket c.detach.result c.requires c.detach.ensures)

pub returns-in-Rehome : goal.returns-in-Rehome
returns-in-Rehome c =
    subst (λ (x : Change). Ran (view_of c.args.kept.now) (does (step_of c.args.cpu x) ∷ []) (view_of c.rehome.new.kept) c.rehome.result) (sym c.in-Rehome.is)
    (ran_rehome (view_of c.args.kept.now) (view_of c.rehome.new.kept) c.args.cpu c.in-Rehome.element c.in-Rehome.to c.rehome.result c.requires c.rehome.ensures)
