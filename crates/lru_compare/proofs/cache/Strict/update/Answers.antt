use Rattle.std.proofs.Common.{◌≡◌, ◌∷◌, ◌∙◌, sym, ap, Option, Some, None, is_some}
use Rattle.map_types.specs.declared.refusal.Errno.{Errno}
use Rattle.lru_compare.specs.Strict.{refusal, unless_refused, value_of, with_pairs, without}
use Rattle.lru_compare.proofs.Recency.{is_found}
use Rattle.lru_compare.proofs.cache.Strict.update.Goals as goal
use Rattle.lru_compare.proofs.cache.Strict.update.Goals.{After-refusal}

-- what was answered is why the update is refused
is_refused : (c : After-refusal) (found : Option Errno) → c.refusal.result ≡ found → refusal c.args.flags (is_some (value_of c.args.key.now c.args.self.now)) ≡ found
is_refused c found is =
    sym (ap (refusal c.args.flags) (c.contains.ensures ∙ is_found (λ k. k.now) (λ v. v.now) c.self.inside.pairs c.self.inside.evicted c.args.key.now c.self.view_is))
    ∙ sym c.refusal.ensures ∙ is

pub returns-in-Some-clause-held : goal.returns-in-Some-clause-held
returns-in-Some-clause-held c =
    ap (λ o. (unless_refused o (with_pairs c.args.self.now ((c.args.key.now, c.args.value.now) ∷ without c.args.key.now c.args.self.now)) c.args.self.now).0) (sym (is_refused (goal.at.returns-in-Some-clause-held c).After-refusal (Some c.in-Some.errno) c.in-Some.is))

pub returns-in-Some-clause-reply : goal.returns-in-Some-clause-reply
returns-in-Some-clause-reply c =
    ap (λ o. (unless_refused o (with_pairs c.args.self.now ((c.args.key.now, c.args.value.now) ∷ without c.args.key.now c.args.self.now)) c.args.self.now).1) (sym (is_refused (goal.at.returns-in-Some-clause-reply c).After-refusal (Some c.in-Some.errno) c.in-Some.is))

pub returns-in_ok-put-in-None-clause-held : goal.returns-in_ok-put-in-None-clause-held
returns-in_ok-put-in-None-clause-held c =
    c.in_ok-put-in-None.ensures.held ∙ ap (λ o. (unless_refused o (with_pairs c.args.self.now ((c.args.key.now, c.args.value.now) ∷ without c.args.key.now c.args.self.now)) c.args.self.now).0) (sym (is_refused (goal.at.returns-in_ok-put-in-None-clause-held c).After-refusal None c.in-None.is))

pub returns-in_ok-put-in-None-clause-reply : goal.returns-in_ok-put-in-None-clause-reply
returns-in_ok-put-in-None-clause-reply c =
    ap (λ o. (unless_refused o (with_pairs c.args.self.now ((c.args.key.now, c.args.value.now) ∷ without c.args.key.now c.args.self.now)) c.args.self.now).1) (sym (is_refused (goal.at.returns-in_ok-put-in-None-clause-reply c).After-refusal None c.in-None.is))
