use Rattle.place_words.proofs.CostLaws.{update_within_shared, update_within_own}
use Rattle.place_words.proofs.laws.bound_laws.Goals as goal

pub returns-clause-shared : goal.returns-clause-shared
returns-clause-shared c shape cpu spare side flags key value turns reply lru common below trace legal =
    update_within_shared shape cpu spare side flags key value turns reply lru trace legal common below

pub returns-clause-own : goal.returns-clause-own
returns-clause-own c shape cpu spare side flags key value turns reply lru own trace legal =
    update_within_own shape cpu spare side flags key value turns reply lru trace legal own
