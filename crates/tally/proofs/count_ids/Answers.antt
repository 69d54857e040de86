use Rattle.entries.proofs.FoldLaws.{may_fold, folds_keep}
use Rattle.tally.proofs.CountLaws.{Counting, count_starts, count_over}
use Rattle.tally.proofs.Laws.{counting, count_turn}
use Rattle.tally.proofs.count_ids.Goals as goal

pub fold-requires : goal.fold-requires
fold-requires c =
    let l = c.args.list.now in
    record { callable = may_fold (λ f₀ f a es. Counting l es a) (λ f₀ f a e es f' b j t. search count_turn) (λ f₀ f a e es j. record { is = λ held h. search counting }) _ _ _ (count_starts l) }

pub returns : goal.returns
returns c =
    let l = c.args.list.now in
    count_over (folds_keep (λ f₀ f a es. Counting l es a) (λ f₀ f a e es f' b j t. search count_turn) (count_starts l) c.fold.ensures)
