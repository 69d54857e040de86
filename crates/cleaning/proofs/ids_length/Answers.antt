use borrow.Author.Rules.{rules}
use Rattle.entries.proofs.FoldLaws.{may_fold, folds_keep}
use Rattle.cleaning.proofs.SizeLaws.{Sizes, size_starts, size_turn, size_over}
use Rattle.cleaning.proofs.Laws.{size_asks}
use Rattle.cleaning.proofs.ids_length.Goals as goal

pub fold-requires : goal.fold-requires
fold-requires c =
    let l = c.args.list.now in
    record {
      callable = may_fold (λ f₀ f a es. Sizes l es a) (λ f₀ f a e es f' b j t. size_turn j t.held_is (λ k. search rules) (λ x k. search rules))
          (λ f₀ f a e es j. record { is = λ held h. search size_asks }) _ _ _ (size_starts l);
    }

pub returns : goal.returns
returns c =
    let l = c.args.list.now in
    size_over (folds_keep (λ f₀ f a es. Sizes l es a) (λ f₀ f a e es f' b j t. size_turn j t.held_is (λ k. search rules) (λ x k. search rules)) (size_starts l) c.fold.ensures)
