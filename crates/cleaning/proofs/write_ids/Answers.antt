use mathlib.Core.Path.{◌≡◌, refl}
use borrow.Author.Rules.{rules}
use Rattle.entries.specs.Causes.{cause}
use Rattle.entries.proofs.FoldLaws.{may_always, folds_keep, by_cause}
use Rattle.cleaning.proofs.WriteLaws.{Written, write_starts, write_last}
use Rattle.cleaning.proofs.Laws.{write_turn}
use Rattle.cleaning.specs.contracts.fn.write_ids.write as closure
use Rattle.cleaning.proofs.write_ids.Goals as goal

pub fold-requires : goal.fold-requires
fold-requires c = record { callable = may_always (λ f x. tt) _ _ _ }

-- the closure holds the same lent writer throughout
pub returns : goal.returns
returns c =
    let l = c.args.list.now in
    let ran = folds_keep (λ f₀ f a es. Written l c.args.to.now (closure.captures f).to.now es a × ((closure.captures f).to.ghost_name ≡ (closure.captures f₀).to.ghost_name))
    (λ f₀ f a e es f' b j t. by_cause (cause l.appid.now l.table.now e) (λ k. (search write_turn, search rules)) (λ x k. (search write_turn, search rules)))
    (write_starts l c.args.to.now c.requires, refl) c.fold.ensures in
    write_last (closure.captures c.fold.new.turn).to ran.0 ran.1 (search write_turn)
