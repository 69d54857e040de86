use borrow.Author.Rules.{rules}
use Rattle.json_text.proofs.Words.{word_fits, word_is, word_not}
use Rattle.json_text.proofs.skip_word.Goals as goal

pub overflow_add-result : goal.overflow_add-result
overflow_add-result c = search (word_fits, rules)

pub returns-then-begins_with : goal.returns-then-begins_with
returns-then-begins_with c = word_is c.args.s.now c.args.w.now c.args.from c.part.ensures c.begins_with.ensures c.type_inv.w c.if-begins_with.true

pub returns-else-begins_with : goal.returns-else-begins_with
returns-else-begins_with c = word_not c.args.s.now c.args.w.now c.args.from c.part.ensures c.begins_with.ensures c.type_inv.w c.if-begins_with.false
